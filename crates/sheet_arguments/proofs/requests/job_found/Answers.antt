-- What the values ask for, where the checks pass, group by group; or the first fault that these find.
use Rattle.std.proofs.Common.{◌++◌, inl, inr}
use Rattle.programs.proofs.CheckLemmas.{among_first, behind, both_pass, found_up}
use Rattle.programs.specs.Faults.{Fault}
use Rattle.programs.specs.Meanings.{AllPass, FailFirst}
use Rattle.sheet_arguments.specs.Requests.{Values, date_checks, file_checks, output_checks, tree_check, value_checks}
use Rattle.sheet_arguments.specs.Requests.{word_checks}
use Rattle.sheet_arguments.specs.private.Requests.{values_in}
use Rattle.sheet_arguments.proofs.requests.job_found.Goals as goal

at_words : (values : Values) (fault : Fault) → (tree_check values).passes → AllPass (date_checks values)
    → FailFirst (word_checks values ++ output_checks values) fault → FailFirst (value_checks values) fault
at_words values fault tree dates is =
    inr (tree, behind (date_checks values) (word_checks values ++ output_checks values) fault dates is)

at_outputs : (values : Values) (fault : Fault) → (tree_check values).passes → AllPass (date_checks values)
    → AllPass (word_checks values) → FailFirst (output_checks values) fault → FailFirst (value_checks values) fault
at_outputs values fault tree dates words is =
    at_words values fault tree dates (behind (word_checks values) (output_checks values) fault words is)

pub returns-in_err-check_tree-clause-fault : goal.returns-in_err-check_tree-clause-fault
returns-in_err-check_tree-clause-fault c =
    let v = values_in c.args.matches.now in
    found_up c.from_residual.result c.in_err-check_tree.field-0.0 (value_checks v) ((tree_check v).fails)
    c.from_residual.ensures.1 c.in_err-check_tree.ensures.fault (λ fault is. inl is)

pub returns-in_err-dates-clause-fault : goal.returns-in_err-dates-clause-fault
returns-in_err-dates-clause-fault c =
    let v = values_in c.args.matches.now in
    found_up c.from_residual-in_err-dates.result c.in_err-dates.field-0.0 (value_checks v)
    (FailFirst (date_checks v)) c.from_residual-in_err-dates.ensures.1 c.in_err-dates.ensures.fault
    (λ fault is. inr (
      c.in_ok-check_tree.ensures.passed,
      among_first (date_checks v) (word_checks v ++ output_checks v) fault is,
    ))

pub returns-in_err-reading-clause-fault : goal.returns-in_err-reading-clause-fault
returns-in_err-reading-clause-fault c =
    let v = values_in c.args.matches.now in
    found_up c.from_residual-in_err-reading.result c.in_err-reading.field-0.0 (value_checks v)
    (FailFirst (word_checks v)) c.from_residual-in_err-reading.ensures.1 c.in_err-reading.ensures.fault
    (λ fault is. at_words v fault c.in_ok-check_tree.ensures.passed c.in_ok-dates.ensures.passed
    (among_first (word_checks v) (output_checks v) fault is))

pub returns-in_err-columns-clause-fault : goal.returns-in_err-columns-clause-fault
returns-in_err-columns-clause-fault c =
    let v = values_in c.args.matches.now in
    found_up c.from_residual-in_err-columns.result c.in_err-columns.field-0.0 (value_checks v) _
    c.from_residual-in_err-columns.ensures.1 (rw c.value_given.ensures at c.in_err-columns.ensures.fault)
    (λ fault is. at_outputs v fault c.in_ok-check_tree.ensures.passed c.in_ok-dates.ensures.passed
    c.in_ok-reading.ensures.passed (inl is))

pub returns-in_err-three-clause-fault : goal.returns-in_err-three-clause-fault
returns-in_err-three-clause-fault c =
    let v = values_in c.args.matches.now in
    let columns = rw c.value_given.ensures at c.in_ok-columns.ensures.value in
    found_up c.from_residual-in_err-three.result c.in_err-three.field-0.0 (value_checks v) _
    c.from_residual-in_err-three.ensures.1 (rw c.value_given-2.ensures at c.in_err-three.ensures.fault)
    (λ fault is. at_outputs v fault c.in_ok-check_tree.ensures.passed c.in_ok-dates.ensures.passed
    c.in_ok-reading.ensures.passed (inr ((_, columns), inl is)))

pub returns-in_err-files_fit-clause-fault : goal.returns-in_err-files_fit-clause-fault
returns-in_err-files_fit-clause-fault c =
    let v = values_in c.args.matches.now in
    let columns = rw c.value_given.ensures at c.in_ok-columns.ensures.value in
    let three = rw c.value_given-2.ensures at c.in_ok-three.ensures.value in
    let files
    = rw (c.is_given-register.ensures, c.as_slice.ensures.value, c.in_ok-files.ensures) at c.in_err-files_fit.ensures.fault in
    found_up c.from_residual-in_err-files_fit.result c.in_err-files_fit.field-0.0 (value_checks v)
    (FailFirst (file_checks v.register v.files)) c.from_residual-in_err-files_fit.ensures.1 files
    (λ fault is. at_outputs v fault c.in_ok-check_tree.ensures.passed c.in_ok-dates.ensures.passed
    c.in_ok-reading.ensures.passed (inr ((_, columns), inr ((_, three), is))))

pub returns-clause-passed : goal.returns-clause-passed
returns-clause-passed c =
    let v = values_in c.args.matches.now in
    let columns = rw c.value_given.ensures at c.in_ok-columns.ensures.value in
    let three = rw c.value_given-2.ensures at c.in_ok-three.ensures.value in
    let files
    = rw (c.is_given-register.ensures, c.as_slice.ensures.value, c.in_ok-files.ensures) at c.in_ok-files_fit.ensures.passed in (
      c.in_ok-check_tree.ensures.passed,
      both_pass (date_checks v) (word_checks v ++ output_checks v)
          c.in_ok-dates.ensures.passed (both_pass (word_checks v) (output_checks v) c.in_ok-reading.ensures.passed
          ((_, columns), ((_, three), files))),
    )
