-- What the values ask for is a job, whose ring and stripes are ones that there can be.
use Rattle.std.proofs.Common.{[], ◌∷◌, inl, inr, rules}
use Rattle.clap.specs.Words.{found_of, rows_of}
use Rattle.programs.proofs.CheckLemmas.{behind, both_pass, found_up}
use Rattle.programs.proofs.MeaningLemmas.{if_some}
use Rattle.programs.specs.Faults.{fault_of_error}
use Rattle.programs.specs.FileLists.{AreFilesToConvert, IsFilesFault}
use Rattle.programs.specs.Meanings.{AllPass, file_check}
use Rattle.register_records.specs.SetupRules.{largest_ring, most_stripes}
use Rattle.register_arguments.specs.Requests.{value_checks, values_of, word_checks}
use Rattle.register_arguments.proofs.SetupLemmas.{asked_once, number_fits}
use Rattle.register_arguments.proofs.requests.job_found.Goals as goal

pub invariant_of-result : goal.invariant_of-result
invariant_of-result c =
    let values = values_of (rows_of (found_of c.args.matches.now)) in
    record {
      once = asked_once _ _ c.in_ok-targets.ensures.value;
      ring_fits = number_fits largest_ring values.ring _ c.in_ok-ring.ensures.value;
      stripes_fit = number_fits most_stripes values.stripes _ c.in_ok-stripes.ensures.value;
    }

-- the words pass, whichever options there are
pub returns-in_err-check_files-clause-fault : goal.returns-in_err-check_files-clause-fault
returns-in_err-check_files-clause-fault c =
    let values = values_of (rows_of (found_of c.args.matches.now)) in
    let words : AllPass (word_checks values) = search rules depth 16 in
    let error = c.in_err-check_files.field-0.0 in
    let files = rw (c.as_slice.ensures.value, c.in_ok-files.ensures) at c.in_err-check_files.ensures.fault in
    found_up c.from_residual-in_err-check_files.result error (value_checks values) (IsFilesFault values.files)
    c.from_residual-in_err-check_files.ensures.1 (if_some (fault_of_error error) (IsFilesFault values.files) files)
    (λ fault is. inr (
      (_, c.in_ok-targets.ensures.value),
      behind (word_checks values) (file_check values.files ∷ []) fault words (inl is),
    ))

pub returns-clause-passed : goal.returns-clause-passed
returns-clause-passed c =
    let values = values_of (rows_of (found_of c.args.matches.now)) in
    let words : AllPass (word_checks values) = search rules depth 16 in
    let files : AreFilesToConvert values.files
    = rw (c.as_slice.ensures.value, c.in_ok-files.ensures) at c.in_ok-check_files.ensures.fine in (
      (_, c.in_ok-targets.ensures.value),
      both_pass (word_checks values) (file_check values.files ∷ []) words (files, tt),
    )
