-- Each turn adds the list of the next file, or ends with its fault.
use Rattle.std.proofs.Common.{◌≡◌, [], List, get_or, map, subst, sym, ℕ}
use Rattle.std.specs.Borrow.{Bor}
use Rattle.std.specs.Prelude.{Contains}
use Rattle.sheet_arguments.specs.Requests.{Task}
use Rattle.sheet_app.specs.ProgramFaults.{IsFaultOfTask}
use Rattle.sheet_app.specs.declared.program_faults.ProgramFault.{ProgramFault}
use Rattle.sheet_app.proofs.FaultLemmas.{handed}
use Rattle.sheet_app.proofs.NameListLemmas.{one_file_more, one_of_files}
use Rattle.sheet_app.proofs.program.push_files.Goals as goal

pub returns-in_err-push_file-clause-fault : goal.returns-in_err-push_file-clause-fault
returns-in_err-push_file-clause-fault g c =
    let files = c.args.files.now in
    let none : Bor (List ℕ) = record { ref_ptr = (0, 0); now = [] } in
    let file = get_or files c.files.file-index none in
    handed (λ (why : ProgramFault). (task : Task) → task.names ≡ map (λ (f : Bor (List ℕ)). f.now) files → IsFaultOfTask task why)
    c.from_residual.result c.in_err-push_file.field-0.0 c.from_residual.ensures.1
    (λ task names. c.in_err-push_file.ensures.fault task
    (subst (λ (all : List (List ℕ)). Contains all file.now) (sym names)
    (one_of_files files c.files.file-index none c.files-test.true)))

pub files-preserved : goal.files-preserved
files-preserved g c =
    let (lines, one, gained) = c.in_ok-push_file.ensures.lines in
    one_file_more g.R.Read (g.P.FileStore.is_opened c.args.store.now) c.args.files.now c.files.file-index _
    c.files.list.lines.items lines c.push_file.new.list.lines.items c.files-test.true c.files.invariant one gained
