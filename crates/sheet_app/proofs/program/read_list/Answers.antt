-- The lists that are asked for are the files that a fault names.
use Rattle.std.proofs.Common.{List, ap, map, sym, ℕ}
use Rattle.std.specs.Borrow.{Bor}
use Rattle.sheet_arguments.specs.Requests.{task_of}
use Rattle.sheet_app.specs.ProgramFaults.{IsFaultOfTask}
use Rattle.sheet_app.proofs.FaultLemmas.{handed}
use Rattle.sheet_app.proofs.program.read_list.Goals as goal

pub returns-in_err-push_files-clause-fault : goal.returns-in_err-push_files-clause-fault
returns-in_err-push_files-clause-fault g c =
    let task = task_of c.args.job.now in
    handed (IsFaultOfTask task) c.from_residual.result c.in_err-push_files.field-0.0 c.from_residual.ensures.1
    (c.in_err-push_files.ensures.fault task (ap (map (λ (f : Bor (List ℕ)). f.now)) (sym c.as_slice.ensures.value)))
