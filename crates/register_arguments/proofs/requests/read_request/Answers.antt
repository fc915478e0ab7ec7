-- What the arguments mean, and that it is all that they mean.
use Rattle.std.proofs.Common.{map, IfSome}
use Rattle.std.specs.String.{string_bytes}
use Rattle.clap.proofs.TakesLemmas.{passed_up}
use Rattle.programs.specs.Faults.{fault_of_error}
use Rattle.programs.specs.Meanings.{wrong}
use Rattle.programs.specs.declared.request_faults.RequestFault.{RequestFault}
use Rattle.programs.specs.declared.requests.Request.{Request}
use Rattle.programs.proofs.MeaningLemmas.{fault_just, help_just, unread_just, version_just, work_just}
use Rattle.register_arguments.specs.Requests.{MeanJust, register_line, task_of}
use Rattle.register_arguments.specs.declared.jobs.Job.{Job}
use Rattle.register_arguments.proofs.ArgumentLemmas.{is_clear}
use Rattle.register_arguments.proofs.requests.read_request.Goals as goal

pub returns-in_err-read_arguments-clause-refused : goal.returns-in_err-read_arguments-clause-refused
returns-in_err-read_arguments-clause-refused c =
    let arguments = map string_bytes c.args.arguments.now in
    let error = c.in_err-read_arguments.field-0.0 in
    passed_up {T = Request Job} {E = RequestFault} c.from_residual.result error
    (λ (r : RequestFault). IfSome (fault_of_error r) (λ f. MeanJust arguments (wrong f))) c.from_residual.ensures.1
    (unread_just register_line arguments (is_clear c.one_target.ensures) _ c.in-Ok.ensures error
    c.in_err-read_arguments.ensures.unread)

pub returns-in_err-job_found-in-Convert-clause-refused : goal.returns-in_err-job_found-in-Convert-clause-refused
returns-in_err-job_found-in-Convert-clause-refused c =
    let arguments = map string_bytes c.args.arguments.now in
    let error = c.in_err-job_found-in-Convert.field-0.0 in
    passed_up {T = Request Job} {E = RequestFault} c.from_residual-in_err-job_found-in-Convert.result error
    (λ (r : RequestFault). IfSome (fault_of_error r) (λ f. MeanJust arguments (wrong f)))
    c.from_residual-in_err-job_found-in-Convert.ensures.1
    (fault_just register_line arguments (is_clear c.one_target.ensures) _ c.in-Ok.ensures _
    c.in_ok-read_arguments.ensures.read c.in-Convert.matches c.in-Convert.is (fault_of_error error)
    c.in_err-job_found-in-Convert.ensures.fault)

pub returns-in-Help-clause-asked : goal.returns-in-Help-clause-asked
returns-in-Help-clause-asked c =
    help_just register_line (map string_bytes c.args.arguments.now) (is_clear c.one_target.ensures) _ c.in-Ok.ensures
    _ c.in_ok-read_arguments.ensures.read c.in-Help.is

pub returns-in-Version-clause-asked : goal.returns-in-Version-clause-asked
returns-in-Version-clause-asked c =
    version_just register_line (map string_bytes c.args.arguments.now) (is_clear c.one_target.ensures) _ c.in-Ok.ensures
    _ c.in_ok-read_arguments.ensures.read c.in-Version.is

pub returns-in_ok-job_found-in-Convert-clause-asked : goal.returns-in_ok-job_found-in-Convert-clause-asked
returns-in_ok-job_found-in-Convert-clause-asked c =
    work_just register_line (map string_bytes c.args.arguments.now) (is_clear c.one_target.ensures) _ c.in-Ok.ensures
    _ c.in_ok-read_arguments.ensures.read c.in-Convert.matches c.in-Convert.is
    (task_of c.in_ok-job_found-in-Convert.field-0) c.in_ok-job_found-in-Convert.ensures.passed
    c.in_ok-job_found-in-Convert.ensures.asked
