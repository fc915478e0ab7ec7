-- Why nothing is done is reported, with its status.
use Rattle.register_app.specs.ProgramFaults.{fault_line, fault_status}
use Rattle.register_arguments.specs.Requests.{name}
use Rattle.programs.proofs.RefusedLemmas.{status_told}
use Rattle.register_app.proofs.RefusedLemmas.{is_reported}
use Rattle.register_app.proofs.program.refuse.Goals as goal

pub returns-clause-status : goal.returns-clause-status
returns-clause-status g c =
    status_told fault_status fault_line g.E.Output name c.args.why.now c.report_refusal.result _ _
    c.report_refusal.ensures.told

pub returns-clause-reported : goal.returns-clause-reported
returns-clause-reported g c = λ arguments.
    is_reported arguments g.E.Output c.args.why.now c.report_refusal.result _ _ c.report_refusal.ensures.told
