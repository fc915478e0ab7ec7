-- Why nothing is done is reported, with its status.
use Rattle.std.proofs.Common.{refl}
use Rattle.sheet_app.specs.ProgramFaults.{fault_line, fault_status}
use Rattle.sheet_arguments.specs.Requests.{name}
use Rattle.programs.proofs.RefusedLemmas.{status_told}
use Rattle.sheet_app.proofs.RefusedLemmas.{is_reported}
use Rattle.sheet_app.proofs.program.refuse.Goals as goal

pub returns : goal.returns
returns g c =
    let why = c.args.why.now in
    let status = c.report_refusal.result in
    let told = c.report_refusal.ensures.told in
    record {
      status = status_told fault_status fault_line g.E.Output name why status _ _ told;
      reported = λ arguments. is_reported arguments g.E.Output why status _ _ told;
      untouched = refl;
      none = c.new.ensures.items;
      marked = c.report_refusal.ensures.mark;
    }
