-- What broke off, or broke off behind the sheet, is told in one line.
use Rattle.std.proofs.Common.{Global, Vec, ◌++◌, ◌∷◌, [], List, ℕ, ap, inl, inr, subst, sym}
use Rattle.sheet_app.proofs.Common.{head_of, task_of, SheetDone}
use Rattle.sheet_app.specs.Lines.{fault_text, lines_on}
use Rattle.sheet_app.specs.private.SheetViews.{Says}
use Rattle.sheet_app.proofs.LineLemmas.{line_said}
use Rattle.sheet_app.proofs.reports.report_sheet.Goals as goal

pub returns-in-WholeBut : goal.returns-in-WholeBut
returns-in-WholeBut g c =
    let before = c.args.errors.now in let after = c.send_line.new.errors in
    let line : List ℕ = head_of c.args.name.now ++ (fault_text c.in-WholeBut.fault ++ 10 ∷ []) in
    let said : Says g.E.Output before after c.send_line.result line
    = line_said g.E.Output before after c.send_line.result (λ (l : Vec ℕ Global). l.items) c.line_of_fault.result line
    c.line_of_fault.ensures c.send_line.ensures.line c.send_line.ensures.lost in
    let lines = λ (done : SheetDone). lines_on (task_of c.args.job.now) c.args.name.now done in
    let Told = λ (text : List ℕ). Says g.E.Output before after c.send_line.result text in
    elim c.in-WholeBut.is [
      | inl but ↦ subst Told (sym (ap lines but)) said
      | inr broken ↦ subst Told (sym (ap lines broken)) said
    ]
