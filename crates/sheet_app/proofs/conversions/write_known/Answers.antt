-- What was written by the choice that is known is what the task asks.
use Rattle.std.proofs.Common.{inr, refl}
use Rattle.sheet_app.specs.Sheets.{IsListBy}
use Rattle.sheet_app.specs.declared.conversions.TheConstants.{MOST_UNKNOWN}
use Rattle.sheet_app.specs.private.Conversions.{lines_by, task_by}
use Rattle.sheet_app.proofs.EndLemmas.{asked_behind, asked_done, broken_marked, ended_fault}
use Rattle.sheet_app.proofs.conversions.write_known.Goals as goal

pub setup_of-setup-requires : goal.setup_of-setup-requires
setup_of-setup-requires g c = λ choice is. (c.requires choice is).is_choice

pub returns-in_err-write_mark : goal.returns-in_err-write_mark
returns-in_err-write_mark g c =
    let choice = c.setup_of-setup.result.choice in
    let by = c.args.by.now in
    ended_fault g.W.Output (task_by by) (lines_by by) MOST_UNKNOWN c.args.sheet.now c.args.output.now
    c.write_mark.new.output c.args.registers.now c.from_residual.result _ c.from_residual.ensures.1
    (inr (choice, c.requires choice c.setup_of-setup.ensures.0, c.in_err-write_mark.ensures.fails))

pub returns-in_err-listed : goal.returns-in_err-listed
returns-in_err-listed g c =
    let choice = c.setup_of-setup.result.choice in
    let by = c.args.by.now in
    ended_fault g.W.Output (task_by by) (lines_by by) MOST_UNKNOWN c.args.sheet.now c.args.output.now
    c.list_unknown.new.output c.args.registers.now c.from_residual-in_err-listed.result _ c.from_residual-in_err-listed.ensures.1
    (inr (
      choice,
      c.requires choice c.setup_of-setup.ensures.0,
      broken_marked g.W.Output choice c.args.sheet.now c.args.output.now c.write_mark.new.output
          c.list_unknown.new.output c.in_err-listed.field-0.0 c.in_ok-write_mark.ensures.ok c.in_err-listed.ensures.broken,
    ))

pub returns-then-by : goal.returns-then-by
returns-then-by g c =
    let choice = c.setup_of-setup.result.choice in
    let by = c.args.by.now in (
      asked_behind (task_by by) (lines_by by) c.args.sheet.now choice
          (λ found. IsListBy found MOST_UNKNOWN c.args.sheet.now c.in_ok-listed.listed) _ _ _
          (c.requires choice c.setup_of-setup.ensures.0) c.in_ok-write_mark.ensures.ok c.in_ok-listed.ensures.whole,
      c.in_ok-listed.ensures.flushed,
      c.if-by.true,
      refl,
    )

pub returns : goal.returns
returns g c =
    let choice = c.setup_of-setup.result.choice in
    let by = c.args.by.now in
    asked_done g.W.Output (task_by by) (lines_by by) MOST_UNKNOWN c.args.sheet.now choice c.args.output.now
    c.write_mark.new.output c.write_outputs.new.output c.args.registers.now c.write_outputs.new.registers
    c.write_outputs.result c.if-by.false (c.requires choice c.setup_of-setup.ensures.0) c.in_ok-write_mark.ensures.ok
    c.write_outputs.ensures
