use Rattle.std.proofs.Common.{◌≡◌, ◌∙◌, ◌-◌, Some, ap, arith, slice_get, sym}
use Rattle.std.proofs.lemmas.Option.{slice_get-get_or}
use Rattle.date_texts.specs.Calendars.{all_targets}
use Rattle.date_texts.specs.declared.target.Target.{Target}
use Rattle.page_module.proofs.ChoiceLemmas.{column_at}
use Rattle.page_module.proofs.choices.column_of.Goals as goal

pub returns-in_ok-target-in_default : goal.returns-in_ok-target-in_default
returns-in_ok-target-in_default c =
    let target = c.in_ok-target-in_default.target.now in
    let found = rw c.all_targets.ensures at c.in_ok-target-in_default.ensures.lookup in
    let there : slice_get all_targets (c.args.number - 2) ≡ Some target
    = slice_get-get_or all_targets (c.args.number - 2) target found.3.0 ∙ ap (λ (t : Target). Some t) (sym found.1) in
    column_at c.args.number (c.args.number - 2) target (omega arith) there
