use Rattle.std.proofs.Common.{List, ℕ, ap, map, sym, take_all}
use Rattle.std.specs.Borrow.{Bor}
use Rattle.std.proofs.lemmas.List.{map_more}
use Rattle.sheets.proofs.LineLemmas.{gained_as, next_gained, none_gained}
use Rattle.sheets.proofs.lines.SheetLines.push_all.Goals as goal

pub fields-init : goal.fields-init
fields-init c = none_gained c.args.self.now

pub fields-preserved : goal.fields-preserved
fields-preserved c =
    next_gained _ _ _ c.args.self.now c.fields.self c.push.new.self c.fields.invariant c.in_ok-push.ensures
    (sym (map_more (λ (field : Bor (List ℕ)). field.now) c.args.fields.now c.fields.field-index _ c.fields-test.true))

pub returns : goal.returns
returns c =
    gained_as _ _ c.args.self.now c.fields.self
    (ap (map (λ (field : Bor (List ℕ)). field.now)) (take_all c.fields.field-index c.args.fields.now c.fields-test.false))
    c.fields.invariant
