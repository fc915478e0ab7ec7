use Rattle.std.proofs.Common.{◌∙◌, ap, sym}
use Rattle.std.specs.Prelude.{option_map}
use Rattle.written_dates.specs.private.ItemViews.{resumed}
use Rattle.written_dates.proofs.SumLemmas.{all_items, full_items, more_resumed, no_items, none_resumed}
use Rattle.written_dates.proofs.items.items_of.Goals as goal

pub items-init : goal.items-init
items-init g c = rw c.new-found.ensures (none_resumed _)

pub items-preserved : goal.items-preserved
items-preserved g c =
    c.items.invariant ∙ ap (option_map (resumed c.items.found.items)) c.in-Some-item_in_front.ensures.some
    ∙ more_resumed c.items.found.items _ _ _ (c.add_item.ensures.room c.if-not-add_item.false)

pub returns-then-not-add_item-clause-none : goal.returns-then-not-add_item-clause-none
returns-then-not-add_item-clause-none g c = λ all e.
    full_items _ c.items.found.items _ all _ (c.add_item.ensures.full c.if-not-add_item.true)
    (sym (c.items.invariant ∙ ap (option_map (resumed c.items.found.items)) c.in-Some-item_in_front.ensures.some) ∙ e)

pub returns-clause-some : goal.returns-clause-some
returns-clause-some g c = all_items c.items.found.items _ _ _ c.items.invariant c.in_default.ensures.none

pub returns-in_default-item_in_front-clause-none : goal.returns-in_default-item_in_front-clause-none
returns-in_default-item_in_front-clause-none g c = λ all e.
    absurd (no_items c.items.found.items all _ _ c.items.invariant c.in_default-item_in_front.ensures.none e)
