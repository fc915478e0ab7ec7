use Rattle.std.proofs.Common.{◌∙◌, ap, sym, arith, length, length-append, ◌∷◌, ◌++◌, []}
use Rattle.written_dates.proofs.SumLemmas.{full_apart, full_first, full_sum, item_resumed, none_first, sum_resumed}
use Rattle.written_dates.proofs.items.push_item.Goals as goal

pub returns-in_default-clause-room : goal.returns-in_default-clause-room
returns-in_default-clause-room g c = λ t rest.
    none_first _ c.pop.new.self.items _ c.args.item rest c.in_default.ensures.items c.in_default.ensures.variant.1
    (c.try_add.ensures.room t)

pub returns-in_default-clause-full : goal.returns-in_default-clause-full
returns-in_default-clause-full g c = λ t rest.
    full_first _ _ c.pop.new.self.items c.args.item rest c.in_default.ensures.items c.in_default.ensures.variant.1
    (c.try_add.ensures.full t)

pub returns-in-Some-joined_item-clause-room : goal.returns-in-Some-joined_item-clause-room
returns-in-Some-joined_item-clause-room g c = λ t rest.
    sum_resumed _ _ _ c.in-Some.last c.args.item _ rest c.in-Some.ensures.items
    (c.try_add-in-Some-joined_item.ensures.room t) (sym c.joined_item.ensures ∙ c.in-Some-joined_item.is)

pub returns-in-Some-joined_item-clause-full : goal.returns-in-Some-joined_item-clause-full
returns-in-Some-joined_item-clause-full g c = λ t rest.
    full_sum _ _ _ c.in-Some.last c.args.item _ rest c.in-Some.ensures.items
    (sym c.joined_item.ensures ∙ c.in-Some-joined_item.is) (c.try_add-in-Some-joined_item.ensures.full t)

pub returns-then-not-try_add-clause-full : goal.returns-then-not-try_add-clause-full
returns-then-not-try_add-clause-full g c = λ t rest.
    full_apart _ _ _ c.in-Some.last c.args.item rest c.in-Some.ensures.items
    (sym c.joined_item.ensures ∙ c.in_default-joined_item.is)
    (omega (arith, c.try_add-2.ensures.full c.if-not-try_add.true))

pub returns-clause-room : goal.returns-clause-room
returns-clause-room g c = λ t rest.
    item_resumed _ _ _ c.in-Some.last c.args.item rest c.in-Some.ensures.items
    (c.try_add-3.ensures.room t ∙ ap (λ xs. xs ++ c.args.item ∷ [])
    (c.try_add-2.ensures.room c.if-not-try_add.false ∙ sym c.in-Some.ensures.items))
    (sym c.joined_item.ensures ∙ c.in_default-joined_item.is)

pub returns-clause-full : goal.returns-clause-full
returns-clause-full g c = λ t rest.
    full_apart _ _ _ c.in-Some.last c.args.item rest c.in-Some.ensures.items
    (sym c.joined_item.ensures ∙ c.in_default-joined_item.is)
    (omega (
      arith,
      c.try_add-3.ensures.full t,
      ap length (c.try_add-2.ensures.room c.if-not-try_add.false),
      length-append c.pop.new.self.items (c.in-Some.last ∷ []),
    ))
