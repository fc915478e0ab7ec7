use Rattle.std.proofs.Common.{◌≡◌, ◌∙◌, ◌++◌, ◌∷◌, [], ap, arith, length, rules}
use Rattle.std.specs.List.{range_with_len}
use Rattle.std.proofs.lemmas.Fn.{always_returns_same}
use Rattle.std.proofs.lemmas.List.Sorted.{IsNonDecreasingBy-from_sort_by_key}
use Rattle.page_rules.specs.DayOrders.{day_of}
use Rattle.page_rules.proofs.OrderLemmas.{is_day_order, one_more}
use Rattle.page_rules.proofs.day_orders.day_order.Goals as goal

pub days-preserved : goal.days-preserved
days-preserved c =
    let pushed : c.push.new.self.items ≡ c.days.order.items ++ c.days.index ∷ [] = search rules in
    pushed ∙ ap (λ xs. xs ++ c.days.index ∷ []) c.days.invariant ∙ one_more c.days.index

pub returns : goal.returns
returns c =
    let days = c.args.days.now in
    let sorted = c.in_ok-sort_by_key.ensures in
    let all : c.days.index ≡ length days = omega arith in
    let made = c.days.invariant ∙ ap (range_with_len 0) all in
    is_day_order days c.sort_by_key.new.self.items (rw made at sorted.permutation)
    (IsNonDecreasingBy-from_sort_by_key (day_of days) _ sorted.sorted (λ a r q k. search rules))
    (rw made at (sorted.stable (day_of days) (always_returns_same _ _ _ (λ a r q k. search rules))))
