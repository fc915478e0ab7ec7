-- Items without Adar, and beside a weekday.
use Rattle.std.proofs.Common.{◌≡◌, ◌≤◌, Bool, true, false, List, [], ◌∷◌, ◌++◌, ◌||◌, length, drop, map, refl, sym, ap, ◌∙◌}
use Rattle.std.proofs.Common.{arith, append-nil}
use Rattle.std.proofs.lemmas.List.{drop_all}
use Rattle.std.specs.List.{list_any}
use Rattle.date_texts.specs.declared.calendar.Calendar.{Calendar}
use Rattle.written_dates.specs.declared.items.Item.{Item}
use Rattle.written_dates.specs.declared.items.Item.TheVariants.{Adar, DecadeDay, Weekday}
use Rattle.written_dates.specs.declared.rules.Order.{Order}
use Rattle.written_dates.specs.Rules.{beside_weekday, plain_reading}
use Rattle.written_dates.specs.Tokens.{tokens}
use Rattle.date_spans.specs.declared.extents.Signs.{Signs}
use Rattle.date_spans.specs.Extents.{as_month, is_adar, named_extent, plain_extent}
use Rattle.date_spans.specs.FeastSides.{bare_side}

pub few_beside : (items : List Item) → length (beside_weekday items) ≤ length items
few_beside (Weekday w ∷ rest) = omega arith
few_beside (DecadeDay n ∷ rest) = omega arith
few_beside (a ∷ b ∷ c ∷ Weekday w ∷ []) = omega arith
few_beside (a ∷ b ∷ c ∷ DecadeDay n ∷ []) = omega arith
few_beside items = omega arith

kept : (item : Item) → is_adar item ≡ false → as_month item ≡ item
kept Adar h = cc
kept item h = refl

either : (a b : Bool) → (a || b) ≡ false → (a ≡ false) × (b ≡ false)
either true b h = absurd (let no : true ≡ false = h in (let none : ⊥ = cc in none))
either false b h = (refl, h)

all_kept : (items : List Item) → list_any is_adar items ≡ false → map as_month items ≡ items
all_kept [] h = refl
all_kept (item ∷ rest) h =
    let parts = either (is_adar item) (list_any is_adar rest) h in
    rw (kept item parts.0, all_kept rest parts.1) refl

pub no_adar : (signs : Signs) (order : Order) (items : List Item) → list_any is_adar items ≡ false
    → plain_extent signs order items ≡ named_extent signs order items
no_adar signs order items h = rw (h, all_kept items h) refl

pub without_signs : (order : Order) (items : List Item)
    → plain_reading (tokens 0 []) order items ≡ plain_reading [] order items
unfolding tokens
without_signs order items = refl

pub complete_already : (calendar : Calendar) (signs : Signs) (order : Order) (items right : List Item)
    → length right ≤ length items
    → bare_side calendar signs order items ≡ bare_side calendar signs order (items ++ drop (length items) right)
complete_already calendar signs order items right few =
    let same : items ++ drop (length items) right ≡ items
    = ap (λ (xs : List Item). items ++ xs) (drop_all (length items) right few) ∙ append-nil items in
    sym (ap (bare_side calendar signs order) same)
