-- Items are added from the left, and numbers that add up become one.
use Rattle.std.proofs.Common.{◌≡◌, ℕ, ◌+◌, ◌<◌, ◌≤◌, Bool, true, false, ◌&&◌, cond, List, [], ◌∷◌, ◌++◌, length, refl, sym, ap, ◌∙◌, arith}
use Rattle.std.proofs.Common.{Option, Some, None, append_assoc, append-nil, length-append}
use Rattle.std.specs.Prelude.{option_map}
use Rattle.std.proofs.lemmas.Bool.{true≢false}
use Rattle.written_dates.specs.declared.items.Number.{Number as Numeral}
use Rattle.written_dates.specs.declared.items.Item.{Item}
use Rattle.written_dates.specs.declared.items.Item.TheVariants.{Number, YearWord, DayWord, Weekday, Feast}
use Rattle.written_dates.specs.declared.meanings.Era.{Era}
use Rattle.written_dates.specs.declared.meanings.Era.TheVariants as eras
use Rattle.written_dates.specs.declared.meanings.Name.{Name}
use Rattle.written_dates.specs.Tokens.{Piece}
use Rattle.written_dates.specs.Items.{before, is_long, items}
use Rattle.written_dates.specs.private.ItemViews.{resumed}
use Rattle.written_dates.specs.Sums.{before_era, has_sum, has_year_of, with_year, SumsStay, adds_up, joined_item, joined_or, summed, summed_from, total, value_of}

-- ---- the last item may still grow
last_resumed : (xs : List Item) (last : Item) (rest : List Item)
    → resumed (xs ++ last ∷ []) rest ≡ xs ++ summed_from last rest
unfolding resumed
last_resumed [] last rest = refl
last_resumed (x ∷ []) last rest = refl
last_resumed (x ∷ y ∷ more) last rest = ap (λ (zs : List Item). x ∷ zs) (last_resumed (y ∷ more) last rest)

pub first_resumed : (item : Item) (rest : List Item) → resumed [] (item ∷ rest) ≡ resumed (item ∷ []) rest
unfolding resumed
first_resumed item rest = refl

first_summed : (item : Item) (rest : List Item) → resumed [] (item ∷ rest) ≡ summed_from item rest
unfolding resumed
first_summed item rest = refl

grown : (last item : Item) (o : Option Item) (rest : List Item) → joined_item last item ≡ o
    → summed_from last (item ∷ rest) ≡ joined_or o last item (λ z. summed_from z rest)
unfolding summed_from
grown last item o rest e = rw e refl

pub sum_resumed : (old new found : List Item) (last item sum : Item) (rest : List Item)
    → old ≡ new ++ last ∷ [] → found ≡ new ++ sum ∷ [] → joined_item last item ≡ Some sum
    → resumed old (item ∷ rest) ≡ resumed found rest
sum_resumed old new found last item sum rest was is e =
    rw (was, is)
    (last_resumed new last (item ∷ rest) ∙ ap (λ (zs : List Item). new ++ zs) (grown last item (Some sum) rest e)
    ∙ sym (last_resumed new sum rest))

apart : (new : List Item) (last item : Item) (rest : List Item) → joined_item last item ≡ None
    → resumed (new ++ last ∷ []) (item ∷ rest) ≡ (new ++ last ∷ []) ++ summed_from item rest
apart new last item rest e =
    last_resumed new last (item ∷ rest) ∙ ap (λ (zs : List Item). new ++ zs) (grown last item None rest e)
    ∙ sym (append_assoc new (last ∷ []) (summed_from item rest))

pub item_resumed : (old new found : List Item) (last item : Item) (rest : List Item)
    → old ≡ new ++ last ∷ [] → found ≡ old ++ item ∷ [] → joined_item last item ≡ None
    → resumed old (item ∷ rest) ≡ resumed found rest
item_resumed old new found last item rest was is e =
    rw (is, was) (apart new last item rest e ∙ sym (last_resumed (new ++ last ∷ []) item rest))

some_by : (x y : Item) (o : Option Item) (next : Item → List Item) → ((z : Item) → 0 < length (next z))
    → 0 < length (joined_or o x y next)
some_by x y None next h = omega arith
some_by x y (Some z) next h = h z

some_summed : (x : Item) (rest : List Item) → 0 < length (summed_from x rest)
unfolding summed_from
some_summed x [] = omega arith
some_summed x (y ∷ rest) = some_by x y (joined_item x y) (λ z. summed_from z rest) (λ z. some_summed z rest)

pub none_first : (old new found : List Item) (item : Item) (rest : List Item) → old ≡ new ++ []
    → (0 < length old → false ≡ true) → found ≡ new ++ item ∷ []
    → resumed old (item ∷ rest) ≡ resumed found rest
none_first [] new found item rest was none is =
    let empty : new ≡ [] = sym (was ∙ append-nil new) in rw (is, empty) (first_resumed item rest)
none_first (x ∷ xs) new found item rest was none is = absurd (true≢false (sym (none (omega arith))))

-- with as many items there is no room
pub full_first : (n : ℕ) (old new : List Item) (item : Item) (rest : List Item) → old ≡ new ++ []
    → (0 < length old → false ≡ true) → n ≤ length new → n < length (resumed old (item ∷ rest))
full_first n [] new item rest was none full =
    let is : resumed [] (item ∷ rest) ≡ summed_from item rest = first_summed item rest in
    omega (arith, full, ap length was, length-append new [], ap length is, some_summed item rest)
full_first n (x ∷ xs) new item rest was none full = absurd (true≢false (sym (none (omega arith))))

pub full_sum : (n : ℕ) (old new : List Item) (last item sum : Item) (rest : List Item) → old ≡ new ++ last ∷ []
    → joined_item last item ≡ Some sum → n ≤ length new → n < length (resumed old (item ∷ rest))
full_sum n old new last item sum rest was e full =
    let is = sum_resumed old new (new ++ sum ∷ []) last item sum rest was refl e in
    omega (
      arith,
      ap length (is ∙ last_resumed new sum rest),
      length-append new (summed_from sum rest),
      some_summed sum rest,
    )

pub full_apart : (n : ℕ) (old new : List Item) (last item : Item) (rest : List Item) → old ≡ new ++ last ∷ []
    → joined_item last item ≡ None → n ≤ length new + 1 → n < length (resumed old (item ∷ rest))
full_apart n old new last item rest was e full =
    let is : resumed old (item ∷ rest) ≡ old ++ summed_from item rest = rw was (apart new last item rest e) in
    omega (
      arith,
      ap length is,
      length-append old (summed_from item rest),
      some_summed item rest,
      ap length was,
      length-append new (last ∷ []),
    )

-- ---- the items of a text
pub end_resumed : (xs : List Item) → resumed xs [] ≡ xs
unfolding resumed summed_from
end_resumed [] = refl
end_resumed (x ∷ []) = refl
end_resumed (x ∷ y ∷ more) = ap (λ (zs : List Item). x ∷ zs) (end_resumed (y ∷ more))

pub none_resumed : (o : Option (List Item)) → option_map summed o ≡ option_map (resumed []) o
unfolding resumed
none_resumed None = refl
none_resumed (Some xs) = refl

pub more_resumed : (old found front : List Item) (rest : Option (List Item))
    → ((ys : List Item) → resumed old (front ++ ys) ≡ resumed found ys)
    → option_map (resumed old) (before front rest) ≡ option_map (resumed found) rest
more_resumed old found front None h = refl
more_resumed old found front (Some ys) h = ap Some (h ys)

pub full_items : (n : ℕ) (old front all : List Item) (rest : Option (List Item))
    → ((ys : List Item) → n < length (resumed old (front ++ ys)))
    → option_map (resumed old) (before front rest) ≡ Some all → n < length all
full_items n old front all None h e = absurd (cc)
full_items n old front all (Some ys) h e =
    let same : resumed old (front ++ ys) ≡ all = cc in omega (arith, h ys, ap length same)

pub all_items : (found : List Item) (names : List Name) (whole : Option (List Item)) (rest : List Piece)
    → whole ≡ option_map (resumed found) (items names 0 rest) → rest ≡ [] → whole ≡ Some found
unfolding items
all_items found names whole rest e h =
    let none : items names 0 rest ≡ Some [] = rw h refl in rw none at e ∙ ap Some (end_resumed found)

pub no_items : (found all : List Item) (whole rest : Option (List Item)) → whole ≡ option_map (resumed found) rest
    → rest ≡ None → whole ≡ Some all → ⊥
no_items found all whole (Some zs) e h f = cc
no_items found all whole None e h f = cc

-- ---- the sum of all numbers stays
abbrev Kept : Option Item → Item → Item → (Item → List Item) → ℕ → Type 0
Kept o x y next rest = total (joined_or o x y next) ≡ value_of x + (value_of y + rest)

summed_if : (b : Bool) (a c : Numeral) (next : Item → List Item) (rest : ℕ)
    → ((z : Item) → total (next z) ≡ value_of z + rest)
    → Kept (cond b (Some (Number (record { value = a.value + c.value; digits = 0; named = true; year = a.year; day = a.day })))
    None) (Number a) (Number c) next rest
summed_if true a c next rest h =
    h (Number (record { value = a.value + c.value; digits = 0; named = true; year = a.year; day = a.day })) ∙ omega arith
summed_if false a c next rest h = ap (λ n. a.value + n) (h (Number c))

era_if : (b : Bool) (era : Era) (a : Numeral) (next : Item → List Item) (rest : ℕ)
    → ((z : Item) → total (next z) ≡ value_of z + rest)
    → Kept (cond b (Some (with_year era a)) None) (Number a) (YearWord era) next rest
era_if true era a next rest h = h (with_year era a) ∙ omega arith
era_if false era a next rest h = ap (λ n. a.value + n) (h (YearWord era))

year_before : (era : Era) (a : Numeral) (next : Item → List Item) (rest : ℕ)
    → ((z : Item) → total (next z) ≡ value_of z + rest)
    → Kept (before_era era a) (Number a) (YearWord era) next rest
year_before eras.Calendar a next rest h = h (Number a) ∙ omega arith
year_before eras.Spanish a next rest h = era_if (has_year_of eras.Spanish a.value) eras.Spanish a next rest h
year_before eras.Creation a next rest h = era_if (has_year_of eras.Creation a.value) eras.Creation a next rest h

year_if : (b : Bool) (era : Era) (a : Numeral) (next : Item → List Item) (rest : ℕ)
    → ((z : Item) → total (next z) ≡ value_of z + rest)
    → Kept (cond b (before_era era a) None) (Number a) (YearWord era) next rest
year_if true era a next rest h = year_before era a next rest h
year_if false era a next rest h = ap (λ n. a.value + n) (h (YearWord era))

year_behind : (b : Bool) (era : Era) (a : Numeral) (next : Item → List Item) (rest : ℕ)
    → ((z : Item) → total (next z) ≡ value_of z + rest)
    → Kept (cond b (Some (with_year era a)) None) (YearWord era) (Number a) next rest
year_behind true era a next rest h = h (with_year era a) ∙ omega arith
year_behind false era a next rest h = ap (λ n. 0 + n) (h (Number a))

day_behind : (b : Bool) (a : Numeral) (next : Item → List Item) (rest : ℕ)
    → ((z : Item) → total (next z) ≡ value_of z + rest)
    → Kept (cond b None (Some (Number (record {
      value = a.value;
      digits = a.digits;
      named = a.named;
      year = a.year;
      day = true;
    })))) (Number a) DayWord next rest
day_behind true a next rest h = ap (λ n. a.value + n) (h DayWord)
day_behind false a next rest h =
    h (Number (record { value = a.value; digits = a.digits; named = a.named; year = a.year; day = true })) ∙ omega arith

day_before : (b : Bool) (a : Numeral) (next : Item → List Item) (rest : ℕ)
    → ((z : Item) → total (next z) ≡ value_of z + rest)
    → Kept (cond b None (Some (Number (record {
      value = a.value;
      digits = a.digits;
      named = a.named;
      year = a.year;
      day = true;
    })))) DayWord (Number a) next rest
day_before true a next rest h = ap (λ n. 0 + n) (h (Number a))
day_before false a next rest h =
    h (Number (record { value = a.value; digits = a.digits; named = a.named; year = a.year; day = true })) ∙ omega arith

summed_more : (x y : Item) (next : Item → List Item) (rest : ℕ) → ((z : Item) → total (next z) ≡ value_of z + rest)
    → Kept (joined_item x y) x y next rest
summed_more (Number a) (Number c) next rest h = summed_if (adds_up a c && has_sum a.year (a.value + c.value)) a c next rest h
summed_more (Number a) (YearWord era) next rest h = year_if (is_long a) era a next rest h
summed_more (Number a) DayWord next rest h = day_behind (is_long a) a next rest h
summed_more (YearWord era) (Number c) next rest h = year_behind (has_year_of era c.value) era c next rest h
summed_more DayWord (Number c) next rest h = day_before (is_long c) c next rest h
summed_more DayWord (Weekday w) next rest h = h (Weekday w) ∙ omega arith
summed_more DayWord (Feast f) next rest h = h (Feast f) ∙ omega arith
summed_more x y next rest h = ap (λ n. value_of x + n) (h y)

total_from : (x : Item) (rest : List Item) → total (summed_from x rest) ≡ value_of x + total rest
unfolding summed_from
total_from x [] = refl
total_from x (y ∷ rest) = summed_more x y (λ z. summed_from z rest) (total rest) (λ z. total_from z rest)

pub sums_stay : SumsStay
sums_stay [] = refl
sums_stay (x ∷ rest) = total_from x rest
