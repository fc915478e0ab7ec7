-- Stops that are alike, and the first of them.
use Rattle.std.proofs.Common.{◌≡◌, ◌≤◌, ◌<◌, ◌+◌, ◌∙◌, ◌++◌, ◌||◌, ℕ, zero, suc, Bool, true, false, not, cond, List, []}
use Rattle.std.proofs.Common.{◌∷◌, ap, append-nil, arith, count_by, drop, filter, get_or, inl, inr, length, map, refl, set}
use Rattle.std.proofs.Common.{sym, take, Some, slice_get}
use Rattle.sheets.proofs.Common.{list_any, NameStop, NameCount, is_alike, name_seen, UnknownName}
use Rattle.std.specs.Prelude.{⊤}
use Rattle.std.specs.Cmp.{IsEquivalence}
use Rattle.std.proofs.Math.Bool.{or-false, or-true}
use Rattle.std.proofs.lemmas.Bool.{cases_Bool, or_parts}
use Rattle.std.proofs.lemmas.Cmp.{and_equiv, nat_eq_equiv, on_equiv}
use Rattle.std.specs.Cmp.Lexicographic.{options_equiv}
use Rattle.std.proofs.lemmas.List.{get_or-map, length-append, length-map, length-take, map-append, take-append-le}
use Rattle.std.proofs.lemmas.List.{take-append-drop, take_all}
use Rattle.std.proofs.lemmas.List.Elements.{filter-append}
use Rattle.std.proofs.lemmas.Option.{get_or_from_slice_get, slice_get_within}
use Rattle.std.proofs.lemmas.List.Folds.{list_any-append, list_any_at, list_any_more}
use Rattle.std.proofs.lemmas.List.Sums.{sum_by-cons, sum_by_push}
use Rattle.written_dates.specs.Calendars.{place}
use Rattle.written_dates.proofs.WordLemmas.{same_word_equiv}
use Rattle.sheets.specs.UnknownNames.{AreNames, counted, firsts, is_other}
use Rattle.sheets.specs.private.UnknownViews.{named}
use Rattle.sheets.proofs.RowLemmas.{seen_at}

pub alike_equiv : IsEquivalence is_alike
alike_equiv =
    and_equiv (on_equiv (λ (a : NameStop). a.1) (options_equiv (on_equiv place nat_eq_equiv)))
    (on_equiv (λ (a : NameStop). a.0) same_word_equiv)

-- one of these is alike to the stop
abbrev pub has : List NameStop → NameStop → Bool
has names stop = list_any (λ name. is_alike name stop) names

-- no two of these are alike
abbrev pub AreApart : List NameStop → Type 0
AreApart [] = ⊤
AreApart (name ∷ names) = (list_any (is_alike name) names ≡ false) × AreApart names

abbrev pub others : NameStop → List NameStop → List NameStop
others stop stops = filter (λ other. not (is_alike stop other)) stops

none_filtered : (p q : NameStop → Bool) (xs : List NameStop) → list_any q xs ≡ false → list_any q (filter p xs) ≡ false
none_filtered p q [] e = refl
none_filtered p q (x ∷ xs) e =
    let (differs, none) = or_parts (q x) (list_any q xs) e in
    elim (cases_Bool (p x)) [
      | inl is ↦ rw (is, differs) (none_filtered p q xs none)
      | inr is ↦ rw is (none_filtered p q xs none)
    ]

apart_filtered : (p : NameStop → Bool) (xs : List NameStop) → AreApart xs → AreApart (filter p xs)
apart_filtered p [] h = tt
apart_filtered p (x ∷ xs) (none, h) =
    elim (cases_Bool (p x)) [
      | inl is ↦ rw is (none_filtered p (is_alike x) xs none, apart_filtered p xs h)
      | inr is ↦ rw is (apart_filtered p xs h)
    ]

none_alike : (x : NameStop) (xs : List NameStop) → list_any (is_alike x) (others x xs) ≡ false
none_alike x [] = refl
none_alike x (y ∷ xs) =
    elim (cases_Bool (is_alike x y)) [
      | inl is ↦ rw is (none_alike x xs)
      | inr is ↦ rw (is, is) (none_alike x xs)
    ]

pub firsts_apart : (stops : List NameStop) → AreApart (firsts stops)
firsts_apart [] = tt
firsts_apart (x ∷ xs) = (none_alike x (firsts xs), apart_filtered _ (firsts xs) (firsts_apart xs))

none_taken : (q : NameStop → Bool) (k : ℕ) (xs : List NameStop) → list_any q xs ≡ false → list_any q (take k xs) ≡ false
none_taken q k xs e = grind (arith, list_any-append q (take k xs) (drop k xs), take-append-drop k xs)

pub taken_apart : (k : ℕ) (xs : List NameStop) → AreApart xs → AreApart (take k xs)
taken_apart zero xs h = tt
taken_apart (suc k) [] h = tt
taken_apart (suc k) (x ∷ xs) (none, h) = (none_taken (is_alike x) k xs none, taken_apart k xs h)

-- a new one comes behind the first ones, and one that is known does not
pub firsts_new : (xs : List NameStop) (stop : NameStop) → has xs stop ≡ false
    → firsts (xs ++ stop ∷ []) ≡ firsts xs ++ stop ∷ []
firsts_new [] stop e = refl
firsts_new (x ∷ xs) stop e =
    let (differs, none) = or_parts (is_alike x stop) (has xs stop) e in
    ap (λ (all : List NameStop). x ∷ others x all) (firsts_new xs stop none)
    ∙ ap (λ (all : List NameStop). x ∷ all) (filter-append _ (firsts xs) (stop ∷ [])) ∙ rw differs refl

pub firsts_known : (xs : List NameStop) (stop : NameStop) → has xs stop ≡ true → firsts (xs ++ stop ∷ []) ≡ firsts xs
firsts_known [] stop e = absurd (cc)
firsts_known (x ∷ xs) stop e =
    elim (cases_Bool (has xs stop)) [
      | inl known ↦ ap (λ (all : List NameStop). x ∷ others x all) (firsts_known xs stop known)
      | inr none ↦
          let yes : is_alike x stop ≡ true = grind arith in
          ap (λ (all : List NameStop). x ∷ others x all) (firsts_new xs stop none)
          ∙ ap (λ (all : List NameStop). x ∷ all) (filter-append _ (firsts xs) (stop ∷ []))
          ∙ rw yes (ap (λ (all : List NameStop). x ∷ all) (append-nil (others x (firsts xs))))
    ]

-- the first ones have what all have
has_others : (x stop : NameStop) (xs : List NameStop) → is_alike x stop ≡ false → has (others x xs) stop ≡ has xs stop
has_others x stop [] differs = refl
has_others x stop (y ∷ xs) differs =
    elim (cases_Bool (is_alike x y)) [
      | inl is ↦
          let other : is_alike y stop ≡ false = sym (alike_equiv.congr x y stop is) ∙ differs in
          rw (is, other) (has_others x stop xs differs)
      | inr is ↦ rw is (ap (λ (b : Bool). is_alike y stop || b) (has_others x stop xs differs))
    ]

pub has_firsts : (xs : List NameStop) (stop : NameStop) → has (firsts xs) stop ≡ has xs stop
has_firsts [] stop = refl
has_firsts (x ∷ xs) stop =
    elim (cases_Bool (is_alike x stop)) [
      | inl is ↦ rw is refl
      | inr is ↦ rw is (has_others x stop (firsts xs) is ∙ has_firsts xs stop)
    ]

-- how many are alike, with one more
counted_more : (stops : List NameStop) (stop name : NameStop)
    → count_by (is_alike name) (stops ++ stop ∷ []) ≡ count_by (is_alike name) stops + cond (is_alike name stop) 1 0
counted_more stops stop name = sum_by_push (λ x. cond (is_alike name x) 1 0) stops stop

pub counted_same : (stops : List NameStop) (stop : NameStop) (names : List NameStop) → has names stop ≡ false
    → map (counted (stops ++ stop ∷ [])) names ≡ map (counted stops) names
counted_same stops stop [] e = refl
counted_same stops stop (x ∷ names) e =
    let (differs, none) = or_parts (is_alike x stop) (has names stop) e in
    let same : count_by (is_alike x) (stops ++ stop ∷ []) ≡ count_by (is_alike x) stops
    = counted_more stops stop x ∙ rw differs (omega arith) in
    rw (same, counted_same stops stop names none) refl

-- no name is like the stop that is like one of which no other is
apart_from : (x stop : NameStop) (names : List NameStop) → is_alike x stop ≡ true → list_any (is_alike x) names ≡ false
    → has names stop ≡ false
apart_from x stop [] is e = refl
apart_from x stop (y ∷ names) is e =
    let (differs, none) = or_parts (is_alike x y) (list_any (is_alike x) names) e in
    let other : is_alike y stop ≡ false = alike_equiv.symm y stop ∙ sym (alike_equiv.congr x stop y is) ∙ differs in
    rw other (apart_from x stop names is none)

none_at : (q : NameStop → Bool) (names : List NameStop) (k : ℕ) (d : NameStop) → k < length names
    → list_any q names ≡ false → q (get_or names k d) ≡ false
none_at q [] k d lt e = absurd (omega arith)
none_at q (x ∷ names) zero d lt e = (or_parts (q x) (list_any q names) e).0
none_at q (x ∷ names) (suc k) d lt e = none_at q names k d (omega arith) (or_parts (q x) (list_any q names) e).1

-- a name of a list gets one more
abbrev pub one_more : NameCount → NameCount
one_more name = (name.0, name.1, name.2 + 1)

pub counted_at : (stops : List NameStop) (stop : NameStop) (names : List NameStop) (k : ℕ) (d : NameStop)
    → k < length names → AreApart names → is_alike (get_or names k d) stop ≡ true
    → set (map (counted stops) names) k (one_more (counted stops (get_or names k d)))
    ≡ map (counted (stops ++ stop ∷ [])) names
counted_at stops stop [] k d lt apart is = absurd (omega arith)
counted_at stops stop (x ∷ names) zero d lt (none, apart) is =
    let more : count_by (is_alike x) (stops ++ stop ∷ []) ≡ count_by (is_alike x) stops + 1
    = counted_more stops stop x ∙ rw is refl in
    rw (more, counted_same stops stop names (apart_from x stop names is none)) refl
counted_at stops stop (x ∷ names) (suc k) d lt (none, apart) is =
    let at : is_alike x (get_or names k d) ≡ false = none_at (is_alike x) names k d (omega arith) none in
    let differs : is_alike x stop ≡ false
    = alike_equiv.symm x stop ∙ sym (alike_equiv.congr (get_or names k d) stop x is)
    ∙ alike_equiv.symm (get_or names k d) x ∙ at in
    let same : count_by (is_alike x) (stops ++ stop ∷ []) ≡ count_by (is_alike x) stops
    = counted_more stops stop x ∙ rw differs (omega arith) in
    rw same (ap (λ (rest : List NameCount). counted stops x ∷ rest)
    (counted_at stops stop names k d (omega arith) apart is))

-- a stop that none is alike to is counted once
counted_none : (stops : List NameStop) (stop : NameStop) → has stops stop ≡ false → count_by (is_alike stop) stops ≡ 0
counted_none [] stop e = refl
counted_none (x ∷ stops) stop e =
    let (differs, none) = or_parts (is_alike x stop) (has stops stop) e in
    let not_it : is_alike stop x ≡ false = alike_equiv.symm stop x ∙ differs in
    sum_by-cons (λ y. cond (is_alike stop y) 1 0) x stops ∙ rw (not_it, counted_none stops stop none) refl

pub counted_new : (stops : List NameStop) (stop : NameStop) (names : List NameStop) → has stops stop ≡ false
    → has names stop ≡ false → map (counted (stops ++ stop ∷ [])) (names ++ stop ∷ [])
    ≡ map (counted stops) names ++ (stop.0, stop.1, 1) ∷ []
counted_new stops stop names none other =
    let one : count_by (is_alike stop) (stops ++ stop ∷ []) ≡ 1
    = counted_more stops stop stop ∙ rw (counted_none stops stop none, alike_equiv.refl stop) refl in
    map-append (counted (stops ++ stop ∷ [])) names (stop ∷ []) ∙ rw (counted_same stops stop names other, one) refl

-- how many are of other names, with one more stop, and with one more name
pub others_more : (names stops : List NameStop) (stop : NameStop) → count_by (is_other names) (stops ++ stop ∷ [])
    ≡ count_by (is_other names) stops + cond (is_other names stop) 1 0
others_more names stops stop = sum_by_push (λ x. cond (is_other names x) 1 0) stops stop

has_more : (names : List NameStop) (x stop : NameStop) → has (names ++ x ∷ []) stop ≡ (has names stop || is_alike x stop)
has_more names x stop =
    list_any-append (λ name. is_alike name stop) names (x ∷ [])
    ∙ ap (λ (b : Bool). has names stop || b) (or-false (is_alike x stop))

others_same : (names stops : List NameStop) (stop : NameStop) → has stops stop ≡ false
    → count_by (is_other (names ++ stop ∷ [])) stops ≡ count_by (is_other names) stops
others_same names [] stop e = refl
others_same names (x ∷ stops) stop e =
    let (differs, none) = or_parts (is_alike x stop) (has stops stop) e in
    let not_it : is_alike stop x ≡ false = alike_equiv.symm stop x ∙ differs in
    let has_same : has (names ++ stop ∷ []) x ≡ has names x = has_more names stop x ∙ rw not_it (or-false (has names x)) in
    let same : is_other (names ++ stop ∷ []) x ≡ is_other names x = ap not has_same in
    sum_by-cons (λ y. cond (is_other (names ++ stop ∷ []) y) 1 0) x stops
    ∙ rw (same, others_same names stops stop none) (sym (sum_by-cons (λ y. cond (is_other names y) 1 0) x stops))

pub others_new : (names stops : List NameStop) (stop : NameStop) → has stops stop ≡ false
    → count_by (is_other (names ++ stop ∷ [])) (stops ++ stop ∷ []) ≡ count_by (is_other names) stops
others_new names stops stop e =
    let itself : is_alike stop stop ≡ true = alike_equiv.refl stop in
    let known : has (names ++ stop ∷ []) stop ≡ true = has_more names stop stop ∙ rw itself (or-true (has names stop)) in
    let there : is_other (names ++ stop ∷ []) stop ≡ false = ap not known in
    others_more (names ++ stop ∷ []) stops stop ∙ rw (there, others_same names stops stop e) (omega arith)

-- what the first of these have, all have
has_taken : (k : ℕ) (xs : List NameStop) (stop : NameStop) → has (take k xs) stop ≡ true → has xs stop ≡ true
has_taken k xs stop e =
    elim (cases_Bool (has xs stop)) [
      | inl is ↦ is
      | inr none ↦ absurd (let differs = none_taken (λ name. is_alike name stop) k xs none in cc)
    ]

-- a name that is listed stopped one more
pub names_known : (most : ℕ) (stops : List NameStop) (stop : NameStop) (old new : List NameCount) (more k : ℕ)
    (d : NameStop) → AreNames most stops old more → k < length (take most (firsts stops))
    → is_alike (get_or (take most (firsts stops)) k d) stop ≡ true
    → new ≡ set old k (one_more (counted stops (get_or (take most (firsts stops)) k d)))
    → AreNames most (stops ++ stop ∷ []) new more
names_known most stops stop old new more k d are lt is made =
    let names = take most (firsts stops) in
    let there : has names stop ≡ true = list_any_at (λ name. is_alike name stop) names k d lt is in
    let known : has stops stop ≡ true = sym (has_firsts stops stop) ∙ has_taken most (firsts stops) stop there in
    let same = firsts_known stops stop known in
    let apart = taken_apart most (firsts stops) (firsts_apart stops) in
    record {
      names_are = made ∙ ap (λ (all : List NameCount). set all k (one_more (counted stops (get_or names k d)))) are.names_are
          ∙ counted_at stops stop names k d lt apart is
          ∙ ap (λ (all : List NameStop). map (counted (stops ++ stop ∷ [])) (take most all)) (sym same);
      more_are = are.more_are ∙ sym (rw same (others_more names stops stop ∙ rw there (omega arith)));
    }

-- a name that is new is listed
pub names_new : (most : ℕ) (stops : List NameStop) (stop : NameStop) (old new : List NameCount) (more : ℕ)
    → AreNames most stops old more → length old < most → has (take most (firsts stops)) stop ≡ false
    → new ≡ old ++ (stop.0, stop.1, 1) ∷ [] → AreNames most (stops ++ stop ∷ []) new more
names_new most stops stop old new more are few none made =
    let low : length (take most (firsts stops)) < most
    = omega (arith, few, ap length are.names_are, length-map (take most (firsts stops)) (counted stops)) in
    let short : length (firsts stops) < most = omega (arith, length-take most (firsts stops)) in
    let all : take most (firsts stops) ≡ firsts stops = take_all most (firsts stops) (omega arith) in
    let free : has (firsts stops) stop ≡ false = rw all at none in
    let unknown : has stops stop ≡ false = sym (has_firsts stops stop) ∙ free in
    let next : take most (firsts (stops ++ stop ∷ [])) ≡ firsts stops ++ stop ∷ []
    = ap (take most) (firsts_new stops stop unknown)
    ∙ take_all most (firsts stops ++ stop ∷ []) (omega (arith, length-append (firsts stops) (stop ∷ []))) in
    record {
      names_are = made ∙ ap (λ (xs : List NameCount). xs ++ (stop.0, stop.1, 1) ∷ []) are.names_are
          ∙ rw (all, next) (sym (counted_new stops stop (firsts stops) unknown free));
      more_are = are.more_are ∙ rw (all, next) (sym (others_new (firsts stops) stops stop unknown));
    }

-- another name comes where the list is full
pub names_full : (most : ℕ) (stops : List NameStop) (stop : NameStop) (names : List NameCount) (more : ℕ)
    → AreNames most stops names more → most ≤ length names → has (take most (firsts stops)) stop ≡ false
    → AreNames most (stops ++ stop ∷ []) names (more + 1)
names_full most stops stop names more are full none =
    let long : most ≤ length (firsts stops)
    = omega (
      arith,
      full,
      ap length are.names_are,
      length-map (take most (firsts stops)) (counted stops),
      length-take most (firsts stops),
    ) in
    let same : take most (firsts (stops ++ stop ∷ [])) ≡ take most (firsts stops)
    = elim (cases_Bool (has stops stop)) [
      | inl known ↦ ap (take most) (firsts_known stops stop known)
      | inr new ↦ ap (take most) (firsts_new stops stop new) ∙ take-append-le most (firsts stops) (stop ∷ []) long
    ] in
    record {
      names_are = are.names_are ∙ rw same (sym (counted_same stops stop (take most (firsts stops)) none));
      more_are = ap (λ (n : ℕ). n + 1) are.more_are
          ∙ rw same (sym (others_more (take most (firsts stops)) stops stop ∙ rw none refl));
    }

-- the names of a list with counts
pub named_are : (stops : List NameStop) (items : List UnknownName) (names : List NameStop)
    → map name_seen items ≡ map (counted stops) names → map named items ≡ names
named_are stops [] [] e = refl
named_are stops (x ∷ items) (n ∷ names) e =
    let first : name_seen x ≡ counted stops n = cc in
    let rest : map name_seen items ≡ map (counted stops) names = cc in
    let same : named x ≡ n = ap (λ (c : NameCount). (c.0, c.1)) first in
    let more = named_are stops items names rest in
    cc
named_are stops items names e = absurd (cc)

-- the name at this place is that of the stop
pub name_counted : (most : ℕ) (stops : List NameStop) (stop : NameStop) (items new : List UnknownName) (more k : ℕ)
    (name : NameStop) (e : NameCount) → AreNames most stops (map name_seen items) more
    → slice_get (map named items) k ≡ Some name → is_alike name stop ≡ true
    → map name_seen new ≡ set (map name_seen items) k (one_more (get_or (map name_seen items) k e))
    → AreNames most (stops ++ stop ∷ []) (map name_seen new) more
name_counted most stops stop items new more k name e are found is made =
    let names = take most (firsts stops) in
    let there : slice_get names k ≡ Some name
    = ap (λ (xs : List NameStop). slice_get xs k) (sym (named_are stops items names are.names_are)) ∙ found in
    let lt = slice_get_within names k name there in
    let at = get_or_from_slice_get names k name name there in
    let one : get_or (map name_seen items) k e ≡ counted stops (get_or names k name)
    = ap (λ (xs : List NameCount). get_or xs k e) are.names_are ∙ get_or-map (counted stops) names k name e lt in
    let alike : is_alike (get_or names k name) stop ≡ true = ap (λ (n : NameStop). is_alike n stop) at ∙ is in
    names_known most stops stop (map name_seen items) (map name_seen new) more k name are lt alike
    (made ∙ ap (λ (x : NameCount). set (map name_seen items) k (one_more x)) one)

-- the name at a place, and those before it
pub named_at : (items : List UnknownName) (k : ℕ) (x : UnknownName) → k < length items → x ≡ get_or items k x
    → slice_get (map named items) k ≡ Some (named x)
named_at items k x lt is = seen_at named items k x lt is

pub none_more : (stop : NameStop) (items : List UnknownName) (k : ℕ) (x : UnknownName) → k < length items
    → x ≡ get_or items k x → is_alike (named x) stop ≡ false → has (take k (map named items)) stop ≡ false
    → has (take (k + 1) (map named items)) stop ≡ false
none_more stop items k x lt is differs none =
    let at : get_or (map named items) k (named x) ≡ named x = get_or-map named items k x (named x) lt ∙ ap named (sym is) in
    let in_names : k < length (map named items) = omega (arith, lt, length-map items named) in
    list_any_more (λ name. is_alike name stop) (map named items) k (named x) in_names ∙ rw (none, at, differs) refl
