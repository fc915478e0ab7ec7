-- Names whose key is another do not stand in front.
use Rattle.std.proofs.Common.{◌≡◌, ◌≢◌, ℕ, zero, suc, ◌+◌, ◌<◌, Bool, true, false, ◌&&◌, ◌==◌, nat_lt}
use Rattle.std.proofs.Common.{List, [], ◌∷◌, cond, length, refl, sym, ap, ◌∙◌, arith, get_or, drop, set, replicate}
use Rattle.std.proofs.Common.{Some, slice_get}
use Rattle.std.proofs.Math.Seq.{drop-nil, drop-length}
use Rattle.std.proofs.Math.ListN.{length-set}
use Rattle.std.proofs.lemmas.Option.{slice_get_within}
use Rattle.std.proofs.lemmas.Bool.Decides.{nat_tests}
use Rattle.std.proofs.lemmas.List.{get_or-set_same, get_or-set_other, get_or-replicate, length-replicate}
use Rattle.date_texts.specs.declared.calendar.Calendar.{Calendar}
use Rattle.written_dates.specs.declared.meanings.Meaning.{Meaning}
use Rattle.written_dates.specs.declared.meanings.Meaning.TheVariants.{Nothing}
use Rattle.written_dates.specs.declared.meanings.Name.{Name}
use Rattle.written_dates.specs.Tokens.{Piece}
use Rattle.written_dates.specs.Parts.{parts, stands}
use Rattle.written_dates.specs.Items.{longest}
use Rattle.written_dates.specs.Words.{same_word}
use Rattle.written_dates.specs.private.Keys.{key_of, key_of_chars, first_text, key, ahead, place_from, IsIndexed}
use Rattle.written_dates.specs.Names.{holds, names_in}
use Rattle.written_dates.proofs.WordLemmas.{same_word-Decides}

-- ---- keys
pub same_key : (a b : List ℕ) → same_word a b ≡ true → key_of a ≡ key_of b
same_key a b h = ap key_of_chars ((same_word-Decides a b).0 h).1

-- a name of another key does not stand, or has no parts
other_by : (name text : List Piece) (n : ℕ) → (key_of (first_text name) == key_of (first_text text)) ≡ false
    → (stands name text && nat_lt n (length name)) ≡ false
other_by [] text n h = grind (arith, nat_tests)
other_by (p ∷ ps) [] n h = refl
other_by (p ∷ ps) (t ∷ ts) n h =
    let b = same_word p.text t.text in
    let differ : (x : Bool) → b ≡ x → ((x && stands ps ts) && nat_lt n (length (p ∷ ps))) ≡ false
    = λ x. elim x as (λ x. b ≡ x → ((x && stands ps ts) && nat_lt n (length (p ∷ ps))) ≡ false) [
      | true ↦ λ e. absurd (let same : key_of p.text ≡ key_of t.text = same_key p.text t.text e in
          let yes : (key_of p.text == key_of t.text) ≡ true = grind (arith, nat_tests) in cc)
      | false ↦ λ e. refl
    ] in
    differ b refl

pub other_name : (text : List Piece) (calendar : Calendar) (best : ℕ × Meaning) (name : Name) (names : List Name)
    → (key name == key_of (first_text text)) ≡ false
    → longest text best (names_in calendar (name ∷ names)) ≡ longest text best (names_in calendar names)
other_name text calendar best name names h =
    let none = other_by (parts name.text.now) text best.0 h in
    let skip : (x : Bool) → longest text best (cond x (name ∷ names_in calendar names) (names_in calendar names))
    ≡ longest text best (names_in calendar names)
    = λ x. elim x as (λ x. longest text best (cond x (name ∷ names_in calendar names) (names_in calendar names))
    ≡ longest text best (names_in calendar names)) [ true ↦ rw (none, longest) refl | false ↦ refl ] in
    skip (holds calendar name)

-- ---- the next name of a key
-- names of other keys, which a function leaves out, are skipped
skip_by : {A B : Type 0} (key_by : A → ℕ) (f : List A → B) (k : ℕ) (names : List A)
    → ((name : A) (rest : List A) → (key_by name == k) ≡ false → f (name ∷ rest) ≡ f rest)
    → f (drop (ahead key_by k names) names) ≡ f names
skip_by key_by f k [] out = refl
skip_by key_by f k (name ∷ names) out =
    let skip : (x : Bool) → (key_by name == k) ≡ x
    → f (drop (cond x 0 (suc (ahead key_by k names))) (name ∷ names)) ≡ f (name ∷ names)
    = λ x. elim x as (λ x. (key_by name == k) ≡ x
    → f (drop (cond x 0 (suc (ahead key_by k names))) (name ∷ names)) ≡ f (name ∷ names)) [
      | true ↦ λ e. refl
      | false ↦ λ e. skip_by key_by f k names out ∙ sym (out name names e)
    ] in
    skip (key_by name == k) refl

pub drop_drop : {A : Type 0} (m n : ℕ) (xs : List A) → drop (m + n) xs ≡ drop n (drop m xs)
drop_drop zero n xs = let e : 0 + n ≡ n = omega arith in rw e refl
drop_drop (suc m) n [] = drop-nil (suc m + n) ∙ sym (drop-nil n)
drop_drop (suc m) n (x ∷ xs) = let e : suc m + n ≡ suc (m + n) = omega arith in rw e (drop_drop m n xs)

pub skip : {A B : Type 0} (key_by : A → ℕ) (f : List A → B) (k : ℕ) (names : List A) (from : ℕ)
    → ((name : A) (rest : List A) → (key_by name == k) ≡ false → f (name ∷ rest) ≡ f rest)
    → f (drop (place_from key_by k names from) names) ≡ f (drop from names)
skip key_by f k names from out =
    let both : drop (place_from key_by k names from) names ≡ drop (ahead key_by k (drop from names)) (drop from names)
    = drop_drop from (ahead key_by k (drop from names)) names in
    ap f both ∙ skip_by key_by f k (drop from names) out

has_key_by : {A : Type 0} (key_by : A → ℕ) (k : ℕ) (names : List A) (name : A)
    → slice_get names (ahead key_by k names) ≡ Some name → key_by name ≡ k
has_key_by key_by k [] name e = absurd (cc)
has_key_by {A} key_by k (first ∷ names) name e =
    let found : (x : Bool) → (key_by first == k) ≡ x
    → slice_get (first ∷ names) (cond x 0 (suc (ahead key_by k names))) ≡ Some name
    → key_by name ≡ k
    = λ x. elim x as (λ x. (key_by first == k) ≡ x
    → slice_get (first ∷ names) (cond x 0 (suc (ahead key_by k names))) ≡ Some name
    → key_by name ≡ k) [
      | true ↦ λ is e. (let same : first ≡ name = cc in let yes : key_by first ≡ k = grind (arith, nat_tests) in
          ap key_by (sym same) ∙ yes)
      | false ↦ λ is e. has_key_by key_by k names name e
    ] in
    found (key_by first == k) refl e

get_drop : {A : Type 0} (names : List A) (from n : ℕ) → slice_get names (from + n) ≡ slice_get (drop from names) n
get_drop names zero n = let e : 0 + n ≡ n = omega arith in rw e refl
get_drop [] (suc from) n = refl
get_drop (name ∷ names) (suc from) n =
    let e : suc from + n ≡ suc (from + n) = omega arith in rw e (get_drop names from n)

-- what stands at such a place has the key
pub has_key : {A : Type 0} (key_by : A → ℕ) (k : ℕ) (names : List A) (from : ℕ) (name : A)
    → slice_get names (place_from key_by k names from) ≡ Some name → key_by name ≡ k
has_key key_by k names from name e =
    has_key_by key_by k (drop from names) name (sym (get_drop names from (ahead key_by k (drop from names))) ∙ e)

pub keyed_from : {A : Type 0} (key_by : A → ℕ) (k : ℕ) (names : List A) (from place : ℕ)
    → place ≡ place_from key_by k names from → (name : A) → slice_get names place ≡ Some name → key_by name ≡ k
keyed_from key_by k names from place at name e =
    let there : slice_get names (place_from key_by k names from) ≡ Some name = rw (← at) e in
    has_key key_by k names from name there

pub at_place : {A : Type 0} (names : List A) (place : ℕ) (name : A) → slice_get names place ≡ Some name
    → drop place names ≡ name ∷ drop (place + 1) names
at_place [] place name e = absurd (cc)
at_place (first ∷ names) zero name e = let same : first ≡ name = cc in rw same refl
at_place (first ∷ names) (suc place) name e =
    let s : suc place + 1 ≡ suc (place + 1) = omega arith in rw s (at_place names place name e)

-- what a read past the end gives
abbrev pub no_name_at : Name
no_name_at = record {
  text = record { ref_ptr = (0, 0); now = [] };
  meaning = Nothing;
  calendars = record { held = [] };
}

pub some_at : {A : Type 0} (names : List A) (place : ℕ) → place < length names
    → (name : A) × (slice_get names place ≡ Some name)
some_at [] place h = absurd (omega arith)
some_at (name ∷ names) zero h = (name, refl)
some_at (name ∷ names) (suc place) h = some_at names place (omega arith)

-- ---- the longest name, by places
pub looked_up : (text : List Piece) (calendar : Calendar) (best : ℕ × Meaning) (names : List Name) (from place k : ℕ)
    → k ≡ key_of (first_text text) → place ≡ place_from key k names from
    → longest text best (names_in calendar (drop place names)) ≡ longest text best (names_in calendar (drop from names))
looked_up text calendar best names from place k is at =
    rw (at, is) (skip key (λ xs. longest text best (names_in calendar xs)) (key_of (first_text text)) names from
    (λ name rest. other_name text calendar best name rest))

pub keyed_at : (text : List Piece) (names : List Name) (from place k : ℕ) → k ≡ key_of (first_text text)
    → place ≡ place_from key k names from → (name : Name) → slice_get names place ≡ Some name
    → key name ≡ key_of (first_text text)
keyed_at text names from place k is at name e =
    let there : slice_get names (place_from key k names from) ≡ Some name = rw (← at) e in
    has_key key k names from name there ∙ is

one_first : (text : List Piece) (calendar : Calendar) (best : ℕ × Meaning) (name : Name) (names : List Name)
    → longest text best (names_in calendar (name ∷ names))
    ≡ longest text (longest text best (names_in calendar (name ∷ []))) (names_in calendar names)
one_first text calendar best name names =
    let first : (x : Bool) → longest text best (cond x (name ∷ names_in calendar names) (names_in calendar names))
    ≡ longest text (longest text best (cond x (name ∷ []) [])) (names_in calendar names)
    = λ x. elim x as (λ x. longest text best (cond x (name ∷ names_in calendar names) (names_in calendar names))
    ≡ longest text (longest text best (cond x (name ∷ []) [])) (names_in calendar names))
    [ true ↦ refl | false ↦ refl ] in
    first (holds calendar name)

pub next_same : (text : List Piece) (calendar : Calendar) (best better : ℕ × Meaning) (names : List Name) (place next : ℕ)
    (name : Name) → slice_get names place ≡ Some name → better ≡ longest text best (names_in calendar (name ∷ []))
    → key name ≡ key_of (first_text text) → next ≡ place_from key (key name) names (place + 1)
    → longest text better (names_in calendar (drop next names)) ≡ longest text best (names_in calendar (drop place names))
next_same text calendar best better names place next name there is keyed at =
    looked_up text calendar better names (place + 1) next (key name) keyed at
    ∙ ap (λ b. longest text b (names_in calendar (drop (place + 1) names))) is
    ∙ sym (one_first text calendar best name (drop (place + 1) names))
    ∙ ap (λ xs. longest text best (names_in calendar xs)) (sym (at_place names place name there))

-- ---- the index grows from the back
pub indexed_more : {A : Type 0} (key_by : A → ℕ) (names : List A) (firsts nexts : List ℕ) (from place k next : ℕ)
    (name : A) → slice_get names from ≡ Some name → k ≡ key_by name → k < 16384 → next ≡ get_or firsts k 0
    → place ≡ from + 1 → IsIndexed key_by names firsts nexts place
    → IsIndexed key_by names (set firsts k from) (set nexts from next) from
indexed_more {A} key_by names firsts nexts from place k next name there is few at before g = record {
  keys = length-set firsts k from ∙ h.keys;
  as_many = length-set nexts from next ∙ h.as_many;
  first = λ j less. first_by j less (key_by name == j) refl;
  next = λ place other least e. next_by place other least e (place == from) refl;
} where
  h : IsIndexed key_by names firsts nexts (from + 1)
  h = rw before at g

  here : drop from names ≡ name ∷ drop (from + 1) names
  here = at_place names from name there

  first_by : (j : ℕ) → j < 16384 → (x : Bool) → (key_by name == j) ≡ x
      → get_or (set firsts k from) j 0 ≡ place_from key_by j names from
  first_by j less true e =
      let same : j ≡ k = (let s : key_by name ≡ j = grind (arith, nat_tests) in omega (arith, s, is)) in
      let got : get_or (set firsts k from) j 0 ≡ from
      = rw same (get_or-set_same firsts k from 0 (omega (arith, h.keys))) in
      let none : ahead key_by j (drop from names) ≡ 0 = rw (here, e) refl in
      omega (arith, got, none)
  first_by j less false e =
      let other : j ≢ k = λ s. (let t : key_by name ≡ j = omega (arith, s, is) in
      let yes : (key_by name == j) ≡ true = grind (arith, nat_tests) in cc) in
      let one : ahead key_by j (drop from names) ≡ suc (ahead key_by j (drop (from + 1) names)) = rw (here, e) refl in
      get_or-set_other firsts k j from 0 other ∙ h.first j less ∙ omega (arith, one)

  next_by : (place : ℕ) (other : A) → from < place + 1 → slice_get names place ≡ Some other → (x : Bool)
      → (place == from) ≡ x → get_or (set nexts from next) place 0 ≡ place_from key_by (key_by other) names (place + 1)
  next_by place other least e true t =
      let same : place ≡ from = grind (arith, nat_tests) in
      let within : from < length nexts = omega (arith, slice_get_within names from name there, h.as_many) in
      let one : other ≡ name = (let got : slice_get names from ≡ Some other = rw (← same) e in cc) in
      rw (same, one)
      (get_or-set_same nexts from next 0 within ∙ at ∙ h.first k few
      ∙ ap (λ j. place_from key_by j names (from + 1)) is)
  next_by place other least e false t =
      let differ : place ≢ from = λ s. (let yes : (place == from) ≡ true = grind (arith, nat_tests) in cc) in
      get_or-set_other nexts from place next 0 differ ∙ h.next place other (omega (arith, differ)) e

pub nothing_indexed : {A : Type 0} (key_by : A → ℕ) (names : List A) (firsts nexts : List ℕ)
    → firsts ≡ replicate 16384 (length names)
    → nexts ≡ replicate (length names) 0 → IsIndexed key_by names firsts nexts (length names)
nothing_indexed key_by names firsts nexts e f = record {
  keys = ap length e ∙ length-replicate 16384 (length names);
  as_many = ap length f ∙ length-replicate (length names) 0;
  first = λ k less.
      let none : drop (length names) names ≡ [] = drop-length names in
      rw (e, none) (get_or-replicate 16384 k (length names) 0 less ∙ omega arith);
  next = λ place name least there. absurd (omega (arith, slice_get_within names place name there));
}
