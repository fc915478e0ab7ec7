-- The search by name finds the target that a text names, and few targets have names that differ.
use Rattle.std.proofs.Common.{◌≡◌, ◌↔◌, ℕ, List, [], ◌∷◌, Bool, true, IsTrue, Option, Some, None, refl, sym, ap, ◌∙◌}
use Rattle.std.proofs.Common.{arith, find, ◌≢◌, ◌<◌, inl, inr, length, map, get_or, false, eqb, slice_get}
use Rattle.std.proofs.lemmas.Map.Keys.{IsDistinct-from_apart}
use Rattle.std.proofs.lemmas.Map.Steps.{length-le_from_distinct_below}
use Rattle.std.proofs.lemmas.Option.{slice_get-get_or}
use Rattle.date_texts.specs.declared.target.Target.TheVariants.{Date, Haab}
use Rattle.date_texts.specs.declared.target.TheConstants.{MAX_TARGETS}
use Rattle.std.proofs.lemmas.Slice.Eq.{bytes_eq-Decides}
use Rattle.date_texts.proofs.Common.{all_targets, bytes_eq, Calendar, calendar_name, eqb_tells, FewTargets, find_at}
use Rattle.date_texts.proofs.Common.{get_or-map, Gregorian, IsNamed, length-map, list_any, nat_tests, position_or_len}
use Rattle.date_texts.proofs.Common.{same_from_decides, str_to_ascii_lowercase, Target, target_name, trimmed}
use Rattle.date_texts.proofs.ReadingLemmas.{some_inside}

-- the target with this name
abbrev pub has_name : List ℕ → Target → Bool
has_name name t = bytes_eq (target_name t) name

abbrev pub target_by_name : List ℕ → Option Target
target_by_name name = find (has_name name) all_targets

pub finds_own : (t : Target) → target_by_name (target_name t) ≡ Some t
finds_own (Date Gregorian) = refl
finds_own t = refl

found_passes : {X : Type 0} (test : X → Bool) (y : X) (xs : List X) → find test xs ≡ Some y → test y ≡ true
found_passes test y [] e = absurd (cc)
found_passes test y (x ∷ xs) e = grind (arith, nat_tests, some_inside, found_passes test y xs)

pub target_found : (name : List ℕ) (t : Target) → (target_by_name name ≡ Some t) ↔ (name ≡ target_name t)
target_found name t = (
  λ e. sym ((bytes_eq-Decides (target_name t) name).0 (found_passes (has_name name) t all_targets e)),
  λ e. ap target_by_name e ∙ finds_own t,
)

small_letters : (t : Target) → str_to_ascii_lowercase (target_name t) ≡ target_name t
small_letters (Date Gregorian) = refl
small_letters t = refl

-- what the comparison of a name returns
pub compared : (b : Bool) (t : Target) (name : List ℕ)
    → (IsTrue b ↔ (str_to_ascii_lowercase (target_name t) ≡ str_to_ascii_lowercase name))
    → b ≡ has_name (str_to_ascii_lowercase name) t
compared b t name h =
    same_from_decides b _ (rw (small_letters t) at h) (bytes_eq-Decides (target_name t) (str_to_ascii_lowercase name))

pub named_by_search : (o : Option Target) (name text : List ℕ) (t : Target)
    → o ≡ target_by_name (str_to_ascii_lowercase name) → name ≡ trimmed text
    → (o ≡ Some t) ↔ IsNamed text (target_name t)
named_by_search o name text t e f = rw (e, f) (target_found (str_to_ascii_lowercase (trimmed text)) t)

-- a name in small letters is found as it stands
pub named_as_spelled : (u : Target) (name text : List ℕ) (t : Target) → name ≡ target_name u → name ≡ trimmed text
    → (Some u ≡ Some t) ↔ IsNamed text (target_name t)
named_as_spelled u name text t e f =
    let found = ap str_to_ascii_lowercase e ∙ small_letters u in
    named_by_search (Some u) name text t (sym (ap target_by_name found ∙ finds_own u)) f

-- a calendar is named as its target is
abbrev pub calendar_in : Option Target → Option Calendar
calendar_in (Some (Date c)) = Some c
calendar_in found = None

pub calendar_is_named : (o : Option Target) (r : Option Calendar) (text : List ℕ)
    → ((t : Target) → (o ≡ Some t) ↔ IsNamed text (target_name t)) → r ≡ calendar_in o → (e : Calendar)
    → (r ≡ Some e) ↔ IsNamed text (calendar_name e)
calendar_is_named (Some (Date c)) r text h same e =
    (λ q. (h (Date e)).0 (cc), λ q. let is = (h (Date e)).1 q in cc)
calendar_is_named o r text h same e = (λ q. absurd (cc), λ q. let is = (h (Date e)).1 q in absurd (cc))

-- ---- how many targets there are at most, where none is named twice
-- a target by its rank among all targets
rank_of : Target → ℕ
rank_of t = position_or_len (has_name (target_name t)) all_targets

there : (t : Target) → slice_get all_targets (rank_of t) ≡ Some t
unfolding rank_of
there t = sym (find_at (has_name (target_name t)) all_targets) ∙ finds_own t

same_rank : (t u : Target) → rank_of t ≡ rank_of u → t ≡ u
same_rank t u e = some_inside (sym (there t) ∙ ap (λ k. slice_get all_targets k) e ∙ there u)

rank_below : (t : Target) → rank_of t < MAX_TARGETS
unfolding rank_of
rank_below (Date Gregorian) = omega arith
rank_below t = omega arith

below : (ts : List Target) (q : ℕ) → list_any (eqb q) (map rank_of ts) ≡ true → q < MAX_TARGETS
below [] q e = cc
below (t ∷ ts) q e = grind (arith, eqb_tells q (rank_of t), rank_below t, below ts q)

apart : (ts : List Target) → ((i j : ℕ) → i < j → j < length ts → slice_get ts i ≢ slice_get ts j)
    → (i j d : ℕ) → i < j → j < length (map rank_of ts) → eqb (get_or (map rank_of ts) i d)
    (get_or (map rank_of ts) j d) ≡ false
apart ts h i j d lt le =
    let long = length-map ts rank_of in
    let near : j < length ts = omega (arith, long, le) in
    let first : i < length ts = omega arith in
    let there = get_or-map rank_of ts i Haab d first in
    let here = get_or-map rank_of ts j Haab d near in
    rw (there, here) (elim (eqb_tells (rank_of (get_or ts i Haab)) (rank_of (get_or ts j Haab))) [
      | inl same ↦ absurd (h i j lt near
          (slice_get-get_or ts i Haab first
          ∙ (ap Some (same_rank _ _ same.1) ∙ sym (slice_get-get_or ts j Haab near))))
      | inr other ↦ other.0
    ])

-- a list that names no target twice is no longer than the list of all targets
pub few : FewTargets
few ts h =
    let long = length-map ts rank_of in
    let short = length-le_from_distinct_below (map rank_of ts) MAX_TARGETS
    (IsDistinct-from_apart eqb (map rank_of ts) (apart ts h)) (below ts) in
    omega (arith, long, short)
