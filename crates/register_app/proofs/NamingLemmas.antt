-- Tables that have got their names so far, and those that have not.
use Rattle.std.proofs.Common.{◌≡◌, ◌≤◌, ◌<◌, ◌+◌, ◌++◌, ◌∷◌, ◌⊎◌, ◌↔◌, [], ℕ, All, ap, append-nil, arith, Bool, false}
use Rattle.std.proofs.Common.{get_or, inl, inr, length, length-append, List, refl, Some, slice_get, subst, true}
use Rattle.std.specs.Io.KnownBytes.{Appends}
use Rattle.std.specs.List.{AllZip, Contains, flat_map}
use Rattle.std.proofs.lemmas.List.Concat.{flat_map-append}
use Rattle.std.proofs.lemmas.List.Elements.{All-push, AllZip-push, Contains-append_left, Contains-get_or, Contains-push}
use Rattle.std.proofs.lemmas.Option.{slice_get-get_or, slice_get_within}
use Rattle.register_records.specs.declared.outputs.Output as outputs
use Rattle.programs.proofs.AppendsLemmas.{appends_both, appends_none}
use Rattle.programs.proofs.MatchLemmas.{HoldBefore, all_before, none_before, one_before}
use Rattle.register_app.specs.Namings.{AreNamed, IsUnnamedLine}

-- the same as of all, of the names before place n
pub record AreNamedSoFar {E : Type 0} (e : outputs.Ghosts E) (IsNamed : List ℕ → Type 0) (names : List (List ℕ)) (n : ℕ)
    (all : Bool) (before after : E) : Type 0 where
  pub unnamed : List (List ℕ)
  pub lines : List (List ℕ)
  pub named : HoldBefore (λ name. Contains unnamed name ⊎ IsNamed name) names n
  pub of_these : All (Contains names) unnamed
  pub none : (all ≡ true) ↔ (unnamed ≡ [])
  pub told : AllZip IsUnnamedLine unnamed lines
  pub gained : e.has_failed after ≡ false
      → (e.has_failed before ≡ false) × Appends (e.contents before) (e.contents after) (flat_map (λ line. line) lines)
  pub quiet : unnamed ≡ [] → after ≡ before

-- what has one more item has some
some_more : {X : Type 0} (xs : List X) (x : X) → xs ++ x ∷ [] ≡ [] → ⊥
some_more xs x none = omega (arith, ap length none, length-append xs (x ∷ []))

-- what stands at a place is contained
contained : {X : Type 0} (xs : List X) (n : ℕ) (x : X) → slice_get xs n ≡ Some x → Contains xs x
contained xs n x at =
    let within : n < length xs = slice_get_within xs n x at in
    let is : get_or xs n x ≡ x = (let read = slice_get-get_or xs n x within in cc) in
    subst (Contains xs) is (Contains-get_or xs n x within)

pub none_yet : {E : Type 0} (e : outputs.Ghosts E) (IsNamed : List ℕ → Type 0) (names : List (List ℕ)) (before : E)
    → AreNamedSoFar e IsNamed names 0 true before before
none_yet e IsNamed names before = record {
  unnamed = [];
  lines = [];
  named = none_before (λ name. Contains [] name ⊎ IsNamed name) names;
  of_these = λ k d below. absurd (omega (arith, below));
  none = (λ all. refl, λ none. refl);
  told = tt;
  gained = λ good. (good, appends_none (e.contents before));
  quiet = λ none. refl;
}

-- one more has got its name
pub one_named : {E : Type 0} (e : outputs.Ghosts E) (IsNamed : List ℕ → Type 0) (names : List (List ℕ)) (n : ℕ)
    (name : List ℕ) (all : Bool) (before after : E) → AreNamedSoFar e IsNamed names n all before after
    → slice_get names n ≡ Some name → IsNamed name → AreNamedSoFar e IsNamed names (n + 1) all before after
one_named e IsNamed names n name all before after so_far at is = record {
  unnamed = so_far.unnamed;
  lines = so_far.lines;
  named = one_before (λ name. Contains so_far.unnamed name ⊎ IsNamed name) names n name so_far.named at (inr is);
  of_these = so_far.of_these;
  none = so_far.none;
  told = so_far.told;
  gained = so_far.gained;
  quiet = so_far.quiet;
}

-- one more has not, and this line was said of it
pub one_unnamed : {E : Type 0} (e : outputs.Ghosts E) (IsNamed : List ℕ → Type 0) (names : List (List ℕ)) (n : ℕ)
    (name line : List ℕ) (all : Bool) (before between after : E) → AreNamedSoFar e IsNamed names n all before between
    → slice_get names n ≡ Some name → IsUnnamedLine name line
    → (e.has_failed after ≡ false
    → (e.has_failed between ≡ false) × Appends (e.contents between) (e.contents after) line)
    → AreNamedSoFar e IsNamed names (n + 1) false before after
one_unnamed e IsNamed names n name line all before between after so_far at is said = record {
  unnamed = so_far.unnamed ++ name ∷ [];
  lines = so_far.lines ++ line ∷ [];
  named = one_before (λ other. Contains (so_far.unnamed ++ name ∷ []) other ⊎ IsNamed other) names n name
      (λ k other below there. elim (so_far.named k other below there) [
        | inl without ↦ inl (Contains-append_left so_far.unnamed (name ∷ []) other without)
        | inr has ↦ inr has
      ]) at (inl (Contains-push so_far.unnamed name));
  of_these = All-push (Contains names) so_far.unnamed name so_far.of_these (contained names n name at);
  none = (λ no. absurd (cc), λ none. absurd (some_more so_far.unnamed name none));
  told = AllZip-push IsUnnamedLine so_far.unnamed so_far.lines name line so_far.told is;
  gained = λ good.
      let more = said good in
      let old = so_far.gained more.0 in (
        old.0,
        rw (flat_map-append (λ (l : List ℕ). l) so_far.lines (line ∷ []), append-nil line)
            (appends_both (e.contents before) (e.contents between) (e.contents after) _ _ old.1 more.1),
      );
  quiet = λ none. absurd (some_more so_far.unnamed name none);
}

pub all_so_far : {E : Type 0} (e : outputs.Ghosts E) (IsNamed : List ℕ → Type 0) (names : List (List ℕ)) (n : ℕ)
    (all : Bool) (before after : E) → AreNamedSoFar e IsNamed names n all before after → length names ≤ n
    → AreNamed e IsNamed names all before after
all_so_far e IsNamed names n all before after so_far end = record {
  unnamed = so_far.unnamed;
  lines = so_far.lines;
  named = all_before (λ name. Contains so_far.unnamed name ⊎ IsNamed name) names n so_far.named end;
  of_these = so_far.of_these;
  none = so_far.none;
  told = so_far.told;
  gained = so_far.gained;
  quiet = so_far.quiet;
}
