-- Names and their targets, one more at a time.
use Rattle.std.proofs.Common.{◌≡◌, ◌≢◌, ◌∙◌, ◌<◌, ℕ, List, [], ◌∷◌, ◌++◌, length, get_or, take, drop, suc, sym, ap, ap₂}
use Rattle.std.proofs.Common.{arith, lit<, take-append-drop, Contains, true, rules, refl, subst, inl, inr, Option, Some}
use Rattle.std.proofs.Common.{None, length-append, Result, Ok, Err, IfSome, slice_get}
use Rattle.std.proofs.lemmas.List.{get_or_default, get_or_append_left}
use Rattle.std.proofs.lemmas.List.Quantifiers.{all_pairs_push}
use Rattle.std.proofs.lemmas.Option.{slice_get-get_or, slice_get_read}
use Rattle.std.proofs.Math.Seq.{drop-cons}
use Rattle.std.specs.Str.Iter.{split_has_more, split_pattern, split_steps, split_text}
use Rattle.std.specs.Str.Pattern.{FindsChar}
use Rattle.std.specs.declared.str.Split.{Split}
use Rattle.std.proofs.lemmas.Iterator.{YieldsList}
use Rattle.std.proofs.lemmas.Iterator.Consumers.{YieldsList-at}
use Rattle.std.proofs.lemmas.Iterator.Splits.{YieldsList-from_str_split}
use Rattle.date_texts.specs.Calendars.{target_name}
use Rattle.date_texts.specs.Names.{IsNamed}
use Rattle.date_texts.specs.declared.target.Target.{Target}
use Rattle.register_records.specs.SetupRules.{NamesTwice}
use Rattle.date_texts.specs.Laws.{OneTarget}
use Rattle.programs.proofs.FileLemmas.{meet}
use Rattle.programs.specs.Faults.{Fault}
use Rattle.register_arguments.specs.OptionValues.{AreNamesOf, StandsBehind, names_in, no_target, AsksForTargets}
use Rattle.register_arguments.specs.OptionValues.{IsFirstTargetTwice, IsFirstUnknown, IsListFault}
use Rattle.register_arguments.specs.private.OptionValues.{ListMeans}
use Rattle.register_arguments.specs.private.OptionValues.{ListMeansJust}

-- one more name and its target
pub named_more : (names : List (List ℕ)) (targets : List Target) (name : List ℕ) (target : Target)
    → AreNamesOf names targets → IsNamed name (target_name target)
    → AreNamesOf (names ++ name ∷ []) (targets ++ target ∷ [])
named_more [] [] name target named is = (is, tt)
named_more (n ∷ ns) (u ∷ us) name target named is = (named.0, named_more ns us name target named.1 is)
named_more names targets name target named is = absurd named

-- the name at place i of a list stands behind those before it
pub stands_at : (list : List ℕ) (earlier : List Target) (before : List (List ℕ)) (i : ℕ) (name : List ℕ)
    → list ≢ no_target
    → (i < length (names_in list)) × (name ≡ get_or (names_in list) i name) → before ≡ take i (names_in list)
    → AreNamesOf before earlier → (¬ NamesTwice earlier)
    → StandsBehind list earlier name
stands_at list earlier before i name some place front named once = record {
  names_some = some;
  before = before;
  after = drop (suc i) (names_in list);
  cut = sym (take-append-drop i (names_in list)) ∙ ap (λ rest. take i (names_in list) ++ rest)
      (drop-cons (names_in list) i name place.0)
      ∙ ap₂ (λ (xs : List (List ℕ)) (x : List ℕ). xs ++ x ∷ drop (suc i) (names_in list)) (sym front) (sym place.1);
  named = named;
  once = once;
}

-- the split at commas gives the names of the list
pub names_of_split : (list : List ℕ) (s t : Split ℕ) → t ≡ s → split_text s ≡ list → split_has_more s ≡ true
    → split_pattern s ≡ 44
    → YieldsList (split_steps FindsChar (λ a b. b ≡ a)) (λ name. name.now) t (names_in list)
names_of_split list s t same text more pattern = YieldsList-at same
    (YieldsList-from_str_split 44 list (lit< tt) text more pattern)

-- none of no targets is named twice
pub never_twice : ¬ NamesTwice []
never_twice twice = absurd (omega (arith, twice.3))

-- one more target that is not among them
pub once_more : (targets : List Target) (target : Target) → (¬ NamesTwice targets) → (¬ Contains targets target)
    → ¬ NamesTwice (targets ++ target ∷ [])
once_more targets target once new (i, j, lt, high, same) =
    let all = targets ++ target ∷ [] in
    let low : i < length all = omega arith in
    all_pairs_push (λ x y. x ≢ y) targets target
    (λ k l d lt high is. let low : k < length targets = omega arith in
    once (k, l, lt, high, cc (slice_get-get_or targets k d low, slice_get-get_or targets l d high, is)))
    (λ k d low is. new (k, low, cc (get_or_default targets k d target low, is)))
    i j target lt high (cc (slice_get-get_or all i target low, slice_get-get_or all j target high, same))

-- ---- a list means one thing at most

get_end : (earlier : List Target) (target : Target) (rest : List Target)
    → slice_get (earlier ++ target ∷ rest) (length earlier) ≡ Some target
get_end [] target rest = refl
get_end (u ∷ us) target rest = get_end us target rest

-- a target behind others that contain it is named twice
twice_in : (earlier : List Target) (target : Target) (rest : List Target) → Contains earlier target
    → NamesTwice (earlier ++ target ∷ rest)
twice_in earlier target rest (i, low, is) = (
  i,
  length earlier,
  low,
  omega (arith, length-append earlier (target ∷ rest)),
  slice_get_read (earlier ++ target ∷ rest) _ i target refl (omega (arith, length-append earlier (target ∷ rest)))
      (sym (get_or_append_left earlier (target ∷ rest) target i low ∙ is)) ∙ sym (get_end earlier target rest),
)

module _ (one : OneTarget) where
  -- names have one list of targets at most
  same_targets : (names : List (List ℕ)) (targets others : List Target) → AreNamesOf names targets
      → AreNamesOf names others → targets ≡ others
  same_targets [] [] [] named other = refl
  same_targets (n ∷ ns) (t ∷ ts) (u ∷ us) named other = grind (arith, same_targets ns ts us named.1 other.1)
  same_targets names targets others named other = absurd (search rules)

  -- where a name follows these names, the targets are those that these name, and then one with that name
  past : (before : List (List ℕ)) (name : List ℕ) (after : List (List ℕ)) (earlier targets : List Target)
      → AreNamesOf (before ++ name ∷ after) targets → AreNamesOf before earlier
      → (target : Target) × (later : List Target) × (targets ≡ earlier ++ target ∷ later)
      × IsNamed name (target_name target)
  past [] name after [] (t ∷ ts) named front = (t, ts, refl, named.0)
  past (b ∷ bs) name after (u ∷ us) (t ∷ ts) named front = grind (arith, past bs name after us ts named.1 front.1)
  past before name after earlier targets named front = absurd (search rules)

-- the name is the first at fault: targets whose names go on with it have one name twice
abbrev IsAtFault : List ℕ → List ℕ → Type 0
IsAtFault list name =
    (earlier : List Target) × (stands : StandsBehind list earlier name)
    × ((after : List (List ℕ)) (targets : List Target) → AreNamesOf (stands.before ++ name ∷ after) targets
    → NamesTwice targets)

module _ (one : OneTarget) (list : List ℕ) where
  unknown_at : (name : List ℕ) → IsFirstUnknown list name → IsAtFault list name
  unknown_at name (earlier, x, unknown) = (
    earlier,
    x,
    λ after targets named.
        let (target, later, cut, is) = past one x.before name after earlier targets named x.named in
        absurd (unknown target is),
  )

  twice_at : (target : Target) (x : IsFirstTargetTwice list target) → IsAtFault list x.1
  twice_at target (earlier, name, x, is, among) = (
    earlier,
    x,
    λ after targets named.
        let (other, later, cut, own) = past one x.before name after earlier targets named x.named in
        rw (cut, one name other target own is) (twice_in earlier target later among),
  )

  -- one name at most is at fault
  same_name : (name other : List ℕ) → IsAtFault list name → IsAtFault list other → name ≡ other
  same_name name other (earlier, x, bars) (before, y, stops) = search (rules, meet)

  -- and none in a list that asks for targets
  none_at : (targets : List Target) (name : List ℕ) → AsksForTargets list targets → IsAtFault list name → ⊥
  none_at targets name asks at = grind arith

  pub asks_no_fault : (targets : List Target) (fault : Fault) → AsksForTargets list targets → IsListFault list fault → ⊥
  asks_no_fault targets fault asks (inl unknown) = none_at targets unknown.0 asks (unknown_at unknown.0 unknown.2)
  asks_no_fault targets fault asks (inr twice) = none_at targets twice.2.1 asks (twice_at twice.0 twice.2)

  -- it asks for one list of targets
  pub asks_one : (targets others : List Target) → AsksForTargets list targets → AsksForTargets list others
      → targets ≡ others
  asks_one targets others asks same = grind (arith, same_targets)

  unknown_and_twice : (name : List ℕ) (target : Target) → IsFirstUnknown list name → IsFirstTargetTwice list target → ⊥
  unknown_and_twice name target x y = x.2 target (subst (λ n. IsNamed n (target_name target))
      (sym (same_name name y.1 (unknown_at name x) (twice_at target y))) y.3)

  -- it has one fault
  pub one_fault : (fault other : Fault) → IsListFault list fault → IsListFault list other → fault ≡ other
  one_fault fault other (inl a) (inl b) = cc (a.1, same_name a.0 b.0 (unknown_at a.0 a.2) (unknown_at b.0 b.2), b.1)
  one_fault fault other (inl a) (inr b) = absurd (unknown_and_twice a.0 b.0 a.2 b.2)
  one_fault fault other (inr a) (inl b) = absurd (unknown_and_twice b.0 a.0 b.2 a.2)
  one_fault fault other (inr a) (inr b) =
      grind (arith, same_name a.2.1 b.2.1 (twice_at a.0 a.2) (twice_at b.0 b.2), a.1, b.1)

  one_meaning : (meaning other : Result (List Target) Fault) → ListMeans list meaning → ListMeans list other
      → other ≡ meaning
  one_meaning (Ok targets) (Ok others) x y = ap (λ (ts : List Target). Ok ts) (asks_one others targets y x)
  one_meaning (Ok targets) (Err fault) x y = absurd (asks_no_fault targets fault x y)
  one_meaning (Err fault) (Ok targets) x y = absurd (asks_no_fault targets fault y x)
  one_meaning (Err fault) (Err other) x y = ap (λ (f : Fault). Err f) (one_fault other fault y x)

  -- what the list means is all that it means
  pub means_just : (meaning : Result (List Target) Fault) → ListMeans list meaning → ListMeansJust list meaning
  means_just meaning means other = (λ e. subst (ListMeans list) (sym e) means, λ m. one_meaning meaning other means m)

-- a fault that the list means is a fault of the list
pub found_in_list : (list : List ℕ) (found : Option Fault) → IfSome found (λ fault. ListMeansJust list (Err fault))
    → IfSome found (IsListFault list)
found_in_list list None just = tt
found_in_list list (Some fault) just = (just (Err fault)).0 refl
