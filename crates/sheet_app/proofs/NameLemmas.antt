-- Names of outputs, told apart from inputs and from one another.
use Rattle.std.proofs.Common.{◌≡◌, ◌++◌, ◌∷◌, ◌+◌, ◌<◌, ◌≤◌, [], ℕ, List, All, ap, ap₂, get_or, length, map, refl}
use Rattle.std.proofs.Common.{subst, append_assoc, Global, rules, String, sym, take, AllPairs, Err, IfOk, Ok, OnOk}
use Rattle.std.proofs.Common.{Result, flat_map}
use Rattle.sheet_app.proofs.Common.{string_bytes, place_name, names_ending}
use Rattle.std.proofs.lemmas.List.{flat_map_more, map-append, take_all, take_more}
use Rattle.std.proofs.lemmas.List.Elements.{All-append, All-push}
use Rattle.std.proofs.lemmas.List.Quantifiers.{all_pairs_push}
use Rattle.std.proofs.lemmas.Simd.{map-map}
use Rattle.programs.specs.Openings.{IsNewlyMade}
use Rattle.programs.specs.declared.places.Place.{Place}
use Rattle.register_records.specs.declared.outputs.Output as outputs

-- what holds of the values of the items so far holds of one more, and in the end of all
pub each_value : {X Y : Type 0} (P : Y → Type 0) (f : X → Y) (xs : List X) (i : ℕ) (d : X) → i < length xs
    → All P (map f (take i xs)) → P (f (get_or xs i d)) → All P (map f (take (i + 1) xs))
each_value P f xs i d within each one =
    rw (take_more xs i d within, map-append) (All-push P (map f (take i xs)) (f (get_or xs i d)) each one)

pub all_values : {X Y : Type 0} (P : Y → Type 0) (f : X → Y) (xs : List X) (i : ℕ) → length xs ≤ i
    → All P (map f (take i xs)) → All P (map f xs)
all_values P f xs i end each = subst (λ (ys : List _). All P (map f ys)) (take_all i xs end) each

-- and so of the lists that are made of the items
pub each_list : {X Y : Type 0} (P : Y → Type 0) (f : X → List Y) (xs : List X) (i : ℕ) (d : X) → i < length xs
    → All P (flat_map f (take i xs)) → All P (f (get_or xs i d)) → All P (flat_map f (take (i + 1) xs))
each_list P f xs i d within each one =
    rw (take_more xs i d within) (subst (All P) (flat_map_more f [] (take i xs) (get_or xs i d))
    (All-append P (flat_map f (take i xs)) (f (get_or xs i d)) each one))

pub all_lists : {X Y : Type 0} (P : Y → Type 0) (f : X → List Y) (xs : List X) (i : ℕ) → length xs ≤ i
    → All P (flat_map f (take i xs)) → All P (flat_map f xs)
all_lists P f xs i end each = subst (λ (ys : List _). All P (flat_map f ys)) (take_all i xs end) each

-- names by things that have endings are names by these endings
same_endings : {X : Type 0} (file : List ℕ) (text : X → List ℕ) (others : List X)
    → map (λ ending. file ++ text ending) others ≡ map (λ ending. file ++ ending) (map text others)
same_endings file text others = sym (map-map (λ (ending : List ℕ). file ++ ending) text others)

-- the names of the places of a sheet, its own and those of its registers
pub all_placed : (before now new : List (List ℕ)) (file own : List ℕ) (endings : List (String Global)) → before ≡ []
    → now ≡ before ++ (file ++ own) ∷ [] → new ≡ now ++ map (λ ending. file ++ string_bytes ending) endings
    → new ≡ names_ending own (λ ending. ending) (map string_bytes endings) file
all_placed before now new file own endings none one others =
    rw (others, one, none) (ap (λ (rest : List (List ℕ)). (file ++ own) ∷ rest) (same_endings file string_bytes endings))

pub same_names : {X Y : Type 0} (name : X → List ℕ) (own : List ℕ) (text : Y → List ℕ) (others : List Y) (xs : List X)
    → flat_map (λ x. names_ending own text others (name x)) xs
    ≡ flat_map (names_ending own (λ ending. ending) (map text others)) (map name xs)
same_names name own text others [] = refl
same_names name own text others (x ∷ xs) =
    ap₂ (λ (a b : List (List ℕ)). ((name x ++ own) ∷ a) ++ b) (same_endings (name x) text others)
    (same_names name own text others xs)

-- one name more, which is apart from those before
pub apart_more : (Apart : List ℕ → List ℕ → Type 0) (names new : List (List ℕ)) (name : List ℕ)
    → new ≡ names ++ name ∷ [] → All (λ other. Apart other name) names → AllPairs Apart names → AllPairs Apart new
apart_more Apart names new name n each pairs = subst (AllPairs Apart) (sym n) (all_pairs_push Apart names name pairs each)

-- an output that was made by this name
pub made_by : {W : Type 0} (o : outputs.Ghosts W) (IsMade : List ℕ → ℕ → W → Type 0) (name same : List ℕ) (mark : ℕ)
    (output : W) → name ≡ same → IsNewlyMade o IsMade name mark output → (by : ℕ) × IsNewlyMade o IsMade same by output
made_by o IsMade name same mark output e made =
    (mark, subst (λ (n : List ℕ). IsNewlyMade o IsMade n mark output) e made)

-- the name of a place that was put behind others
pub noted_last : (places new : List Place) (one : Place) (name : List ℕ) → new ≡ places ++ one ∷ []
    → place_name one ≡ name → map place_name new ≡ map place_name places ++ name ∷ []
noted_last places new one name n is = rw (n, map-append, is) refl

-- one name more, of the next item
pub noted_more : {X : Type 0} (f : X → List ℕ) (xs : List X) (i : ℕ) (d : X) (before now new : List (List ℕ))
    → i < length xs → now ≡ before ++ map f (take i xs) → new ≡ now ++ f (get_or xs i d) ∷ []
    → new ≡ before ++ map f (take (i + 1) xs)
noted_more f xs i d before now new within s n = rw (n, s, take_more xs i d within, map-append, append_assoc) refl

-- the names of one sheet more, of those that are left
pub listed_more : {Y : Type 0} (h : Y → List (List ℕ)) (all names new : List (List ℕ)) (left rest : List Y) (item : Y)
    → new ≡ names ++ h item → left ≡ item ∷ rest → names ++ flat_map h left ≡ all → new ++ flat_map h rest ≡ all
listed_more h all names new left rest item n l e = rw (n, append_assoc) (rw l at e)

-- what follows from what is returned holds where something is
pub on_ok : {A E : Type 0} (result : Result A E) (P : A → Type 0) (Q : Type 0) → IfOk result P → ((a : A) → P a → Q)
    → OnOk result Q
on_ok (Ok a) P Q holds step = step a holds
on_ok (Err e) P Q holds step = search rules
