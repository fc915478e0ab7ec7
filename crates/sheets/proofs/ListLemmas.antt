-- Lists that are taken from the front.
use Rattle.std.proofs.Common.{◌≡◌, ◌≤◌, ◌+◌, ◌∙◌, ℕ, List, [], ◌∷◌, ◌++◌, take, drop, length, sym, ap}
use Rattle.std.proofs.Common.{arith, get_or, ◌<◌, All, Bool, true, false, if◌then◌else◌, subst}
use Rattle.std.proofs.lemmas.List.{drop_all, drop_more, length-drop, take_all, take_more}
use Rattle.std.proofs.lemmas.List.Elements.{All-push}

-- one more
pub one_taken : {T : Type 0} (all : List T) (k : ℕ) (x : T) (rest : List T) → drop k all ≡ x ∷ rest
    → (take (k + 1) all ≡ take k all ++ x ∷ []) × (drop (k + 1) all ≡ rest)
one_taken all k x rest e =
    let lt : k < length all = omega (arith, length-drop k all, ap length e) in
    grind (arith, take_more all k x lt, drop_more all k x lt)

-- none is left
pub all_taken : {T : Type 0} (all : List T) (k count : ℕ) → drop k all ≡ [] → k ≤ count
    → (take count all ≡ take k all) × (drop count all ≡ [])
all_taken all k count e low =
    let short : length all ≤ k = omega (arith, length-drop k all, ap length e) in
    (take_all count all (omega arith) ∙ sym (take_all k all short), drop_all count all (omega arith))

-- what stands below so many
pub stands_below : {T : Type 0} (all : List T) (k above : ℕ) (x other : T) (rest : List T) → k ≡ above
    → drop k all ≡ x ∷ rest → (above < length all) × (drop (above + 1) all ≡ rest) × (get_or all above other ≡ x)
stands_below all k above x other rest e h =
    let lt : k < length all = omega (arith, length-drop k all, ap length h) in
    grind (arith, drop_more all k other lt)

pub none_below : {T : Type 0} (all : List T) (k above : ℕ) → k ≤ above → drop k all ≡ [] → length all ≤ above
none_below all k above low e = omega (arith, length-drop k all, ap length e)

-- what holds of each item of a list holds of each where one more was pushed, or none
pub each_pushed : {T : Type 0} (P : T → Type 0) (b : Bool) (xs new : List T) (x : T)
    → new ≡ (if b then xs ++ x ∷ [] else xs) → All P xs → P x → All P new
each_pushed P true xs new x e each one = subst (All P) (sym e) (All-push P xs x each one)
each_pushed P false xs new x e each one = subst (All P) (sym e) each
