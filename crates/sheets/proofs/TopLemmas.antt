-- What stands in a sheet down to its names.
use Rattle.std.proofs.Common.{◌≡◌, ◌≤◌, ◌<◌, ◌∙◌, ◌++◌, ◌+◌, ◌-◌, ℕ, List, [], ◌∷◌, ap, append-nil, append_assoc, arith, drop}
use Rattle.std.proofs.Common.{get_or, length, map, refl, sym, take}
use Rattle.sheets.proofs.Common.{Fields, top_records, SheetChoice}
use Rattle.std.proofs.lemmas.List.{take-append-drop, take-take, take_more}
use Rattle.sheets.specs.Sheets.{filled}
use Rattle.sheets.proofs.RowLemmas.{same_head}

-- no field is added up to none
none_filled : (fields : Fields) → filled 0 fields ≡ fields
none_filled fields =
    let none : 0 - length fields ≡ 0 = omega arith in
    rw none (append-nil fields)

-- one record more
pub top_line : (all left : List Fields) (k : ℕ) (lines : Fields) → lines ≡ [] → k < length all → left ≡ drop k all
    → take (k + 1) all ≡ take k all ++ (filled 0 (get_or left 0 []) ++ lines) ∷ []
top_line all left k lines none low is =
    take_more all k [] low ∙ ap (λ (f : Fields). take k all ++ f ∷ [])
    (sym (ap (λ (xs : Fields). filled 0 (get_or left 0 []) ++ xs) none ∙ append-nil (filled 0 (get_or left 0 []))
    ∙ none_filled (get_or left 0 []) ∙ ap (λ (xs : List Fields). get_or xs 0 []) is ∙ same_head k all []))

-- the names behind those above them
pub top_head : (choice : SheetChoice) (width k : ℕ) (all left : List Fields) → k ≡ choice.above → left ≡ drop k all
    → top_records choice width all
    ≡ take k all ++ (filled width (get_or left 0 []) ++ map (λ name. name.now) choice.headings.now) ∷ []
top_head choice width k all left e is = rw (is, e) refl

-- what is not made of them
abbrev pub rest_of_top : SheetChoice → ℕ → ℕ → List Fields → List Fields
rest_of_top choice width k all =
    drop k (take choice.above all)
    ++ (filled width (get_or (drop choice.above all) 0 []) ++ map (λ name. name.now) choice.headings.now) ∷ []

pub top_cut : (choice : SheetChoice) (width k : ℕ) (all : List Fields) → k ≤ choice.above
    → top_records choice width all ≡ take k all ++ rest_of_top choice width k all
top_cut choice width k all low =
    let head = filled width (get_or (drop choice.above all) 0 []) ++ map (λ name. name.now) choice.headings.now in
    ap (λ (xs : List Fields). xs ++ head ∷ [])
    (sym (ap (λ (xs : List Fields). xs ++ drop k (take choice.above all)) (sym (take-take k choice.above all low))
    ∙ take-append-drop k (take choice.above all)))
    ∙ append_assoc (take k all) (drop k (take choice.above all)) (head ∷ [])
