-- The rows of records, one record after the other.
use Rattle.std.proofs.Common.{◌≡◌, ◌<◌, ◌∙◌, ◌++◌, ◌+◌, ℕ, List, [], ◌∷◌, ap, append_assoc}
use Rattle.std.proofs.Common.{arith, drop, get_or, length, map, option_map, refl, subst, sym, take, None, Some, slice_get}
use Rattle.sheets.proofs.Common.{AllZip, flat_map, Fields, Dated, below, top_records, widest, DateColumn, SheetChoice}
use Rattle.sheets.specs.declared.choices.CalendarField.TheVariants.{Column}
use Rattle.std.proofs.lemmas.List.{flat_map_more, get_or-drop, get_or-map, length-map, take_more}
use Rattle.std.proofs.lemmas.Option.{slice_get-map, slice_get_read}
use Rattle.std.proofs.lemmas.Slice.Zip.{all_zipped_more}
use Rattle.sheets.specs.Converted.{body_record, body_records, head_record, sheet_records}

-- some column of dates, for the places that are behind all
abbrev pub no_column : DateColumn
no_column = record { date = 0; calendar = Column (record { place = 0; otherwise = None }) }

-- records without rows add nothing
pub body_front : (width : ℕ) (choice : SheetChoice) (xs zs : List Fields) (ys : List (List Dated))
    → length xs ≡ length ys → body_records width choice (xs ++ zs) ys ≡ body_records width choice xs ys
body_front width choice [] [] [] e = refl
body_front width choice [] (z ∷ zs) [] e = refl
body_front width choice (x ∷ xs) zs (y ∷ ys) e =
    ap (λ rest. body_record width choice x y ∷ rest) (body_front width choice xs zs ys (omega arith))
body_front width choice xs zs ys e = absurd (omega arith)

pub same_head : {X : Type 0} (k : ℕ) (xs : List X) (d : X) → get_or (drop k xs) 0 d ≡ get_or xs k d
same_head k xs d = grind (arith, get_or-drop k xs 0 d)

-- the records that come back
pub sheet_made : (choice : SheetChoice) (records : List Fields) (width : ℕ) (rows : List (List Dated))
    → width ≡ widest (drop choice.above records)
    → top_records choice width records ++ body_records width choice (below choice records) rows
    ≡ sheet_records choice records rows
sheet_made choice records width rows wide =
    rw (wide, same_head choice.above records [])
    (append_assoc (take choice.above records) (head_record choice records ∷ []) _)

-- the columns asked of one row more
pub flat_more : {X Y : Type 0} (f : X → List Y) (front xs : List X) (x : X) → front ≡ xs ++ x ∷ []
    → flat_map f front ≡ flat_map f xs ++ f x
flat_more f front xs x e = ap (flat_map f) e ∙ sym (flat_map_more f [] xs x)

pub seen_more : {X Y : Type 0} (f : X → Y) (xs : List X) (i : ℕ) (x : X) → i < length xs → x ≡ get_or xs i x
    → take (i + 1) (map f xs) ≡ take i (map f xs) ++ f x ∷ []
seen_more f xs i x lt is =
    take_more (map f xs) i (f x) (omega (arith, lt, length-map xs f))
    ∙ ap (λ y. take i (map f xs) ++ y ∷ []) (get_or-map f xs i x (f x) lt ∙ ap f (sym is))

pub zip_at : {X Y : Type 0} (R : X → Y → Type 0) (xs : List X) (ys : List Y) (i : ℕ) (d : X) (y : Y) → i < length xs
    → AllZip R (take i xs) ys → R (get_or xs i d) y → AllZip R (take (i + 1) xs) (ys ++ y ∷ [])
zip_at R xs ys i d y lt h r =
    subst (λ zs. AllZip R zs (ys ++ y ∷ [])) (sym (take_more xs i d lt)) (all_zipped_more R (take i xs) ys _ y h r)

-- what is made of the element at a place
pub seen_at : {X Y : Type 0} (f : X → Y) (xs : List X) (i : ℕ) (x : X) → i < length xs → x ≡ get_or xs i x
    → slice_get (map f xs) i ≡ Some (f x)
seen_at f xs i x lt is = slice_get-map f xs i ∙ ap (option_map f) (slice_get_read xs (length xs) i x refl lt is)
