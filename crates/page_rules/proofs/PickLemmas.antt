-- Fields that are picked, one record after the other.
use Rattle.std.proofs.Common.{◌≡◌, ◌<◌, ◌+◌, ◌∙◌, ℕ, List, [], ◌∷◌, ◌++◌, take, map, length, get_or, sym, append_assoc}
use Rattle.std.proofs.Common.{append-nil, subst}
use Rattle.std.specs.List.{concat}
use Rattle.std.proofs.lemmas.List.{flat_map_more, map-append, take_more}
use Rattle.std.proofs.lemmas.List.Concat.{flat_map-append}
use Rattle.std.proofs.lemmas.List.Elements.{Contains-append_left, Contains-append_right}
use Rattle.std.proofs.lemmas.List.Folds.{concat-append}
use Rattle.register_records.specs.Entries.{Fields}
use Rattle.sheets.specs.Sheets.{chosen}
use Rattle.page_rules.specs.Picks.{HasLongField, all_chosen}

-- one more place
pub one_chosen : (places : List ℕ) (fields : Fields) (i : ℕ) → i < length places
    → chosen (take (i + 1) places) fields
    ≡ chosen (take i places) fields ++ get_or fields (get_or places i 0) [] ∷ []
one_chosen places fields i lt =
    rw (take_more places i 0 lt) (map-append _ (take i places) (get_or places i 0 ∷ []))

pub one_more_bytes : (old now new : List ℕ) (fields : List (List ℕ)) (field : List ℕ) → now ≡ old ++ concat fields
    → new ≡ now ++ field → new ≡ old ++ concat (fields ++ field ∷ [])
one_more_bytes old now new fields field h e =
    e ∙ rw (h, concat-append fields (field ∷ []), append-nil field) (append_assoc old (concat fields) field)

pub one_more_length : (old now new : List ℕ) (fields : List (List ℕ)) (field : List ℕ)
    → now ≡ old ++ map length fields → new ≡ now ++ length field ∷ []
    → new ≡ old ++ map length (fields ++ field ∷ [])
one_more_length old now new fields field h e =
    e ∙ rw (h, map-append length fields (field ∷ [])) (append_assoc old (map length fields) (length field ∷ []))

-- one more record
pub all_more_chosen : (places : List ℕ) (records : List Fields) (fields : Fields)
    → all_chosen places (records ++ fields ∷ []) ≡ all_chosen places records ++ chosen places fields
all_more_chosen places records fields = sym (flat_map_more (chosen places) [] records fields)

-- a long field of one of the records is one of them all
pub long_among : (places : List ℕ) (done rest all : List Fields) (fields : Fields) → done ++ fields ∷ rest ≡ all
    → HasLongField (chosen places fields) → HasLongField (all_chosen places all)
long_among places done rest all fields is (k, field, below, here, long) =
    let (at, within, there) =
    Contains-append_right (all_chosen places done) (all_chosen places (fields ∷ rest)) field
    (Contains-append_left (chosen places fields) (all_chosen places rest) field (k, below, here)) in
    subst (λ a. HasLongField (all_chosen places a)) is
    (subst HasLongField (sym (flat_map-append (chosen places) done (fields ∷ rest))) (at, field, within, there, long))
