-- Records of a sheet, one after the other.
use Rattle.std.proofs.Common.{◌≡◌, suc, ℕ, List, [], ◌∷◌, ◌++◌, get_or, length, arith, max, refl, Option, None, IsSome}
use Rattle.std.proofs.Common.{IfSome}
use Rattle.std.proofs.lemmas.List.Recursion.{max_push}
use Rattle.sheets.proofs.Common.{Fields, widest}
use Rattle.csv.specs.Records.{field_at}
use Rattle.register_records.specs.private.ReadingState.{TakesFirst}
use Rattle.sheets.specs.Reading.{left_in}

-- a field that a record has not
pub absent : (fields : List (List ℕ)) (place : ℕ) → field_at fields place ≡ None → get_or fields place [] ≡ []
unfolding field_at
absent (f ∷ fields) (suc place) e = absent fields place e
absent fields place e = cc

pub widest_more : (records : List Fields) (fields : Fields)
    → widest (records ++ fields ∷ []) ≡ max (widest records) (length fields)
widest_more records fields =
    max_push widest length refl (λ (first : Fields) (rest : List Fields). refl) records fields

-- the first of what is left, and the end
pub first_left : (old new : Option (List Fields)) (fields : Fields) → IsSome old → TakesFirst old new fields
    → left_in old ≡ fields ∷ left_in new
first_left old new fields some takes = grind arith

pub none_left : (old : Option (List Fields)) → IfSome old (λ left. left ≡ []) → left_in old ≡ []
none_left old none = grind arith
