-- Where records of a sealed register are taken out, its seal does not agree.
use Rattle.std.proofs.Common.{◌≡◌, Bool, true, false, List, [], ◌∷◌, ◌++◌, length, if◌then◌else◌, refl, ap, arith}
use Rattle.std.proofs.Common.{length-append, rules}
use Rattle.register_records.proofs.Common.{Fields, before_seal, is_seal, ⊤}
use Rattle.register_records.specs.Laws.{AreLeftOf, NoLossIsSealed, kept, none, taken}

-- of these records only this one is a seal
abbrev IsOnlySeal : Fields → List Fields → Type 0
IsOnlySeal seal [] = ⊤
IsOnlySeal seal (r ∷ rest) = (is_seal r ≡ true → r ≡ seal) × IsOnlySeal seal rest

-- so it is the only seal of those that are left
only_left : (records left : List Fields) (seal : Fields) → AreLeftOf records left → IsOnlySeal seal records
    → IsOnlySeal seal left
only_left records left seal none only = only
only_left records left seal (kept a) only = (only.0, only_left _ _ seal a only.1)
only_left records left seal (taken a) only = only_left _ _ seal a only.1

-- and where the last record is a seal, it is this one
last_only : (seal r : Fields) (rest : List Fields) → IsOnlySeal seal (rest ++ r ∷ []) → is_seal r ≡ true → r ≡ seal
last_only seal r [] only is = only.0 is
last_only seal r (x ∷ rest) only is = last_only seal r rest only.1 is

-- no seal stands before the first one
first_only : (seal : Fields) (rs : List Fields) → IsOnlySeal seal (before_seal rs ++ seal ∷ [])
unfolding before_seal
first_only seal [] = (λ is. refl, tt)
first_only seal (x ∷ rs) = by (is_seal x) refl (first_only seal rs)
  where
    by : (b : Bool) → is_seal x ≡ b → IsOnlySeal seal (before_seal rs ++ seal ∷ [])
        → IsOnlySeal seal ((if b then [] else x ∷ before_seal rs) ++ seal ∷ [])
    by true e later = (λ is. refl, tt)
    by false e later = (λ is. cc (e, is), later)

pub no_loss : NoLossIsSealed
no_loss records left (after, (header, first, ok), (few, (seal, ends, is, agrees))) are_left shorter
    (after2, (header2, first2, ok2), (few2, (seal2, ends2, is2, agrees2))) =
    let all : records ≡ header ∷ (before_seal after ++ seal ∷ []) = cc in
    let all2 : left ≡ header2 ∷ (before_seal after2 ++ seal2 ∷ []) = cc in
    let only : IsOnlySeal seal (header ∷ (before_seal after ++ seal ∷ [])) =
    (λ clash. let no_seal : is_seal header ≡ false = search rules in cc (clash, no_seal), first_only seal after) in
    let same : seal2 ≡ seal =
    last_only seal seal2 (before_seal after2) (rw all2 at (only_left records left seal are_left (rw all only))).1 is2 in
    let agrees_too = rw same at agrees2 in
    let count : length (before_seal after) ≡ length (before_seal after2) = search rules in
    omega (arith, shorter, count, ap length all, ap length all2, length-append {A = Fields})
