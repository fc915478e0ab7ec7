-- The grammar of long counts and their canonical text: five places, joined by dots (46).
use Rattle.std.specs.Prelude.{◌≡◌, ℕ, List, [], ◌∷◌, map}
use Rattle.std.specs.Fmt.{decimal}
use Rattle.std.specs.List.{AllZip, join_with_byte}
use Rattle.date_texts.specs.Numerals.{IsNumeral}

-- each place is written with one to four digits
abbrev pub IsLongText : List ℕ → ℕ → ℕ → ℕ → ℕ → ℕ → Type 0
IsLongText text baktun katun tun uinal kin =
    (places : List (List ℕ)) × AllZip (IsNumeral 4) places (baktun ∷ katun ∷ tun ∷ uinal ∷ kin ∷ [])
    × (text ≡ join_with_byte 46 places)

-- 9.12.11.5.18
abbrev pub canonical_long : ℕ → ℕ → ℕ → ℕ → ℕ → List ℕ
canonical_long baktun katun tun uinal kin =
    join_with_byte 46 (map decimal (baktun ∷ katun ∷ tun ∷ uinal ∷ kin ∷ []))
