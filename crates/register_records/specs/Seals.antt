-- The seal of a sealed register: the record that says how many records stand between the header and it.
use Rattle.std.specs.Prelude.{◌≡◌, ℕ, List, [], ◌∷◌, ◌++◌, Bool, false, ⊤, IsTrue, codes, length, if◌then◌else◌}
use Rattle.std.specs.Str.{bytes_eq}
use Rattle.date_texts.specs.Numerals.{IsNumeral}
use Rattle.date_texts.specs.Trimmed.{trimmed}
use Rattle.register_records.specs.Records.{Fields}
use Rattle.register_records.specs.declared.setups.Form.{Form}
use Rattle.register_records.specs.declared.setups.Form.TheVariants.{Plain, Sealed}

-- a seal has two fields, and the first is END in capitals, spaces and tabs at both ends aside
abbrev pub is_seal : Fields → Bool
is_seal (a ∷ b ∷ []) = bytes_eq (trimmed a) (codes "END")
is_seal fields = false

-- a seal agrees with n where its second field is 1 to 7 digits that spell n, spaces and tabs at both ends aside
abbrev pub Agrees : Fields → ℕ → Type 0
Agrees (a ∷ b ∷ []) n = IsNumeral 7 (trimmed b) n
Agrees fields n = ⊥

-- the records before the first seal, or all where there is none
unfoldable pub before_seal : List Fields → List Fields
before_seal [] = []
before_seal (r ∷ rest) = if is_seal r then [] else r ∷ before_seal rest

-- the records that are entries, of those after the header: all, but under a sealed form those before the first seal
abbrev pub entry_records : Form → List Fields → List Fields
entry_records Plain after = after
entry_records Sealed after = before_seal after

-- the records after the header end as the form wants it: under a sealed form the first seal stands last, and agrees
-- with the number of those before it
abbrev pub AreClosed : Form → List Fields → Type 0
AreClosed Plain after = ⊤
AreClosed Sealed after =
    (seal : Fields) × (after ≡ before_seal after ++ seal ∷ []) × IsTrue (is_seal seal)
    × Agrees seal (length (before_seal after))
