-- A record of a register, and its texts.
use Rattle.std.specs.Prelude.{Bool, true, false, ℕ, List, [], ◌∷◌, Option, Some, None}
use Rattle.register_records.specs.declared.setups.Form.{Form}
use Rattle.register_records.specs.declared.setups.Form.TheVariants.{Plain, Sealed}

-- a record: the bytes of each field
abbrev pub Fields : Type 0
Fields = List (List ℕ)

-- whether the last of them is a note, for which a table has a column
abbrev pub has_notes : Form → Bool
has_notes Plain = false
has_notes Sealed = true

-- the texts of a record; the note is empty where the form has none
pub record Texts : Type 0 where
  pub id : List ℕ
  pub calendar : List ℕ
  pub date : List ℕ
  pub note : List ℕ

-- the texts of a record of three fields, and under a sealed form of four; any other record has none
abbrev pub texts_of : Form → Fields → Option Texts
texts_of Plain (a ∷ b ∷ c ∷ []) = Some (record { id = a; calendar = b; date = c; note = [] })
texts_of Sealed (a ∷ b ∷ c ∷ d ∷ []) = Some (record { id = a; calendar = b; date = c; note = d })
texts_of form fields = None
