-- Which first record is an accepted header.
use Rattle.std.specs.Prelude.{◌≡◌, IsSomeAnd, codes}
use Rattle.csv.specs.Reading.{strip_bom}
use Rattle.date_texts.specs.Names.{IsNamed}
use Rattle.register_records.specs.Records.{Fields, texts_of}
use Rattle.register_records.specs.declared.setups.Form.{Form}
use Rattle.register_records.specs.declared.setups.Form.TheVariants.{Sealed}

-- the first record names the columns, under a sealed form that of the notes too; one byte order mark that csv left at
-- its start is taken off
abbrev pub IsHeader : Form → Fields → Type 0
IsHeader form first =
    IsSomeAnd (texts_of form first) (λ t. IsNamed (strip_bom t.id) (codes "id") × IsNamed t.calendar (codes "calendar")
    × IsNamed t.date (codes "date") × (form ≡ Sealed → IsNamed t.note (codes "note")))
