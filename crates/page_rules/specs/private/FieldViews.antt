-- What a clause sees of `FieldsLeft`.
use Rattle.std.specs.Prelude.{ℕ, List}
use Rattle.page_rules.specs.Fields.{fields_by}
use Rattle.page_rules.specs.declared.field_lists.FieldsLeft.{FieldsLeft}

-- the fields that are left
abbrev pub fields_left : FieldsLeft → List (List ℕ)
fields_left fields = fields_by fields.lengths.now fields.bytes.now
