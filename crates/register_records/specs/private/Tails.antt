-- What a clause sees of the tail of a `Row`.
use Rattle.std.specs.Prelude.{ℕ, List}
use Rattle.register_records.specs.private.TableColumns.{tail_texts}
use Rattle.register_records.specs.declared.rows.Row.{Row}
use Rattle.register_records.specs.Views.{row_seen, row_targets}

-- the fields of its tail
abbrev pub tail_fields : Row → List (List ℕ)
tail_fields row = tail_texts (row_targets row) (row_seen row).outcome (row_seen row).cells
