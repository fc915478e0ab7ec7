use Rattle.std.proofs.Common.{◌≡◌, ◌-◌, ◌++◌, List, ℕ, length}
use Rattle.std.specs.Int.{div_ceil}
use Rattle.register_records.specs.Entries.{Fields}
use Rattle.page_rules.specs.Fields.{fields_by, groups}
use Rattle.page_rules.specs.private.FieldViews.{fields_left}
use Rattle.page_rules.specs.private.RecordViews.{HasLines}
use Rattle.page_rules.proofs.writing.write.Given as goal

abbrev pub invariant-groups : goal.invariant-groups
invariant-groups l =
    let count : ℕ = div_ceil (length l.lengths) l.width in
    (done : List Fields) × HasLines l.delimiter done l.lines
    × (done ++ groups (count - l.counter) l.width (fields_left l.fields)
    ≡ groups count l.width (fields_by l.lengths l.bytes))
