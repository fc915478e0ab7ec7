use Rattle.std.proofs.Common.{◌≡◌, [], take}
use Rattle.csv.specs.Records.{fields_of, partial_of}
use Rattle.date_parts.proofs.joined_sheets.copy_fields.Given as goal

abbrev pub invariant-fields : goal.invariant-fields
invariant-fields l =
    record { fields : fields_of l.row ≡ take l.place (fields_of l.own); partial : partial_of l.row ≡ [] }
