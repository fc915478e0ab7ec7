use Rattle.std.proofs.Common.{◌≡◌, ◌++◌, [], replicate}
use Rattle.csv.specs.Records.{fields_of, partial_of}
use Rattle.date_parts.proofs.joined_sheets.push_empty.Given as goal

abbrev pub invariant-empty : goal.invariant-empty
invariant-empty l =
    record {
      fields : fields_of l.row ≡ fields_of l.fn.row ++ replicate l.counter [];
      partial : partial_of l.row ≡ [];
    }
