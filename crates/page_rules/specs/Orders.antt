-- Records by their indices.
use Rattle.std.specs.Prelude.{ℕ, List, [], get_or, map}
use Rattle.register_records.specs.Entries.{Fields}

-- the records at these indices, from 0, in this order
abbrev pub records_at : List Fields → List ℕ → List Fields
records_at records indices = map (λ index. get_or records index []) indices
