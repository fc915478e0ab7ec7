-- What a clause sees of a `ShortList`.
use Rattle.std.specs.Prelude.{List, take}
use Rattle.register_records.specs.declared.short_lists.ShortList.{ShortList}

-- the items, in order
abbrev pub items_in : {T : Type 0} → ShortList T → List T
items_in list = take list.count list.items
