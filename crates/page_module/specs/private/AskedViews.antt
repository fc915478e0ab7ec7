-- What a clause sees of what a page asks.
use Rattle.std.specs.Prelude.{◌++◌, List, Option, None, Some, Vec}
use Rattle.std.specs.declared.alloc.Global.{Global}
use Rattle.sheets.specs.AskedOfSheets.{SheetAsked, asked_in}
use Rattle.sheets.specs.declared.asked_of_sheets.AskedOfSheet.{AskedOfSheet}
use Rattle.sheets.specs.declared.choices.AskedColumn.{AskedColumn}
use Rattle.sheets.specs.declared.choices.DateColumn.{DateColumn}

abbrev pub dates_seen : Option (Vec DateColumn Global) → Option (List DateColumn)
dates_seen None = None
dates_seen (Some dates) = Some dates.items

abbrev pub columns_seen : Option (Vec AskedColumn Global) → Option (List AskedColumn)
columns_seen None = None
columns_seen (Some columns) = Some columns.items

abbrev pub asked_seen : Option AskedOfSheet → Option SheetAsked
asked_seen None = None
asked_seen (Some asked) = Some (asked_in asked)

abbrev pub all_before : {A : Type 0} → List A → Option (List A) → Option (List A)
all_before xs None = None
all_before xs (Some ys) = Some (xs ++ ys)
