-- The sheet that the text of a file is, or that is made of it.
use Rattle.std.specs.Prelude.{◌≡◌, ℕ, List, Option, None, Some, if◌then◌else◌}
use Rattle.std.specs.Str.{is_utf8}
use Rattle.family_trees.specs.OwnDates.{is_tree, own_text}
use Rattle.sheet_arguments.specs.Requests.{Task}
use Rattle.sheet_app.specs.declared.sheet_faults.SheetFault.{SheetFault}
use Rattle.sheet_app.specs.declared.sheet_faults.SheetFault.TheVariants as fault

-- with a tree the sheet of its dates; else the text itself
abbrev pub sheet_of : Task → List ℕ → List ℕ
sheet_of task text = if task.tree then own_text text else text

-- what is wrong with a text that is to be a tree
abbrev pub fault_of_tree : List ℕ → Option SheetFault
fault_of_tree text = if is_utf8 text then (if is_tree text then None else Some fault.NoTree) else Some fault.NotUtf8

-- why a text gives no sheet
abbrev pub fault_of_text : Task → List ℕ → Option SheetFault
fault_of_text task text = if task.tree then fault_of_tree text else None

-- the fault of a text, or that memory ran out for its sheet
abbrev pub IsFaultBy : Option SheetFault → SheetFault → Type 0
IsFaultBy (Some why) found = found ≡ why
IsFaultBy None found = found ≡ fault.OutOfMemory
