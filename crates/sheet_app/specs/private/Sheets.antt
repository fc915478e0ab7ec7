-- Why a text is no list of names.
use Rattle.std.specs.Prelude.{⊤, ℕ, List}
use Rattle.register_records.specs.Entries.{text_records}
use Rattle.sheets.specs.NameLists.{IsFaultOf}
use Rattle.sheets.specs.declared.name_lists.NameListFault.{NameListFault}
use Rattle.sheets.specs.declared.name_lists.NameListFault.TheVariants as list_fault

-- a text is no list of names for this reason, or memory ran out
abbrev pub IsFaultOfText : List ℕ → NameListFault → Type 0
IsFaultOfText text list_fault.OutOfMemory = ⊤
IsFaultOfText text why = IsFaultOf (text_records 44 text) why
