use Rattle.sheet_app.proofs.Common.{fields_of}
use Rattle.sheet_app.specs.Columns.{IsWord}
use Rattle.sheet_app.proofs.ColumnLemmas.{HoldsOfNoneBefore}
use Rattle.sheet_app.proofs.columns.index_of.Given as goal

-- no name so far is the word
abbrev pub invariant-names : goal.invariant-names
invariant-names l = HoldsOfNoneBefore (IsWord l.text) (fields_of l.names) l.index
