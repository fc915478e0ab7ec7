use Rattle.sheet_app.proofs.Common.{fields_of}
use Rattle.sheet_app.specs.Columns.{IsBareWord}
use Rattle.sheet_app.proofs.ColumnLemmas.{HoldsOfNoneBefore}
use Rattle.sheet_app.proofs.columns.bare_index_of.Given as goal

-- no name so far is the word
abbrev pub invariant-names : goal.invariant-names
invariant-names l = HoldsOfNoneBefore (IsBareWord l.text) (fields_of l.names) l.index
