-- The column of a number is the one before it.
use Rattle.sheet_app.proofs.Common.{fields_of}
use Rattle.sheet_app.proofs.ColumnLemmas.{column_by_number, no_column}
use Rattle.sheet_app.proofs.columns.column_found.Goals as goal

pub returns-in-Some-number_named-clause-some : goal.returns-in-Some-number_named-clause-some
returns-in-Some-number_named-clause-some c =
    column_by_number (fields_of c.args.names.now) c.args.word.now c.as_bytes.result.now c.as_bytes-2.result.now c.len.result
    c.in-Some-number_named.number c.as_bytes.ensures.value c.as_bytes-2.ensures.value c.len.ensures
    c.in-Some-number_named.ensures.named c.in-Some-number_named.ensures.within.0 c.in_default.ensures.none
    c.in_default-bare_index_of.ensures.none

pub returns-in-None-clause-none : goal.returns-in-None-clause-none
returns-in-None-clause-none c =
    no_column (fields_of c.args.names.now) c.args.word.now c.as_bytes.result.now c.as_bytes-2.result.now c.len.result
    c.as_bytes.ensures.value c.as_bytes-2.ensures.value c.len.ensures c.in-None.ensures.named c.in_default.ensures.none
    c.in_default-bare_index_of.ensures.none
