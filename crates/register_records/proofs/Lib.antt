-- Which file serves which public clause:
--   FieldLemmas, BareLemmas, EntryStepLemmas, StepLemmas: `gives`, `number` and `all` of `ReadsNext`, for
--     `EntryReader::read_next`. GivenLemmas: what it has given.
--   OutcomeLemmas: that a row is the row of its entry, for `convert`; the laws `one_table`, `every_text_has_table`.
--   RowTailLemmas, LineLemmas, BareLemmas: that a line is the fields of its row, for `put`, `add` and `open` of
--   `RowWriter`.
--   TargetRankLemmas: `is_for` of `Row`.
--   TableLemmas: what a `Table` holds; `whole`, `numbers`, `part` and `not_sealed` of `convert_source`; `tables_grow`.
--   SomeRecordsLemmas: the rows of entries are those of some records, for `in_order` of a run.
--   NoLossLemmas, OneFateLemmas: the laws `no_loss_is_sealed`, `one_fate`.
-- Common passes on the names that these files cite.
pub mod Common
pub mod FieldLemmas
pub mod EntryStepLemmas
pub mod GivenLemmas
pub mod StepLemmas
pub mod BareLemmas
pub mod LineLemmas
pub mod RowTailLemmas
pub mod OutcomeLemmas
pub mod TargetRankLemmas
pub mod TableLemmas
pub mod SomeRecordsLemmas
pub mod NoLossLemmas
pub mod OneFateLemmas
