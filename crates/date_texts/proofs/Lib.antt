-- Which file serves which public clause:
--   BufferLemmas: `put_byte`, `put_bytes` and the functions of `decimals`, DigitLemmas these alone, WordLemmas those of
--     `comparing`.
--   ReadingLemmas, DateReadingLemmas, RomanReadingLemmas, DateTextLemmas: the clauses of `read_date`, and the laws
--     `one_date_text` and `canonical_texts_read_back`.
--   TargetNameLemmas: `calendar_named` and `target_named`, and the law `few_targets`.
--   CellLemmas: `cell`, `value` of `write_cell`, the laws `one_cell`, `cells_are_short` and `cells_are_plain`, and with
--     the second the room in `cell` and `write_cell`.
--   CanonicalTextLemmas: the law `canonical_texts_read_back`, and the bytes and the lengths of canonical texts.
--   WritingLemmas: the digits of years and the places of long counts in `write_date` and `write_cell`.
--   DecisionLemmas, DateDecisionLemmas: what can be decided of numbers, texts and dates, for the laws of the crates
--     above.
pub mod BufferLemmas
pub mod DigitLemmas
pub mod WordLemmas
pub mod Common
pub mod ReadingLemmas
pub mod DateReadingLemmas
pub mod RomanReadingLemmas
pub mod CanonicalTextLemmas
pub mod DateTextLemmas
pub mod CellLemmas
pub mod TargetNameLemmas
pub mod WritingLemmas
pub mod DecisionLemmas
pub mod DateDecisionLemmas
