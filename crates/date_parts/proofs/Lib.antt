-- RecordLemmas serves `joined_sheet`.
pub mod RecordLemmas
