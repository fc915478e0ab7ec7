-- LineLemmas serve `lines_of`, TreeLemmas what stands beside and over a line, MarkLemmas
-- `marked`, PlaceLemmas `parts_round`, TreeSheetLemmas `tree_sheet`.
mod LineLemmas
pub mod TreeLemmas
pub mod MarkLemmas
pub mod PlaceLemmas
pub mod DateLemmas
pub mod TreeSheetLemmas
