-- What serves private clauses and proofs alone: no public clause reaches it.
pub mod DateViews
pub mod LineViews
pub mod SheetViews
pub mod TreeViews
