mod NameLemmas
mod LawLemmas
mod ComputedLemmas
mod TestLemmas
mod TextLemmas
