-- Which file serves what:
--   KindLemmas: an error of clap is of one kind.
--   FileLemmas: files have one fault at most.
--   MeaningLemmas, upon these: arguments mean one thing.
--   ValueLemmas: the number that a word names, for `number_named`; that it is from 1 to the most, for `setup` of `Job`.
--   CheckLemmas: which of some checks in order fails first.
--   MatchLemmas: `opened`, `made`, `placed`, `kept` and `apart` of `open_files`.
--   RefusedLemmas: when arguments are refused, and what is reported then, for `answer` of both programs.
--   PageLemmas: `printed` of `print_page`.
--   AppendsLemmas: the contract of `write` of `LoggedWriter`.
mod Common
pub mod KindLemmas
pub mod FileLemmas
pub mod MeaningLemmas
pub mod CheckLemmas
pub mod ValueLemmas
pub mod RefusedLemmas
pub mod AppendsLemmas
pub mod MatchLemmas
mod PageLemmas
