-- Which file serves which public clause of `read_request`:
--   WordLemmas: what words and lists of words name.
--   ArgumentLemmas: arguments mean one thing, for `asked` and `refused`.
mod WordLemmas
mod ArgumentLemmas
