-- Which file serves which public clause of `read_request`:
--   ListLemmas: a list of targets means one thing. ArgumentLemmas, upon this: arguments mean one thing, for `asked` and
--     `refused`.
--   SetupLemmas: what they ask for makes a setup, for `asked`.
mod ListLemmas
mod SetupLemmas
mod ArgumentLemmas
