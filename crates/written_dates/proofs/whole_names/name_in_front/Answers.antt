use Rattle.std.proofs.Common.{rules}
use Rattle.written_dates.specs.Tokens.{piece}
use Rattle.written_dates.proofs.WholeNameLemmas.{IsSoFar, more_words}
use Rattle.written_dates.proofs.whole_names.name_in_front.Goals as goal

pub words-preserved-then-has : goal.words-preserved-then-has
words-preserved-then-has c =
    let i = c.words.invariant in
    let e = c.in-Some.ensures in
    let so_far : IsSoFar c.args.text.now c.args.word.now c.words.end c.words.has c.words.rest.now
    = record { whole = i.text; size = i.size; name = i.name; found = i.has; behind = i.behind } in
    let more = more_words c.args.text.now c.args.word.now c.words.end c.words.has c.words.has c.words.rest.now
    c.in-Some.behind.now (piece c.in-Some.hyphen) (piece c.in-Some.next) so_far e.some e.kinds e.word e.whole
    (search rules) in
    record { text = more.whole; size = more.size; name = more.name; has = more.found; behind = more.behind }

pub words-preserved : goal.words-preserved
words-preserved c =
    let i = c.words.invariant in
    let e = c.in-Some.ensures in
    let so_far : IsSoFar c.args.text.now c.args.word.now c.words.end c.words.has c.words.rest.now
    = record { whole = i.text; size = i.size; name = i.name; found = i.has; behind = i.behind } in
    let more = more_words c.args.text.now c.args.word.now c.words.end c.words.has c.eq-has-else-has.result c.words.rest.now
    c.in-Some.behind.now (piece c.in-Some.hyphen) (piece c.in-Some.next) so_far e.some e.kinds e.word e.whole
    (search rules) in
    record { text = more.whole; size = more.size; name = more.name; has = more.found; behind = more.behind }
