-- What the word means by the names that were read, or says itself.
use Rattle.std.proofs.Common.{◌≡◌, ◌∙◌, ap, map, sym}
use Rattle.sheet_app.proofs.Common.{bare_name}
use Rattle.written_dates.specs.Fields.{calendar_meant, entries}
use Rattle.sheet_app.specs.CalendarWords.{named_in}
use Rattle.sheet_app.proofs.CalendarLemmas.{named_by, said_by_name, said_itself, says_nothing}
use Rattle.sheet_app.proofs.calendar_words.calendar_by.Goals as goal

pub returns-in-Some-clause-some : goal.returns-in-Some-clause-some
returns-in-Some-clause-some c =
    let lines = c.args.list.now.lines.items in
    let word = c.args.word.now in
    let names = entries c.in_ok-names-2.names in
    let named : c.meant.result ≡ named_in lines word = named_by lines c.in_ok-names.names.items names word c.meant.result
    c.in_ok-names.ensures (c.in_ok-names-2.ensures ∙ ap (map bare_name) c.as_slice.ensures.value)
    (c.meant.ensures ∙ ap (calendar_meant names) c.as_bytes.ensures.value) in
    said_by_name lines word c.in-Some.meaning (sym c.in-Some.is ∙ named)

pub returns : goal.returns
returns c =
    let lines = c.args.list.now.lines.items in
    let word = c.args.word.now in
    let names = entries c.in_ok-names-2.names in
    let named : c.meant.result ≡ named_in lines word = named_by lines c.in_ok-names.names.items names word c.meant.result
    c.in_ok-names.ensures (c.in_ok-names-2.ensures ∙ ap (map bare_name) c.as_slice.ensures.value)
    (c.meant.ensures ∙ ap (calendar_meant names) c.as_bytes.ensures.value) in
    let none = sym c.in-None.is ∙ named in
    record {
      some = said_itself lines word c.calendar_said.result none c.calendar_said.ensures.some;
      none = says_nothing lines word c.calendar_said.result none c.calendar_said.ensures.none;
    }
