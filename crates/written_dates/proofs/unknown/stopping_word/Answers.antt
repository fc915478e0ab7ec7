use Rattle.std.proofs.Common.{rules, ◌∙◌, ap, sym}
use Rattle.written_dates.specs.Parts.{parts}
use Rattle.written_dates.specs.Names.{names_in}
use Rattle.written_dates.specs.Unknown.{word_in}
use Rattle.written_dates.proofs.UnknownLemmas.{none_unknown}
use Rattle.written_dates.proofs.unknown.stopping_word.Goals as goal

pub returns : goal.returns
returns c =
    ap word_in (sym (c.items.invariant
    ∙ none_unknown (names_in c.args.calendar c.args.names.now.listed.now) (parts c.items.rest.now) (search rules)))
