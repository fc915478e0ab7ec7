use Rattle.std.proofs.Common.{arith, Some, None}
use Rattle.written_dates.specs.Tokens.{piece}
use Rattle.written_dates.specs.Parts.{parts}
use Rattle.written_dates.specs.Names.{names_in}
use Rattle.written_dates.proofs.ItemLemmas.{no_name, a_name}
use Rattle.written_dates.proofs.UnknownLemmas.{unknown_number, known_name}
use Rattle.written_dates.proofs.items.item_in_front.Goals as goal

pub returns-then-count-gt0-clause-some : goal.returns-then-count-gt0-clause-some
returns-then-count-gt0-clause-some c =
    rw (c.item_of.ensures, c.longest-count.ensures.rest)
    (a_name (names_in c.args.calendar c.args.names.now.listed.now) (parts c.args.text.now)
    (parts c.args.after.now) (piece c.args.part)
    (c.longest-count.result.0, c.longest-count.result.1) c.requires.first c.longest-count.ensures.value (omega arith))

pub returns-in-Some-clause-some : goal.returns-in-Some-clause-some
returns-in-Some-clause-some c =
    no_name (names_in c.args.calendar c.args.names.now.listed.now) (parts c.args.text.now)
    (parts c.args.after.now) (piece c.args.part)
    (Some c.in-Some.number) (c.longest-count.result.0, c.longest-count.result.1) c.requires.first
    c.longest-count.ensures.value (omega arith) c.in-Some.ensures

pub returns-in-None-clause-none : goal.returns-in-None-clause-none
returns-in-None-clause-none c =
    no_name (names_in c.args.calendar c.args.names.now.listed.now) (parts c.args.text.now)
    (parts c.args.after.now) (piece c.args.part)
    None (c.longest-count.result.0, c.longest-count.result.1) c.requires.first
    c.longest-count.ensures.value (omega arith) c.in-None.ensures

pub returns-then-count-gt0-clause-known : goal.returns-then-count-gt0-clause-known
returns-then-count-gt0-clause-known c =
    rw c.longest-count.ensures.rest
    (known_name (names_in c.args.calendar c.args.names.now.listed.now) (parts c.args.text.now)
    (parts c.args.after.now) (piece c.args.part)
    (c.longest-count.result.0, c.longest-count.result.1) c.requires.first c.longest-count.ensures.value (omega arith))

pub returns-in-Some-clause-known : goal.returns-in-Some-clause-known
returns-in-Some-clause-known c =
    unknown_number (names_in c.args.calendar c.args.names.now.listed.now) (parts c.args.text.now)
    (parts c.args.after.now) (piece c.args.part)
    (Some c.in-Some.number) (c.longest-count.result.0, c.longest-count.result.1) c.requires.first
    c.longest-count.ensures.value (omega arith) c.in-Some.ensures

pub returns-in-None-clause-unknown : goal.returns-in-None-clause-unknown
returns-in-None-clause-unknown c =
    unknown_number (names_in c.args.calendar c.args.names.now.listed.now) (parts c.args.text.now)
    (parts c.args.after.now) (piece c.args.part)
    None (c.longest-count.result.0, c.longest-count.result.1) c.requires.first
    c.longest-count.ensures.value (omega arith) c.in-None.ensures
