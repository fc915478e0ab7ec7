use Rattle.std.proofs.Common.{sym}
use Rattle.written_dates.specs.Sums.{found_items}
use Rattle.sheets.proofs.OwnCalendarLemmas.{many_say_nothing}
use Rattle.sheets.proofs.own_calendars.says_something.Goals as goal

pub returns-in-None : goal.returns-in-None
returns-in-None c =
    sym (many_say_nothing (found_items c.args.calendar c.args.names.now.listed.now c.args.name.now)
    c.in-None.ensures.none)
