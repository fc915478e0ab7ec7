-- What a clause sees of what stopped dates.
use Rattle.std.specs.Prelude.{◌≡◌, Option, None, Some}
use mathlib.Core.Logic.{inl, inr}
use Rattle.sheets.specs.DateStops.{DateStop as SeenStop, NameStop as SeenName, count_of}
use Rattle.sheets.specs.declared.reasons.Reason.{Reason}
use Rattle.sheets.specs.declared.stops.DateStop.{DateStop}
use Rattle.sheets.specs.declared.stops.DateStop.TheVariants as stops
use Rattle.sheets.specs.declared.stops.NameStop.{NameStop}
use Rattle.sheets.specs.declared.unread_dates.UnreadDates.{UnreadDates}

abbrev pub name_seen : NameStop → SeenName
name_seen name = (name.name.now, name.calendar)

abbrev pub stop_seen : DateStop → SeenStop
stop_seen (stops.Name name) = inl (name_seen name)
stop_seen (stops.Reason reason) = inr reason

abbrev pub if_stop : Option DateStop → Option SeenStop
if_stop None = None
if_stop (Some stop) = Some (stop_seen stop)

-- no date is counted yet
pub record NoneUnread (unread : UnreadDates) : Type 0 where
  pub stopped : unread.stopped ≡ 0
  pub short : unread.short ≡ 0
  pub reasons : (reason : Reason) → count_of unread.reasons reason ≡ 0
