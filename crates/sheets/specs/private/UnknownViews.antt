-- What the code counts of the names and the dates that stopped.
use Rattle.std.specs.Prelude.{◌≡◌, ◌^◌, ◌<◌, ◌+◌, ℕ, All, Bool, Option, List, length, map, option_to_list}
use Rattle.std.specs.Prelude.{if◌then◌else◌}
use Rattle.sheets.specs.DateStops.{DateStop as SeenStop, NameStop as SeenName, count_of, is_for, name_in}
use Rattle.sheets.specs.UnknownNames.{AreNames, name_seen as count_seen}
use Rattle.sheets.specs.declared.reasons.Reason.{Reason}
use Rattle.sheets.specs.declared.stopped_names.StoppedNames.{StoppedNames}
use Rattle.sheets.specs.declared.stopped_names.UnknownName.{UnknownName}
use Rattle.sheets.specs.declared.unread_dates.UnreadDates.{UnreadDates}

-- a name, without its count
abbrev pub named : UnknownName → SeenName
named name = (name.name.items, name.calendar)

-- these are the names of the stops
abbrev pub HasNames : ℕ → List SeenName → StoppedNames → Type 0
HasNames most stops names = AreNames most stops (map count_seen names.listed.items) names.more

-- one more of each still fits
pub record HasRoom (names : StoppedNames) : Type 0 where
  pub listed : All (λ name. name.count < 2 ^ 32) names.listed.items
  pub others : names.more < 2 ^ 32

-- so many dates more can be counted
pub record HasPlace (count : ℕ) (unread : UnreadDates) : Type 0 where
  pub stopped : unread.stopped + count < 2 ^ 64
  pub short : unread.short + count < 2 ^ 64
  pub reasons : (reason : Reason) → count_of unread.reasons reason + count < 2 ^ 64

-- one more date is counted, which this stopped
pub record CountsStop (stop : Option SeenStop) (old new : UnreadDates) : Type 0 where
  pub stopped : new.stopped ≡ old.stopped + length (option_to_list (name_in stop))
  pub short : new.short ≡ old.short
  pub reasons : (reason : Reason)
      → count_of new.reasons reason ≡ count_of old.reasons reason + (if is_for reason stop then 1 else 0)

-- one more date is counted, which this stopped, and which may be left empty
pub record CountsDate (stop : Option SeenStop) (is_short : Bool) (old new : UnreadDates) : Type 0 where
  pub stopped : new.stopped ≡ old.stopped + length (option_to_list (name_in stop))
  pub short : new.short ≡ old.short + (if is_short then 1 else 0)
  pub reasons : (reason : Reason)
      → count_of new.reasons reason ≡ count_of old.reasons reason + (if is_for reason stop then 1 else 0)
