use Rattle.std.proofs.Common.{◌≡◌, ◌-◌, drop, length, map, Some, slice_get}
use Rattle.written_dates.specs.declared.fields.CalendarName.{CalendarName}
use Rattle.written_dates.specs.Fields.{entry, meant_by}
use Rattle.written_dates.specs.private.Keys.{calendar_key, key_of}
use Rattle.written_dates.proofs.fields.meant_by.Given as goal

abbrev pub invariant-names : goal.invariant-names
invariant-names l = record {
  same : meant_by (map entry (drop l.place l.listed)) l.text
      ≡ meant_by (map entry l.listed) l.text;
  keyed : (name : CalendarName) → slice_get l.listed l.place ≡ Some name → calendar_key name ≡ key_of l.text;
}

abbrev pub decreases-names : goal.decreases-names
decreases-names l = length l.listed - l.place
