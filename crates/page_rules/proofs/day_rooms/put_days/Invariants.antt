use Rattle.std.proofs.Common.{◌≡◌, drop, map, take}
use Rattle.page_rules.specs.declared.entry_days.EntryDay.{EntryDay}
use Rattle.page_rules.proofs.day_rooms.put_days.Given as goal

abbrev pub invariant-entries : goal.invariant-entries
invariant-entries l =
    record {
      days : take l.i l.days ≡ map (λ (it : EntryDay). it.day) (take l.i l.entries);
      days_left : drop l.i l.days ≡ drop l.i l.fn.days;
      calendars : take l.i l.calendars ≡ map (λ (it : EntryDay). it.calendar) (take l.i l.entries);
      calendars_left : drop l.i l.calendars ≡ drop l.i l.fn.calendars;
    }
