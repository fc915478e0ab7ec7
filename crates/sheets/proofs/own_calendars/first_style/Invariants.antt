use Rattle.std.proofs.Common.{◌≡◌, ◌≤◌, length}
use Rattle.sheets.specs.OwnCalendars.{first_style}
use Rattle.sheets.proofs.own_calendars.first_style.Given as goal

abbrev pub invariant-ends : goal.invariant-ends
invariant-ends l = record {
  same : first_style l.calendars l.names.listed.now l.fn.text ≡ first_style l.calendars l.names.listed.now l.rest;
  within : length l.rest ≤ length l.fn.text;
}

abbrev pub decreases-ends : goal.decreases-ends
decreases-ends l = length l.rest
