-- What a clause sees of a date whose text names its calendar.
use Rattle.sheets.specs.OwnCalendars.{OwnDate}
use Rattle.sheets.specs.declared.own_calendars.OwnDate.{OwnDate as OwnDateValue}

abbrev pub own_seen : OwnDateValue → OwnDate
own_seen own = (own.date.now, own.calendar)
