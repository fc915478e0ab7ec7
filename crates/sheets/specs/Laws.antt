-- Laws of dates that name their calendars.
use Rattle.std.specs.Prelude.{◌≡◌, ℕ, None, Some, [], get_or, true}
use Rattle.std.specs.Char.{is_ascii_digit}
use Rattle.register_records.specs.Entries.{Fields}
use Rattle.written_dates.specs.declared.fields.CalendarMeaning.TheVariants.{One}
use Rattle.sheets.specs.Choices.{calendar_for, calendar_text, date_text, id_text, meaning_for, meaning_in, own_in}
use Rattle.sheets.specs.DateEnds.{Dated, IsDated}
use Rattle.sheets.specs.OwnCalendars.{OwnDate, last_byte}
use Rattle.sheets.specs.declared.choices.CalendarField.TheVariants.{All}
use Rattle.sheets.specs.declared.choices.DateColumn.{DateColumn}
use Rattle.sheets.specs.declared.choices.SheetChoice.{SheetChoice}

-- a field that ends with a digit is the date, in the calendar of its record
abbrev pub DigitsNameNone : Type 0
DigitsNameNone =
    (choice : SheetChoice) (column : DateColumn) (fields : Fields)
    → is_ascii_digit (last_byte (get_or fields column.date [])) ≡ true
    → (date_text choice column fields ≡ get_or fields column.date [])
    × (calendar_for choice column fields ≡ calendar_text choice.calendars.now column.calendar fields)
    × (meaning_for choice column fields ≡ meaning_in choice.calendars.now column.calendar fields)

-- a date that names its calendar comes out as the one before the name does in a column of that calendar, where this names
-- none
abbrev pub NamesAreColumns : Type 0
NamesAreColumns =
    (choice : SheetChoice) (column other : DateColumn) (number : ℕ) (fields others : Fields) (own : OwnDate)
    (dated : Dated) → own_in choice column fields ≡ Some own → get_or others other.date [] ≡ own.0
    → other.calendar ≡ All (One own.1) → own_in choice other others ≡ None
    → id_text choice.id number fields ≡ id_text choice.id number others
    → IsDated choice number fields column dated → IsDated choice number others other dated
