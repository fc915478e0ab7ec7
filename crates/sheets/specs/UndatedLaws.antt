-- Laws of texts that say that no date is known.
use Rattle.std.specs.Prelude.{◌≡◌, Option, None, [], false, get_or}
use Rattle.date_spans.specs.declared.sayings.Kind.TheVariants as kinds
use Rattle.date_spans.specs.declared.spans.Marks.{Marks}
use Rattle.sheets.specs.CalendarChanges.{EndText}
use Rattle.sheets.specs.Choices.{called_for}
use Rattle.sheets.specs.DateEnds.{AreEnds}
use Rattle.sheets.specs.DateStops.{DateStop, IsStopBy, SheetDate}
use Rattle.sheets.specs.UnknownNames.{is_short_by}
use Rattle.sheets.specs.declared.choices.SheetChoice.{SheetChoice}

-- nothing stops a date of which the text says that none is known, and it is not left empty for a short year: it is
-- counted as none that was not read
abbrev pub UndatedIsNotUnread : Type 0
UndatedIsNotUnread =
    (choice : SheetChoice) (date : SheetDate) (first last : EndText) (found : Marks) (stop : Option DateStop)
    → AreEnds choice date.0 date.1 first last found → found.kind ≡ kinds.Undated
    → IsStopBy choice date.0 date.1 first.text (called_for choice date.0 date.1) stop
    → (stop ≡ None) × (is_short_by (get_or date.1 date.0.date []) first.text last.text found ≡ false)
