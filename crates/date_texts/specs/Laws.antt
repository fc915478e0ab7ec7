-- Laws of names, date texts, cells and lists of targets.
use Rattle.std.specs.Prelude.{◌≡◌, ◌≢◌, ◌<◌, ◌≤◌, ℕ, ℤ, IsTrue, List, length, slice_get}
use Rattle.std.specs.List.{list_all}
use Rattle.date_texts.specs.declared.calendar.Calendar.{Calendar}
use Rattle.date_texts.specs.declared.target.Target.{Target}
use Rattle.date_texts.specs.declared.date.Date.{Date}
use Rattle.date_texts.specs.Calendars.{all_targets, calendar_name, target_name}
use Rattle.date_texts.specs.Cells.{IsCell, is_plain}
use Rattle.date_texts.specs.Dates.{calendar_of_date}
use Rattle.date_texts.specs.DateText.{IsDateText, canonical_text}
use Rattle.date_texts.specs.Names.{IsNamed}

-- a text names one calendar at most
abbrev pub OneCalendar : Type 0
OneCalendar = (text : List ℕ) (c e : Calendar) → IsNamed text (calendar_name c) → IsNamed text (calendar_name e) → c ≡ e

-- a text names one target at most
abbrev pub OneTarget : Type 0
OneTarget = (text : List ℕ) (t u : Target) → IsNamed text (target_name t) → IsNamed text (target_name u) → t ≡ u

-- a text says one date of a calendar at most
abbrev pub OneDateText : Type 0
OneDateText =
    (calendar : Calendar) (text : List ℕ) (d e : Date) → IsDateText calendar text d
    → IsDateText calendar text e → d ≡ e

-- the canonical text of a date says that date in its calendar
abbrev pub CanonicalTextsReadBack : Type 0
CanonicalTextsReadBack = (date : Date) → IsDateText (calendar_of_date date) (canonical_text date) date

-- a target and a day have one cell at most
abbrev pub OneCell : Type 0
OneCell = (target : Target) (n : ℤ) (x y : List ℕ) → IsCell target n x → IsCell target n y → x ≡ y

-- the bytes of a cell are digits and letters of ASCII, spaces, dashes and dots
abbrev pub CellsArePlain : Type 0
CellsArePlain = (target : Target) (n : ℤ) (text : List ℕ) → IsCell target n text → IsTrue (list_all is_plain text)

-- a cell has 16 bytes at most, whatever the day
abbrev pub CellsAreShort : Type 0
CellsAreShort = (target : Target) (n : ℤ) (text : List ℕ) → IsCell target n text → length text ≤ 16

-- a list that names no target twice is no longer than the list of all targets
abbrev pub FewTargets : Type 0
FewTargets =
    (targets : List Target)
    → ((i j : ℕ) → i < j → j < length targets → slice_get targets i ≢ slice_get targets j)
    → length targets ≤ length all_targets
