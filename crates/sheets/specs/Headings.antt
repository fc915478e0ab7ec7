-- What heads the columns that come behind a sheet.
use Rattle.std.specs.Prelude.{◌≡◌, ◌<◌, ◌+◌, ◌++◌, ⊤, ℕ, zero, suc, Bool, true, false, List, [], ◌∷◌, codes}
use Rattle.std.specs.Prelude.{get_or, length, map, if◌then◌else◌, nat_lt, Vec}
use Rattle.std.specs.declared.alloc.Global.{Global}
use Rattle.std.specs.Fmt.{decimal}
use Rattle.std.specs.List.{flat_map, list_any}
use Rattle.std.specs.Str.{bytes_eq}
use Rattle.date_texts.specs.Calendars.{target_name}
use Rattle.register_records.specs.Entries.{Fields}
use Rattle.sheets.specs.declared.choices.AskedColumn.{AskedColumn}
use Rattle.sheets.specs.declared.choices.AskedColumn.TheVariants.{Cells, Church, DayNumber, Weekday}
use Rattle.sheets.specs.declared.choices.DateColumn.{DateColumn}
use Rattle.sheets.specs.declared.choices.Spans.{Spans}
use Rattle.sheets.specs.declared.choices.Spans.TheVariants as spans

-- the name of a column asked
abbrev pub asked_name : AskedColumn → List ℕ
asked_name DayNumber = codes "rd"
asked_name Weekday = codes "weekday"
asked_name Church = codes "church"
asked_name (Cells target) = target_name target

-- one name behind another, with a space (32) between
abbrev pub behind : List ℕ → List ℕ → List ℕ
behind front name = front ++ 32 ∷ name

abbrev pub asked_behind : List ℕ → AskedColumn → List ℕ
asked_behind end column = behind end (asked_name column)

-- those of the columns asked: with spans, for the first day, and then for the last day
abbrev pub column_names : Spans → List AskedColumn → Fields
column_names spans.Unread columns = map asked_name columns
column_names spans.Ends columns =
    map (asked_behind (codes "first")) columns ++ map (asked_behind (codes "last")) columns
column_names spans.EndsAndEdtf columns =
    map (asked_behind (codes "first")) columns ++ map (asked_behind (codes "last")) columns

abbrev pub mark_names : Spans → Fields
mark_names spans.Unread = []
mark_names spans.Ends = codes "mark" ∷ []
mark_names spans.EndsAndEdtf = codes "edtf" ∷ codes "mark" ∷ []

-- the names of the columns for a column of dates
abbrev pub asked_names : Spans → List AskedColumn → Fields
asked_names kind columns = column_names kind columns ++ mark_names kind ++ codes "refusal" ∷ []

-- the name that a column of a column of dates is to have: of several, with the own name of that and a space (32) before
abbrev pub wanted_heading : Bool → List ℕ → List ℕ → List ℕ
wanted_heading several own name = if several then behind own name else name

abbrev pub wanted_for : Bool → Fields → Spans → List AskedColumn → DateColumn → Fields
wanted_for several own kind columns date =
    map (wanted_heading several (get_or own date.date [])) (asked_names kind columns)

-- those of all columns of dates, of a sheet with these names
abbrev pub wanted_headings : List DateColumn → Spans → List AskedColumn → Fields → Fields
wanted_headings dates kind columns own = flat_map (wanted_for (nat_lt 1 (length dates)) own kind columns) dates

-- the name itself, or with a space and a number from 2 behind it
abbrev pub numbered : List ℕ → ℕ → List ℕ
numbered name zero = name
numbered name (suc count) = name ++ 32 ∷ decimal (count + 2)

abbrev pub is_taken : Fields → List ℕ → Bool
is_taken taken name = list_any (bytes_eq name) taken

-- the heading is the first of these that is not taken
pub record IsHeading (taken : Fields) (wanted heading : List ℕ) : Type 0 where
  pub count : ℕ
  pub is : heading ≡ numbered wanted count
  pub free : is_taken taken heading ≡ false
  pub least : (fewer : ℕ) → fewer < count → is_taken taken (numbered wanted fewer) ≡ true

-- these are the headings for the names wanted, one for one, where those names are taken: each takes its own
abbrev pub AreHeadings : Fields → Fields → Fields → Type 0
AreHeadings taken [] [] = ⊤
AreHeadings taken (wanted ∷ others) (heading ∷ headings) =
    IsHeading taken wanted heading × AreHeadings (taken ++ heading ∷ []) others headings
AreHeadings taken wanted headings = ⊥

-- the bytes of texts
abbrev pub items_of : List (Vec ℕ Global) → Fields
items_of texts = map (λ text. text.items) texts
