-- When what is asked of a sheet is a choice, and which.
use Rattle.std.proofs.Common.{◌≡◌, List, ℕ, map, subst, sym, Err, IfErr, IfOk, Ok}
use Rattle.std.proofs.Common.{Result}
use Rattle.sheets.proofs.Common.{Fields, CalendarMeaning, Name, SheetChoice}
use Rattle.written_dates.specs.Fields.{bare_name, entries}
use Rattle.written_dates.specs.declared.fields.CalendarName.{CalendarName}
use Rattle.sheets.specs.AskedOfSheets.{HasFault, HasHeadings, IsChoice, IsChoiceBy, IsChoiceOf}
use Rattle.sheets.specs.AskedOfSheets.{IsListedChoice, SheetAsked, asked_in}
use Rattle.sheets.specs.NameLists.{calendar_names_in, calendar_seen, name_seen, names_in_dates}
use Rattle.sheets.specs.declared.asked_of_sheets.AskedByNames.{AskedByNames}
use Rattle.sheets.specs.declared.choices.ChoiceFault.{ChoiceFault}
use Rattle.sheets.specs.declared.choices.ChoiceFault.TheVariants as fault
use Rattle.sheets.specs.declared.choices.SheetSetup.{SheetSetup}
use Rattle.sheets.specs.declared.name_lists.NameLine.{NameLine}

-- a choice that was refused is none
no_choice : (choice : SheetChoice) (why : ChoiceFault) → HasFault choice why → ¬ (IsChoice choice)
no_choice choice fault.Dates none ok = none ok.dated
no_choice choice fault.TooManyColumns (dated, over) ok = let few = ok.once.few in absurd (cc)
no_choice choice fault.ColumnTwice (dated, few, again) ok = again ok.once
no_choice choice fault.Delimiter (dated, once, other) ok = let right = ok.delimited in absurd (cc)
no_choice choice fault.Headings (dated, once, right, other) ok = other ok.headed

-- the choice is the same by what is the same
same_choice : (a b : SheetAsked) (m n : List Name) (p q : List (List ℕ × CalendarMeaning)) (x y : Fields)
    (choice : SheetChoice) → a ≡ b → m ≡ n → p ≡ q → x ≡ y → IsChoiceOf a m p x choice → IsChoiceOf b n q y choice
same_choice a b m n p q x y choice ea em ep ex is = rw (ea, em, ep, ex) at is

-- a choice by the names of these lines is one by what they are listed as
pub listed_choice : (by : AskedByNames) (asked : SheetAsked) (lines : List NameLine) (sheet : List ℕ)
    (in_dates : List Name) (of_calendars : List CalendarName) (headings : Fields) (choice : SheetChoice)
    → map name_seen in_dates ≡ names_in_dates lines → map calendar_seen of_calendars ≡ calendar_names_in lines
    → HasHeadings asked sheet headings
    → asked_in by.asked ≡ asked → by.names.listed.now ≡ in_dates → entries by.calendars ≡ map bare_name of_calendars
    → map (λ heading. heading.now) by.headings.items ≡ headings
    → IsChoiceBy by choice → IsListedChoice asked lines sheet choice
listed_choice by asked lines sheet in_dates of_calendars headings choice dates calendars headed ea en ec eh is =
    record {
      in_dates = in_dates;
      of_calendars = of_calendars;
      headings = headings;
      dates_listed = dates;
      calendars_listed = calendars;
      headed = headed;
      chosen = same_choice _ _ _ _ _ _ _ _ choice ea en ec eh is;
    }

-- what a value asks is a choice, or was refused as one
pub chosen_by : (by : AskedByNames) (choice : SheetChoice) (r : Result SheetSetup ChoiceFault)
    → IfOk r (λ setup. setup.choice ≡ choice) → IfOk r (λ setup. IsChoice choice) → IfErr r (HasFault choice)
    → IsChoiceBy by choice → IfOk r (λ setup. IsChoiceBy by setup.choice × IsChoice setup.choice)
    × IfErr r (λ why. (found : SheetChoice) × IsChoiceBy by found × ¬ (IsChoice found))
chosen_by by choice (Ok setup) value good none of =
    ((subst (IsChoiceBy by) (sym value) of, subst IsChoice (sym value) good), tt)
chosen_by by choice (Err why) value good none of = (tt, (choice, of, no_choice choice why none))
