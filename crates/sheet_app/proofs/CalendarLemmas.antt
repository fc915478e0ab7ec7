-- What words say of the calendar of dates.
use Rattle.std.proofs.Common.{◌≡◌, ◌∙◌, List, Option, None, Some, IfSome, ap, map, refl, subst, sym, ℕ, IfNone}
use Rattle.std.proofs.lemmas.Simd.{map-map}
use Rattle.sheet_app.proofs.Common.{Text, NameLine, bare_name}
use Rattle.sheets.specs.NameLists.{calendar_names_in, calendar_seen}
use Rattle.sheets.specs.NameMeanings.{SaysCalendar}
use Rattle.written_dates.specs.Fields.{calendar_meant, without_blanks}
use Rattle.written_dates.specs.declared.fields.CalendarMeaning.{CalendarMeaning}
use Rattle.written_dates.specs.declared.fields.CalendarName.{CalendarName}
use Rattle.sheet_app.specs.CalendarWords.{IsMeant, SaysBy, SaysNothing, named_in}

-- names without the blanks at their ends, as lists have them
bare_listed : (names : List CalendarName)
    → map bare_name names ≡ map (λ e. (without_blanks e.0, e.1)) (map calendar_seen names)
bare_listed names = sym (map-map (λ (e : List ℕ × CalendarMeaning). (without_blanks e.0, e.1)) calendar_seen names)

-- what a word means by the names that lines give
pub named_by : (lines : List NameLine) (names : List CalendarName) (entries : List (List ℕ × CalendarMeaning))
    (word : Text) (found : Option CalendarMeaning) → map calendar_seen names ≡ calendar_names_in lines
    → entries ≡ map bare_name names → found ≡ calendar_meant entries word → found ≡ named_in lines word
named_by lines names entries word found listed made is =
    is ∙ ap (λ (l : List (List ℕ × CalendarMeaning)). calendar_meant l word)
    (made ∙ bare_listed names ∙ ap (map (λ e. (without_blanks e.0, e.1))) listed)

-- what a word says that means something by names, and what it says itself where it does not
pub said_by_name : (lines : List NameLine) (word : Text) (meaning : CalendarMeaning)
    → Some meaning ≡ named_in lines word → SaysBy lines word meaning
said_by_name lines word meaning is = subst (λ (n : Option CalendarMeaning). IsMeant n word meaning) is refl

pub said_itself : (lines : List NameLine) (word : Text) (said : Option CalendarMeaning)
    → None ≡ named_in lines word → IfSome said (SaysCalendar word) → IfSome said (SaysBy lines word)
said_itself lines word None is says = tt
said_itself lines word (Some meaning) is says = subst (λ (n : Option CalendarMeaning). IsMeant n word meaning) is says

pub says_nothing : (lines : List NameLine) (word : Text) (said : Option CalendarMeaning)
    → None ≡ named_in lines word → (said ≡ None → (meaning : CalendarMeaning) → ¬ SaysCalendar word meaning)
    → IfNone said (SaysNothing lines word)
says_nothing lines word None is none =
    λ meaning says. none refl meaning (subst (λ (n : Option CalendarMeaning). IsMeant n word meaning) (sym is) says)
says_nothing lines word (Some meaning) is none = tt
