-- What a name says in dates, and the first end of a text that names a style.
use Rattle.std.proofs.Common.{◌≡◌, ◌≤◌, ◌<◌, ◌-◌, ◌∙◌, ℕ, List, [], ◌∷◌, None, Option, Some, ap, arith, drop, false}
use Rattle.std.proofs.Common.{length, nat_le, refl, sym, take}
use Rattle.sheets.proofs.Common.{Calendar, Name}
use Rattle.std.proofs.Math.Seq.{take-length}
use Rattle.std.proofs.lemmas.Bool.Decides.{nat_tests}
use Rattle.written_dates.specs.declared.fields.CalendarNames.{CalendarNames}
use Rattle.written_dates.specs.declared.items.Item.{Item}
use Rattle.sheets.specs.OwnCalendars.{first_style, says_something, style_named}

pub many_say_nothing : (found : Option (List Item)) → ((items : List Item) → found ≡ Some items → 16 < length items)
    → says_something found ≡ false
many_say_nothing None many = refl
many_say_nothing (Some []) many = refl
many_say_nothing (Some (item ∷ items)) many =
    let over : 16 < length (item ∷ items) = many (item ∷ items) refl in
    let no : nat_le (length (item ∷ items)) 16 ≡ false = grind (arith, nat_tests) in
    no

pub found_here : (calendars : CalendarNames) (names : List Name) (text : List ℕ) (style : Calendar) → 1 ≤ length text
    → style_named calendars names text ≡ Some style → first_style calendars names text ≡ Some (length text, style)
unfolding first_style
found_here calendars names [] style some is = absurd (omega arith)
found_here calendars names (byte ∷ text) style some is = rw is refl

pub found_behind : (calendars : CalendarNames) (names : List Name) (text : List ℕ) → 1 ≤ length text
    → style_named calendars names text ≡ None
    → first_style calendars names text ≡ first_style calendars names (take (length text - 1) (drop 1 text))
unfolding first_style
found_behind calendars names [] some is = absurd (omega arith)
found_behind calendars names (byte ∷ text) some is =
    let same : length (byte ∷ text) - 1 ≡ length text = omega arith in
    rw is (ap (first_style calendars names) (sym (ap (λ n. take n text) same ∙ take-length text)))

pub none_found : (calendars : CalendarNames) (names : List Name) (text : List ℕ) → length text < 1
    → first_style calendars names text ≡ None
unfolding first_style
none_found calendars names [] few = refl
none_found calendars names (byte ∷ text) few = absurd (omega arith)
