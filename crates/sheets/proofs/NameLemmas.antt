-- The calendar that a text names.
use Rattle.std.proofs.Common.{◌≡◌, ◌↔◌, ℕ, Bool, true, false, List, [], ◌∷◌, Option, None, Some, refl, inl, inr, sym}
use Rattle.sheets.proofs.Common.{bytes_eq, all_calendars, calendar_name, IsNamed, Calendar, Gregorian}
use Rattle.std.specs.List.{find}
use Rattle.std.specs.Str.{is_utf8, str_to_ascii_lowercase}
use Rattle.std.proofs.lemmas.Bool.{cases_Bool}
use Rattle.std.proofs.lemmas.Slice.Eq.{bytes_eq-Decides}
use Rattle.date_texts.specs.Trimmed.{trimmed}
use Rattle.sheets.specs.Choices.{calendar_called, is_name}

-- where no element passes the test
none_found : {X : Type 0} (test : X → Bool) (xs : List X) → ((x : X) → test x ≡ false) → find test xs ≡ None
none_found test [] h = refl
none_found test (x ∷ xs) h = rw (h x) (none_found test xs h)

-- a calendar's name names it
found_itself : (c : Calendar) → find (λ other. bytes_eq (calendar_name c) (calendar_name other)) all_calendars ≡ Some c
found_itself Gregorian = refl
found_itself c = refl

-- what a text that is UTF-8 names
pub called_by : (text : List ℕ) (called : Option Calendar) → is_utf8 text ≡ true
    → ((c : Calendar) → (called ≡ Some c) ↔ IsNamed text (calendar_name c)) → called ≡ calendar_called text
unfolding calendar_called
called_by text None is h =
    rw is (sym (none_found (is_name text) all_calendars (λ c.
    elim (cases_Bool (is_name text c)) [
      | inl named ↦ absurd (cc ((h c).1 ((bytes_eq-Decides (str_to_ascii_lowercase (trimmed text)) (calendar_name c)).0 named)))
      | inr other ↦ other
    ])))
called_by text (Some c) is h = rw (is, (h c).0 refl) (sym (found_itself c))

-- no other text names one
pub none_called : (text : List ℕ) → is_utf8 text ≡ false → calendar_called text ≡ None
unfolding calendar_called
none_called text is = rw is refl
