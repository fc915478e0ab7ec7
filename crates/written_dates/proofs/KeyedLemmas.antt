-- Names of calendars whose key is another are none that a text is.
use Rattle.std.proofs.Common.{◌≡◌, ℕ, ◌+◌, Bool, true, false, ◌==◌, List, ◌∷◌, map, refl, ap, sym, ◌∙◌, drop, arith}
use Rattle.std.proofs.Common.{Some, slice_get}
use Rattle.std.proofs.lemmas.Bool.Decides.{nat_tests}
use Rattle.written_dates.specs.Words.{same_word}
use Rattle.written_dates.specs.Fields.{entry, meant_by}
use Rattle.written_dates.specs.private.Keys.{calendar_key, key_of, place_from}
use Rattle.written_dates.specs.declared.fields.CalendarName.{CalendarName}
use Rattle.written_dates.proofs.KeyLemmas.{at_place, same_key, skip}

unlike : (a text : List ℕ) (k : ℕ) → k ≡ key_of text → (key_of a == k) ≡ false → same_word a text ≡ false
unlike a text k is h =
    let alike : (x : Bool) → same_word a text ≡ x → x ≡ false
    = λ x. elim x as (λ x. same_word a text ≡ x → x ≡ false) [
      | true ↦ λ e. absurd (let same : key_of a ≡ key_of text = same_key a text e in
          let yes : (key_of a == k) ≡ true = grind (arith, nat_tests) in cc)
      | false ↦ λ e. refl
    ] in
    alike (same_word a text) refl

pub passed_over : (text : List ℕ) (names : List CalendarName) (from place k : ℕ) → k ≡ key_of text
    → place ≡ place_from calendar_key k names from
    → meant_by (map entry (drop place names)) text ≡ meant_by (map entry (drop from names)) text
passed_over text names from place k is at =
    rw at (skip calendar_key (λ xs. meant_by (map entry xs) text) k names from
    (λ name rest h. let none = unlike name.text.now text k is h in rw none refl))

pub meant_next : (text : List ℕ) (names : List CalendarName) (place next : ℕ) (name : CalendarName)
    → slice_get names place ≡ Some name → same_word name.text.now text ≡ false → calendar_key name ≡ key_of text
    → next ≡ place_from calendar_key (calendar_key name) names (place + 1)
    → meant_by (map entry (drop next names)) text ≡ meant_by (map entry (drop place names)) text
meant_next text names place next name there none keyed at =
    let behind = drop (place + 1) names in
    let head : meant_by (map entry (name ∷ behind)) text ≡ meant_by (map entry behind) text = rw none refl in
    passed_over text names (place + 1) next (calendar_key name) keyed at
    ∙ sym (ap (λ xs. meant_by (map entry xs) text) (at_place names place name there) ∙ head)

pub meant_here : (text : List ℕ) (names : List CalendarName) (place : ℕ) (name : CalendarName)
    → slice_get names place ≡ Some name → same_word name.text.now text ≡ true
    → Some name.meaning ≡ meant_by (map entry (drop place names)) text
meant_here text names place name there h = rw (at_place names place name there, h) refl
