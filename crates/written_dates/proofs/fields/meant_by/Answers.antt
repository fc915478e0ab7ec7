use Rattle.std.proofs.Common.{◌≡◌, ◌+◌, ◌∙◌, sym, ap, true, false, List, map, Some, slice_get, get_or}
use Rattle.std.proofs.lemmas.List.{at_drop_all}
use Rattle.std.proofs.lemmas.Option.{slice_get-get_or}
use Rattle.written_dates.specs.declared.fields.CalendarName.{CalendarName}
use Rattle.written_dates.specs.Fields.{entry, meant_by}
use Rattle.written_dates.specs.private.Keys.{calendar_key, key_of, place_from}
use Rattle.written_dates.specs.Words.{same_word}
use Rattle.written_dates.proofs.FieldLemmas.{no_name}
use Rattle.written_dates.proofs.KeyLemmas.{keyed_from}
use Rattle.written_dates.proofs.KeyedLemmas.{passed_over, meant_here, meant_next}
use Rattle.written_dates.proofs.fields.meant_by.Goals as goal

pub names-init : goal.names-init
names-init c =
    let listed = c.as_slice-listed.result.now in
    let k = c.key_of_word.result in
    let first = c.first_with-place.result in
    let at : first ≡ place_from calendar_key k listed 0
    = c.first_with-place.ensures ∙ ap (λ xs. place_from calendar_key k xs 0) (sym c.as_slice-listed.ensures) in
    record {
      same = passed_over c.args.text.now listed 0 first k c.key_of_word.ensures.value at;
      keyed = λ name e. keyed_from calendar_key k listed 0 first at name e ∙ c.key_of_word.ensures.value;
    }

pub names-preserved : goal.names-preserved
names-preserved c =
    let listed = c.as_slice-listed.result.now in
    let text = c.args.text.now in
    let place = c.names.place in
    let name = get_or listed place no_name in
    let there : slice_get listed place ≡ Some name = slice_get-get_or listed place no_name c.names-test.true in
    let none : same_word name.text.now text ≡ false = sym c.is_same_word.ensures ∙ c.if-is_same_word.false in
    let keyed : calendar_key name ≡ key_of text = c.names.invariant.keyed name there in
    let next = c.next_behind-place.result in
    let at : next ≡ place_from calendar_key (calendar_key name) listed (place + 1)
    = c.next_behind-place.ensures.value name
    (ap (λ xs. slice_get xs place) (sym c.as_slice-listed.ensures) ∙ there)
    ∙ ap (λ xs. place_from calendar_key (calendar_key name) xs (place + 1)) (sym c.as_slice-listed.ensures) in
    record {
      same = meant_next text listed place next name there none keyed at ∙ c.names.invariant.same;
      keyed = λ x e. keyed_from calendar_key (calendar_key name) listed (place + 1) next at x e ∙ keyed;
    }

pub returns-then-is_same_word : goal.returns-then-is_same_word
returns-then-is_same_word c =
    let listed = c.as_slice-listed.result.now in
    let text = c.args.text.now in
    let name = get_or listed c.names.place no_name in
    let there : slice_get listed c.names.place ≡ Some name
    = slice_get-get_or listed c.names.place no_name c.names-test.true in
    let same : same_word name.text.now text ≡ true = sym c.is_same_word.ensures ∙ c.if-is_same_word.true in
    meant_here text listed c.names.place name there same ∙ c.names.invariant.same
    ∙ ap (λ xs. meant_by (map entry xs) text) c.as_slice-listed.ensures

pub returns : goal.returns
returns c =
    let listed = c.as_slice-listed.result.now in
    let text = c.args.text.now in
    sym (at_drop_all (λ (xs : List CalendarName). meant_by (map entry xs) text) listed c.names.place c.names-test.false)
    ∙ c.names.invariant.same ∙ ap (λ xs. meant_by (map entry xs) text) c.as_slice-listed.ensures
