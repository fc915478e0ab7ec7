use Rattle.std.proofs.Common.{◌≡◌, ◌+◌, ◌∙◌, ap, refl, Some, slice_get, get_or, arith}
use Rattle.std.proofs.lemmas.Option.{slice_get-get_or}
use Rattle.written_dates.specs.declared.meanings.Meaning.TheVariants.{Nothing}
use Rattle.written_dates.specs.Parts.{parts}
use Rattle.written_dates.specs.private.Keys.{key, key_of, first_text}
use Rattle.written_dates.proofs.KeyLemmas.{looked_up, keyed_at, next_same, no_name_at}
use Rattle.written_dates.proofs.items.longest.Goals as goal

pub names-init : goal.names-init
names-init c =
    let is : c.key_of_word.result ≡ key_of (first_text (parts c.args.text.now))
    = c.key_of_word.ensures.value ∙ ap key_of c.requires in
    record {
      same = looked_up (parts c.args.text.now) c.args.calendar (0, Nothing) c.args.names.now.listed.now 0
          c.first_with-place.result c.key_of_word.result is c.first_with-place.ensures;
      keyed = keyed_at (parts c.args.text.now) c.args.names.now.listed.now 0
          c.first_with-place.result c.key_of_word.result is c.first_with-place.ensures;
      rest = refl;
      shorter = omega arith;
    }

pub names-preserved : goal.names-preserved
names-preserved c =
    let names = c.args.names.now.listed.now in
    let text = parts c.args.text.now in
    let name = get_or names c.names.place no_name_at in
    let there : slice_get names c.names.place ≡ Some name = slice_get-get_or names c.names.place no_name_at c.names-test.true in
    let keyed : key name ≡ key_of (first_text text) = c.names.invariant.keyed name there in
    let next = c.next_behind-place.ensures.value name there in
    record {
      same = next_same text c.args.calendar (c.names.count, c.names.meaning) (c.longer.result.0, c.longer.result.1) names
          c.names.place c.next_behind-place.result name there c.longer.ensures.value keyed next ∙ c.names.invariant.same;
      keyed = keyed_at text names (c.names.place + 1) c.next_behind-place.result (key name) keyed next;
      rest = c.longer.ensures.rest;
      shorter = c.longer.ensures.shorter;
    }
