use Rattle.std.proofs.Common.{◌≡◌, ◌+◌, ◌-◌, ◌≤◌, drop, length, Some, slice_get}
use Rattle.written_dates.specs.declared.meanings.Meaning.TheVariants.{Nothing}
use Rattle.written_dates.specs.declared.meanings.Name.{Name}
use Rattle.written_dates.specs.Parts.{parts}
use Rattle.written_dates.specs.Items.{longest}
use Rattle.written_dates.specs.private.Keys.{key, key_of, first_text}
use Rattle.written_dates.specs.Names.{names_in}
use Rattle.written_dates.proofs.items.longest.Given as goal

abbrev pub invariant-names : goal.invariant-names
invariant-names l = record {
  same : longest (parts l.text) (l.count, l.meaning) (names_in l.calendar (drop l.place l.names.listed.now))
      ≡ longest (parts l.text) (0, Nothing) (names_in l.calendar l.names.listed.now);
  keyed : (name : Name) → slice_get l.names.listed.now l.place ≡ Some name
      → key name ≡ key_of (first_text (parts l.text));
  rest : parts l.rest ≡ drop l.count (parts l.text);
  shorter : l.count + length l.rest ≤ length l.text;
}

abbrev pub decreases-names : goal.decreases-names
decreases-names l = length l.names.listed.now - l.place
