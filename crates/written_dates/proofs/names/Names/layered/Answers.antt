use Rattle.std.proofs.Common.{◌≡◌, ◌-◌, ◌∙◌, rules, Some, slice_get, get_or, arith}
use Rattle.std.proofs.lemmas.Option.{slice_get-get_or}
use Rattle.std.proofs.lemmas.Grind.{get_or_default_zero}
use Rattle.written_dates.specs.private.Keys.{key}
use Rattle.written_dates.proofs.KeyLemmas.{indexed_more, nothing_indexed, no_name_at}
use Rattle.written_dates.proofs.names.Names.layered.Goals as goal

pub names-init : goal.names-init
names-init c = record {
  within = omega arith;
  indexed = nothing_indexed key c.args.listed.now c.in_ok-firsts.firsts.items c.in_ok-nexts.nexts.items
      (c.in_ok-firsts.ensures.items_if_clones_equal (λ y same. same)) (search rules);
}

pub names-preserved : goal.names-preserved
names-preserved c =
    let names = c.args.listed.now in
    let from = c.names.place - 1 in
    let name = get_or names from no_name_at in
    let there : slice_get names from ≡ Some name = slice_get-get_or names from no_name_at (omega arith) in
    let keys = c.names.invariant.indexed.keys in
    let next : c.index.result.now ≡ get_or c.names.firsts.items c.key_of_name-key.result 0
    = c.index.ensures
    ∙ get_or_default_zero c.names.firsts.items c.key_of_name-key.result c.index.result.now (omega (arith, keys)) in
    record {
      within = omega arith;
      indexed = indexed_more key names c.names.firsts.items c.names.nexts.items from c.names.place
          c.key_of_name-key.result c.index.result.now name there c.key_of_name-key.ensures.value
          c.key_of_name-key.ensures.within next (omega arith) c.names.invariant.indexed;
    }

pub invariant_of-result : goal.invariant_of-result
invariant_of-result c =
    let none : c.names.place ≡ 0 = omega arith in record { indexed = rw none at c.names.invariant.indexed }
