-- The names of the list are its pieces in order, and each one read so far named a target of its own.
use Rattle.std.proofs.Common.{rules, ℕ, List, ◌≡◌, ap, sym, refl, inl, inr, is_ok, true, Ok, Err, Contains, ◌++◌, codes}
use Rattle.std.proofs.lemmas.List.{map-append}
use Rattle.std.proofs.lemmas.Iterator.Consumers.{YieldsList-end, YieldsList-so_far, YieldsList-turn}
use Rattle.programs.specs.Faults.{refused}
use Rattle.register_arguments.proofs.ListLemmas.{means_just, named_more, names_of_split, never_twice, once_more}
use Rattle.register_arguments.proofs.ListLemmas.{stands_at}
use Rattle.register_arguments.specs.OptionValues.{StandsBehind}
use Rattle.register_arguments.proofs.option_values.read_targets.Goals as goal
use Rattle.register_arguments.proofs.option_values.read_targets.Goals.{In-Some}

pub names-init : goal.names-init
names-init c = (tt, tt, rw c.new-targets.ensures.items tt, rw c.new-targets.ensures.items never_twice)

-- the name stands behind those read so far
behind : (c : In-Some) → StandsBehind c.args.list.now c.names.targets.items c.in-Some.name.now
behind c =
    let split = c.split-name-items.ensures in
    let names = names_of_split c.args.list.now _ _ c.into_iter-name-iterator.ensures.into_iter_gives split.text
    split.has_more split.pattern in
    stands_at c.args.list.now c.names.targets.items _ _ c.in-Some.name.now
    (λ e. let unlike = rw e at c.if-eq.ensures in cc)
    (YieldsList-turn names c.names.yielded _ c.names.yielded_by _ _ c.in-Some.name c.in-Some.is c.next.ensures.steps)
    (YieldsList-so_far names c.names.yielded _ c.names.yielded_by) c.names.invariant.2 c.names.invariant.3

pub returns-in_default-clause-fault : goal.returns-in_default-clause-fault
returns-in_default-clause-fault c =
    means_just c.one_target.ensures c.args.list.now (Err (refused (codes "unknown target: " ++ c.in-Some.name.now))) (inl (
      c.in-Some.name.now,
      refl,
      (
        c.names.targets.items,
        behind (goal.at.returns-in_default-clause-fault c).In-Some,
        λ target is. let some = (c.target_named.ensures target).1 is in cc,
      ),
    ))

pub returns-then-contains-clause-fault : goal.returns-then-contains-clause-fault
returns-then-contains-clause-fault c =
    let sentence : List ℕ → List ℕ = λ word. codes "target named twice: " ++ word in
    means_just c.one_target.ensures c.args.list.now (Err (refused (sentence c.name.result.now))) (inr (
      c.in-Some-target_named.target,
      ap (λ word. refused (sentence word)) c.name.ensures,
      (
        c.names.targets.items,
        c.in-Some.name.now,
        behind (goal.at.returns-then-contains-clause-fault c).In-Some,
        (c.target_named.ensures _).0 c.in-Some-target_named.is,
        search rules,
      ),
    ))

pub names-preserved : goal.names-preserved
names-preserved c =
    let ok : is_ok c.push.result ≡ true = search rules in
    let items = rw ok at c.push.ensures.items in
    let new : ¬ Contains c.names.targets.items c.in-Some-target_named.target = search rules in
    let named = named_more _ _ c.in-Some.name.now c.in-Some-target_named.target c.names.invariant.2
    ((c.target_named.ensures _).0 c.in-Some-target_named.is) in
    (tt, tt, rw (map-append, items) named, rw items (once_more _ _ c.names.invariant.3 new))

pub returns-clause-value : goal.returns-clause-value
returns-clause-value c =
    let split = c.split-name-items.ensures in
    let names = names_of_split c.args.list.now _ _ c.into_iter-name-iterator.ensures.into_iter_gives split.text
    split.has_more split.pattern in
    let all = YieldsList-end names c.names.yielded _ c.names.yielded_by _ _ c.in-None.is c.next.ensures.steps in
    means_just c.one_target.ensures c.args.list.now (Ok c.names.targets.items)
    (inr (λ e. let unlike = rw e at c.if-eq.ensures in cc, rw (sym all.0) c.names.invariant.2, c.names.invariant.3))
