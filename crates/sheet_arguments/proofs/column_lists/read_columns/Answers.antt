-- The names of the list are its pieces in order, and each one read so far named a column of its own.
use Rattle.std.proofs.Common.{rules, ◌≡◌, ◌∙◌, ◌++◌, ◌∷◌, List, [], ap, is_ok, map, refl, sym, true}
use Rattle.std.proofs.lemmas.List.{map-append}
use Rattle.std.proofs.lemmas.Iterator.Consumers.{YieldsList-end, YieldsList-so_far, YieldsList-turn}
use Rattle.clap.specs.Words.{Text}
use Rattle.sheet_arguments.specs.WordLists.{names_in, with_columns}
use Rattle.sheet_arguments.proofs.WordLemmas.{column_again, column_fault, column_more, cut_behind, names_of_split}
use Rattle.sheet_arguments.proofs.column_lists.read_columns.Goals as goal
use Rattle.sheet_arguments.proofs.column_lists.read_columns.Goals.{In-Some}

pub names-init : goal.names-init
names-init c = (tt, tt, rw c.new-columns.ensures.items refl)

-- the list is the names so far, this one, and others
cut : (c : In-Some) → (after : List Text) × (names_in c.args.list.now
    ≡ map (λ name. name.now) c.names.yielded ++ c.in-Some.name.now ∷ after)
cut c =
    let split = c.split-name-items.ensures in
    let names = names_of_split c.args.list.now _ _ c.into_iter-name-iterator.ensures.into_iter_gives split.text
    split.has_more split.pattern in
    cut_behind (names_in c.args.list.now) (map (λ name. name.now) c.names.yielded) _ c.in-Some.name.now
    (YieldsList-turn names c.names.yielded _ c.names.yielded_by _ _ c.in-Some.name c.in-Some.is c.next.ensures.steps)
    (YieldsList-so_far names c.names.yielded _ c.names.yielded_by)

pub returns-in_default-clause-fault : goal.returns-in_default-clause-fault
returns-in_default-clause-fault c =
    let (after, is) = cut (goal.at.returns-in_default-clause-fault c).In-Some in
    ap (with_columns []) is ∙ column_fault (map (λ name. name.now) c.names.yielded) c.in-Some.name.now
    c.names.columns.items c.names.invariant.2 after (sym c.column_named.ensures ∙ c.in_default.is)

pub returns-then-is_among-clause-fault : goal.returns-then-is_among-clause-fault
returns-then-is_among-clause-fault c =
    let (after, is) = cut (goal.at.returns-then-is_among-clause-fault c).In-Some in
    rw c.column_name.ensures (ap (with_columns []) is ∙ column_again (map (λ name. name.now) c.names.yielded)
    c.in-Some.name.now c.names.columns.items c.names.invariant.2 after c.in-Some-column_named.column
    (sym c.column_named.ensures ∙ c.in-Some-column_named.is)
    (rw c.as_slice.ensures.value at (sym c.is_among.ensures ∙ c.if-is_among.true)))

pub names-preserved : goal.names-preserved
names-preserved c =
    let ok : is_ok c.push.result ≡ true = search rules in
    let items = rw ok at c.push.ensures.items in
    let more = column_more (map (λ name. name.now) c.names.yielded) c.in-Some.name.now c.names.columns.items
    c.names.invariant.2 c.in-Some-column_named.column
    (sym c.column_named.ensures ∙ c.in-Some-column_named.is)
    (rw c.as_slice.ensures.value at (sym c.is_among.ensures ∙ c.if-is_among.false)) in
    (tt, tt, rw (map-append, items) more)

pub returns-clause-value : goal.returns-clause-value
returns-clause-value c =
    let split = c.split-name-items.ensures in
    let names = names_of_split c.args.list.now _ _ c.into_iter-name-iterator.ensures.into_iter_gives split.text
    split.has_more split.pattern in
    let all = YieldsList-end names c.names.yielded _ c.names.yielded_by _ _ c.in-None.is c.next.ensures.steps in
    ap (with_columns []) (sym all.0) ∙ c.names.invariant.2
