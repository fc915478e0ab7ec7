use Rattle.std.proofs.Common.{◌≡◌, ℕ, ◌<◌, List, map, length, take, drop, ◌==◌, Some, None, Option, length-take, rules}
use Rattle.std.proofs.Common.{tests}
use Rattle.register_records.proofs.Common.{tail_order, tail_bytes, position_or_len}
use Rattle.std.proofs.lemmas.Iterator.{YieldsList, YieldsList-from_take}
use Rattle.std.proofs.lemmas.Iterator.Adapters.{YieldsList-from_skip}
use Rattle.std.proofs.lemmas.Iterator.Consumers.{YieldsList-at, YieldsList-end, YieldsList-turn}
use Rattle.std.proofs.lemmas.Iterator.Splits.{YieldsList-from_slice_split}
use Rattle.std.specs.Iterator.{Yields}
use Rattle.register_records.specs.RowTails.{is_cells, fields_of}
use Rattle.register_records.proofs.row_tails.RowTail.cells.Goals as goal
use Rattle.register_records.proofs.row_tails.RowTail.cells.Goals.{After-next}

-- an iterator that gives a list has given all of it, or less
record Given {A B : Type 0} (v : A → B) (all : List B) (given : List A) (next : Option A) : Type 0 where
  less : (x : A) → next ≡ Some x → length given < length all
  whole : next ≡ None → map v given ≡ all

so_far : {S A B : Type 0} {steps : S → Option A → S → Type 0} {v : A → B} {s : S} {all : List B}
    → YieldsList steps v s all → (given : List A) (t : S) → Yields steps s given t → (next : Option A) (u : S)
    → steps t next u → Given v all given next
so_far list given t by next u step = record {
  less = λ x is. (YieldsList-turn list given t by next u x is step).0;
  whole = λ is. (YieldsList-end list given t by next u is step).0;
}

given_cells : (c : After-next)
    → Given (λ cell. cell.now)
    (take c.args.count (drop (position_or_len is_cells tail_order) (fields_of c.args.self.now))) c.cells.yielded
    c.next.result
given_cells c =
    let self = c.args.self.now in
    so_far (YieldsList-at c.into_iter-cell-iterator.ensures.into_iter_gives
    (YieldsList-from_take _ (YieldsList-at c.take-cell-items.ensures.source
    (YieldsList-from_skip _ (YieldsList-at c.skip.ensures.source
    (YieldsList-from_skip _ (YieldsList-at c.skip-fields.ensures.source
    (YieldsList-from_slice_split _ (λ (b : ℕ). b == self.delimiter) (tail_bytes self) c.split-parts.ensures.rest
    c.split-parts.ensures.done c.split-parts.ensures.closure (λ x r q k. search (rules, tests))))
    c.skip-fields.ensures.count)) c.skip.ensures.count)) c.take-cell-items.ensures.count))
    c.cells.yielded _ c.cells.yielded_by _ _ c.next.ensures.steps

pub push-requires : goal.push-requires
push-requires c = search (rules, given_cells, length-take)

pub returns : goal.returns
returns c = rw c.cells.invariant ((given_cells (goal.at.returns c).After-next).whole c.in-None.is)
