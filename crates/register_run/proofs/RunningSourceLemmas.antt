-- A source that runs: how many rows were popped, as one of its stripes is looked at or gives a row, and its table.
use Rattle.std.proofs.Common.{slice_get, get_or-set_same}
use Rattle.register_run.proofs.Common.{rules, ◌≡◌, ◌∙◌, ◌+◌, ◌<◌, ℕ, zero, suc, List, [], ◌∷◌, ◌++◌, ap, arith, get_or}
use Rattle.register_run.proofs.Common.{length, set, subst, sym, true, Some, length-set, ◌≢◌, ◌⊎◌, None, Option, inl}
use Rattle.register_run.proofs.Common.{inr, Err, IfOk, Ok, Result, IsRowNext, start_fault_cause, AreOpen, HasLooked}
use Rattle.register_run.proofs.Common.{HasLookedAt, HasPopped, IsInTurn, popped_from, taken, turn, World, popped}
use Rattle.register_run.proofs.Common.{Stripe, ∥∥₁_map, Row, Cause, Reading, reading_of, Sent, Table, Carries, AnyTook}
use Rattle.register_run.proofs.Common.{HasPassed}
use Rattle.std.proofs.lemmas.List.Sums.{sum_by-append, sum_by-set}
use Rattle.std.proofs.lemmas.Nat.{mod_below}
use Rattle.std.proofs.lemmas.Option.{slice_get-get_or}
use Rattle.std.proofs.lemmas.List.Elements.{All-cons, All-head, All-tail}
use Rattle.register_records.proofs.TableLemmas.{fault_cases, targets_row}
use Rattle.register_records.specs.TablesWritten.{Holds, table_fault}
use Rattle.register_records.specs.declared.outputs.Output as outputs
use Rattle.register_records.specs.declared.ends.Cause.TheVariants as cause
use Rattle.register_run.specs.declared.stripes.Look.{Look}
use Rattle.register_run.specs.declared.stripes.StartFault.{StartFault}
use Rattle.register_run.specs.private.Written.{Concludes, Wrote}
use Rattle.register_run.proofs.GivenLemmas.{passed_not}

abbrev IsOpen : Stripe → Type 0
IsOpen stripe = stripe.«open» ≡ true

-- where all are open with another stripe in this one's place, and this one is, they all are
opened : (stripes : List Stripe) (at : ℕ) (new d : Stripe) → IsOpen (get_or stripes at d)
    → AreOpen (set stripes at new) → AreOpen stripes
opened [] at new d so all = all
opened (stripe ∷ rest) zero new d so all = All-cons IsOpen stripe rest so (All-tail IsOpen new rest all)
opened (stripe ∷ rest) (suc at) new d so all =
    All-cons IsOpen stripe rest (All-head IsOpen stripe (set rest at new) all)
    (opened rest at new d so (All-tail IsOpen stripe (set rest at new) all))

module _ (stripes : List Stripe) (at : ℕ) (new old : Stripe) (within : at < length stripes)
    (is : old ≡ get_or stripes at old) where
  new_open : AreOpen (set stripes at new) → IsOpen new
  new_open all =
      subst IsOpen (get_or-set_same stripes at new old within)
      (all at old (let long = length-set stripes at new in omega (arith, within, long)))

  were_open : IsOpen old → AreOpen (set stripes at new) → AreOpen stripes
  were_open so all = opened stripes at new old (subst IsOpen is so) all

  popped_more : (n : ℕ) → popped_from new ≡ popped_from old + n → popped (set stripes at new) ≡ popped stripes + n
  popped_more n gains = grind (arith, sum_by-set popped_from stripes at new old within)

  -- the stripe was looked at
  pub looked_at : (found : Look) → HasLooked old new found → HasLookedAt at stripes (set stripes at new) found
  looked_at found looked = record {
    row = λ e d. subst IsRowNext (sym (get_or-set_same stripes at new d within)) (looked.row e);
    ended = λ e all. absurd (let a = new_open all in let b = looked.ended e in cc);
    still = λ all. were_open (looked.still (new_open all)) all;
    none = (let none = looked.none in let more = popped_more 0 (omega (arith, none)) in omega (arith, more));
  }

  -- which leaves the turn where it is
  pub in_turn_looked : (found : Look) → HasLooked old new found → IsInTurn stripes at → IsInTurn (set stripes at new) at
  in_turn_looked found looked turns all w many = grind (arith, looked_at, length-set)

  -- the stripe gave a row
  pub popped_at : new.«open» ≡ old.«open» → popped_from new ≡ popped_from old + 1
      → HasPopped stripes (set stripes at new)
  popped_at same one = (λ all. were_open (sym same ∙ new_open all) all, popped_more 1 one)

one_of : (stripes : List Stripe) → 0 < length stripes → Stripe
one_of [] some = absurd (omega arith)
one_of (stripe ∷ rest) some = stripe

-- once a lane has ended, any may be next
pub in_turn_ended : (stripes : List Stripe) (at : ℕ) → (AreOpen stripes → ⊥) → IsInTurn stripes at
in_turn_ended stripes at ended all w many = absurd (ended all)

-- after a row the turn goes on
pub in_turn_popped : (old new : List Stripe) (at next : ℕ) → HasPopped old new → length new ≡ length old
    → at < length old → IsInTurn old at
    → ((w : World) (k : ℕ) (stripe : Stripe) → w.converters ≡ length new → at ≡ turn w k
    → slice_get new (turn w (k + 1)) ≡ Some stripe → stripe.«open» ≡ true → next ≡ turn w (k + 1)) → IsInTurn new next
in_turn_popped old new at next has long within turns goes all w many =
    let (were, one) = has in
    let k = popped old in
    let there : turn w (k + 1) < length new =
    (let b = mod_below (k + 1) w.converters (omega (arith, many, long, within)) in omega (arith, b, many)) in
    let d = one_of new (omega (arith, long, within)) in
    goes w k (get_or new (turn w (k + 1)) d) many (turns (were all) w (many ∙ long))
    (slice_get-get_or new (turn w (k + 1)) d there) (all (turn w (k + 1)) d there)
    ∙ ap (turn w) (sym one)

-- one more stripe, from which no row was popped
pub unpopped_more : (stripes new : List Stripe) (stripe : Stripe) → new ≡ stripes ++ stripe ∷ []
    → taken stripe.rows ≡ [] → popped stripes ≡ 0 → popped new ≡ 0
unpopped_more stripes new stripe is none before = search (rules, sum_by-append)

-- ---- what a source's table holds, as rows are taken from its stripes

-- what holds of the count of an outcome that has one
if_ok : (outcome : Result ℕ Cause) (P Q : ℕ → Type 0) → ((count : ℕ) → P count → Q count)
    → IfOk outcome (λ count. ∥ P count ∥₁) → IfOk outcome (λ count. ∥ Q count ∥₁)
if_ok (Ok count) P Q f h = ∥∥₁_map h (f count)
if_ok (Err c) P Q f h = tt

-- threads that did not start have passed nothing on
pub not_started : (text : Option (List ℕ)) (reading : Reading) (took : Row → Type 0) (f : StartFault) (sent : Sent)
    → sent.outcome ≡ Err (start_fault_cause f) → HasPassed text reading sent took
not_started text reading took f sent why = grind (arith, passed_not)

-- which is cause 1 or 2
pub why_unstarted : (f : StartFault) (outcome : Result ℕ Cause) → outcome ≡ Err (start_fault_cause f)
    → (outcome ≡ Err cause.NoMemory) ⊎ (outcome ≡ Err cause.NoThread)
why_unstarted f outcome why = grind arith

module _ {W : Type 0} (o : outputs.Ghosts W) where
  -- more was taken, and the same rows are written
  pub wrote_same : (stripes new : List Stripe) (table after : Table W) (output sent : W)
      → ((row : Row) → AnyTook stripes row → AnyTook new row)
      → ((rows : List Row) → Holds o table output rows → Holds o after sent rows)
      → ∥ Wrote o stripes table output ∥₁ → ∥ Wrote o new after sent ∥₁
  wrote_same stripes new table after output sent kept holds h =
      ∥∥₁_map h (λ (rows, is, took). (rows, holds rows is, λ row c. kept row (took row c)))

  -- a row was seen, and added to the table if it is the next one
  pub wrote_row : (stripes : List Stripe) (table headed after : Table W) (output sent : W) (row : Row)
      → AnyTook stripes row → ((rows : List Row) → Holds o table output rows → Holds o headed sent rows)
      → (table_fault after ≡ None → (out : W) (rows : List Row) → Holds o headed out rows
      → Holds o after out (rows ++ row ∷ []))
      → ((table_fault after ≢ None) → (out : W) (rows : List Row) → Holds o headed out rows → Holds o after out rows)
      → ∥ Wrote o stripes table output ∥₁ → ∥ Wrote o stripes after sent ∥₁
  wrote_row stripes table headed after output sent row here head added refused h =
      ∥∥₁_map h (λ (rows, is, took). elim (fault_cases (table_fault after)) [
        | inl none ↦ (
          rows ++ row ∷ [],
          added none sent rows (head rows is),
          targets_row (λ r. AnyTook stripes r) rows row took here,
        )
        | inr some ↦ (rows, refused some sent rows (head rows is), took)
      ])

  -- the threads have ended
  pub concludes : (stripes : List Stripe) (table : Table W) (output : W) (text : Option (List ℕ)) (sent : Sent)
      → HasPassed text (reading_of table.setup) sent (AnyTook stripes)
      → IfOk sent.outcome (λ count. ∥ Carries text table.setup count stripes (AnyTook stripes) ∥₁)
      → ∥ Wrote o stripes table output ∥₁ → ∥ Concludes o text table output sent stripes ∥₁
  concludes stripes table output text sent has carries h = ∥∥₁_map h (λ (rows, is, took). (
    rows,
    is,
    record {
      not_of_output = has.not_of_output;
      rows = λ speaks. ∥∥₁_map (has.rows speaks) (λ (given, so, all). (given, so, λ row c. all row (took row c)));
    },
    if_ok sent.outcome _ _ (λ count (machine, all). (machine, λ row c. all row (took row c))) carries,
  ))
