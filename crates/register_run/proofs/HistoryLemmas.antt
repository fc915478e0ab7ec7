-- The machine: lanes that carried what it deals have the histories of its lanes, and its law over every schedule.
use Rattle.std.proofs.Common.{is_ok, nat_lt, lt-ltb}
use Rattle.register_run.proofs.Common.{rules, ◌≡◌, ◌∙◌, ◌+◌, ◌<◌, ℕ, List, [], ◌∷◌, true, false, ap, arith, map, refl}
use Rattle.register_run.proofs.Common.{sym, Bool, Err, IfOk, Ok, Option, Result, length, replicate, leb-true}
use Rattle.register_run.proofs.Common.{length-replicate, Fields, HaveHistories, HasSent, ∥∥₁_map, and_parts}
use Rattle.register_run.proofs.Common.{length-map, AllZip-long, Closed, AreNumberedFrom, Numbered, Entry, reading_of}
use Rattle.register_run.proofs.Common.{Setup, Cause, Actor, start, AnyTook, HasPassedOn, HavePassedOn, feeding_lane}
use Rattle.register_run.proofs.Common.{stripe_setup, WereDealt, dealt, Carries, AreOfLanes, World, Stripe, AllZip}
use Rattle.register_run.proofs.Common.{HasFirstEntries, Reading, numbers}
use mathlib.Core.Bool.{beq}
use Rattle.lane_rings.specs.Histories.{entries_over, rows_over}
use Rattle.lane_rings.specs.Places.{table_rows}
use Rattle.lane_rings.proofs.Places.{HaveNumbersFrom, KeepNumbers}
use Rattle.lane_rings.proofs.OneByOneLemmas.{all_over, one_by_one}
use Rattle.lane_rings.proofs.PartLemmas.{part}
use Rattle.lane_rings.proofs.PlaceLemmas.{numbered_front}
use Rattle.register_records.specs.Entries.{entries_from}
use Rattle.register_records.specs.Seals.{entry_records}
use Rattle.register_records.specs.declared.setups.Form.{Form}
use Rattle.lane_rings.specs.Schedules.{run}
use Rattle.date_texts.specs.declared.target.Target.{Target}
use Rattle.register_records.specs.Outcomes.{IsRowOf}
use Rattle.register_run.specs.EveryScheduleLaw.{IsWorldOf}
use Rattle.register_run.proofs.StripeLemmas.{took_dealt}

-- what is dealt by numbers is what is dealt by places
dealt_part : (w : World) (j k : ℕ) (entries : List Numbered) → AreNumberedFrom (k + 1) entries
    → dealt w j entries ≡ part w.converters j k entries
dealt_part w j k [] numbered = refl
dealt_part w j k (e ∷ entries) numbered = grind (arith, numbered.0, dealt_part w j (k + 1) entries numbered.1)

-- stripes whose lanes carried what was dealt have the histories of a schedule with which that goes over the lanes
have_histories : (w : World) (schedule : List Actor) (given : List Numbered) (i : ℕ) (stripes : List Stripe)
    (closed : List (Closed Entry)) → ((j : ℕ) → entries_over w j schedule start ≡ dealt w j given)
    → ((j : ℕ) → rows_over w j schedule start ≡ map w.row_of (dealt w j given))
    → HavePassedOn true stripes closed → WereDealt w i given closed → HaveHistories w schedule i stripes closed
have_histories w schedule given i (stripe ∷ stripes) (c ∷ closed) es rs on deals =
    grind (arith, have_histories w schedule given (i + 1) stripes closed es rs on.1 deals.1)
have_histories w schedule given i stripes closed es rs on deals = on

-- the lanes of stripes that passed all on have the histories of the machine's lanes in a schedule
of_machine : (given : List Numbered) (count ring : ℕ) (stripes : List Stripe) (closed : List (Closed Entry)) → 0 < ring
    → length stripes ≡ count → AreNumberedFrom 1 given → HavePassedOn true stripes closed
    → ((w : World) → w.converters ≡ length closed → WereDealt w 0 given closed)
    → (w : World) → w.entries ≡ given → w.converters ≡ count → w.ring ≡ ring
    → (schedule : List Actor) × ((run w schedule start).popped ≡ table_rows w)
    × HaveHistories w schedule 0 stripes closed
of_machine given count ring stripes closed some staffed numbered on deals w is many size =
    let room : nat_lt 0 w.ring ≡ true = lt-ltb 0 w.ring (omega (arith, some, size)) in
    let schedule = one_by_one w 0 given in let over = all_over w room given [] 0 [] is refl refl in (
      schedule,
      (over 0).2 ∙ ap (map w.row_of) (sym is),
      have_histories w schedule given 0 stripes closed
          (λ j. (over j).0 ∙ sym (dealt_part w j 0 given numbered))
          (λ j. (over j).1 ∙ ap (λ (l : List Numbered). map w.row_of l) (sym (dealt_part w j 0 given numbered)))
          on (deals w (many ∙ sym staffed ∙ sym (AllZip-long (HasPassedOn true) stripes closed on))),
    )

some_room : (setup : Setup) → 0 < setup.ring
some_room setup = search (rules, leb-true, and_parts)

pub staff : (setup : Setup) (stripes : List Stripe) → map stripe_setup stripes ≡ replicate setup.stripes setup
    → length stripes ≡ setup.stripes
staff setup stripes staffed = grind (arith, length-map stripes stripe_setup, length-replicate setup.stripes setup)

-- threads that ended with a count
pub joined_of_machine : (text : Option (List ℕ)) (setup : Setup) (stripes : List Stripe) (closed : List (Closed Entry))
    (n : ℕ) (outcome : Result ℕ Cause) (ended complete : Bool) → beq ended complete ≡ true → complete ≡ is_ok outcome
    → map stripe_setup stripes ≡ replicate setup.stripes setup → AreOfLanes (map feeding_lane stripes) closed
    → ∥ HasSent text (reading_of setup) (record { count = n; outcome = outcome }) closed ∥₁
    → HavePassedOn ended stripes closed
    → IfOk outcome (λ count. ∥ Carries text setup count stripes (AnyTook stripes) ∥₁)
joined_of_machine text setup stripes closed n (Err cause) ended complete same is staffed from sent on = tt
joined_of_machine text setup stripes closed n (Ok count) true complete same is staffed from sent on =
    ∥∥₁_map sent (λ (given, so, deals). (
      record {
        given = given;
        closed = closed;
        counted = sym so.all.0;
        numbered = so.numbered;
        entries = so.all.1;
        staffed = staffed;
        lanes = from;
        schedule = of_machine given setup.stripes setup.ring stripes closed (some_room setup)
            (staff setup stripes staffed)
            so.numbered on deals;
      },
      took_dealt given true stripes closed deals on,
    ))
joined_of_machine text setup stripes closed n (Ok count) false complete same is staffed from sent on = cc

-- ---- the law of the machine, for the worlds of texts: their entries are numbered from 1, and so are their rows

-- the entries of a text are numbered from 1, and their rows have their numbers
entries_numbered : (form : Form) (k : ℕ) (records : List Fields)
    → HaveNumbersFrom numbers (k + 1) (entries_from form k records)
unfolding entries_from
entries_numbered form k [] = tt
entries_numbered form k (r ∷ records) = grind (arith, entries_numbered form (k + 1) records)

first_entries_numbered : (reading : Reading) (text : Option (List ℕ)) (entries : List Numbered)
    → HasFirstEntries reading text entries → HaveNumbersFrom numbers 1 entries
first_entries_numbered reading text entries (rest, (records, has, are)) =
    numbered_front numbers 1 entries rest
    (rw (← are) at (entries_numbered reading.form 0 (entry_records reading.form records)))

rows_keep_numbers : (targets : List Target) (w : World) (entries : List Numbered)
    → AllZip (IsRowOf targets) entries (map w.row_of entries) → KeepNumbers numbers w entries
rows_keep_numbers targets w [] h = tt
rows_keep_numbers targets w (x ∷ entries) h = (h.0.number, rows_keep_numbers targets w entries h.1)

pub numbers_of : {reading : Reading} {targets : List Target} {text : Option (List ℕ)} {w : World}
    → IsWorldOf reading targets text w → HaveNumbersFrom numbers 1 w.entries × KeepNumbers numbers w w.entries
numbers_of {w = w} h =
    (first_entries_numbered _ _ w.entries h.entries, rows_keep_numbers _ w w.entries h.rows)
