-- The law, from what every act keeps, and that enough rounds pop all rows.
use Rattle.std.proofs.Common.{rules, ◌≡◌, ◌<◌, ◌≤◌, ◌+◌, ◌*◌, ℕ, List, [], ◌∷◌, length, inl, inr, refl, sym, subst, ap}
use Rattle.std.proofs.Common.{arith, ◌++◌, ◌∙◌, zero, suc, Contains, take_all}
use Rattle.std.proofs.lemmas.Bool.{cases_lt}
use Rattle.std.proofs.lemmas.List.{length-map}
use Rattle.std.proofs.lemmas.Nat.{mod_below}
use Rattle.lane_rings.specs.Machine.{World, State, Actor, act, start, Reader, Converter, Writer}
use Rattle.lane_rings.specs.Schedules.{AtMostChange, HasChanges, at_end, change, idle, run, standing, Changes}
use Rattle.lane_rings.specs.Schedules.{HasRounds, IsRound}
use Rattle.lane_rings.specs.Places.{ArePoppedInOrder, EachStandsOnce, GoesOn, Numbers}
use Rattle.lane_rings.proofs.Places.{HaveNumbersFrom, KeepNumbers}
use Rattle.lane_rings.specs.Places.{HasToMove, in_converter, in_entry_lane, in_row_lane, not_pushed, table_rows}
use Rattle.lane_rings.proofs.ActLemmas.{act_stays_or_steps}
use Rattle.lane_rings.proofs.InvariantLemmas.{Kept, progress, steps_change, weight, few_standing, popped_in_order}
use Rattle.lane_rings.proofs.InvariantLemmas.{progress_bound}
use Rattle.lane_rings.proofs.PlaceLemmas.{goes_on, each_stands_once}
use Rattle.lane_rings.proofs.PartLemmas.{total_zero}

-- a schedule keeps the invariant, and takes entries forward by a place with each act that changes something
pub record Went {E R : Type 0} (w : World E R) (schedule : List Actor) (s : State E R) : Type 0 where
  pub kept : Kept w (run w schedule s)
  pub count : ℕ
  pub changes : HasChanges w schedule s count
  pub further : progress w (run w schedule s) ≡ progress w s + count

pub went : {E R : Type 0} (w : World E R) → 0 < w.converters → (schedule : List Actor) (s : State E R) → Kept w s
    → Went w schedule s
went w h [] s v = record { kept = v; count = 0; changes = at_end; further = omega arith }
went w h (a ∷ schedule) s v =
    elim (act_stays_or_steps w h s v a) [
      | inl stays ↦
          let rest = went w h schedule (act w a s) (subst (Kept w) (sym stays) v) in
          record {
            kept = rest.kept;
            count = rest.count;
            changes = idle stays rest.changes;
            further = omega (arith, rest.further, ap (progress w) stays);
          }
      | inr steps ↦
          let rest = went w h schedule (act w a s) steps.kept in
          record {
            kept = rest.kept;
            count = rest.count + 1;
            changes = change (steps_change w s (act w a s) steps) rest.changes;
            further = omega (arith, rest.further, steps.further);
          }
    ]

pub kept_at_start : {E R : Type 0} (w : World E R) → Kept w start
kept_at_start w =
    record {
      done = [];
      between = [];
      left = w.entries;
      entries = refl;
      pushed = omega arith;
      popped = refl;
      stripes = λ i.
          record { converted = []; rows = refl; all = refl; room = omega arith; row_room = omega arith };
    }

no_progress : {E R : Type 0} (w : World E R) → progress w start ≡ 0
no_progress {E} {R} w = search (rules, total_zero, weight)

module _ {E R : Type 0} (numbers : Numbers E R) (w : World E R) (some_converters : 0 < w.converters)
    (some_room : 0 < w.ring) (numbered : HaveNumbersFrom numbers 1 w.entries)
    (same_numbers : KeepNumbers numbers w w.entries) (schedule : List Actor) where
  reached : Went w schedule start
  reached = went w some_converters schedule start (kept_at_start w)

  pub in_order : ArePoppedInOrder w (run w schedule start)
  in_order = popped_in_order w some_converters (run w schedule start) reached.kept

  pub one_place : EachStandsOnce numbers w (run w schedule start)
  one_place = each_stands_once numbers w (run w schedule start) reached.kept numbered same_numbers

  pub few_changes : AtMostChange w schedule (4 * length w.entries)
  few_changes = search (rules, progress_bound, reached, no_progress)

  pub few_stand : standing w (run w schedule start) ≤ w.converters * (2 * w.ring + 1)
  few_stand = few_standing w some_converters (run w schedule start) reached.kept

  pub next_goes_on : GoesOn numbers w (run w schedule start)
  next_goes_on = search (rules, goes_on, reached)

-- ---- a schedule with enough rounds pops all rows

module _ {E R : Type 0} (w : World E R) (h : 0 < w.converters) where
  run_append : (xs ys : List Actor) (s : State E R) → run w (xs ++ ys) s ≡ run w ys (run w xs s)
  run_append [] ys s = refl
  run_append (x ∷ xs) ys s = run_append xs ys (act w x s)

  -- no schedule takes an entry back
  not_back : (schedule : List Actor) (s : State E R) → Kept w s → progress w s ≤ progress w (run w schedule s)
  not_back schedule s v = let further = (went w h schedule s v).further in omega (arith, further)

  -- where an actor's act changes something, actors of whom it is one change something
  moves : (actors : List Actor) (a : Actor) (s : State E R) → Kept w s → Changes w a s → Contains actors a
      → progress w s < progress w (run w actors s)
  moves [] a s v changes (k, below, is) = absurd (omega (arith, below))
  moves (x ∷ actors) a s v changes (zero, below, is) = search (rules, act_stays_or_steps, not_back)
  moves (x ∷ actors) a s v changes (suc k, below, is) =
      elim (act_stays_or_steps w h s v x) [
        | inl stays ↦
            let rest =
            moves actors a (act w x s) (subst (Kept w) (sym stays) v)
            (subst (λ t. Changes w a t) (sym stays) changes) (k, omega (arith, below), is) in
            omega (arith, rest, ap (progress w) stays)
        | inr steps ↦
            let more = not_back actors (act w x s) steps.kept in omega (arith, more, steps.further)
      ]

  -- the actor that has to move an entry acts in each round
  named : (numbers : Numbers E R) (round : List Actor) → IsRound w round → (s : State E R) (k : ℕ) (actor : Actor)
      → HasToMove numbers w s k actor → Contains round actor
  named numbers round all s k Reader (not_pushed below) = all.reader
  named numbers round all s k (Converter i) (in_entry_lane stands) = search (rules, mod_below)
  named numbers round all s k (Converter i) (in_converter stands) = search (rules, mod_below)
  named numbers round all s k Writer (in_row_lane stands) = all.writer

module _ {E R : Type 0} (numbers : Numbers E R) (w : World E R) (some_converters : 0 < w.converters)
    (some_room : 0 < w.ring) (numbered : HaveNumbersFrom numbers 1 w.entries)
    (same_numbers : KeepNumbers numbers w w.entries) where
  -- a round takes an entry forward, unless all rows are popped
  round_moves : (s : State E R) → Kept w s → (round : List Actor) → IsRound w round
      → length s.popped < length w.entries → progress w s < progress w (run w round s)
  round_moves s v round all some =
      let (actor, move, changes) = goes_on numbers w some_converters some_room s v numbered same_numbers some in
      moves w some_converters round actor s v changes
      (named w some_converters numbers round all s (length s.popped + 1) actor move)

  far : (k : ℕ) (schedule : List Actor) (s : State E R) → Kept w s → HasRounds w k schedule
      → 4 * length w.entries ≤ progress w s + k → 4 * length w.entries ≤ progress w (run w schedule s)
  far zero schedule s v rounds enough = grind (arith, not_back w some_converters schedule s v)
  far (suc k) schedule s v (round, rest, is, all, rounds) enough =
      let t = run w round s in
      let kept : Kept w t = (went w some_converters round s v).kept in
      let forward : 4 * length w.entries ≤ progress w t + k =
      elim (cases_lt (length s.popped) (length w.entries)) [
        | inl some ↦ let m = round_moves s v round all some in omega (arith, m, enough)
        | inr none ↦ let m = not_back w some_converters round s v in omega (arith, m, none)
      ] in
      subst (λ x. 4 * length w.entries ≤ progress w x)
      (sym (ap (λ (l : List Actor). run w l s) is ∙ run_append w some_converters round rest s))
      (far k rest t kept rounds forward)

  -- entries that have come as far as they can are all popped
  all_popped : (s : State E R) → Kept w s → 4 * length w.entries ≤ progress w s → s.popped ≡ table_rows w
  all_popped s v enough =
      let none : length w.entries ≤ length s.popped =
      elim (cases_lt (length s.popped) (length w.entries)) [
        | inl some ↦
            let (actor, move, changes) = goes_on numbers w some_converters some_room s v numbered same_numbers some in
            absurd (elim (act_stays_or_steps w some_converters s v actor) [
              | inl stays ↦ changes stays
              | inr steps ↦
                  let most = progress_bound w some_converters (act w actor s) steps.kept in
                  omega (arith, most, steps.further, enough)
            ])
        | inr none ↦ none
      ] in
      let long = length-map w.entries w.row_of in
      popped_in_order w some_converters s v ∙ take_all (length s.popped) (table_rows w) (omega (arith, long, none))

  pub ends : (schedule : List Actor) → HasRounds w (4 * length w.entries) schedule
      → (run w schedule start).popped ≡ table_rows w
  ends schedule rounds =
      all_popped (run w schedule start) (went w some_converters schedule start (kept_at_start w)).kept
      (far (4 * length w.entries) schedule start (kept_at_start w) rounds (omega arith))
