-- A schedule that takes one entry after the other through the machine, and what goes over its lanes.
use Rattle.std.proofs.Common.{rules, arith, ◌≡◌, ◌∙◌, ◌+◌, ◌++◌, ℕ, List, [], ◌∷◌, Some, None, true, ap}
use Rattle.std.proofs.Common.{append_assoc, append-nil, length, map, refl, sym, ◌==◌, Bool, if◌then◌else◌, nat_lt}
use Rattle.std.proofs.Common.{slice_get, eq-eqb, ne_eqb}
use Rattle.std.proofs.lemmas.Bool.{cases_eq}
use Rattle.std.proofs.lemmas.List.{length_push}
use Rattle.lane_rings.specs.Histories.{entries_over, rows_over}
use Rattle.lane_rings.specs.Machine.{Actor, Converter, Reader, State, Stripe, World, Writer, act, turn}
use Rattle.lane_rings.specs.Schedules.{run}
use Rattle.lane_rings.proofs.InvariantLemmas.{slice_get_rest}
use Rattle.lane_rings.proofs.PartLemmas.{part}

abbrev empty : {E R : Type 0} → Stripe E R
empty = record { entry_lane = []; hand = None; row_lane = [] }

-- nothing stands between the ends, after k entries
abbrev idle : {E R : Type 0} → ℕ → List R → State E R
idle k rows = record { pushed = k; stripes = λ _. empty; popped = rows }

-- one entry after the other, the first by the turn after k
abbrev pub one_by_one : {E R : Type 0} → World E R → ℕ → List E → List Actor
one_by_one w k [] = []
one_by_one w k (e ∷ left) =
    Reader ∷ Converter (turn w k) ∷ Converter (turn w k) ∷ Writer ∷ one_by_one w (k + 1) left

module _ {E R : Type 0} (w : World E R) (k : ℕ) (rows : List R) (e : E) (next : slice_get w.entries k ≡ Some e)
    (room : nat_lt 0 w.ring ≡ true) (many : length rows ≡ k) where
  abbrev after : State E R
  after = idle (k + 1) (rows ++ w.row_of e ∷ [])

  here : (turn w k == turn w k) ≡ true
  here = eq-eqb (turn w k) (turn w k) refl

  same_state : (s : State E R) → s.pushed ≡ k + 1 → ((j : ℕ) → s.stripes j ≡ empty)
      → s.popped ≡ rows ++ w.row_of e ∷ [] → s ≡ after
  same_state s pushed stripes popped = λ i. record { pushed = pushed i; stripes = λ j. stripes j i; popped = popped i }

  settled : act w Writer (act w (Converter (turn w k)) (act w (Converter (turn w k)) (act w Reader (idle k rows))))
      ≡ after
  settled = search (rules, same_state, here, cases_eq, eq-eqb, ne_eqb)

  -- an entry goes over the lanes of the stripe that has the turn, and over no others
  entries_round : (j : ℕ) (schedule : List Actor)
      → entries_over w j (Reader ∷ Converter (turn w k) ∷ Converter (turn w k) ∷ Writer ∷ schedule) (idle k rows)
      ≡ (if turn w k == j then e ∷ [] else []) ++ entries_over w j schedule after
  entries_round j schedule = grind (arith, settled)

  rows_round : (j : ℕ) (schedule : List Actor)
      → rows_over w j (Reader ∷ Converter (turn w k) ∷ Converter (turn w k) ∷ Writer ∷ schedule) (idle k rows)
      ≡ (if turn w k == j then w.row_of e ∷ [] else []) ++ rows_over w j schedule after
  rows_round j schedule = grind (arith, settled)

module _ {E R : Type 0} (w : World E R) (room : nat_lt 0 w.ring ≡ true) where
  join : {X : Type 0} (b : Bool) (x : X) (xs : List X) → (if b then x ∷ [] else []) ++ xs ≡ (if b then x ∷ xs else xs)
  join b x xs = grind arith

  map_join : (b : Bool) (e : E) (es : List E)
      → (if b then w.row_of e ∷ [] else []) ++ map w.row_of es ≡ map w.row_of (if b then e ∷ es else es)
  map_join b e es = grind arith

  -- what goes over the lanes is what is dealt to the stripe, and all rows are popped
  pub all_over : (left past : List E) (k : ℕ) (rows : List R) → w.entries ≡ past ++ left → length past ≡ k
      → length rows ≡ k → (j : ℕ) → (entries_over w j (one_by_one w k left) (idle k rows) ≡ part w.converters j k left)
      × (rows_over w j (one_by_one w k left) (idle k rows) ≡ map w.row_of (part w.converters j k left))
      × ((run w (one_by_one w k left) (idle k rows)).popped ≡ rows ++ map w.row_of left)
  all_over [] past k rows is at many j = (refl, refl, sym (append-nil rows))
  all_over (e ∷ left) past k rows is at many j =
      let next : slice_get w.entries k ≡ Some e = rw (is, ← at) (slice_get_rest past (e ∷ left)) in
      let later = one_by_one w (k + 1) left in
      let (entries, given, popped) =
      all_over left (past ++ e ∷ []) (k + 1) (rows ++ w.row_of e ∷ []) (rw append_assoc is)
      (rw length_push (ap (λ (n : ℕ). n + 1) at)) (rw length_push (ap (λ (n : ℕ). n + 1) many)) j in (
        entries_round w k rows e next room many j later ∙ rw entries (join (turn w k == j) e _),
        rows_round w k rows e next room many j later ∙ rw given (map_join (turn w k == j) e _),
        ap (λ (s : State E R). (run w later s).popped) (settled w k rows e next room many)
            ∙ popped ∙ append_assoc rows (w.row_of e ∷ []) (map w.row_of left),
      )
