-- Schedules: any list of actors, each of which acts once where it stands in the list.
use Rattle.std.specs.Prelude.{◌≡◌, ◌≢◌, ⊤, ℕ, zero, suc, ◌+◌, ◌<◌, ◌≤◌, List, [], ◌∷◌, ◌++◌, Contains, length}
use Rattle.std.specs.Prelude.{option_to_list}
use Rattle.lane_rings.specs.Machine.{World, Stripe, State, Actor, Reader, Converter, Writer, act, start}

-- the state after a schedule
abbrev pub run : {E R : Type 0} → World E R → List Actor → State E R → State E R
run w [] s = s
run w (actor ∷ schedule) s = run w schedule (act w actor s)

-- the actor's act changes something
abbrev pub Changes : {E R : Type 0} → World E R → Actor → State E R → Type 0
Changes w actor s = act w actor s ≢ s

-- just so many acts of a schedule change something
pub data HasChanges {E R : Type 0} (w : World E R) : List Actor → State E R → ℕ → Type 0 where
  at_end : {s : State E R} → HasChanges w [] s 0
  idle : {actor : Actor} {schedule : List Actor} {s : State E R} {count : ℕ} → act w actor s ≡ s
      → HasChanges w schedule (act w actor s) count → HasChanges w (actor ∷ schedule) s count
  change : {actor : Actor} {schedule : List Actor} {s : State E R} {count : ℕ} → Changes w actor s
      → HasChanges w schedule (act w actor s) count → HasChanges w (actor ∷ schedule) s (count + 1)

-- at most so many acts of a schedule change something
abbrev pub AtMostChange : {E R : Type 0} → World E R → List Actor → ℕ → Type 0
AtMostChange w schedule most = (count : ℕ) × HasChanges w schedule start count × (count ≤ most)

-- a sum over the stripes whose numbers are below c
abbrev pub total : ℕ → (ℕ → ℕ) → ℕ
total zero f = 0
total (suc c) f = total c f + f c

-- how many entries stand in a stripe, by themselves or as their rows, and how many in all stripes together
abbrev pub standing_in : {E R : Type 0} → Stripe E R → ℕ
standing_in stripe = length stripe.entry_lane + length (option_to_list stripe.hand) + length stripe.row_lane

abbrev pub standing : {E R : Type 0} → World E R → State E R → ℕ
standing w s = total w.converters (λ i. standing_in (s.stripes i))

-- a round: each actor acts in it, once or more
pub record IsRound {E R : Type 0} (w : World E R) (round : List Actor) : Type 0 where
  pub reader : Contains round Reader
  pub converters : (i : ℕ) → i < w.converters → Contains round (Converter i)
  pub writer : Contains round Writer

-- a schedule has so many rounds, one behind the other, whatever follows them
abbrev pub HasRounds : {E R : Type 0} → World E R → ℕ → List Actor → Type 0
HasRounds w zero schedule = ⊤
HasRounds w (suc n) schedule =
    (round : List Actor) × (rest : List Actor) × (schedule ≡ round ++ rest) × IsRound w round × HasRounds w n rest
