-- How many rows the writer has popped, and that it goes by the machine's turns.
use Rattle.std.specs.Prelude.{◌≡◌, ◌+◌, ℕ, List, Bool, false, true, All, get_or, length, sum_by}
use Rattle.lane_rings.specs.Items.{entries_in}
use Rattle.lane_rings.specs.Lane.{taken}
use Rattle.register_run.specs.private.Stripes.{IsRowNext}
use Rattle.lane_rings.specs.Machine.{turn}
use Rattle.register_run.specs.Worlds.{World}
use Rattle.register_run.specs.declared.stripes.Look.{Look}
use Rattle.register_run.specs.declared.stripes.Look.TheVariants as look
use Rattle.register_run.specs.declared.stripes.Stripe.{Stripe}

-- how many rows were popped from a stripe, and from all of these
abbrev pub popped_from : Stripe → ℕ
popped_from stripe = length (entries_in (taken stripe.rows))

abbrev pub popped : List Stripe → ℕ
popped stripes = sum_by popped_from stripes

-- no lane of rows has ended
abbrev pub AreOpen : List Stripe → Type 0
AreOpen stripes = All (λ (stripe : Stripe). stripe.«open» ≡ true) stripes

-- as long as no lane has ended, the next stripe is the one that has the machine's turn after so many rows as were
-- popped
abbrev pub IsInTurn : List Stripe → ℕ → Type 0
IsInTurn stripes at = AreOpen stripes → (w : World) → w.converters ≡ length stripes → at ≡ turn w (popped stripes)

-- a row is next at the stripe with this number
abbrev pub IsRowNextAt : List Stripe → ℕ → Type 0
IsRowNextAt stripes at = (stripe : Stripe) → IsRowNext (get_or stripes at stripe)

-- what was found is the end of a lane
abbrev pub is_end : Look → Bool
is_end look.Nothing = false
is_end look.Row = false
is_end look.End = true
is_end look.Stop = true

-- what a look at a stripe does: it pops no row, and opens no lane that has ended
pub record HasLooked (old new : Stripe) (found : Look) : Type 0 where
  pub row : found ≡ look.Row → IsRowNext new
  pub ended : is_end found ≡ true → new.«open» ≡ false
  pub still : new.«open» ≡ true → old.«open» ≡ true
  pub none : popped_from new ≡ popped_from old

-- the same of the stripe with this number among these
pub record HasLookedAt (at : ℕ) (old new : List Stripe) (found : Look) : Type 0 where
  pub row : found ≡ look.Row → IsRowNextAt new at
  pub ended : is_end found ≡ true → AreOpen new → ⊥
  pub still : AreOpen new → AreOpen old
  pub none : popped new ≡ popped old

-- one row was popped; where no lane has ended now, none had before
abbrev pub HasPopped : List Stripe → List Stripe → Type 0
HasPopped old new = (AreOpen new → AreOpen old) × (popped new ≡ popped old + 1)
