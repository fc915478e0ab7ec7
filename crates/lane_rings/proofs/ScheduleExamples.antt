-- The machine at work: a schedule that pops every row, the most that can stand in a stripe, and checksums of the states
-- that all short schedules lead to. A plain program of its own, check/schedules, comes to the same checksums.
use Rattle.std.proofs.Common.{◌≡◌, ◌+◌, ◌*◌, ◌++◌, ℕ, zero, suc, List, [], ◌∷◌, refl}
use Rattle.std.specs.Prelude.{◌==◌, ◌%◌, if◌then◌else◌, fold, option_to_list}
use Rattle.lane_rings.specs.Machine.{World, Stripe, State, Actor, Reader, Converter, Writer, act, start}
use Rattle.lane_rings.specs.Schedules.{run, standing}

-- the entries are numbers, and the row of each is its number
abbrev up_to : ℕ → List ℕ
up_to zero = []
up_to (suc n) = up_to n ++ suc n ∷ []

abbrev world : ℕ → ℕ → ℕ → World ℕ ℕ
world n c r = record { entries = up_to n; row_of = λ entry. entry; converters = c; ring = r }

-- every row is popped, whatever acts that change nothing stand between the others
abbrev some_rounds : List Actor
some_rounds =
    Writer ∷ Reader ∷ Reader ∷ Reader ∷ Converter 1 ∷ Converter 1 ∷ Writer ∷ Converter 0 ∷ Reader ∷ Converter 0
    ∷ Converter 0 ∷ Writer ∷ Writer ∷ Converter 0 ∷ Converter 5 ∷ Writer ∷ Writer ∷ []

three_rows : (run (world 3 2 1) some_rounds start).popped ≡ 1 ∷ 2 ∷ 3 ∷ []
three_rows = refl

-- with lanes of one item, three entries stand in a stripe: c (2 r + 1) is reached
abbrev without_writer : List Actor
without_writer = Reader ∷ Converter 0 ∷ Converter 0 ∷ Reader ∷ Converter 0 ∷ Reader ∷ Reader ∷ Converter 0 ∷ []

full_stripe : standing (world 4 1 1) (run (world 4 1 1) without_writer start) ≡ 1 * (2 * 1 + 1)
full_stripe = refl

-- a state as one number: how many entries are pushed, the numbers in each place, and a zero after each place
abbrev places_of : Stripe ℕ ℕ → List ℕ
places_of t =
    t.row_lane ++ 0 ∷ option_to_list t.hand ++ 0 ∷ t.entry_lane ++ 0 ∷ []

abbrev code_of : State ℕ ℕ → ℕ
code_of s =
    fold (λ n digit. n * 10 + digit) s.pushed
    (s.popped ++ 0 ∷ places_of (s.stripes 0) ++ places_of (s.stripes 1))

-- the states that all schedules of so many acts lead to, added up in the order of their actors
abbrev checksum : World ℕ ℕ → List Actor → ℕ → State ℕ ℕ → ℕ → ℕ
checksum w actors zero s sum = (sum * 31 + code_of s) % 1000000007
checksum w actors (suc acts) s sum = fold (λ n actor. checksum w actors acts (act w actor s) n) sum actors

abbrev actors_of : ℕ → List Actor
actors_of c =
    if c == 1 then Reader ∷ Converter 0 ∷ Writer ∷ [] else Reader ∷ Converter 0 ∷ Converter 1 ∷ Writer ∷ []

-- of five acts, from the start and from a state in the middle
abbrev middle : World ℕ ℕ → State ℕ ℕ
middle w = run w (Reader ∷ Converter 0 ∷ Converter 0 ∷ Reader ∷ []) start

abbrev checksum_of : World ℕ ℕ → ℕ
checksum_of w = checksum w (actors_of w.converters) 5 (middle w) (checksum w (actors_of w.converters) 5 start 0)

-- with one, two and three entries
abbrev checksums : ℕ → ℕ → List ℕ
checksums c r = checksum_of (world 1 c r) ∷ checksum_of (world 2 c r) ∷ checksum_of (world 3 c r) ∷ []

one_converter_ring_of_one : checksums 1 1 ≡ 649007880 ∷ 491958217 ∷ 471638504 ∷ []
one_converter_ring_of_one = refl

one_converter_ring_of_two : checksums 1 2 ≡ 649007880 ∷ 898016036 ∷ 902811707 ∷ []
one_converter_ring_of_two = refl

two_converters_ring_of_one : checksums 2 1 ≡ 273886483 ∷ 847480565 ∷ 965071586 ∷ []
two_converters_ring_of_one = refl

two_converters_ring_of_two : checksums 2 2 ≡ 273886483 ∷ 847480565 ∷ 943158573 ∷ []
two_converters_ring_of_two = refl
