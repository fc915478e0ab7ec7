-- Which setups there are.
use Rattle.std.specs.Prelude.{◌≡◌, ◌==◌, ◌&&◌, ◌||◌, ◌<◌, Bool, ℕ, List, length, nat_le, slice_get}
use Rattle.date_texts.specs.declared.target.Target.{Target}

-- a target stands at two places
abbrev pub NamesTwice : List Target → Type 0
NamesTwice targets = (i : ℕ) × (j : ℕ) × (i < j) × (j < length targets) × (slice_get targets i ≡ slice_get targets j)

-- the largest ring
abbrev pub largest_ring : ℕ
largest_ring = 4096

-- a ring holds 1 to 4096 items
abbrev pub is_ring_size : ℕ → Bool
is_ring_size n = nat_le 1 n && nat_le n largest_ring

-- a comma, a semicolon or a tab
abbrev pub is_delimiter : ℕ → Bool
is_delimiter b = (b == 44) || ((b == 59) || (b == 9))

-- the most converters of a source
abbrev pub most_stripes : ℕ
most_stripes = 4

-- a source has 1 to 4 converters
abbrev pub is_stripe_count : ℕ → Bool
is_stripe_count n = nat_le 1 n && nat_le n most_stripes
