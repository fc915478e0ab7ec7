-- Years by their centuries.
use Rattle.std.proofs.Common.{◌≡◌, ℕ, ◌+◌, ◌*◌, ◌/◌, ◌%◌, ◌≤◌, arith}

-- the years that so many days of a century fill, and the days that are left
pub in_century : (days : ℕ) → days ≤ 36_524 → ((4 * days + 3) / 1461 ≤ 99)
    × (365 * ((4 * days + 3) / 1461) + (4 * days + 3) / 1461 / 4 + (4 * days + 3) % 1461 / 4 ≡ days)
    × ((4 * days + 3) % 1461 / 4 ≤ 365)
in_century days h = (omega arith, omega arith, omega arith)
