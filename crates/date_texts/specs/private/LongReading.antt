-- Reading long counts from left to right.
use Rattle.std.specs.Prelude.{ℕ, List, Option}
use Rattle.date_texts.specs.private.Reading.{number_at, ◌>>=◌, part_at, all_read}

-- a place of a long count, and what follows the dot behind it
unfoldable pub place_at : List ℕ → Option (ℕ × List ℕ)
place_at bytes = part_at (number_at 3) 46 bytes

unfoldable pub long_at : List ℕ → Option (ℕ × ℕ × ℕ × ℕ × ℕ)
long_at bytes = do
  baktun ← place_at bytes
  katun ← place_at baktun.1
  tun ← place_at katun.1
  uinal ← place_at tun.1
  kin ← number_at 3 uinal.1
  all_read kin.1 (baktun.0, katun.0, tun.0, uinal.0, kin.0)
