use Rattle.std.proofs.Common.{◌≡◌, ◌≤◌, ◌<◌, ℕ, get_or, map}
use Rattle.sheets.proofs.Common.{fields_of, dated_seen, CountsDates, no_counts}
use Rattle.sheets.specs.DateCounts.{date_at}
use Rattle.sheets.proofs.date_counts.SheetCounts.add.Given as goal

-- the dates before this place are counted, the others not yet
abbrev pub invariant-columns : goal.invariant-columns
invariant-columns l =
    record {
      counted : (place : ℕ) → place < l.place
          → CountsDates (date_at l.columns place (fields_of l.record) (map dated_seen l.dates))
          (get_or l.fn.self.dates place no_counts) (get_or l.self.dates place no_counts);
      left : (place : ℕ) → l.place ≤ place → get_or l.self.dates place no_counts ≡ get_or l.fn.self.dates place
          no_counts;
      blank : l.self.blank ≡ l.fn.self.blank;
    }
