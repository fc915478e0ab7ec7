-- Reading civil dates and week dates from left to right.
use Rattle.std.specs.Prelude.{ℕ, List, [], ◌∷◌, Option, Some, None, ℤ, ◌==◌, if◌then◌else◌}
use Rattle.date_texts.specs.declared.grammar.Grammar.{Grammar}
use Rattle.date_texts.specs.declared.grammar.Grammar.TheVariants as grammars
use Rattle.date_texts.specs.private.Reading.{number_at, ◌>>=◌, part_at, year_at, all_read}

-- what follows the letter W or w
unfoldable pub after_week_letter : List ℕ → Option (List ℕ)
after_week_letter [] = None
after_week_letter (c ∷ cs) = if c == 87 then Some cs else (if c == 119 then Some cs else None)

-- what follows the mark before a week or a month
unfoldable pub after_mark : Grammar → List ℕ → Option (List ℕ)
after_mark grammars.Civil bytes = Some bytes
after_mark grammars.Week bytes = after_week_letter bytes
after_mark grammars.LongCount bytes = None
after_mark grammars.Roman bytes = None

-- a month or a week, and the mark before it
abbrev pub month_at : Grammar → List ℕ → Option (ℕ × List ℕ)
month_at grammar bytes = after_mark grammar bytes >>= number_at 1

unfoldable pub civil_at : Grammar → List ℕ → Option (ℤ × ℕ × ℕ)
civil_at grammar bytes = do
  year ← part_at year_at 45 bytes
  month ← part_at (month_at grammar) 45 year.1
  day ← number_at 1 month.1
  all_read day.1 (year.0, month.0, day.0)
