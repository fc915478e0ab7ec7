-- The items and the signs of a text, or of one of its sides.
use Rattle.std.specs.Prelude.{◌+◌, ℕ, Bool, ◌||◌, ◌==◌, nat_le, if◌then◌else◌, List, length, Option, Some, None}
use Rattle.std.specs.List.{count_by}
use Rattle.date_texts.specs.declared.calendar.Calendar.{Calendar}
use Rattle.written_dates.specs.declared.items.Item.{Item}
use Rattle.written_dates.specs.declared.meanings.Name.{Name}
use Rattle.written_dates.specs.Signs.{differ, has_minus, has_mixed_signs, is_bar, signs_between}
use Rattle.written_dates.specs.Sums.{found_items}
use Rattle.written_dates.specs.Tokens.{tokens}
use Rattle.date_spans.specs.declared.extents.Signs.{Signs}
use Rattle.date_spans.specs.declared.sayings.RangeSigns.{RangeSigns}
use Rattle.date_spans.specs.Cuts.{has_slash, is_open}

-- the items of a text in a calendar; none where there are more than sixteen
abbrev pub if_few : Option (List Item) → Option (List Item)
if_few None = None
if_few (Some found) = if nat_le (length found) 16 then Some found else None

unfoldable pub words_in : Calendar → List Name → List ℕ → Option (List Item)
words_in calendar names text = if_few (found_items calendar names text)

-- those of a text, or of a side, that no dash or slash opens or ends, and in which no minus may stand
unfoldable pub items_in : Calendar → List Name → List ℕ → Option (List Item)
items_in calendar names text = if has_minus (tokens 0 text) || is_open text then None else words_in calendar names text

-- ---- signs
abbrev pub signs : Bool → Bool → Signs
signs slashed mixed = record { slashed = slashed; mixed = mixed }

abbrev pub count_bars : List ℕ → ℕ
count_bars text = count_by is_bar (tokens 0 text)

-- the signs of a text that is one side
abbrev pub one_side : List ℕ → Signs
one_side text = signs (has_slash text) (has_mixed_signs (tokens 0 text))

-- those of two sides that a word parts: they differ between the first number and the last, or dashes and slashes are one
-- or two, so that they may part two numbers of one side
abbrev pub two_sides : List ℕ → Signs
two_sides text =
    signs (has_slash text)
    (differ (signs_between (tokens 0 text)) || (count_bars text == 1) || (count_bars text == 2))

-- those of two sides of a text at a dash; a left side that has the right one's last items may have no dash or slash alone
abbrev pub cut_sides : List ℕ → List ℕ → List ℕ → RangeSigns
cut_sides text left right = record {
  left = signs (has_slash text) (has_mixed_signs (tokens 0 left));
  shared = signs (has_slash text) (has_mixed_signs (tokens 0 right) || (count_bars left + count_bars right == 1));
  right = signs (has_slash text) (has_mixed_signs (tokens 0 right));
}
