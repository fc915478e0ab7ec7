-- The word for which a date stays as it is written.
use Rattle.std.specs.Borrow.{Bor}
use Rattle.std.specs.Prelude.{ℕ, zero, suc, Bool, true, false, ◌||◌, if◌then◌else◌, List, [], ◌∷◌, Option, Some, None}
use Rattle.date_texts.specs.declared.calendar.Calendar.{Calendar}
use Rattle.written_dates.specs.declared.calendars.Form.{Form}
use Rattle.written_dates.specs.declared.calendars.Form.TheVariants as forms
use Rattle.written_dates.specs.declared.items.Item.{Item}
use Rattle.written_dates.specs.declared.meanings.Name.{Name}
use Rattle.written_dates.specs.declared.tokens.Kind.{Kind}
use Rattle.written_dates.specs.declared.tokens.Kind.TheVariants.{Letter}
use Rattle.written_dates.specs.Calendars.{form}
use Rattle.written_dates.specs.WholeNames.{whole_name}
use Rattle.written_dates.specs.Items.{item_in_front}
use Rattle.written_dates.specs.Names.{names_in}
use Rattle.written_dates.specs.Parts.{parts}
use Rattle.written_dates.specs.Signs.{bare, begins_with_dash, has_minus, has_other}
use Rattle.written_dates.specs.Tokens.{Piece, tokens}

abbrev pub or_behind : Option (ℕ × List Item) → Piece → (ℕ → Option Piece) → Option Piece
or_behind None part behind = Some part
or_behind (Some front) part behind = behind front.0

-- the first of these parts that means nothing, behind so many that belong to a name before
unfoldable pub first_unknown : List Name → ℕ → List Piece → Option Piece
first_unknown names more [] = None
first_unknown names zero (part ∷ behind) =
    or_behind (item_in_front names part behind) part (λ more. first_unknown names more behind)
first_unknown names (suc more) (part ∷ behind) = first_unknown names more behind

abbrev pub if_letters : Kind → List ℕ → Option (List ℕ)
if_letters Letter text = Some text
if_letters _ text = None

-- a part that is a word
abbrev pub word_in : Option Piece → Option (List ℕ)
word_in None = None
word_in (Some part) = if_letters part.kind part.text

-- the calendars whose dates are never read
abbrev pub is_never_read : Form → Bool
is_never_read forms.Other = true
is_never_read form = false

-- the first part of a date that means nothing in its calendar, where this is a word, with the words that hyphens join to
-- it; none where the date stays for another reason, as a dash in front, a minus or a character that no date has
unfoldable pub unknown_word : Calendar → List Name → List ℕ → Option (List ℕ)
unknown_word calendar names text =
    if is_never_read (form calendar) || has_other (tokens 0 text) || has_minus (tokens 0 text)
    || begins_with_dash (bare (tokens 0 text)) then None
    else whole_name (tokens 0 text) (word_in (first_unknown (names_in calendar names) 0 (parts text)))

-- a text that was returned, without where it lies in memory
abbrev pub seen_text : Option (Bor (List ℕ)) → Option (List ℕ)
seen_text None = None
seen_text (Some text) = Some text.now
