-- Signs at the ends of a text, and a text cut at its only dash or slash.
use Rattle.std.specs.Prelude.{ℕ, ◌+◌, ◌-◌, Bool, false, not, ◌&&◌, ◌||◌, ◌==◌, if◌then◌else◌, List, [], ◌∷◌, ◌++◌}
use Rattle.std.specs.Prelude.{length, nat_le, nat_lt, take, get_or, Option, Some, None}
use Rattle.std.specs.Char.{is_ascii_digit}
use Rattle.written_dates.specs.declared.tokens.Kind.{Kind}
use Rattle.written_dates.specs.declared.tokens.Kind.TheVariants.{Blank}
use Rattle.written_dates.specs.Fields.{is_blank, spelling, without_blanks}
use Rattle.written_dates.specs.Signs.{bare, is_bar, is_dash}
use Rattle.written_dates.specs.Tokens.{Piece, tokens}
use Rattle.date_spans.specs.declared.cuts.Cut.{Cut}
use Rattle.date_spans.specs.declared.cuts.Cut.TheVariants.{Dash, WideDash, Slash}

-- behind a character of this kind a text is cut at this token: a dash, a dash behind a blank, or a slash
abbrev pub cuts : Cut → Kind → Piece → Bool
cuts Dash before p = is_dash p.kind
cuts WideDash before p = is_blank before && is_dash p.kind
cuts Slash before p = is_bar p && not (is_dash p.kind)

-- how many such tokens there are
abbrev pub count_cuts : Cut → Kind → List Piece → ℕ
count_cuts cut before [] = 0
count_cuts cut before (p ∷ rest) =
    if cuts cut before p then count_cuts cut p.kind rest + 1 else count_cuts cut p.kind rest

-- the bytes before the first of them, and those behind it
abbrev pub bytes_before : Cut → Kind → List Piece → List ℕ
bytes_before cut before [] = []
bytes_before cut before (p ∷ rest) = if cuts cut before p then [] else p.text ++ bytes_before cut p.kind rest

abbrev pub bytes_behind : Cut → Kind → List Piece → List ℕ
bytes_behind cut before [] = []
bytes_behind cut before (p ∷ rest) = if cuts cut before p then spelling rest else bytes_behind cut p.kind rest

-- the two sides of a text at its only such token
unfoldable pub sides : Cut → List ℕ → Option (List ℕ × List ℕ)
sides cut text =
    if count_cuts cut Blank (tokens 0 text) == 1
    then Some (bytes_before cut Blank (tokens 0 text), bytes_behind cut Blank (tokens 0 text)) else None

-- a dash or a slash in front, or at the end: something is missing
abbrev pub begins_open : List Piece → Bool
begins_open [] = false
begins_open (p ∷ rest) = is_bar p

-- whether the last token that is no blank is such a sign; where there is none, this
abbrev pub ends_open : Bool → List Piece → Bool
ends_open open_sign [] = open_sign
ends_open open_sign (p ∷ rest) = ends_open (if is_blank p.kind then open_sign else is_bar p) rest

abbrev pub is_open : List ℕ → Bool
is_open text = begins_open (bare (tokens 0 text)) || ends_open false (tokens 0 text)

-- a slash stands in the text
abbrev pub has_slash : List ℕ → Bool
has_slash text = nat_lt 0 (count_cuts Slash Blank (tokens 0 text))

-- the last byte of a text; ? (63), ~ (126) and % (37) say `uncertain`, `about` and both
abbrev pub last_byte : List ℕ → ℕ
last_byte text = get_or text (length text - 1) 0

abbrev pub is_uncertain_sign : ℕ → Bool
is_uncertain_sign c = (c == 63) || (c == 37)

abbrev pub is_about_sign : ℕ → Bool
is_about_sign c = (c == 126) || (c == 37)

-- the sign at the end of a text, and how many bytes it takes: the last byte, or one between ( (40) and ) (41)
abbrev pub ends_in_parentheses : List ℕ → Bool
ends_in_parentheses text =
    nat_le 3 (length text) && (last_byte text == 41) && (get_or text (length text - 3) 0 == 40)

abbrev pub end_sign : List ℕ → ℕ × ℕ
end_sign text = if ends_in_parentheses text then (get_or text (length text - 2) 0, 3) else (last_byte text, 1)

-- a digit stands before so many last bytes of a text
abbrev pub has_digit_before : ℕ → List ℕ → Bool
has_digit_before n text = nat_lt n (length text) && is_ascii_digit (get_or text (length text - 1 - n) 0)

-- three digits end a text, and no fourth stands before them: a question mark right behind them may stand for one
abbrev pub ends_with_three_digits : List ℕ → Bool
ends_with_three_digits text =
    has_digit_before 0 text && has_digit_before 1 text && has_digit_before 2 text && not (has_digit_before 3 text)

-- what stands before a sign leaves it: a dash or a slash ends it, or three digits, where the sign is a question mark (63)
abbrev pub leaves_sign : ℕ → ℕ → List ℕ → Bool
leaves_sign c size text =
    ends_open false (tokens 0 text) || ((c == 63) && (size == 1) && ends_with_three_digits text)

-- a text without such a sign at its end, and whether it says `uncertain` and `about`; where it is left, it says neither
abbrev pub without_sign : List ℕ → ℕ → ℕ → List ℕ × Bool × Bool
without_sign text c size =
    if (is_uncertain_sign c || is_about_sign c) && not (leaves_sign c size (take (length text - size) text))
    then (take (length text - size) text, is_uncertain_sign c, is_about_sign c)
    else (text, false, false)

abbrev pub unmarked_by : List ℕ → List ℕ × Bool × Bool
unmarked_by text = without_sign text (end_sign text).0 (end_sign text).1

unfoldable pub unmarked : List ℕ → List ℕ × Bool × Bool
unmarked text = unmarked_by (without_blanks text)
