-- What the signs of a text say, and dates as registers have them.
use Rattle.std.specs.Prelude.{ℕ, Bool, true, false, not, ◌&&◌, ◌||◌, ◌==◌, if◌then◌else◌, List, [], ◌∷◌, Option, Some, None}
use Rattle.std.specs.List.{list_any, count_by}
use Rattle.std.specs.Str.{bytes_eq}
use Rattle.written_dates.specs.declared.tokens.Kind.{Kind}
use Rattle.written_dates.specs.declared.tokens.Kind.TheVariants.{Blank, Hyphen, Dash, Sign, Digit, Other}
use Rattle.written_dates.specs.Tokens.{Piece}

-- either kind of dash
abbrev pub is_dash : Kind → Bool
is_dash Hyphen = true
is_dash Dash = true
is_dash _ = false

-- dots, commas, slashes and dashes
abbrev pub is_sign : Kind → Bool
is_sign Sign = true
is_sign Hyphen = true
is_sign Dash = true
is_sign _ = false

abbrev pub is_other : Kind → Bool
is_other Other = true
is_other _ = false

-- a character stands among them that no date has
abbrev pub has_other : List Piece → Bool
has_other tokens = list_any (λ p. is_other p.kind) tokens

-- two dashes are the only signs
abbrev pub has_two_dashes : List Piece → Bool
has_two_dashes tokens =
    (count_by (λ p. is_sign p.kind) tokens == 2) && (count_by (λ p. is_dash p.kind) tokens == 2)

abbrev pub behind_blank : Kind → List Piece → List Piece → List Piece
behind_blank Blank rest whole = rest
behind_blank _ rest whole = whole

-- the tokens from the first on that is no blank
abbrev pub bare : List Piece → List Piece
bare [] = []
bare (p ∷ rest) = behind_blank p.kind (bare rest) (p ∷ rest)

-- a dash is in front
abbrev pub begins_with_dash : List Piece → Bool
begins_with_dash [] = false
begins_with_dash (p ∷ rest) = is_dash p.kind

abbrev pub is_digit : Kind → Bool
is_digit Digit = true
is_digit _ = false

abbrev pub begins_with_digit : List Piece → Bool
begins_with_digit [] = false
begins_with_digit (p ∷ rest) = is_digit p.kind

abbrev pub has_digits : List Piece → Bool
has_digits tokens = list_any (λ p. is_digit p.kind) tokens

-- the signs before the last digits
abbrev pub signs_before_digits : List Piece → List Piece
signs_before_digits [] = []
signs_before_digits (p ∷ rest) =
    if is_sign p.kind && has_digits rest then p ∷ signs_before_digits rest else signs_before_digits rest

-- the signs between the first digits and the last
abbrev pub signs_between : List Piece → List Piece
signs_between [] = []
signs_between (p ∷ rest) = if is_digit p.kind then signs_before_digits rest else signs_between rest

-- dashes and slashes (47), by which "to" and "or" are written too
abbrev pub is_bar : Piece → Bool
is_bar p = is_dash p.kind || bytes_eq p.text (47 ∷ [])

-- two signs that are not the same, nor both dashes
abbrev pub is_other_sign : Piece → Piece → Bool
is_other_sign p q = not (bytes_eq p.text q.text) && not (is_dash p.kind && is_dash q.kind)

-- not all are the same
abbrev pub differ : List Piece → Bool
differ [] = false
differ (p ∷ rest) = list_any (is_other_sign p) rest

-- dashes and slashes are neither none nor two
abbrev pub odd_bars : List Piece → Bool
odd_bars tokens = not (count_by is_bar tokens == 0) && not (count_by is_bar tokens == 2)

-- the signs between the first digits and the last differ, or dashes and slashes are neither none nor two
abbrev pub has_mixed_signs : List Piece → Bool
has_mixed_signs tokens = differ (signs_between tokens) || odd_bars tokens

-- a dash or a slash stands between the first digits and the last
abbrev pub has_bar_between : List Piece → Bool
has_bar_between tokens = list_any is_bar (signs_between tokens)

-- blanks and signs part what stands between them
abbrev pub is_between : Kind → Bool
is_between Blank = true
is_between kind = is_sign kind

-- a dash that may be a minus: behind a blank or a sign, and directly before digits
abbrev pub has_minus_behind : Kind → List Piece → Bool
has_minus_behind before [] = false
has_minus_behind before (p ∷ rest) =
    (is_between before && is_dash p.kind && begins_with_digit rest) || has_minus_behind p.kind rest

-- the text's beginning is like a blank
abbrev pub has_minus : List Piece → Bool
has_minus tokens = has_minus_behind Blank tokens

infixl 10 ◌>>=◌
abbrev pub ◌>>=◌ : {A B : Type 0} → Option A → (A → Option B) → Option B
(Some x) >>= f = f x
None >>= f = None

abbrev pub if_digits : Kind → List ℕ → List Piece → Option (List ℕ × List Piece)
if_digits Digit text rest = Some (text, rest)
if_digits _ text rest = None

abbrev pub if_hyphen : Kind → List Piece → Option (List Piece)
if_hyphen Hyphen rest = Some rest
if_hyphen _ rest = None

-- digits in front, and what follows
unfoldable pub digits_first : List Piece → Option (List ℕ × List Piece)
digits_first [] = None
digits_first (p ∷ rest) = if_digits p.kind p.text rest

-- what follows the dash of registers
unfoldable pub behind_hyphen : List Piece → Option (List Piece)
behind_hyphen [] = None
behind_hyphen (p ∷ rest) = if_hyphen p.kind rest

abbrev pub at_end : {A : Type 0} → List Piece → A → Option A
at_end [] x = Some x
at_end (p ∷ rest) x = None

-- three runs of digits with the dash of registers between them, and blanks at most behind them
unfoldable pub runs_in_front : List Piece → Option (List ℕ × List ℕ × List ℕ)
runs_in_front tokens = do
  a ← digits_first tokens
  first ← behind_hyphen a.1
  b ← digits_first first
  second ← behind_hyphen b.1
  c ← digits_first second
  at_end (bare c.1) (a.0, b.0, c.0)

-- three such runs with blanks at most around them
abbrev pub three_runs : List Piece → Option (List ℕ × List ℕ × List ℕ)
three_runs tokens = runs_in_front (bare tokens)

-- three such runs behind the dash of registers, which is a minus here
abbrev pub runs_behind_minus : List Piece → Option (List ℕ × List ℕ × List ℕ)
runs_behind_minus tokens = behind_hyphen (bare tokens) >>= runs_in_front
