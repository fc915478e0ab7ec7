-- What is written at once for a date as registers have it, which has no minus in front and no time of day behind it.
use Rattle.std.proofs.Common.{◌≡◌, ℕ, Bool, true, false, cond, List, [], ◌∷◌, refl}
use Rattle.std.specs.Prelude.{Option, Some, None}
use Rattle.date_texts.specs.declared.calendar.Calendar.{Calendar}
use Rattle.written_dates.specs.declared.meanings.Name.{Name}
use Rattle.written_dates.specs.declared.rules.Order.{Order}
use Rattle.written_dates.specs.declared.tokens.Kind.{Kind}
use Rattle.written_dates.specs.declared.tokens.Kind.TheVariants.{Digit, Hyphen}
use Rattle.written_dates.specs.declared.written.Choice.{Choice}
use Rattle.written_dates.specs.Signs.{◌>>=◌, bare, behind_hyphen, digits_first, if_digits, if_hyphen, runs_behind_minus, runs_in_front}
use Rattle.written_dates.specs.Signs.{three_runs}
use Rattle.written_dates.specs.Tokens.{Piece, tokens}
use Rattle.written_dates.specs.Written.{civil_text, dated_text, is_turned, joined, numbers, stood, unless_turned}
use Rattle.written_dates.proofs.TimeLemmas.{dated_whole, stands_dated}

abbrev Runs : Type 0
Runs = List ℕ × List ℕ × List ℕ

by_kind : (kind : Kind) (text : List ℕ) (rest : List Piece) (next : List ℕ × List Piece → Option Runs) (runs : Runs)
    → (if_digits kind text rest >>= next) ≡ Some runs → if_hyphen kind rest ≡ None
by_kind Digit text rest next runs e = refl
by_kind Hyphen text rest next runs e = absurd (cc)
by_kind _ text rest next runs e = refl

-- what begins with digits begins with no dash
no_hyphen : (pieces : List Piece) (runs : Runs) → runs_in_front pieces ≡ Some runs → behind_hyphen pieces ≡ None
unfolding runs_in_front digits_first behind_hyphen
no_hyphen [] runs e = refl
no_hyphen (p ∷ rest) runs e = by_kind p.kind p.text rest _ runs e

not_turned : (order : Order) (found : Option Runs) (runs : Runs) → unless_turned order found ≡ Some runs
    → found ≡ Some runs
not_turned order None runs e = absurd (cc)
not_turned order (Some r) runs e = by_turn (is_turned order r.0 r.2) e
  where
    by_turn : (b : Bool) → cond b None (Some r) ≡ Some runs → Some r ≡ Some runs
    by_turn true e = absurd (cc)
    by_turn false e = e

no_minus : (order : Order) (text : List ℕ) (runs : Runs) → unless_turned order (three_runs (tokens 0 text)) ≡ Some runs
    → runs_behind_minus (tokens 0 text) ≡ None
no_minus order text runs e = rw (no_hyphen (bare (tokens 0 text)) runs (not_turned order _ runs e)) refl

pub civil_stood : (choice : Choice) (calendar : Calendar) (names : List Name) (text : List ℕ) (runs : Runs)
    → unless_turned choice.order (three_runs (tokens 0 text)) ≡ Some runs
    → civil_text choice calendar names text ≡ stood choice calendar (joined runs.0 runs.1 runs.2) (numbers runs)
civil_stood choice calendar names text runs e = rw (no_minus choice.order text runs e, e) refl

pub stood_at_once : (choice : Choice) (calendar : Calendar) (names : List Name) (text : List ℕ) (runs : Runs)
    → unless_turned choice.order (three_runs (tokens 0 text)) ≡ Some runs
    → civil_text choice calendar names (dated_text choice calendar names text)
    ≡ stood choice calendar (joined runs.0 runs.1 runs.2) (numbers runs)
stood_at_once choice calendar names text runs e =
    rw (dated_whole choice calendar names text (stands_dated choice calendar names text (rw e refl)))
    (civil_stood choice calendar names text runs e)
