-- A date as registers have it is three runs of digits.
use Rattle.std.proofs.Common.{◌≡◌, ℕ, ◌<◌, true, false, ◌==◌, List, [], ◌∷◌, ◌++◌, length, refl, sym, ap}
use Rattle.std.proofs.Common.{◌∙◌, arith, Bool, cond, Option, Some, None, is_some, append-nil}
use Rattle.std.specs.Char.{is_ascii_digit}
use Rattle.std.specs.List.{list_all}
use Rattle.std.proofs.lemmas.Bool.{and_parts}
use Rattle.std.proofs.lemmas.Bool.Decides.{nat_tests}
use Rattle.written_dates.specs.declared.tokens.Kind.{Kind}
use Rattle.written_dates.specs.declared.tokens.Kind.TheVariants.{Hyphen, Digit}
use Rattle.written_dates.specs.declared.items.Number.{Number}
use Rattle.written_dates.specs.declared.meanings.Era.{Era}
use Rattle.written_dates.specs.declared.meanings.Era.TheVariants as eras
use Rattle.date_texts.specs.declared.calendar.Calendar.{Calendar}
use Rattle.date_texts.specs.declared.calendar.Calendar.TheVariants.{Armenian, Coptic, Ethiopic, Gregorian, Hebrew}
use Rattle.date_texts.specs.declared.calendar.Calendar.TheVariants.{Islamic, Julian}
use Rattle.written_dates.specs.declared.written.Short.{Short}
use Rattle.written_dates.specs.declared.written.Short.TheVariants.{Keep}
use Rattle.written_dates.specs.declared.written.Choice.{Choice}
use Rattle.written_dates.specs.Tokens.{Piece, first, in_front, tokens}
use Rattle.written_dates.specs.Items.{number_of_digits}
use Rattle.written_dates.specs.Signs.{◌>>=◌, has_minus, three_runs, runs_behind_minus, runs_in_front, digits_first, behind_hyphen}
use Rattle.written_dates.specs.Laws.{AreDigits, RegisterDatesStay, MinusDatesStay}
use Rattle.written_dates.specs.Written.{if_short, is_turned, joined, numbers, rule_in, short_rule, stood, unless_said}
use Rattle.written_dates.specs.Written.{unless_turned}
use Rattle.written_dates.proofs.TimeLemmas.{dated_whole, minus_whole, stands_dated}
use Rattle.written_dates.proofs.TokenLemmas.{alone}

abbrev pub piece_of : Kind → List ℕ → Piece
piece_of k x = record { kind = k; text = x }

pub digit_first : (c : ℕ) (cs : List ℕ) → is_ascii_digit c ≡ true → first c cs ≡ (Digit, 0)
digit_first c cs h =
    let a : (c == 194) ≡ false = grind (arith, nat_tests) in
    let b : (c == 226) ≡ false = grind (arith, nat_tests) in
    let d : (c == 32) ≡ false = grind (arith, nat_tests) in
    let e : (c == 9) ≡ false = grind (arith, nat_tests) in
    let f : (c == 10) ≡ false = grind (arith, nat_tests) in
    let g : (c == 13) ≡ false = grind (arith, nat_tests) in
    let i : (c == 45) ≡ false = grind (arith, nat_tests) in
    let j : (c == 44) ≡ false = grind (arith, nat_tests) in
    let k : (c == 46) ≡ false = grind (arith, nat_tests) in
    let l : (c == 47) ≡ false = grind (arith, nat_tests) in
    rw (a, b, d, e, f, g, i, j, k, l, h) refl

-- digits are a token where no digit follows
digits_token : (ds rest : List ℕ) → 0 < length ds → list_all is_ascii_digit ds ≡ true
    → ((xs : List ℕ) → in_front (piece_of Digit xs) (tokens 0 rest) ≡ piece_of Digit xs ∷ tokens 0 rest)
    → tokens 0 (ds ++ rest) ≡ piece_of Digit ds ∷ tokens 0 rest
unfolding tokens in_front
digits_token [] rest some all stop = absurd (omega arith)
digits_token (c ∷ []) rest some all stop =
    let both = and_parts (is_ascii_digit c) true all in
    rw (digit_first c rest both.0) (stop (c ∷ []))
digits_token (c ∷ d ∷ ds) rest some all stop =
    let both = and_parts (is_ascii_digit c) (list_all is_ascii_digit (d ∷ ds)) all in
    let next = digits_token (d ∷ ds) rest (omega arith) both.1 stop in
    rw (digit_first c (d ∷ ds ++ rest) both.0, next) refl

pub hyphen_token : (rest : List ℕ) → tokens 0 (45 ∷ rest) ≡ piece_of Hyphen (45 ∷ []) ∷ tokens 0 rest
unfolding tokens
hyphen_token rest = alone Hyphen (45 ∷ []) (tokens 0 rest) refl

hyphen_stops : (rest xs : List ℕ)
    → in_front (piece_of Digit xs) (tokens 0 (45 ∷ rest)) ≡ piece_of Digit xs ∷ tokens 0 (45 ∷ rest)
unfolding in_front
hyphen_stops rest xs = rw hyphen_token refl

end_stops : (xs : List ℕ) → in_front (piece_of Digit xs) (tokens 0 []) ≡ piece_of Digit xs ∷ tokens 0 []
unfolding tokens in_front
end_stops xs = refl

joined_tokens : (y m d : List ℕ) → AreDigits y → AreDigits m → AreDigits d
    → tokens 0 (joined y m d) ≡ piece_of Digit y ∷ piece_of Hyphen (45 ∷ []) ∷ piece_of Digit m
    ∷ piece_of Hyphen (45 ∷ []) ∷ piece_of Digit d ∷ []
unfolding tokens
joined_tokens y m d hy hm hd =
    let last : tokens 0 d ≡ piece_of Digit d ∷ []
    = ap (tokens 0) (sym (append-nil d)) ∙ digits_token d [] hd.some hd.digits end_stops in
    digits_token y (45 ∷ (m ++ (45 ∷ d))) hy.some hy.digits (hyphen_stops (m ++ (45 ∷ d)))
    ∙ ap (λ (ts : List Piece). piece_of Digit y ∷ ts) (hyphen_token (m ++ (45 ∷ d))
    ∙ ap (λ (ts : List Piece). piece_of Hyphen (45 ∷ []) ∷ ts)
    (digits_token m (45 ∷ d) hm.some hm.digits (hyphen_stops d)
    ∙ ap (λ (ts : List Piece). piece_of Digit m ∷ ts) (hyphen_token d
    ∙ ap (λ (ts : List Piece). piece_of Hyphen (45 ∷ []) ∷ ts) last)))

joined_runs : (y m d : List ℕ) → AreDigits y → AreDigits m → AreDigits d
    → three_runs (tokens 0 (joined y m d)) ≡ Some (y, m, d)
unfolding runs_in_front digits_first behind_hyphen
joined_runs y m d hy hm hd = rw (joined_tokens y m d hy hm hd) refl

no_minus : (y m d : List ℕ) → AreDigits y → AreDigits m → AreDigits d
    → runs_behind_minus (tokens 0 (joined y m d)) ≡ None
unfolding behind_hyphen
no_minus y m d hy hm hd = rw (joined_tokens y m d hy hm hd) refl

minus_runs : (y m d : List ℕ) → AreDigits y → AreDigits m → AreDigits d
    → runs_behind_minus (tokens 0 (45 ∷ joined y m d)) ≡ Some (y, m, d)
unfolding runs_in_front digits_first behind_hyphen
minus_runs y m d hy hm hd = rw (hyphen_token (joined y m d), joined_tokens y m d hy hm hd) refl

has_the_minus : (y m d : List ℕ) → AreDigits y → AreDigits m → AreDigits d
    → has_minus (tokens 0 (45 ∷ joined y m d)) ≡ true
has_the_minus y m d hy hm hd = rw (hyphen_token (joined y m d), joined_tokens y m d hy hm hd) refl

pub minus_stays : MinusDatesStay
minus_stays choice calendar names y m d civil hy hm hd =
    rw (
      minus_whole choice calendar names (45 ∷ joined y m d) (has_the_minus y m d hy hm hd),
      civil,
      minus_runs y m d hy hm hd,
    ) refl

kept_by : (choice : Choice) (calendar : Calendar) (kept : List ℕ) (y m d : Option Number)
    → ((year : Number) → y ≡ Some year → short_rule choice calendar year ≡ Keep)
    → stood choice calendar kept (y >>= λ a. m >>= λ b. d >>= λ c. Some (a, b, c)) ≡ kept
kept_by choice calendar kept None m d h = refl
kept_by choice calendar kept (Some y) None d h = refl
kept_by choice calendar kept (Some y) (Some m) None h = refl
kept_by choice calendar kept (Some y) (Some m) (Some d) h = rw (h y refl) refl

-- a year of more digits than a short one has is kept
never_short : (bound digits : ℕ) (year : Number) (rule : Short) → digits < year.digits
    → if_short bound digits year rule ≡ Keep
never_short bound digits year rule long = grind (arith, nat_tests)

long_in : (choice : Choice) (calendar : Calendar) (year : Number) → 3 < year.digits
    → rule_in choice calendar year ≡ Keep
long_in choice Gregorian year long = never_short 100 2 year choice.short_years (omega (arith, long))
long_in choice Julian year long = never_short 100 2 year choice.short_years (omega (arith, long))
long_in choice Hebrew year long = never_short 1000 3 year choice.short_hebrew_years long
long_in choice Islamic year long = never_short 100 2 year choice.short_other_years (omega (arith, long))
long_in choice Coptic year long = never_short 100 2 year choice.short_other_years (omega (arith, long))
long_in choice Ethiopic year long = never_short 100 2 year choice.short_other_years (omega (arith, long))
long_in choice Armenian year long = never_short 100 2 year choice.short_other_years (omega (arith, long))
long_in choice _ year long = refl

kept_still : (era : Option Era) → unless_said era Keep ≡ Keep
kept_still None = refl
kept_still (Some eras.Calendar) = refl
kept_still (Some eras.Spanish) = refl
kept_still (Some eras.Creation) = refl

pub long_kept : (choice : Choice) (calendar : Calendar) (year : Number) → 3 < year.digits
    → short_rule choice calendar year ≡ Keep
long_kept choice calendar year long = rw (long_in choice calendar year long) (kept_still year.year)

digits_by : (b : Bool) (value : ℕ) (text : List ℕ) (year : Number)
    → cond b (Some (record { value = value; digits = length text; named = false; year = None; day = false })) None
    ≡ Some year → length text ≡ year.digits
digits_by true value text year e =
    let same : record { value = value; digits = length text; named = false; year = None; day = false } ≡ year
    = cc in ap (λ (n : Number). n.digits) same
digits_by false value text year e = absurd (cc)

digits_counted : (text : List ℕ) (year : Number) → number_of_digits text ≡ Some year → length text ≡ year.digits
unfolding number_of_digits
digits_counted text year e = digits_by _ _ text year e

pub long_stands : (choice : Choice) (calendar : Calendar) (y m d : List ℕ) → 3 < length y
    → stood choice calendar (joined y m d) (numbers (y, m, d)) ≡ joined y m d
long_stands choice calendar y m d long =
    kept_by choice calendar (joined y m d) (number_of_digits y) (number_of_digits m) (number_of_digits d)
    (λ year e. long_kept choice calendar year (omega (arith, digits_counted y year e, long)))

stands_by : (choice : Choice) (y m d : List ℕ) → AreDigits y → AreDigits m → AreDigits d
    → is_turned choice.order y d ≡ false
    → is_some (unless_turned choice.order (three_runs (tokens 0 (joined y m d)))) ≡ true
stands_by choice y m d hy hm hd turned = rw (joined_runs y m d hy hm hd, turned) refl

pub they_stay : RegisterDatesStay
they_stay choice calendar names y m d civil hy hm hd turned kept =
    rw (
      dated_whole choice calendar names (joined y m d)
          (stands_dated choice calendar names (joined y m d) (stands_by choice y m d hy hm hd turned)),
      civil,
      no_minus y m d hy hm hd,
      joined_runs y m d hy hm hd,
      turned,
    )
    (kept_by choice calendar (joined y m d) (number_of_digits y) (number_of_digits m) (number_of_digits d) kept)
