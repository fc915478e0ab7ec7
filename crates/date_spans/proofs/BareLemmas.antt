-- A text that is a date, or says one, has no brackets, nor has it with a sign at its end.
use Rattle.std.proofs.Common.{◌≡◌, ℕ, zero, suc, ◌-◌, ◌<◌, ◌≤◌, Bool, true, false, ◌&&◌, ◌||◌, ◌⊎◌, cond, refl, sym}
use Rattle.std.proofs.Common.{ap, ◌∙◌, List, [], ◌∷◌, ◌++◌, arith, drop, inl, inr, get_or, length, nat_le, take}
use Rattle.std.specs.Prelude.{◌==◌, Option, Some, None, is_some, not}
use Rattle.std.specs.List.{list_any}
use Rattle.std.proofs.lemmas.Bool.{and_parts, cases_Bool, cases_lt, or_from, or_parts}
use Rattle.std.proofs.lemmas.Bool.Decides.{nat_tests}
use Rattle.std.proofs.lemmas.List.{take-append-drop}
use Rattle.std.proofs.lemmas.List.Folds.{list_any-append}
use Rattle.date_texts.specs.declared.calendar.Calendar.{Calendar}
use Rattle.written_dates.specs.declared.meanings.Name.{Name}
use Rattle.written_dates.specs.declared.rules.Order.{Order}
use Rattle.written_dates.specs.declared.tokens.Kind.{Kind}
use Rattle.written_dates.specs.declared.tokens.Kind.TheVariants.{Blank, Dash, Digit, Hyphen, Letter, Other, Sign}
use Rattle.written_dates.specs.declared.written.Answer.{Answer}
use Rattle.written_dates.specs.declared.written.Answer.TheVariants.{Stays}
use Rattle.written_dates.specs.declared.written.Choice.{Choice}
use Rattle.written_dates.specs.Fields.{bare_end, is_blank, kept_end, spelling, without_blanks}
use Rattle.written_dates.specs.Signs.{◌>>=◌, at_end, bare, begins_with_dash, behind_blank, behind_hyphen, digits_first}
use Rattle.written_dates.specs.Signs.{has_minus, has_other, if_digits, if_hyphen, is_other, runs_in_front, three_runs}
use Rattle.written_dates.specs.Tokens.{Piece, first, in_front, joins, kind_of, tokens}
use Rattle.written_dates.specs.Written.{answer, is_dated, is_found, unless_turned}
use Rattle.written_dates.proofs.FieldLemmas.{spelled}
use Rattle.written_dates.proofs.KindLemmas.{picked}
use Rattle.written_dates.proofs.TokenLemmas.{same_kind}
use Rattle.date_spans.specs.Brackets.{is_bracket, without_brackets}
use Rattle.date_spans.specs.Cuts.{end_sign, ends_in_parentheses, is_about_sign, is_uncertain_sign, leaves_sign}
use Rattle.date_spans.specs.Cuts.{last_byte, unmarked, unmarked_by}
use Rattle.date_spans.proofs.BracketLemmas.{unbracketed}

-- no bracket stands in a text
abbrev pub IsBare : List ℕ → Type 0
IsBare text = list_any is_bracket text ≡ false

pub bare_both : (a b : List ℕ) → IsBare a → IsBare b → IsBare (a ++ b)
bare_both a b h k = list_any-append is_bracket a b ∙ or_from _ _ h k

pub bare_parts : (a b : List ℕ) → IsBare (a ++ b) → IsBare a × IsBare b
bare_parts a b h = or_parts (list_any is_bracket a) (list_any is_bracket b) (sym (list_any-append is_bracket a b) ∙ h)

-- ---- a token of any other kind than of what no date has
abbrev IsBarePiece : Piece → Type 0
IsBarePiece p = is_other p.kind ≡ false → IsBare p.text

abbrev AreBare : List Piece → Type 0
AreBare [] = Unit {0}
AreBare (p ∷ rest) = IsBarePiece p × AreBare rest

high : (c : ℕ) → 94 ≤ c → is_bracket c ≡ false
high c h = grind (arith, nat_tests)

one_taken : (cs : List ℕ) → 94 ≤ get_or cs 0 0 → IsBare (take 1 cs)
one_taken [] h = refl
one_taken (c ∷ cs) h = or_from _ _ (high c h) refl

two_taken : (cs : List ℕ) → 94 ≤ get_or cs 0 0 → 94 ≤ get_or cs 1 0 → IsBare (take 2 cs)
two_taken [] h k = refl
two_taken (c ∷ cs) h k = or_from _ _ (high c h) (one_taken cs k)

bracket_other : (c n : ℕ) → c ≡ n → is_other (kind_of n) ≡ true → is_other (kind_of c) ≡ true
bracket_other c n e h = ap (λ (x : ℕ). is_other (kind_of x)) e ∙ h

is_either : (c : ℕ) → is_bracket c ≡ true → (c ≡ 91) ⊎ (c ≡ 93)
is_either c h =
    elim (cases_Bool (c == 91)) [
      | inl left ↦ inl (grind (arith, nat_tests))
      | inr other ↦ inr (grind (arith, nat_tests))
    ]

bracket_kind : (c : ℕ) → is_bracket c ≡ true → is_other (kind_of c) ≡ true
bracket_kind c h =
    elim (is_either c h) [
      | inl left ↦ bracket_other c 91 left refl
      | inr right ↦ bracket_other c 93 right refl
    ]

by_kind : (b k : Bool) → (b ≡ true → k ≡ true) → k ≡ false → b ≡ false
by_kind true k f h = sym (f refl) ∙ h
by_kind false k f h = refl

no_bracket : (c : ℕ) → is_other (kind_of c) ≡ false → is_bracket c ≡ false
no_bracket c h = by_kind (is_bracket c) (is_other (kind_of c)) (bracket_kind c) h

first_by : (c : ℕ) (cs : List ℕ) (w x y z : Bool) → ((c == 194) && (get_or cs 0 0 == 160)) ≡ w
    → ((c == 226) && (get_or cs 0 0 == 128) && (get_or cs 1 0 == 175)) ≡ x
    → ((c == 226) && (get_or cs 0 0 == 128) && nat_le 144 (get_or cs 1 0) && nat_le (get_or cs 1 0) 148) ≡ y
    → ((c == 226) && (get_or cs 0 0 == 136) && (get_or cs 1 0 == 146)) ≡ z
    → is_other (picked (kind_of c) w x y z).0 ≡ false → IsBare (c ∷ take (picked (kind_of c) w x y z).1 cs)
first_by c cs true x y z e f g h k =
    let first : 94 ≤ c = grind (arith, nat_tests) in
    let second : 94 ≤ get_or cs 0 0 = grind (arith, nat_tests) in
    or_from _ _ (high c first) (one_taken cs second)
first_by c cs false true y z e f g h k =
    let first : 94 ≤ c = grind (arith, nat_tests) in
    let second : 94 ≤ get_or cs 0 0 = grind (arith, nat_tests) in
    let third : 94 ≤ get_or cs 1 0 = grind (arith, nat_tests) in
    or_from _ _ (high c first) (two_taken cs second third)
first_by c cs false false true z e f g h k =
    let first : 94 ≤ c = grind (arith, nat_tests) in
    let second : 94 ≤ get_or cs 0 0 = grind (arith, nat_tests) in
    let third : 94 ≤ get_or cs 1 0 = grind (arith, nat_tests) in
    or_from _ _ (high c first) (two_taken cs second third)
first_by c cs false false false true e f g h k =
    let first : 94 ≤ c = grind (arith, nat_tests) in
    let second : 94 ≤ get_or cs 0 0 = grind (arith, nat_tests) in
    let third : 94 ≤ get_or cs 1 0 = grind (arith, nat_tests) in
    or_from _ _ (high c first) (two_taken cs second third)
first_by c cs false false false false e f g h k = or_from _ _ (no_bracket c k) refl

first_bare : (c : ℕ) (cs : List ℕ)
    → IsBarePiece (record { kind = (first c cs).0; text = c ∷ take (first c cs).1 cs })
first_bare c cs =
    first_by c cs ((c == 194) && (get_or cs 0 0 == 160))
    ((c == 226) && (get_or cs 0 0 == 128) && (get_or cs 1 0 == 175))
    ((c == 226) && (get_or cs 0 0 == 128) && nat_le 144 (get_or cs 1 0) && nat_le (get_or cs 1 0) 148)
    ((c == 226) && (get_or cs 0 0 == 136) && (get_or cs 1 0 == 146)) refl refl refl refl

front_by : (j : Bool) (a b : Piece) (rest : List Piece) → joins a.kind b.kind ≡ j → IsBarePiece a → AreBare (b ∷ rest)
    → AreBare (cond j (record { kind = a.kind; text = a.text ++ b.text } ∷ rest) (a ∷ b ∷ rest))
front_by true a b rest e h k =
    (λ no. bare_both a.text b.text (h no) (k.0 (ap is_other (sym (same_kind a.kind b.kind e)) ∙ no)), k.1)
front_by false a b rest e h k = (h, k)

front_bare : (a : Piece) (ts : List Piece) → IsBarePiece a → AreBare ts → AreBare (in_front a ts)
unfolding in_front
front_bare a [] h k = (h, tt)
front_bare a (b ∷ rest) h k = front_by (joins a.kind b.kind) a b rest refl h k

tokens_bare : (more : ℕ) (text : List ℕ) → AreBare (tokens more text)
unfolding tokens
tokens_bare zero [] = tt
tokens_bare (suc more) [] = tt
tokens_bare zero (c ∷ cs) =
    front_bare (record { kind = (first c cs).0; text = c ∷ take (first c cs).1 cs }) (tokens (first c cs).1 cs)
    (first_bare c cs) (tokens_bare (first c cs).1 cs)
tokens_bare (suc more) (c ∷ cs) = tokens_bare more cs

spelled_bare : (ts : List Piece) → AreBare ts → has_other ts ≡ false → IsBare (spelling ts)
spelled_bare [] h k = refl
spelled_bare (p ∷ ts) h k =
    let both = or_parts (is_other p.kind) (has_other ts) k in
    bare_both p.text (spelling ts) (h.0 both.0) (spelled_bare ts h.1 both.1)

pub as_spelled : (text : List ℕ) → IsBare (spelling (tokens 0 text)) → IsBare text
as_spelled text h = ap (list_any is_bracket) (sym (spelled 0 text)) ∙ h

no_other : (text : List ℕ) → has_other (tokens 0 text) ≡ false → IsBare text
no_other text h = as_spelled text (spelled_bare (tokens 0 text) (tokens_bare 0 text) h)

-- ---- blanks have none
blank_first : (kind : Kind) (text : List ℕ) (ts front : List Piece) → (is_other kind ≡ false → IsBare text)
    → (IsBare (spelling front) → IsBare (spelling ts))
    → IsBare (spelling (behind_blank kind front (record { kind = kind; text = text } ∷ ts)))
    → IsBare (text ++ spelling ts)
blank_first Blank text ts front h more k = bare_both text (spelling ts) (h refl) (more k)
blank_first Digit text ts front h more k = k
blank_first _ text ts front h more k = k

blanks_first : (ts : List Piece) → AreBare ts → IsBare (spelling (bare ts)) → IsBare (spelling ts)
blanks_first [] h k = k
blanks_first (p ∷ ts) h k = blank_first p.kind p.text ts (bare ts) h.0 (blanks_first ts h.1) k

kept_first : (kind : Kind) (a b : List Piece) → AreBare a → AreBare b → AreBare (behind_blank kind a b)
kept_first Blank a b h k = h
kept_first Digit a b h k = k
kept_first _ a b h k = k

bare_first : (ts : List Piece) → AreBare ts → AreBare (bare ts)
bare_first [] h = tt
bare_first (p ∷ ts) h = kept_first p.kind (bare ts) (p ∷ ts) (bare_first ts h.1) h

blank_other : (kind : Kind) → is_blank kind ≡ true → is_other kind ≡ false
blank_other Blank e = refl
blank_other Other e = absurd (cc)
blank_other _ e = refl

blank_last : (p : Piece) (b : Bool) → is_blank p.kind ≡ b → IsBarePiece p → IsBare (spelling (cond b [] (p ∷ [])))
    → IsBare p.text
blank_last p true e h k = h (blank_other p.kind e)
blank_last p false e h k = (bare_parts p.text [] k).0

end_first : (p : Piece) (ts rest : List Piece) → IsBarePiece p → (IsBare (spelling rest) → IsBare (spelling ts))
    → IsBare (spelling (kept_end p rest)) → IsBare (p.text ++ spelling ts)
end_first p ts [] h more k = bare_both p.text (spelling ts) (blank_last p (is_blank p.kind) refl h k) (more refl)
end_first p ts (q ∷ rest) h more k =
    let both = bare_parts p.text (spelling (q ∷ rest)) k in bare_both p.text (spelling ts) both.0 (more both.1)

blanks_last : (ts : List Piece) → AreBare ts → IsBare (spelling (bare_end ts)) → IsBare (spelling ts)
blanks_last [] h k = k
blanks_last (p ∷ ts) h k = end_first p ts (bare_end ts) h.0 (blanks_last ts h.1) k

pub blanks_are_bare : (text : List ℕ) → IsBare (without_blanks text) → IsBare text
unfolding without_blanks
blanks_are_bare text h =
    as_spelled text (blanks_first (tokens 0 text) (tokens_bare 0 text)
    (blanks_last (bare (tokens 0 text)) (bare_first (tokens 0 text) (tokens_bare 0 text)) h))

-- ---- a sign at the end has none
pub bare_behind : (text : List ℕ) (n : ℕ)
    → ((i : ℕ) → n ≤ i → i < length text → is_bracket (get_or text i 0) ≡ false) → IsBare (drop n text)
bare_behind [] zero h = refl
bare_behind [] (suc n) h = refl
bare_behind (c ∷ cs) zero h =
    or_from _ _ (h 0 (omega arith) (omega arith))
    (bare_behind cs zero (λ i at least. h (suc i) (omega arith) (omega (arith, least))))
bare_behind (c ∷ cs) (suc n) h = bare_behind cs n (λ i at least. h (suc i) (omega (arith, at)) (omega (arith, least)))

abbrev is_end_sign : ℕ → Bool
is_end_sign c = is_uncertain_sign c || is_about_sign c

no_sign : (c : ℕ) → is_end_sign c ≡ true → is_bracket c ≡ false
no_sign c h = grind (arith, nat_tests)

at_place : (text : List ℕ) (i n : ℕ) → i ≡ n → is_bracket (get_or text n 0) ≡ false
    → is_bracket (get_or text i 0) ≡ false
at_place text i n e h = ap (λ (k : ℕ). is_bracket (get_or text k 0)) e ∙ h

in_parentheses : (text : List ℕ) (i : ℕ) → ends_in_parentheses text ≡ true
    → is_end_sign (get_or text (length text - 2) 0) ≡ true → length text - 3 ≤ i → i < length text
    → is_bracket (get_or text i 0) ≡ false
in_parentheses text i h sign from to =
    let outer
    = and_parts (nat_le 3 (length text) && (last_byte text == 41)) (get_or text (length text - 3) 0 == 40) h in
    let inner = and_parts (nat_le 3 (length text)) (last_byte text == 41) outer.0 in
    let long : 3 ≤ length text = grind (arith, nat_tests, inner.0) in
    let opens : is_bracket (get_or text (length text - 3) 0) ≡ false = grind (arith, nat_tests, outer.1) in
    let closes : is_bracket (get_or text (length text - 1) 0) ≡ false = grind (arith, nat_tests, inner.1) in
    elim (cases_lt i (length text - 2)) [
      | inl first ↦ at_place text i (length text - 3) (omega (arith, first, from, long)) opens
      | inr later ↦ elim (cases_lt i (length text - 1)) [
        | inl second ↦
            at_place text i (length text - 2) (omega (arith, second, later, long))
            (no_sign (get_or text (length text - 2) 0) sign)
        | inr third ↦ at_place text i (length text - 1) (omega (arith, third, to, long)) closes
      ]
    ]

sign_by : (text : List ℕ) (b : Bool) → ends_in_parentheses text ≡ b
    → is_end_sign (cond {A = ℕ × ℕ} b (get_or text (length text - 2) 0, 3) (last_byte text, 1)).0 ≡ true
    → IsBare (drop (length text - (cond {A = ℕ × ℕ} b (get_or text (length text - 2) 0, 3) (last_byte text, 1)).1) text)
sign_by text true e h = bare_behind text (length text - 3) (λ i from to. in_parentheses text i e h from to)
sign_by text false e h =
    bare_behind text (length text - 1) (λ i from to.
    at_place text i (length text - 1) (omega (arith, from, to)) (no_sign (last_byte text) h))

unsigned_by : (text : List ℕ) (b x y : Bool) (size : ℕ) → (b ≡ true → IsBare (drop (length text - size) text))
    → IsBare (cond {A = List ℕ × Bool × Bool} b (take (length text - size) text, x, y) (text, false, false)).0
    → IsBare text
unsigned_by text true x y size h k =
    ap (list_any is_bracket) (sym (take-append-drop (length text - size) text))
    ∙ bare_both (take (length text - size) text) (drop (length text - size) text) k (h refl)
unsigned_by text false x y size h k = k

unsigned : (text : List ℕ) → IsBare (unmarked_by text).0 → IsBare text
unsigned text h =
    unsigned_by text (is_end_sign (end_sign text).0
    && not (leaves_sign (end_sign text).0 (end_sign text).1 (take (length text - (end_sign text).1) text))) _ _ (end_sign text).1
    (λ e. sign_by text (ends_in_parentheses text) refl
    (and_parts (is_end_sign (end_sign text).0)
    (not (leaves_sign (end_sign text).0 (end_sign text).1 (take (length text - (end_sign text).1) text))) e).0) h

pub unmarked_is_bare : (text : List ℕ) → IsBare (unmarked text).0 → IsBare text
unfolding unmarked
unmarked_is_bare text h = blanks_are_bare text (unsigned (without_blanks text) h)

-- ---- what is read has no character that no date has
said_by : (a b c : Bool) (x : Answer) → is_found (cond (a || b || c) Stays x) ≡ true → a ≡ false
said_by true b c x e = absurd (cc)
said_by false b c x e = refl

found_bare : (choice : Choice) (calendar : Calendar) (names : List Name) (text : List ℕ)
    → is_found (answer choice calendar names text) ≡ true → has_other (tokens 0 text) ≡ false
unfolding answer
found_bare choice calendar names text e =
    said_by (has_other (tokens 0 text)) (has_minus (tokens 0 text)) (begins_with_dash (bare (tokens 0 text))) _ e

-- ---- nor has a date as registers have it
abbrev Runs : Type 0
Runs = List ℕ × List ℕ × List ℕ

pub next_of : {A B : Type 0} (o : Option A) (next : A → Option B) (y : B) → (o >>= next) ≡ Some y
    → (x : A) × (o ≡ Some x) × (next x ≡ Some y)
next_of None next y e = absurd (cc)
next_of (Some x) next y e = (x, refl, e)

digits_by : (kind : Kind) (text : List ℕ) (rest : List Piece) (found : List ℕ × List Piece)
    → if_digits kind text rest ≡ Some found → has_other found.1 ≡ false → (is_other kind || has_other rest) ≡ false
digits_by Digit text rest found e h =
    let same : rest ≡ found.1 = cc in ap (λ (ts : List Piece). has_other ts) same ∙ h
digits_by Blank text rest found e h = absurd (cc)
digits_by Hyphen text rest found e h = absurd (cc)
digits_by Dash text rest found e h = absurd (cc)
digits_by Sign text rest found e h = absurd (cc)
digits_by Letter text rest found e h = absurd (cc)
digits_by Other text rest found e h = absurd (cc)

digits_bare : (ts : List Piece) (found : List ℕ × List Piece) → digits_first ts ≡ Some found
    → has_other found.1 ≡ false → has_other ts ≡ false
unfolding digits_first
digits_bare [] found e h = refl
digits_bare (p ∷ rest) found e h = digits_by p.kind p.text rest found e h

hyphen_by : (kind : Kind) (rest found : List Piece) → if_hyphen kind rest ≡ Some found → has_other found ≡ false
    → (is_other kind || has_other rest) ≡ false
hyphen_by Hyphen rest found e h = let same : rest ≡ found = cc in ap (λ (ts : List Piece). has_other ts) same ∙ h
hyphen_by Blank rest found e h = absurd (cc)
hyphen_by Digit rest found e h = absurd (cc)
hyphen_by Dash rest found e h = absurd (cc)
hyphen_by Sign rest found e h = absurd (cc)
hyphen_by Letter rest found e h = absurd (cc)
hyphen_by Other rest found e h = absurd (cc)

hyphen_bare : (ts found : List Piece) → behind_hyphen ts ≡ Some found → has_other found ≡ false → has_other ts ≡ false
unfolding behind_hyphen
hyphen_bare [] found e h = refl
hyphen_bare (p ∷ rest) found e h = hyphen_by p.kind rest found e h

ended : (ts : List Piece) (x y : Runs) → at_end ts x ≡ Some y → has_other ts ≡ false
ended [] x y e = refl
ended (p ∷ rest) x y e = absurd (cc)

blank_by : (kind : Kind) (text : List ℕ) (front rest : List Piece) → (has_other front ≡ false → has_other rest ≡ false)
    → has_other (behind_blank kind front (record { kind = kind; text = text } ∷ rest)) ≡ false
    → (is_other kind || has_other rest) ≡ false
blank_by Blank text front rest more h = more h
blank_by Digit text front rest more h = h
blank_by _ text front rest more h = h

behind_blanks : (ts : List Piece) → has_other (bare ts) ≡ false → has_other ts ≡ false
behind_blanks [] h = h
behind_blanks (p ∷ rest) h = blank_by p.kind p.text (bare rest) rest (behind_blanks rest) h

runs_bare : (ts : List Piece) (runs : Runs) → runs_in_front ts ≡ Some runs → has_other ts ≡ false
unfolding runs_in_front
runs_bare ts runs e =
    let (a, a_is, b) = next_of (digits_first ts) _ runs e in
    let (c, c_is, d) = next_of (behind_hyphen a.1) _ runs b in
    let (f, f_is, g) = next_of (digits_first c) _ runs d in
    let (h, h_is, i) = next_of (behind_hyphen f.1) _ runs g in
    let (j, j_is, k) = next_of (digits_first h) _ runs i in
    let last : has_other j.1 ≡ false = behind_blanks j.1 (ended (bare j.1) (a.0, f.0, j.0) runs k) in
    digits_bare ts a a_is (hyphen_bare a.1 c c_is (digits_bare c f f_is
    (hyphen_bare f.1 h h_is (digits_bare h j j_is last))))

some_unless : (order : Order) (found : Option Runs) → is_some (unless_turned order found) ≡ true
    → (runs : Runs) × (found ≡ Some runs)
some_unless order None e = absurd (cc)
some_unless order (Some runs) e = (runs, refl)

standing_bare : (order : Order) (text : List ℕ) → is_some (unless_turned order (three_runs (tokens 0 text))) ≡ true
    → has_other (tokens 0 text) ≡ false
standing_bare order text e =
    let (runs, is) = some_unless order (three_runs (tokens 0 text)) e in
    behind_blanks (tokens 0 text) (runs_bare (bare (tokens 0 text)) runs is)

by_either : (a b c : Bool) → (a || b) ≡ true → (a ≡ true → c ≡ false) → (b ≡ true → c ≡ false) → c ≡ false
by_either true b c e f g = f refl
by_either false b c e f g = g e

pub dated_is_bare : (choice : Choice) (calendar : Calendar) (names : List Name) (text : List ℕ)
    → is_dated choice calendar names text ≡ true → IsBare text
unfolding is_dated
dated_is_bare choice calendar names text h =
    no_other text (by_either (is_some (unless_turned choice.order (three_runs (tokens 0 text))))
    (is_found (answer choice calendar names text)) (has_other (tokens 0 text)) h (standing_bare choice.order text)
    (found_bare choice calendar names text))

-- so none are left out of it
pub no_brackets : (choice : Choice) (calendar : Calendar) (names : List Name) (text : List ℕ)
    → is_dated choice calendar names (unmarked text).0 ≡ true → without_brackets text ≡ None
no_brackets choice calendar names text h =
    unbracketed text (unmarked_is_bare text (dated_is_bare choice calendar names (unmarked text).0 h))
