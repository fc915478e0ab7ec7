-- A minus is found wherever it stands.
use Rattle.std.proofs.Common.{◌≡◌, ℕ, zero, suc, ◌<◌, ◌≤◌, Bool, true, false, ◌&&◌, ◌||◌, cond, refl, sym, ap, arith}
use Rattle.std.proofs.Common.{List, [], ◌∷◌, ◌++◌, length, get_or, ◌∙◌, ◌==◌, nat_le}
use Rattle.std.specs.Char.{is_ascii_digit}
use Rattle.std.proofs.lemmas.Bool.{true≢false}
use Rattle.std.proofs.lemmas.Bool.Decides.{nat_tests}
use Rattle.written_dates.specs.declared.tokens.Kind.{Kind}
use Rattle.written_dates.specs.declared.tokens.Kind.TheVariants.{Blank, Hyphen, Digit, Letter, Other}
use Rattle.written_dates.specs.Tokens.{Piece, first, in_front, joins, kind_of, tokens}
use Rattle.written_dates.specs.Signs.{is_between, is_dash, is_digit, begins_with_digit, has_minus_behind}
use Rattle.written_dates.specs.ReadLaws.{HyphensAreMinuses}
use Rattle.written_dates.proofs.FrontLemmas.{front}
use Rattle.written_dates.proofs.KindLemmas.{picked}
use Rattle.written_dates.proofs.LawLemmas.{digit_first, hyphen_token, piece_of}

-- a minus is among these tokens, whatever stands before them
abbrev Has : List Piece → Type 0
Has ts = (k : Kind) → has_minus_behind k ts ≡ true

or_later : (a b : Bool) → b ≡ true → (a || b) ≡ true
or_later a b h = grind arith

all_three : (a b c : Bool) → a ≡ true → b ≡ true → c ≡ true → (a && b && c) ≡ true
all_three a b c p q r = rw (p, q, r) refl

or_first : (a b : Bool) → a ≡ true → (a || b) ≡ true
or_first a b h = grind arith

merged : (a b k : Kind) (x : Bool) (rest : List Piece) → joins a b ≡ true
    → ((is_between k && is_dash b && x) || has_minus_behind b rest) ≡ true
    → ((is_between k && is_dash a && x) || has_minus_behind a rest) ≡ true
merged Digit Digit k x rest e h = h
merged Letter Letter k x rest e h = h
merged _ _ k x rest e h = absurd (true≢false (sym e))

front_if : (j : Bool) (p q : Piece) (rest : List Piece) → joins p.kind q.kind ≡ j → Has (q ∷ rest)
    → Has (cond j (record { kind = p.kind; text = p.text ++ q.text } ∷ rest) (p ∷ q ∷ rest))
front_if true p q rest e h k = merged p.kind q.kind k (begins_with_digit rest) rest e (h k)
front_if false p q rest e h k = or_later _ _ (h p.kind)

front_has : (p : Piece) (ts : List Piece) → Has ts → Has (in_front p ts)
unfolding in_front
front_has p [] h k = absurd (true≢false (sym (h k)))
front_has p (q ∷ rest) h k = front_if (joins p.kind q.kind) p q rest refl h k

-- ---- the minus itself
letters_part : (digit letter : Bool) → is_between (cond digit Digit (cond letter Letter Other)) ≡ false
letters_part true letter = refl
letters_part false true = refl
letters_part false false = refl

not_between : (c : ℕ) → (c == 32) ≡ false → (c == 9) ≡ false → (c == 10) ≡ false → (c == 13) ≡ false
    → (c == 45) ≡ false → (c == 44) ≡ false → (c == 46) ≡ false → (c == 47) ≡ false
    → is_between (kind_of c) ≡ false
not_between c a b d f g i j k = rw (a, b, d, f, g, i, j, k) (letters_part _ _)

low_if : (b : Bool) (c : ℕ) → nat_le 128 c ≡ b → is_between (kind_of c) ≡ true → c < 128
low_if false c e h = grind (arith, nat_tests)
low_if true c e h =
    let high : 128 ≤ c = grind (arith, nat_tests) in
    let a : (c == 32) ≡ false = grind (arith, nat_tests) in
    let b : (c == 9) ≡ false = grind (arith, nat_tests) in
    let d : (c == 10) ≡ false = grind (arith, nat_tests) in
    let f : (c == 13) ≡ false = grind (arith, nat_tests) in
    let g : (c == 45) ≡ false = grind (arith, nat_tests) in
    let i : (c == 44) ≡ false = grind (arith, nat_tests) in
    let j : (c == 46) ≡ false = grind (arith, nat_tests) in
    let k : (c == 47) ≡ false = grind (arith, nat_tests) in
    absurd (true≢false (sym h ∙ not_between c a b d f g i j k))

pub low : (c : ℕ) → is_between (kind_of c) ≡ true → c < 128
low c h = low_if (nat_le 128 c) c refl h

digits_begin : (d : ℕ) (rest : List ℕ) → is_ascii_digit d ≡ true → begins_with_digit (tokens 0 (d ∷ rest)) ≡ true
digits_begin d rest h =
    let (text, after, e) = front d rest in
    let kind : (first d rest).0 ≡ Digit = ap (λ (x : Kind × ℕ). x.0) (digit_first d rest h) in
    ap begins_with_digit e ∙ ap is_digit kind

pub plain_first : (c : ℕ) (cs : List ℕ) → c < 128 → first c cs ≡ (kind_of c, 0)
plain_first c cs small =
    let a : (c == 194) ≡ false = grind (arith, nat_tests) in
    let b : (c == 226) ≡ false = grind (arith, nat_tests) in
    rw (a, b) refl

no_join : (k : Kind) → joins k Hyphen ≡ false
no_join Digit = refl
no_join Letter = refl
no_join _ = refl

alone_in_front : (p q : Piece) (rest : List Piece) → joins p.kind q.kind ≡ false
    → in_front p (q ∷ rest) ≡ p ∷ q ∷ rest
unfolding in_front
alone_in_front p q rest h = rw h refl

between_tokens : (c d : ℕ) (rest : List ℕ) → c < 128
    → tokens 0 (c ∷ 45 ∷ d ∷ rest)
    ≡ piece_of (kind_of c) (c ∷ []) ∷ piece_of Hyphen (45 ∷ []) ∷ tokens 0 (d ∷ rest)
unfolding tokens
between_tokens c d rest small =
    rw (plain_first c (45 ∷ d ∷ rest) small)
    (ap (in_front (piece_of (kind_of c) (c ∷ []))) (hyphen_token (d ∷ rest))
    ∙ alone_in_front (piece_of (kind_of c) (c ∷ [])) (piece_of Hyphen (45 ∷ [])) (tokens 0 (d ∷ rest))
    (no_join (kind_of c)))

minus_there : (k b : Kind) (c h : List ℕ) (ts : List Piece) → is_between b ≡ true → begins_with_digit ts ≡ true
    → has_minus_behind k (piece_of b c ∷ piece_of Hyphen h ∷ ts) ≡ true
minus_there k b c h ts between digit = rw (between, digit) (or_later (is_between k && is_dash b && false) true refl)

minus_has : (c d : ℕ) (rest : List ℕ) → is_between (kind_of c) ≡ true → is_ascii_digit d ≡ true
    → Has (tokens 0 (c ∷ 45 ∷ d ∷ rest))
minus_has c d rest between digit k =
    ap (has_minus_behind k) (between_tokens c d rest (low c between))
    ∙ minus_there k (kind_of c) (c ∷ []) (45 ∷ []) (tokens 0 (d ∷ rest)) between (digits_begin d rest digit)

-- ---- characters before it do not reach it
none_reached : (l : Kind) (a b c d : Bool) → a ≡ false → b ≡ false → c ≡ false → d ≡ false
    → (picked l a b c d).1 ≡ 0
none_reached l a b c d p q r s = rw (p, q, r, s) refl

one_reached : (l : Kind) (a b c d : Bool) → b ≡ false → c ≡ false → d ≡ false → (picked l a b c d).1 ≤ 1
one_reached l true b c d q r s = omega arith
one_reached l false b c d q r s = rw (q, r, s) (omega arith)

two_reached : (l : Kind) (a b c d : Bool) → (picked l a b c d).1 ≤ 2
two_reached l true b c d = omega arith
two_reached l false true c d = omega arith
two_reached l false false true d = omega arith
two_reached l false false false true = omega arith
two_reached l false false false false = omega arith

later_false : (a b : Bool) → b ≡ false → (a && b) ≡ false
later_false a b h = grind arith

middle_false : (a b c : Bool) → b ≡ false → (a && b && c) ≡ false
middle_false a b c h = grind arith

last_false : (a b c : Bool) → c ≡ false → (a && b && c) ≡ false
last_false a b c h = grind arith

third_false : (a b c d : Bool) → b ≡ false → (a && b && c && d) ≡ false
third_false a b c d h = grind arith

fourth_false : (a b c d : Bool) → c ≡ false → (a && b && c && d) ≡ false
fourth_false a b c d h = grind arith

pub reach : (a : ℕ) (bs : List ℕ) (c : ℕ) (cs : List ℕ) → c < 128 → (first a (bs ++ c ∷ cs)).1 ≤ length bs
reach a [] c cs small =
    let p : (c == 160) ≡ false = grind (arith, nat_tests) in
    let q : (c == 128) ≡ false = grind (arith, nat_tests) in
    let r : (c == 136) ≡ false = grind (arith, nat_tests) in
    let none =
    none_reached (kind_of a) ((a == 194) && (c == 160)) ((a == 226) && (c == 128) && (get_or (c ∷ cs) 1 0 == 175))
    ((a == 226) && (c == 128) && nat_le 144 (get_or (c ∷ cs) 1 0) && nat_le (get_or (c ∷ cs) 1 0) 148)
    ((a == 226) && (c == 136) && (get_or (c ∷ cs) 1 0 == 146)) (later_false _ _ p) (middle_false _ _ _ q)
    (third_false _ _ _ _ q) (middle_false _ _ _ r) in
    omega (arith, none)
reach a (b ∷ []) c cs small =
    let p : (c == 175) ≡ false = grind (arith, nat_tests) in
    let q : nat_le 144 c ≡ false = grind (arith, nat_tests) in
    let r : (c == 146) ≡ false = grind (arith, nat_tests) in
    one_reached (kind_of a) ((a == 194) && (b == 160)) ((a == 226) && (b == 128) && (c == 175))
    ((a == 226) && (b == 128) && nat_le 144 c && nat_le c 148) ((a == 226) && (b == 136) && (c == 146))
    (last_false (a == 226) (b == 128) (c == 175) p) (fourth_false (a == 226) (b == 128) (nat_le 144 c) (nat_le c 148) q)
    (last_false (a == 226) (b == 136) (c == 146) r)
reach a (b ∷ b' ∷ bs) c cs small =
    let two = two_reached (kind_of a) ((a == 194) && (b == 160)) ((a == 226) && (b == 128) && (b' == 175))
    ((a == 226) && (b == 128) && nat_le 144 b' && nat_le b' 148) ((a == 226) && (b == 136) && (b' == 146)) in
    omega (arith, two)

before_has : (more : ℕ) (before : List ℕ) (c d : ℕ) (rest : List ℕ) → more ≤ length before
    → is_between (kind_of c) ≡ true → is_ascii_digit d ≡ true → Has (tokens more (before ++ c ∷ 45 ∷ d ∷ rest))
unfolding tokens
before_has zero [] c d rest within between digit = minus_has c d rest between digit
before_has (suc more) [] c d rest within between digit = absurd (omega arith)
before_has zero (b ∷ bs) c d rest within between digit =
    front_has _ _
    (before_has (first b (bs ++ c ∷ 45 ∷ d ∷ rest)).1 bs c d rest (reach b bs c (45 ∷ d ∷ rest) (low c between)) between
    digit)
before_has (suc more) (b ∷ bs) c d rest within between digit =
    before_has more bs c d rest (omega arith) between digit

pub hyphens_are_minuses : HyphensAreMinuses
hyphens_are_minuses before rest c d between digit = before_has 0 before c d rest (omega arith) between digit Blank
