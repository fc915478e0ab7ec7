-- What a text begins with is seen by its first byte.
use Rattle.std.proofs.Common.{◌≡◌, ◌≢◌, ◌<◌, ℕ, Bool, true, false, List, [], ◌∷◌, ◌++◌, cond, refl, sym, ap, arith, get_or}
use Rattle.std.proofs.Common.{drop, take}
use Rattle.std.proofs.Common.{Option, Some, None, ◌∙◌, ◌==◌, nat_le, ne_eqb}
use Rattle.std.specs.Char.{is_ascii_digit}
use Rattle.std.proofs.lemmas.Bool.{or_parts, true≢false}
use Rattle.std.proofs.lemmas.Bool.Decides.{nat_tests}
use Rattle.written_dates.specs.declared.tokens.Kind.{Kind}
use Rattle.written_dates.specs.declared.tokens.Kind.TheVariants.{Blank, Digit, Hyphen, Letter, Other, Sign}
use Rattle.written_dates.specs.Fields.{is_blank}
use Rattle.written_dates.specs.Names.{is_empty}
use Rattle.written_dates.specs.Signs.{◌>>=◌, at_end, bare, behind_blank, behind_hyphen, digits_first, if_digits, if_hyphen}
use Rattle.written_dates.specs.Signs.{runs_in_front}
use Rattle.written_dates.specs.private.SignViews.{may_be_blank, next_digits, runs_by_steps}
use Rattle.written_dates.specs.Tokens.{Piece, first, in_front, joins, kind_of, tokens}
use Rattle.written_dates.proofs.KindLemmas.{none_picked}
use Rattle.written_dates.proofs.TokenLemmas.{single}

-- the token in front is of the kind of the first character
abbrev pub Begins : Kind → List Piece → Type 0
Begins kind ts = (text : List ℕ) × (rest : List Piece) × (ts ≡ record { kind = kind; text = text } ∷ rest)

begins_by : (j : Bool) (a b : Piece) (rest : List Piece)
    → Begins a.kind (cond j (record { kind = a.kind; text = a.text ++ b.text } ∷ rest) (a ∷ b ∷ rest))
begins_by true a b rest = (a.text ++ b.text, rest, refl)
begins_by false a b rest = (a.text, b ∷ rest, refl)

begins : (a : Piece) (ts : List Piece) → Begins a.kind (in_front a ts)
unfolding in_front
begins a [] = (a.text, [], refl)
begins a (b ∷ rest) = begins_by (joins a.kind b.kind) a b rest

pub front : (c : ℕ) (cs : List ℕ) → Begins (first c cs).0 (tokens 0 (c ∷ cs))
unfolding tokens
front c cs = begins (record { kind = (first c cs).0; text = c ∷ take (first c cs).1 cs }) (tokens (first c cs).1 cs)

pub first_blank : (c : ℕ) (cs : List ℕ) → may_be_blank c ≡ false → is_blank (first c cs).0 ≡ false
first_blank c cs h =
    let both = or_parts (is_blank (kind_of c)) (nat_le 128 c) h in
    let low : c < 128 = grind (arith, nat_tests) in
    let a : (c == 194) ≡ false = grind (arith, nat_tests) in
    let b : (c == 226) ≡ false = grind (arith, nat_tests) in
    rw (a, b) both.0

pub not_behind : (k : Kind) (rest whole : List Piece) → is_blank k ≡ false → behind_blank k rest whole ≡ whole
not_behind Blank rest whole h = absurd (true≢false h)
not_behind Digit rest whole h = refl
not_behind _ rest whole h = refl

-- no blank is in front
pub bare_already : (text : List ℕ) → may_be_blank (get_or text 0 0) ≡ false → tokens 0 text ≡ bare (tokens 0 text)
unfolding tokens
bare_already [] h = refl
bare_already (c ∷ cs) h =
    let (text, rest, e) = front c cs in
    e ∙ sym (ap bare e ∙ not_behind (first c cs).0 (bare rest) _ (first_blank c cs h))

abbrev is_digit : Kind → Bool
is_digit Digit = true
is_digit _ = false

no_digits_in : (k : Kind) (text : List ℕ) (rest : List Piece) → is_digit k ≡ false → if_digits k text rest ≡ None
no_digits_in Digit text rest h = absurd (true≢false h)
no_digits_in Blank text rest h = refl
no_digits_in _ text rest h = refl

-- the kind of a byte, by its tests
abbrev tested : Bool → Bool → Bool → Bool → Bool → Kind
tested a b c d e = cond a Blank (cond b Hyphen (cond c Sign (cond d Digit (cond e Letter Other))))

not_digit : (a b c d e : Bool) → d ≡ false → is_digit (tested a b c d e) ≡ false
not_digit true b c d e h = refl
not_digit false true c d e h = refl
not_digit false false true d e h = refl
not_digit false false false true e h = absurd (true≢false h)
not_digit false false false false true h = refl
not_digit false false false false false h = refl

pub first_digit : (c : ℕ) (cs : List ℕ) → is_ascii_digit c ≡ false → is_digit (first c cs).0 ≡ false
first_digit c cs h =
    none_picked is_digit refl refl (kind_of c) _ _ _ _ (not_digit _ _ _ (is_ascii_digit c) _ h)

-- no digit is in front
pub no_digits : (text : List ℕ) → is_ascii_digit (get_or text 0 0) ≡ false → None ≡ digits_first (tokens 0 text)
unfolding tokens digits_first
no_digits [] h = refl
no_digits (c ∷ cs) h =
    let (text, rest, e) = front c cs in
    sym (ap digits_first e ∙ no_digits_in (first c cs).0 text rest (first_digit c cs h))

abbrev is_hyphen : Kind → Bool
is_hyphen Hyphen = true
is_hyphen _ = false

no_hyphen_in : (k : Kind) (rest : List Piece) → is_hyphen k ≡ false → if_hyphen k rest ≡ None
no_hyphen_in Hyphen rest h = absurd (true≢false h)
no_hyphen_in Blank rest h = refl
no_hyphen_in _ rest h = refl

not_hyphen : (a b c d e : Bool) → b ≡ false → is_hyphen (tested a b c d e) ≡ false
not_hyphen true b c d e h = refl
not_hyphen false true c d e h = absurd (true≢false h)
not_hyphen false false true d e h = refl
not_hyphen false false false true e h = refl
not_hyphen false false false false true h = refl
not_hyphen false false false false false h = refl

first_hyphen : (c : ℕ) (cs : List ℕ) → c ≢ 45 → is_hyphen (first c cs).0 ≡ false
first_hyphen c cs h =
    none_picked is_hyphen refl refl (kind_of c) _ _ _ _ (not_hyphen _ (c == 45) _ _ _ (ne_eqb c 45 h))

-- no dash of registers is in front
pub no_hyphen : (text : List ℕ) → get_or text 0 0 ≢ 45 → None ≡ behind_hyphen (tokens 0 text)
unfolding tokens behind_hyphen
no_hyphen [] h = refl
no_hyphen (c ∷ cs) h =
    let (text, rest, e) = front c cs in
    sym (ap behind_hyphen e ∙ no_hyphen_in (first c cs).0 rest (first_hyphen c cs h))

-- one is
pub hyphen : (text : List ℕ) → get_or text 0 0 ≡ 45 → Some (tokens 0 (drop 1 text)) ≡ behind_hyphen (tokens 0 text)
unfolding tokens behind_hyphen
hyphen [] h = absurd (omega arith)
hyphen (c ∷ cs) h = rw h (sym (ap behind_hyphen (single (45 ∷ cs) 1 (omega arith) refl refl)))

-- ---- three runs, digits by digits
end_by : (ts : List Piece) (runs : List ℕ × List ℕ × List ℕ) → cond (is_empty ts) (Some runs) None ≡ at_end ts runs
end_by [] runs = refl
end_by (p ∷ ts) runs = refl

bound : {B C : Type 0} (y : Option B) (g h : B → Option C) → ((b : B) → g b ≡ h b) → (y >>= g) ≡ (y >>= h)
bound None g h same = refl
bound (Some b) g h same = same b

chained : {A B C : Type 0} (x : Option A) (f : A → Option B) (g h : B → Option C) → ((b : B) → g b ≡ h b)
    → ((x >>= f) >>= g) ≡ (x >>= λ a. f a >>= h)
chained None f g h same = refl
chained (Some a) f g h same = bound (f a) g h same

pub by_steps : (ts : List Piece) → runs_by_steps ts ≡ runs_in_front ts
unfolding next_digits runs_in_front
by_steps ts =
    bound (digits_first ts) _ _ (λ a. chained (behind_hyphen a.1) digits_first _ _
    (λ b. chained (behind_hyphen b.1) digits_first _ _ (λ c. end_by (bare c.1) (a.0, b.0, c.0))))
