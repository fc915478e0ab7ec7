-- Tokens that are alike: what signs say of them.
use Rattle.std.proofs.Common.{◌≡◌, inl, inr, ℕ, zero, suc, ◌+◌, Bool, true, false, not, ◌&&◌, ◌||◌, ◌==◌, cond, refl}
use Rattle.std.proofs.Common.{sym, ap, ap₂}
use Rattle.std.proofs.Common.{List, [], ◌∷◌, ◌++◌, Option, Some, None, ◌∙◌, arith, take}
use Rattle.std.specs.List.{count_by, list_all, list_any}
use Rattle.std.proofs.lemmas.Bool.{and_from, and_parts, true≢false}
use Rattle.std.proofs.lemmas.Bool.Decides.{nat_tests}
use Rattle.std.proofs.lemmas.List.Sums.{sum_by-cons}
use Rattle.written_dates.specs.declared.meanings.Name.{Name}
use Rattle.written_dates.specs.declared.tokens.Kind.{Kind}
use Rattle.written_dates.specs.declared.tokens.Kind.TheVariants.{Blank, Hyphen, Digit, Letter}
use Rattle.written_dates.specs.Fields.{is_blank}
use Rattle.written_dates.specs.Signs.{◌>>=◌, at_end, bare, begins_with_dash, begins_with_digit, behind_blank}
use Rattle.written_dates.specs.Signs.{behind_hyphen, differ}
use Rattle.written_dates.specs.Signs.{digits_first, has_bar_between, has_digits, has_minus, has_minus_behind}
use Rattle.written_dates.specs.Signs.{has_mixed_signs, has_other}
use Rattle.written_dates.specs.Signs.{has_two_dashes, if_digits, if_hyphen, is_bar, is_between, is_dash, is_digit}
use Rattle.written_dates.specs.Signs.{is_other, is_sign}
use Rattle.written_dates.specs.Signs.{runs_behind_minus, runs_in_front, signs_before_digits, signs_between, three_runs}
use Rattle.written_dates.specs.TextLaws.{AreAlike, EachAlike, before_spaced, spaced}
use Rattle.written_dates.specs.Tokens.{Piece, first, in_front, joins, tokens}
use Rattle.written_dates.specs.WholeNames.{is_letter}
use Rattle.written_dates.proofs.FrontLemmas.{not_behind}

-- ---- blanks and words are no slashes
abbrev pub is_plain : Kind → Bool
is_plain k = is_blank k || is_letter k

abbrev pub first_byte : List ℕ → ℕ
first_byte [] = 0
first_byte (c ∷ cs) = c

abbrev pub is_honest : Piece → Bool
is_honest p = not (is_plain p.kind && (first_byte p.text == 47))

abbrev pub are_honest : List Piece → Bool
are_honest ts = list_all is_honest ts

no_bar_by : (k : Kind) (text : List ℕ) → not (is_plain k && (first_byte text == 47)) ≡ true → is_plain k ≡ true
    → is_bar (record { kind = k; text = text }) ≡ false
no_bar_by Blank [] h e = refl
no_bar_by Letter [] h e = refl
no_bar_by Blank (c ∷ cs) h e = by_first (c == 47) _ h
  where
    by_first : (b x : Bool) → not b ≡ true → (b && x) ≡ false
    by_first true x h = absurd (true≢false (sym h))
    by_first false x h = refl
no_bar_by Letter (c ∷ cs) h e = by_first (c == 47) _ h
  where
    by_first : (b x : Bool) → not b ≡ true → (b && x) ≡ false
    by_first true x h = absurd (true≢false (sym h))
    by_first false x h = refl
no_bar_by _ text h e = absurd (true≢false (sym e))

-- ---- functions of tokens that blanks and words do not touch
pub record Ignores {A : Type 0} (g : List Piece → A) : Type 0 where
  pub more : (p : Piece) (us vs : List Piece) → g us ≡ g vs → g (p ∷ us) ≡ g (p ∷ vs)
  pub skips : (p : Piece) (us : List Piece) → is_honest p ≡ true → is_plain p.kind ≡ true → g (p ∷ us) ≡ g us

-- that blanks alone do not touch
pub record IgnoresBlanks {A : Type 0} (g : List Piece → A) : Type 0 where
  pub more : (p : Piece) (us vs : List Piece) → g us ≡ g vs → g (p ∷ us) ≡ g (p ∷ vs)
  pub skips : (p : Piece) (us : List Piece) → is_honest p ≡ true → is_blank p.kind ≡ true → g (p ∷ us) ≡ g us

plain_blank : (k : Kind) → is_blank k ≡ true → is_plain k ≡ true
plain_blank k h = rw h refl

pub no_blanks : {A : Type 0} (g : List Piece → A) → Ignores g → IgnoresBlanks g
no_blanks g i = record { more = i.more; skips = λ p us h k. i.skips p us h (plain_blank p.kind k) }

pub others : Ignores has_other
others = record {
  more = λ p us vs e. ap (λ b. is_other p.kind || b) e;
  skips = λ p us h k. by_kind p.kind (has_other us) k;
} where
  by_kind : (k : Kind) (b : Bool) → is_plain k ≡ true → (is_other k || b) ≡ b
  by_kind Blank b h = refl
  by_kind Letter b h = refl
  by_kind _ b h = absurd (true≢false (sym h))

pub honest : Ignores are_honest
honest = record {
  more = λ p us vs e. ap (λ b. is_honest p && b) e;
  skips = λ p us h k. ap (λ b. b && are_honest us) h;
}

no_sign : (k : Kind) → is_plain k ≡ true → is_sign k ≡ false
no_sign Blank h = refl
no_sign Letter h = refl
no_sign _ h = absurd (true≢false (sym h))

no_dash : (k : Kind) → is_plain k ≡ true → is_dash k ≡ false
no_dash Blank h = refl
no_dash Letter h = refl
no_dash _ h = absurd (true≢false (sym h))

no_digit : (k : Kind) → is_plain k ≡ true → is_digit k ≡ false
no_digit Blank h = refl
no_digit Letter h = refl
no_digit _ h = absurd (true≢false (sym h))

not_counted : (b : Bool) (n : ℕ) → b ≡ false → cond b 1 0 + n ≡ n
not_counted b n e = rw e (omega arith)

counted : (test : Piece → Bool) → ((p : Piece) → is_honest p ≡ true → is_plain p.kind ≡ true → test p ≡ false)
    → Ignores (λ ts. count_by test ts)
counted test none = record {
  more = λ p us vs e.
      sum_by-cons (λ x. cond (test x) 1 0) p us ∙ ap (λ n. cond (test p) 1 0 + n) e
      ∙ sym (sum_by-cons (λ x. cond (test x) 1 0) p vs);
  skips = λ p us h k.
      sum_by-cons (λ x. cond (test x) 1 0) p us ∙ not_counted (test p) (count_by test us) (none p h k);
}

signs_counted : Ignores (λ ts. count_by (λ p. is_sign p.kind) ts)
signs_counted = counted (λ p. is_sign p.kind) (λ p h k. no_sign p.kind k)

dashes_counted : Ignores (λ ts. count_by (λ p. is_dash p.kind) ts)
dashes_counted = counted (λ p. is_dash p.kind) (λ p h k. no_dash p.kind k)

bars_counted : Ignores (λ ts. count_by is_bar ts)
bars_counted = counted is_bar (λ p h k. no_bar_by p.kind p.text h k)

-- the signs between the first digits and the last, with what they are found by
abbrev Between : Type 0
Between = List Piece × List Piece × Bool

abbrev between : List Piece → Between
between ts = (signs_between ts, signs_before_digits ts, has_digits ts)

abbrev one_between : Piece → Between → Between
one_between p x = (
  cond (is_digit p.kind) x.1 x.0,
  cond (is_sign p.kind && x.2) (p ∷ x.1) x.1,
  is_digit p.kind || x.2,
)

not_between : (digit sign : Bool) (p : Piece) (x : Between) → digit ≡ false → sign ≡ false
    → (cond digit x.1 x.0, cond (sign && x.2) (p ∷ x.1) x.1, digit || x.2) ≡ x
not_between digit sign p x e f = rw (e, f) refl

signs_found : Ignores between
signs_found = record {
  more = λ p us vs e. ap (one_between p) e;
  skips = λ p us h k. not_between (is_digit p.kind) (is_sign p.kind) p (between us) (no_digit p.kind k)
      (no_sign p.kind k);
}

-- ---- fewer blanks
pub blank_is : (k : Kind) → is_blank k ≡ true → k ≡ Blank
blank_is Blank h = refl
blank_is _ h = absurd (true≢false (sym h))

pub letter_is : (k : Kind) → is_letter k ≡ true → k ≡ Letter
letter_is Letter h = refl
letter_is _ h = absurd (true≢false (sym h))

plain_letter : (k : Kind) → is_letter k ≡ true → is_plain k ≡ true
plain_letter Letter h = refl
plain_letter _ h = absurd (true≢false (sym h))

put_by : {A : Type 0} (g : List Piece → A) (b : Bool) (p : Piece) → IgnoresBlanks g → is_honest p ≡ true
    → is_blank p.kind ≡ b
    → g (cond b [] (p ∷ [])) ≡ g (p ∷ [])
put_by g true p i h e = sym (i.skips p [] h e)
put_by g false p i h e = refl

put_before : {A : Type 0} (g : List Piece → A) (b d : Bool) (p q : Piece) (us : List Piece) → IgnoresBlanks g
    → is_honest p ≡ true
    → is_blank p.kind ≡ b → g (cond (b && d) (q ∷ us) (p ∷ q ∷ us)) ≡ g (p ∷ q ∷ us)
put_before g true true p q us i h e = sym (i.skips p (q ∷ us) h e)
put_before g true false p q us i h e = refl
put_before g false d p q us i h e = refl

put_same : {A : Type 0} (g : List Piece → A) (p : Piece) (us : List Piece) → IgnoresBlanks g → is_honest p ≡ true
    → g (before_spaced p us) ≡ g (p ∷ us)
put_same g p [] i h = put_by g (is_blank p.kind) p i h refl
put_same g p (q ∷ us) i h = put_before g (is_blank p.kind) (is_blank q.kind) p q us i h refl

pub spaced_same : {A : Type 0} (g : List Piece → A) (ts : List Piece) → IgnoresBlanks g → are_honest ts ≡ true
    → g (spaced ts) ≡ g ts
unfolding spaced
spaced_same g [] i h = refl
spaced_same g (p ∷ ts) i h =
    let both = and_parts (is_honest p) (are_honest ts) h in
    put_same g p (spaced ts) i both.0 ∙ i.more p (spaced ts) ts (spaced_same g ts i both.1)

bare_by : {A : Type 0} (g : List Piece → A) (k : Kind) (text : List ℕ) (rest front : List Piece) → IgnoresBlanks g
    → is_honest (record { kind = k; text = text }) ≡ true → g front ≡ g rest
    → g (behind_blank k front (record { kind = k; text = text } ∷ rest)) ≡ g (record { kind = k; text = text } ∷ rest)
bare_by g Blank text rest front i h e = e ∙ sym (i.skips (record { kind = Blank; text = text }) rest h refl)
bare_by g _ text rest front i h e = refl

pub bare_same : {A : Type 0} (g : List Piece → A) (ts : List Piece) → IgnoresBlanks g → are_honest ts ≡ true
    → g (bare ts) ≡ g ts
bare_same g [] i h = refl
bare_same g (p ∷ ts) i h =
    let both = and_parts (is_honest p) (are_honest ts) h in
    bare_by g p.kind p.text ts (bare ts) i both.0 (bare_same g ts i both.1)

pub squeezed_same : {A : Type 0} (g : List Piece → A) (ts : List Piece) → IgnoresBlanks g → are_honest ts ≡ true
    → g (bare (spaced ts)) ≡ g ts
squeezed_same g ts i h =
    bare_same g (spaced ts) i (spaced_same are_honest ts (no_blanks are_honest honest) h ∙ h) ∙ spaced_same g ts i h

-- ---- tokens that are alike
pub alike_same : {A : Type 0} (g : List Piece → A) (names : List Name) (ts us : List Piece) → Ignores g
    → are_honest ts ≡ true → are_honest us ≡ true → EachAlike names ts us → g ts ≡ g us
alike_same g names [] [] i h k all = refl
alike_same g names [] (q ∷ us) i h k all = absurd all
alike_same g names (p ∷ ts) [] i h k all = absurd all
alike_same {A} g names (p ∷ ts) (q ∷ us) i h k all =
    let mine = and_parts (is_honest p) (are_honest ts) h in
    let other = and_parts (is_honest q) (are_honest us) k in
    let rest : g ts ≡ g us = alike_same g names ts us i mine.1 other.1 all.1 in
    let both_plain : is_plain p.kind ≡ true → is_plain q.kind ≡ true → g (p ∷ ts) ≡ g (q ∷ us)
    = λ a b. i.skips p ts mine.0 a ∙ rest ∙ sym (i.skips q us other.0 b) in
    elim all.0 [
      | inl e ↦ i.more p ts us rest ∙ ap (λ x. g (x ∷ us)) e
      | inr (inl (a, b)) ↦ both_plain (plain_blank p.kind a) (plain_blank q.kind b)
      | inr (inr (a, b, c)) ↦ both_plain (plain_letter p.kind a) (plain_letter q.kind b)
    ]

-- ---- what signs say
-- all that is asked of tokens but which parts they are
pub record SeenAlike (ts us : List Piece) : Type 0 where
  pub other : has_other ts ≡ has_other us
  pub minus : has_minus ts ≡ has_minus us
  pub dash : begins_with_dash (bare ts) ≡ begins_with_dash (bare us)
  pub two : has_two_dashes ts ≡ has_two_dashes us
  pub mixed : has_mixed_signs ts ≡ has_mixed_signs us
  pub bar : has_bar_between ts ≡ has_bar_between us
  pub runs : three_runs ts ≡ three_runs us
  pub below : runs_behind_minus ts ≡ runs_behind_minus us

-- what is the same where functions that blanks and words do not touch are
abbrev SameWhereIgnored : List Piece → List Piece → Type 0
SameWhereIgnored ts us =
    (has_other ts ≡ has_other us) × (has_two_dashes ts ≡ has_two_dashes us)
    × (has_mixed_signs ts ≡ has_mixed_signs us) × (has_bar_between ts ≡ has_bar_between us)

abbrev two_by : ℕ → ℕ → Bool
two_by signs dashes = (signs == 2) && (dashes == 2)

abbrev mixed_by : List Piece → ℕ → Bool
mixed_by signs bars = differ signs || (not (bars == 0) && not (bars == 2))

by_ignored : (ts us : List Piece) → has_other ts ≡ has_other us → between ts ≡ between us
    → count_by (λ p. is_sign p.kind) ts ≡ count_by (λ p. is_sign p.kind) us
    → count_by (λ p. is_dash p.kind) ts ≡ count_by (λ p. is_dash p.kind) us → count_by is_bar ts ≡ count_by is_bar us
    → SameWhereIgnored ts us
by_ignored ts us other signs all dashes bars =
    let found : signs_between ts ≡ signs_between us = ap (λ (x : Between). x.0) signs in (
      other,
      ap₂ two_by all dashes,
      ap₂ mixed_by found bars,
      ap (λ (x : List Piece). list_any is_bar x) found,
    )

squeezed_ignored : (ts : List Piece) → are_honest ts ≡ true → SameWhereIgnored (bare (spaced ts)) ts
squeezed_ignored ts h =
    by_ignored (bare (spaced ts)) ts (squeezed_same has_other ts (no_blanks _ others) h) (squeezed_same between ts
    (no_blanks _ signs_found) h)
    (squeezed_same (λ us. count_by (λ p. is_sign p.kind) us) ts (no_blanks _ signs_counted) h)
    (squeezed_same (λ us. count_by (λ p. is_dash p.kind) us) ts (no_blanks _ dashes_counted) h)
    (squeezed_same (λ us. count_by is_bar us) ts (no_blanks _ bars_counted) h)

alike_ignored : (names : List Name) (ts us : List Piece) → are_honest ts ≡ true → are_honest us ≡ true
    → EachAlike names ts us → SameWhereIgnored ts us
alike_ignored names ts us h k all =
    by_ignored ts us (alike_same has_other names ts us others h k all)
    (alike_same between names ts us signs_found h k all)
    (alike_same (λ us. count_by (λ p. is_sign p.kind) us) names ts us signs_counted h k all)
    (alike_same (λ us. count_by (λ p. is_dash p.kind) us) names ts us dashes_counted h k all)
    (alike_same (λ us. count_by is_bar us) names ts us bars_counted h k all)

-- ---- a minus
abbrev head_is : (Kind → Bool) → List Piece → Bool
head_is test [] = false
head_is test (p ∷ rest) = test p.kind

put_head : (test : Kind → Bool) (p : Piece) (us : List Piece) → test Blank ≡ false
    → head_is test (before_spaced p us) ≡ test p.kind
put_head test p [] none = by_blank (is_blank p.kind) refl
  where
    by_blank : (b : Bool) → is_blank p.kind ≡ b → head_is test (cond b [] (p ∷ [])) ≡ test p.kind
    by_blank true e = sym (ap test (blank_is p.kind e) ∙ none)
    by_blank false e = refl
put_head test p (q ∷ us) none = by_blank (is_blank p.kind) (is_blank q.kind) refl refl
  where
    by_blank : (b d : Bool) → is_blank p.kind ≡ b → is_blank q.kind ≡ d
        → head_is test (cond (b && d) (q ∷ us) (p ∷ q ∷ us)) ≡ test p.kind
    by_blank true true e f = ap test (blank_is q.kind f) ∙ sym (ap test (blank_is p.kind e))
    by_blank true false e f = refl
    by_blank false d e f = refl

spaced_head : (test : Kind → Bool) (ts : List Piece) → test Blank ≡ false → head_is test (spaced ts) ≡ head_is test ts
unfolding spaced
spaced_head test [] none = refl
spaced_head test (p ∷ ts) none = put_head test p (spaced ts) none

none_here : (b x d : Bool) → d ≡ ((b && false && x) || d)
none_here true x d = refl
none_here false x d = refl

minus_put : (k : Kind) (p : Piece) (us : List Piece)
    → has_minus_behind k (before_spaced p us) ≡ has_minus_behind k (p ∷ us)
minus_put k p [] = by_blank p.kind
  where
    by_blank : (j : Kind) → has_minus_behind k (cond (is_blank j) [] (record { kind = j; text = p.text } ∷ []))
        ≡ has_minus_behind k (record { kind = j; text = p.text } ∷ [])
    by_blank Blank = none_here (is_between k) false false
    by_blank _ = refl
minus_put k p (q ∷ us) = by_blank p.kind q.kind
  where
    by_blank : (j l : Kind)
        → has_minus_behind k (cond (is_blank j && is_blank l) (record { kind = l; text = q.text } ∷ us)
        (record { kind = j; text = p.text } ∷ record { kind = l; text = q.text } ∷ us))
        ≡ has_minus_behind k (record { kind = j; text = p.text } ∷ record { kind = l; text = q.text } ∷ us)
    by_blank Blank Blank =
        sym (none_here (is_between k) (begins_with_digit us) _)
        ∙ none_here (is_between k) (begins_with_digit (record { kind = Blank; text = q.text } ∷ us)) _
    by_blank Blank _ = refl
    by_blank _ l = refl

minus_spaced : (k : Kind) (ts : List Piece) → has_minus_behind k (spaced ts) ≡ has_minus_behind k ts
unfolding spaced
minus_spaced k [] = refl
minus_spaced k (p ∷ ts) =
    minus_put k p (spaced ts)
    ∙ ap₂ (λ a b. (is_between k && is_dash p.kind && a) || b) (spaced_head is_digit ts refl) (minus_spaced p.kind ts)

minus_bare : (ts : List Piece) → has_minus_behind Blank (bare ts) ≡ has_minus_behind Blank ts
minus_bare [] = refl
minus_bare (p ∷ ts) = by_blank (minus_bare ts) p.kind
  where
    by_blank : has_minus_behind Blank (bare ts) ≡ has_minus_behind Blank ts → (j : Kind)
        → has_minus_behind Blank (behind_blank j (bare ts) (record { kind = j; text = p.text } ∷ ts))
        ≡ has_minus_behind Blank (record { kind = j; text = p.text } ∷ ts)
    by_blank rest Blank = rest
    by_blank rest _ = refl

pub same_kind : (names : List Name) (p q : Piece) → AreAlike names p q → p.kind ≡ q.kind
same_kind names p q h = elim h [
  | inl e ↦ ap (λ (x : Piece). x.kind) e
  | inr (inl (a, b)) ↦ blank_is p.kind a ∙ sym (blank_is q.kind b)
  | inr (inr (a, b, c)) ↦ letter_is p.kind a ∙ sym (letter_is q.kind b)
]

alike_head : (test : Kind → Bool) (names : List Name) (ts us : List Piece) → EachAlike names ts us
    → head_is test ts ≡ head_is test us
alike_head test names [] [] all = refl
alike_head test names [] (q ∷ us) all = absurd all
alike_head test names (p ∷ ts) [] all = absurd all
alike_head test names (p ∷ ts) (q ∷ us) all = ap test (same_kind names p q all.0)

minus_alike : (k : Kind) (names : List Name) (ts us : List Piece) → EachAlike names ts us
    → has_minus_behind k ts ≡ has_minus_behind k us
minus_alike k names [] [] all = refl
minus_alike k names [] (q ∷ us) all = absurd all
minus_alike k names (p ∷ ts) [] all = absurd all
minus_alike k names (p ∷ ts) (q ∷ us) all =
    let same = same_kind names p q all.0 in
    ap₂ (λ a b. (is_between k && is_dash p.kind && a) || b) (alike_head is_digit names ts us all.1)
    (minus_alike p.kind names ts us all.1)
    ∙ ap (λ j. (is_between k && is_dash j && begins_with_digit us) || has_minus_behind j us) same

-- ---- blanks in front
pub bare_put : (p : Piece) (us : List Piece) → is_blank p.kind ≡ true → bare (before_spaced p us) ≡ bare us
bare_put p us h = by_kind us (blank_is p.kind h)
  where
    by_kind : (us : List Piece) → p.kind ≡ Blank → bare (before_spaced p us) ≡ bare us
    by_kind [] e = rw e refl
    by_kind (q ∷ us) e = by_second (is_blank q.kind)
      where
        by_second : (d : Bool) → bare (cond (is_blank p.kind && d) (q ∷ us) (p ∷ q ∷ us)) ≡ bare (q ∷ us)
        by_second true = rw e refl
        by_second false = rw e refl

pub kept_put : (p : Piece) (us : List Piece) → is_blank p.kind ≡ false → before_spaced p us ≡ p ∷ us
kept_put p [] h = rw h refl
kept_put p (q ∷ us) h = rw h refl

bare_spaced : (ts : List Piece) → bare (spaced ts) ≡ spaced (bare ts)
unfolding spaced
bare_spaced [] = refl
bare_spaced (p ∷ ts) = by_blank (bare_spaced ts) (is_blank p.kind) refl
  where
    by_blank : bare (spaced ts) ≡ spaced (bare ts) → (b : Bool) → is_blank p.kind ≡ b
        → bare (before_spaced p (spaced ts)) ≡ spaced (behind_blank p.kind (bare ts) (p ∷ ts))
    by_blank rest true e =
        bare_put p (spaced ts) e ∙ rest
        ∙ ap (λ k. spaced (behind_blank k (bare ts) (p ∷ ts))) (sym (blank_is p.kind e))
    by_blank rest false e =
        ap bare (kept_put p (spaced ts) e) ∙ not_behind p.kind (bare (spaced ts)) (p ∷ spaced ts) e
        ∙ sym (kept_put p (spaced ts) e) ∙ ap spaced (sym (not_behind p.kind (bare ts) (p ∷ ts) e))

bare_twice : (ts : List Piece) → bare (bare ts) ≡ bare ts
bare_twice [] = refl
bare_twice (p ∷ ts) = by_blank (bare_twice ts) p.kind
  where
    by_blank : bare (bare ts) ≡ bare ts → (j : Kind)
        → bare (behind_blank j (bare ts) (record { kind = j; text = p.text } ∷ ts))
        ≡ behind_blank j (bare ts) (record { kind = j; text = p.text } ∷ ts)
    by_blank rest Blank = rest
    by_blank rest _ = refl

pub bare_alike : (names : List Name) (ts us : List Piece) → EachAlike names ts us → EachAlike names (bare ts) (bare us)
bare_alike names [] [] all = tt
bare_alike names [] (q ∷ us) all = absurd all
bare_alike names (p ∷ ts) [] all = absurd all
bare_alike names (p ∷ ts) (q ∷ us) all = by_blank (bare_alike names ts us all.1) (is_blank p.kind) refl
  where
    by_blank : EachAlike names (bare ts) (bare us) → (b : Bool) → is_blank p.kind ≡ b
        → EachAlike names (behind_blank p.kind (bare ts) (p ∷ ts)) (behind_blank q.kind (bare us) (q ∷ us))
    by_blank rest true e =
        let other : q.kind ≡ Blank = sym (same_kind names p q all.0) ∙ blank_is p.kind e in
        rw (blank_is p.kind e, other) rest
    by_blank rest false e =
        let other : is_blank q.kind ≡ false = ap is_blank (sym (same_kind names p q all.0)) ∙ e in
        rw (not_behind p.kind (bare ts) (p ∷ ts) e, not_behind q.kind (bare us) (q ∷ us) other) all

-- ---- three runs of digits
abbrev onto : Option (List ℕ × List Piece) → Option (List ℕ × List Piece)
onto None = None
onto (Some x) = Some (x.0, spaced x.1)

abbrev onto_rest : Option (List Piece) → Option (List Piece)
onto_rest None = None
onto_rest (Some x) = Some (spaced x)

onto_bind : {B : Type 0} (o : Option (List ℕ × List Piece)) (f g : List ℕ × List Piece → Option B)
    → ((a : List ℕ × List Piece) → f (a.0, spaced a.1) ≡ g a) → (onto o >>= f) ≡ (o >>= g)
onto_bind None f g h = refl
onto_bind (Some a) f g h = h a

rest_bind : {B : Type 0} (o : Option (List Piece)) (f g : List Piece → Option B)
    → ((a : List Piece) → f (spaced a) ≡ g a) → (onto_rest o >>= f) ≡ (o >>= g)
rest_bind None f g h = refl
rest_bind (Some a) f g h = h a

no_digits_blank : (p : Piece) (us : List Piece) → is_blank p.kind ≡ true → digits_first (before_spaced p us) ≡ None
unfolding digits_first
no_digits_blank p [] h = rw (blank_is p.kind h) refl
no_digits_blank p (q ∷ us) h = by_second (is_blank q.kind) refl
  where
    by_second : (d : Bool) → is_blank q.kind ≡ d
        → digits_first (cond (is_blank p.kind && d) (q ∷ us) (p ∷ q ∷ us)) ≡ None
    by_second true e = rw (h, blank_is q.kind e) refl
    by_second false e = rw (blank_is p.kind h) refl

no_hyphen_blank : (p : Piece) (us : List Piece) → is_blank p.kind ≡ true → behind_hyphen (before_spaced p us) ≡ None
unfolding behind_hyphen
no_hyphen_blank p [] h = rw (blank_is p.kind h) refl
no_hyphen_blank p (q ∷ us) h = by_second (is_blank q.kind) refl
  where
    by_second : (d : Bool) → is_blank q.kind ≡ d
        → behind_hyphen (cond (is_blank p.kind && d) (q ∷ us) (p ∷ q ∷ us)) ≡ None
    by_second true e = rw (h, blank_is q.kind e) refl
    by_second false e = rw (blank_is p.kind h) refl

digits_spaced : (ts : List Piece) → digits_first (spaced ts) ≡ onto (digits_first ts)
unfolding spaced digits_first
digits_spaced [] = refl
digits_spaced (p ∷ ts) = by_blank (is_blank p.kind) refl
  where
    by_kind : (k : Kind) → if_digits k p.text (spaced ts) ≡ onto (if_digits k p.text ts)
    by_kind Digit = refl
    by_kind _ = refl

    by_blank : (b : Bool) → is_blank p.kind ≡ b
        → digits_first (before_spaced p (spaced ts)) ≡ onto (if_digits p.kind p.text ts)
    by_blank true e =
        no_digits_blank p (spaced ts) e ∙ ap (λ k. onto (if_digits k p.text ts)) (sym (blank_is p.kind e))
    by_blank false e = ap digits_first (kept_put p (spaced ts) e) ∙ by_kind p.kind

hyphen_spaced : (ts : List Piece) → behind_hyphen (spaced ts) ≡ onto_rest (behind_hyphen ts)
unfolding spaced behind_hyphen
hyphen_spaced [] = refl
hyphen_spaced (p ∷ ts) = by_blank (is_blank p.kind) refl
  where
    by_kind : (k : Kind) → if_hyphen k (spaced ts) ≡ onto_rest (if_hyphen k ts)
    by_kind Hyphen = refl
    by_kind _ = refl

    by_blank : (b : Bool) → is_blank p.kind ≡ b
        → behind_hyphen (before_spaced p (spaced ts)) ≡ onto_rest (if_hyphen p.kind ts)
    by_blank true e =
        no_hyphen_blank p (spaced ts) e ∙ ap (λ k. onto_rest (if_hyphen k ts)) (sym (blank_is p.kind e))
    by_blank false e = ap behind_hyphen (kept_put p (spaced ts) e) ∙ by_kind p.kind

end_spaced : {A : Type 0} (ts : List Piece) (x : A) → at_end (bare (spaced ts)) x ≡ at_end (bare ts) x
unfolding spaced
end_spaced [] x = refl
end_spaced (p ∷ ts) x = by_blank (end_spaced ts x) (is_blank p.kind) refl
  where
    by_blank : at_end (bare (spaced ts)) x ≡ at_end (bare ts) x → (b : Bool) → is_blank p.kind ≡ b
        → at_end (bare (before_spaced p (spaced ts))) x ≡ at_end (behind_blank p.kind (bare ts) (p ∷ ts)) x
    by_blank rest true e =
        ap (λ us. at_end us x) (bare_put p (spaced ts) e) ∙ rest
        ∙ ap (λ k. at_end (behind_blank k (bare ts) (p ∷ ts)) x) (sym (blank_is p.kind e))
    by_blank rest false e =
        ap (λ us. at_end (bare us) x) (kept_put p (spaced ts) e)
        ∙ ap (λ us. at_end us x) (not_behind p.kind (bare (spaced ts)) (p ∷ spaced ts) e)
        ∙ sym (ap (λ us. at_end us x) (not_behind p.kind (bare ts) (p ∷ ts) e))

digits_bind : {B : Type 0} (ts : List Piece) (f g : List ℕ × List Piece → Option B)
    → ((a : List ℕ × List Piece) → f (a.0, spaced a.1) ≡ g a)
    → (digits_first (spaced ts) >>= f) ≡ (digits_first ts >>= g)
digits_bind ts f g h = ap (λ o. o >>= f) (digits_spaced ts) ∙ onto_bind (digits_first ts) f g h

hyphen_bind : {B : Type 0} (ts : List Piece) (f g : List Piece → Option B) → ((a : List Piece) → f (spaced a) ≡ g a)
    → (behind_hyphen (spaced ts) >>= f) ≡ (behind_hyphen ts >>= g)
hyphen_bind ts f g h = ap (λ o. o >>= f) (hyphen_spaced ts) ∙ rest_bind (behind_hyphen ts) f g h

runs_spaced : (ts : List Piece) → runs_in_front (spaced ts) ≡ runs_in_front ts
unfolding runs_in_front
runs_spaced ts =
    digits_bind ts _ _ (λ a. hyphen_bind a.1 _ _ (λ b. digits_bind b _ _ (λ c. hyphen_bind c.1 _ _
    (λ d. digits_bind d _ _ (λ e. end_spaced e.1 (a.0, c.0, e.0))))))

below_spaced : (ts : List Piece) → (behind_hyphen (spaced ts) >>= runs_in_front) ≡ (behind_hyphen ts >>= runs_in_front)
below_spaced ts = hyphen_bind ts runs_in_front runs_in_front (λ a. runs_spaced a)

pub squeezed_seen : (ts : List Piece) → are_honest ts ≡ true → SeenAlike (bare (spaced ts)) ts
squeezed_seen ts h =
    let ignored = squeezed_ignored ts h in
    let front : bare (bare (spaced ts)) ≡ spaced (bare ts) = bare_twice (spaced ts) ∙ bare_spaced ts in
    record {
      other = ignored.0;
      minus = minus_bare (spaced ts) ∙ minus_spaced Blank ts;
      dash = ap begins_with_dash front ∙ spaced_head is_dash (bare ts) refl;
      two = ignored.1;
      mixed = ignored.2;
      bar = ignored.3;
      runs = ap runs_in_front front ∙ runs_spaced (bare ts);
      below = ap (λ us. behind_hyphen us >>= runs_in_front) front ∙ below_spaced (bare ts);
    }

-- ---- three runs in tokens that are alike
digits_alike : {B : Type 0} (names : List Name) (ts us : List Piece) (f g : List ℕ × List Piece → Option B)
    → EachAlike names ts us
    → ((text : List ℕ) (r s : List Piece) → EachAlike names r s → f (text, r) ≡ g (text, s))
    → (digits_first ts >>= f) ≡ (digits_first us >>= g)
unfolding digits_first
digits_alike names [] [] f g all h = refl
digits_alike names [] (q ∷ us) f g all h = absurd all
digits_alike names (p ∷ ts) [] f g all h = absurd all
digits_alike {B} names (p ∷ ts) (q ∷ us) f g all h = elim all.0 [
  | inl e ↦ ap (λ (x : Piece). if_digits x.kind x.text ts >>= f) e ∙ by_kind q.kind
  | inr (inl (a, b)) ↦ none (blank_is p.kind a) ∙ sym (none_other (blank_is q.kind b))
  | inr (inr (a, b, c)) ↦ none_letter (letter_is p.kind a) ∙ sym (none_other_letter (letter_is q.kind b))
] where
  by_kind : (k : Kind) → (if_digits k q.text ts >>= f) ≡ (if_digits k q.text us >>= g)
  by_kind Digit = h q.text ts us all.1
  by_kind _ = refl

  none : p.kind ≡ Blank → (if_digits p.kind p.text ts >>= f) ≡ None
  none e = rw e refl

  none_other : q.kind ≡ Blank → (if_digits q.kind q.text us >>= g) ≡ None
  none_other e = rw e refl

  none_letter : p.kind ≡ Letter → (if_digits p.kind p.text ts >>= f) ≡ None
  none_letter e = rw e refl

  none_other_letter : q.kind ≡ Letter → (if_digits q.kind q.text us >>= g) ≡ None
  none_other_letter e = rw e refl

hyphen_alike : {B : Type 0} (names : List Name) (ts us : List Piece) (f g : List Piece → Option B)
    → EachAlike names ts us → ((r s : List Piece) → EachAlike names r s → f r ≡ g s)
    → (behind_hyphen ts >>= f) ≡ (behind_hyphen us >>= g)
unfolding behind_hyphen
hyphen_alike names [] [] f g all h = refl
hyphen_alike names [] (q ∷ us) f g all h = absurd all
hyphen_alike names (p ∷ ts) [] f g all h = absurd all
hyphen_alike {B} names (p ∷ ts) (q ∷ us) f g all h =
    ap (λ k. if_hyphen k ts >>= f) (same_kind names p q all.0) ∙ by_kind q.kind
  where
    by_kind : (k : Kind) → (if_hyphen k ts >>= f) ≡ (if_hyphen k us >>= g)
    by_kind Hyphen = h ts us all.1
    by_kind _ = refl

end_alike : {A : Type 0} (names : List Name) (ts us : List Piece) (x : A) → EachAlike names ts us
    → at_end ts x ≡ at_end us x
end_alike names [] [] x all = refl
end_alike names [] (q ∷ us) x all = absurd all
end_alike names (p ∷ ts) [] x all = absurd all
end_alike names (p ∷ ts) (q ∷ us) x all = refl

runs_alike : (names : List Name) (ts us : List Piece) → EachAlike names ts us → runs_in_front ts ≡ runs_in_front us
unfolding runs_in_front
runs_alike names ts us all =
    digits_alike names ts us _ _ all (λ a r s e. hyphen_alike names r s _ _ e (λ r s e. digits_alike names r s _ _ e
    (λ b r s e. hyphen_alike names r s _ _ e (λ r s e. digits_alike names r s _ _ e
    (λ c r s e. end_alike names (bare r) (bare s) (a, b, c) (bare_alike names r s e))))))

below_alike : (names : List Name) (ts us : List Piece) → EachAlike names ts us
    → (behind_hyphen ts >>= runs_in_front) ≡ (behind_hyphen us >>= runs_in_front)
below_alike names ts us all = hyphen_alike names ts us runs_in_front runs_in_front all (λ r s e. runs_alike names r s e)

pub alike_seen : (names : List Name) (ts us : List Piece) → are_honest ts ≡ true → are_honest us ≡ true
    → EachAlike names ts us → SeenAlike ts us
alike_seen names ts us h k all =
    let ignored = alike_ignored names ts us h k all in
    let front = bare_alike names ts us all in
    record {
      other = ignored.0;
      minus = minus_alike Blank names ts us all;
      dash = alike_head is_dash names (bare ts) (bare us) front;
      two = ignored.1;
      mixed = ignored.2;
      bar = ignored.3;
      runs = runs_alike names (bare ts) (bare us) front;
      below = below_alike names (bare ts) (bare us) front;
    }

pub seen_through : (a b c d : List Piece) → SeenAlike b a → SeenAlike b c → SeenAlike c d → SeenAlike a d
seen_through a b c d x y z = record {
  other = sym x.other ∙ y.other ∙ z.other;
  minus = sym x.minus ∙ y.minus ∙ z.minus;
  dash = sym x.dash ∙ y.dash ∙ z.dash;
  two = sym x.two ∙ y.two ∙ z.two;
  mixed = sym x.mixed ∙ y.mixed ∙ z.mixed;
  bar = sym x.bar ∙ y.bar ∙ z.bar;
  runs = sym x.runs ∙ y.runs ∙ z.runs;
  below = sym x.below ∙ y.below ∙ z.below;
}

-- ---- the tokens of a text
no_slash : (b : Bool) (c : ℕ) (cs : List ℕ) → (c == 47) ≡ b → (is_plain (first c cs).0 && b) ≡ false
no_slash false c cs e = by_kind (is_plain (first c cs).0)
  where
    by_kind : (x : Bool) → (x && false) ≡ false
    by_kind true = refl
    by_kind false = refl
no_slash true c cs e = let slash : c ≡ 47 = grind (arith, nat_tests) in rw slash refl

honest_front : (k : Kind) (c : ℕ) (cs : List ℕ) (ts : List Piece)
    → is_honest (record { kind = k; text = c ∷ cs }) ≡ true → are_honest ts ≡ true
    → are_honest (in_front (record { kind = k; text = c ∷ cs }) ts) ≡ true
unfolding in_front
honest_front k c cs [] h all = and_from _ _ h refl
honest_front k c cs (b ∷ ts) h all = by_join (joins k b.kind)
  where
    by_join : (j : Bool) → are_honest (cond j (record { kind = k; text = (c ∷ cs) ++ b.text } ∷ ts)
        (record { kind = k; text = c ∷ cs } ∷ b ∷ ts)) ≡ true
    by_join true = and_from _ _ h (and_parts (is_honest b) (are_honest ts) all).1
    by_join false = and_from _ _ h all

pub tokens_honest : (more : ℕ) (text : List ℕ) → are_honest (tokens more text) ≡ true
unfolding tokens
tokens_honest zero [] = refl
tokens_honest (suc more) [] = refl
tokens_honest (suc more) (c ∷ cs) = tokens_honest more cs
tokens_honest zero (c ∷ cs) =
    honest_front (first c cs).0 c (take (first c cs).1 cs) (tokens (first c cs).1 cs)
    (ap not (no_slash (c == 47) c cs refl)) (tokens_honest (first c cs).1 cs)
