-- Tokens spell the text, and its end is found from the left.
use Rattle.std.proofs.Common.{◌≡◌, ℕ, zero, suc, ◌+◌, ◌≤◌, Bool, true, false, List, [], ◌∷◌, ◌++◌, cond, length, refl, sym, ap}
use Rattle.std.proofs.Common.{◌∙◌, arith, take, drop, append_assoc, append-nil}
use Rattle.std.specs.List.{list_any}
use Rattle.std.proofs.lemmas.Bool.{or_parts}
use Rattle.std.proofs.lemmas.List.{take-append-drop}
use Rattle.std.proofs.Math.Seq.{drop-append_seam}
use Rattle.written_dates.specs.Signs.{bare}
use Rattle.written_dates.specs.Tokens.{Piece, first, joins, in_front, tokens}
use Rattle.written_dates.specs.private.SignViews.{may_be_blank}
use Rattle.written_dates.proofs.FrontLemmas.{first_blank, not_behind}
use Rattle.written_dates.proofs.KindLemmas.{has_kind, none_of_kind}
use Rattle.written_dates.proofs.KeyLemmas.{drop_drop}
use Rattle.date_texts.specs.declared.calendar.Calendar.TheVariants.{Gregorian}
use Rattle.written_dates.specs.declared.fields.CalendarMeaning.TheVariants.{One}
use Rattle.written_dates.specs.declared.fields.CalendarName.{CalendarName}
use Rattle.written_dates.specs.Fields.{bare_end, is_blank, kept_end, spelling, without_blanks}

spelled_front : (a : Piece) (ts : List Piece) → spelling (in_front a ts) ≡ a.text ++ spelling ts
unfolding in_front
spelled_front a [] = refl
spelled_front a (b ∷ rest) =
    let by : (x : Bool) → spelling (cond x (record { kind = a.kind; text = a.text ++ b.text } ∷ rest) (a ∷ b ∷ rest))
    ≡ a.text ++ (b.text ++ spelling rest)
    = λ x. elim x as (λ x. spelling (cond x (record { kind = a.kind; text = a.text ++ b.text } ∷ rest) (a ∷ b ∷ rest))
    ≡ a.text ++ (b.text ++ spelling rest)) [
      | true ↦ append_assoc a.text b.text (spelling rest)
      | false ↦ refl
    ] in
    by (joins a.kind b.kind)

pub spelled : (more : ℕ) (text : List ℕ) → spelling (tokens more text) ≡ drop more text
unfolding tokens
spelled zero [] = refl
spelled (suc more) [] = refl
spelled zero (c ∷ cs) =
    spelled_front (record { kind = (first c cs).0; text = c ∷ take (first c cs).1 cs }) (tokens (first c cs).1 cs)
    ∙ ap (λ xs. c ∷ (take (first c cs).1 cs ++ xs)) (spelled (first c cs).1 cs)
    ∙ ap (λ xs. c ∷ xs) (take-append-drop (first c cs).1 cs)
spelled (suc more) (c ∷ cs) = spelled more cs

-- a token stands in front of what follows it
pub token_stands : (text after : List ℕ) (p : Piece) → tokens 0 text ≡ p ∷ tokens 0 after → text ≡ p.text ++ after
token_stands text after p e =
    sym (spelled 0 text) ∙ ap spelling e ∙ ap (λ xs. p.text ++ xs) (spelled 0 after)

-- what is kept, where this much is if nothing but blanks follows, and this much stands before these tokens
abbrev pub ending : List ℕ → List ℕ → List Piece → List ℕ
ending short long [] = short
ending short long (p ∷ rest) = long ++ spelling (p ∷ rest)

pub ending_blank : (short long : List ℕ) (p : Piece) (ts : List Piece) → is_blank p.kind ≡ true
    → ending short (long ++ p.text) ts ≡ ending short long (kept_end p ts)
ending_blank short long p [] h = rw h refl
ending_blank short long p (q ∷ rest) h = append_assoc long p.text (spelling (q ∷ rest))

pub ending_other : (short long : List ℕ) (p : Piece) (ts : List Piece) → is_blank p.kind ≡ false
    → ending (long ++ p.text) (long ++ p.text) ts ≡ ending short long (kept_end p ts)
ending_other short long p [] h = rw h (ap (λ xs. long ++ xs) (sym (append-nil p.text)))
ending_other short long p (q ∷ rest) h = append_assoc long p.text (spelling (q ∷ rest))

front_taken : (x after : List ℕ) → take (length x) (x ++ after) ≡ x
front_taken [] after = refl
front_taken (c ∷ x) after = ap (λ xs. c ∷ xs) (front_taken x after)

takes : (text : List ℕ) (place : ℕ) (x after : List ℕ) → drop place text ≡ x ++ after → place ≤ length text
    → take (place + length x) text ≡ take place text ++ x
takes text zero x after e h =
    let n : 0 + length x ≡ length x = omega arith in
    let whole : text ≡ x ++ after = e in
    rw (n, whole) (front_taken x after)
takes [] (suc place) x after e h = absurd (omega arith)
takes (c ∷ text) (suc place) x after e h =
    let n : suc place + length x ≡ suc (place + length x) = omega arith in
    rw n (ap (λ xs. c ∷ xs) (takes text place x after e (omega arith)))

pub takes_more : (text rest after x : List ℕ) (place : ℕ) → rest ≡ drop place text → rest ≡ x ++ after
    → place ≤ length text → take (place + length x) text ≡ take place text ++ x
takes_more text rest after x place e f h = takes text place x after (sym e ∙ f) h

pub drops_more : (text rest after x : List ℕ) (place : ℕ) → rest ≡ drop place text → rest ≡ x ++ after
    → after ≡ drop (place + length x) text
drops_more text rest after x place e f =
    sym (drop_drop place (length x) text ∙ ap (λ xs. drop (length x) xs) (sym e ∙ f) ∙ drop-append_seam x after)

-- what a read past the end gives
abbrev pub no_name : CalendarName
no_name = record { text = record { ref_ptr = (0, 0); now = [] }; meaning = One Gregorian }

-- ---- a text without a byte that may be of a blank
bare_whole : (ts : List Piece) → has_kind is_blank ts ≡ false → bare ts ≡ ts
bare_whole [] h = refl
bare_whole (p ∷ ts) h =
    not_behind p.kind (bare ts) (p ∷ ts) (or_parts (is_blank p.kind) (has_kind is_blank ts) h).0

kept_whole : (p : Piece) (ts : List Piece) → is_blank p.kind ≡ false → kept_end p ts ≡ p ∷ ts
kept_whole p [] h = rw h refl
kept_whole p (q ∷ ts) h = refl

end_whole : (ts : List Piece) → has_kind is_blank ts ≡ false → bare_end ts ≡ ts
end_whole [] h = refl
end_whole (p ∷ ts) h =
    let both = or_parts (is_blank p.kind) (has_kind is_blank ts) h in
    ap (kept_end p) (end_whole ts both.1) ∙ kept_whole p ts both.0

pub without_none : (text : List ℕ) → list_any may_be_blank text ≡ false → without_blanks text ≡ text
unfolding without_blanks
without_none text h =
    let none = none_of_kind is_blank may_be_blank first_blank 0 text h in
    ap (λ ts. spelling (bare_end ts)) (bare_whole (tokens 0 text) none)
    ∙ ap spelling (end_whole (tokens 0 text) none) ∙ spelled 0 text
