-- Blanks, synonyms and letters of another case in the bytes of a text.
use Rattle.std.proofs.Common.{◌≡◌, inl, inr, ℕ, zero, suc, ◌+◌, ◌<◌, ◌≤◌, Bool, true, false, ◌&&◌, ◌==◌, cond, refl}
use Rattle.std.proofs.Common.{sym}
use Rattle.std.proofs.Common.{List, [], ◌∷◌, ◌++◌, length, ◌∙◌, subst, nat_le, arith, ap, ap₂, take, get_or, append-nil}
use Rattle.std.specs.List.{list_all}
use Rattle.std.proofs.lemmas.Bool.{and_parts, true≢false}
use Rattle.std.proofs.lemmas.Bool.Decides.{nat_tests}
use Rattle.std.proofs.lemmas.List.{take-append-le}
use Rattle.written_dates.specs.declared.meanings.Name.{Name}
use Rattle.written_dates.specs.declared.tokens.Kind.{Kind}
use Rattle.written_dates.specs.declared.tokens.Kind.TheVariants.{Blank, Digit, Letter}
use Rattle.written_dates.specs.Fields.{is_blank}
use Rattle.written_dates.specs.Names.{names_in}
use Rattle.written_dates.specs.Signs.{bare, is_between}
use Rattle.written_dates.specs.TextLaws.{AreAlike, AreBlanks, BlanksSayTheSame, EachAlike, OuterBlanksSayNothing}
use Rattle.written_dates.specs.TextLaws.{SayTheSame, SynonymsSayTheSame, before_spaced, spaced, squeezed}
use Rattle.written_dates.specs.declared.written.Choice.{Choice}
use Rattle.date_texts.specs.declared.calendar.Calendar.{Calendar}
use Rattle.written_dates.specs.Tokens.{Piece, first, in_front, joins, kind_of, tokens}
use Rattle.written_dates.proofs.AlikeLemmas.{alike_texts_say_the_same}
use Rattle.written_dates.proofs.KindLemmas.{picked}
use Rattle.written_dates.proofs.LawLemmas.{piece_of}
use Rattle.written_dates.proofs.MinusLemmas.{low, plain_first, reach}
use Rattle.written_dates.proofs.PieceLemmas.{bare_alike, bare_put, blank_is, same_kind}
use Rattle.written_dates.proofs.TokenLemmas.{alone}

-- ---- tokens that are alike stay so with fewer blanks
pub each_same : (names : List Name) (ts : List Piece) → EachAlike names ts ts
each_same names [] = tt
each_same names (p ∷ ts) = (inl refl, each_same names ts)

put_alike : (names : List Name) (p q : Piece) (us vs : List Piece) → AreAlike names p q → EachAlike names us vs
    → EachAlike names (before_spaced p us) (before_spaced q vs)
put_alike names p q [] [] a all = by_blank (is_blank p.kind) (is_blank q.kind) (ap is_blank (same_kind names p q a))
  where
    by_blank : (b d : Bool) → b ≡ d → EachAlike names (cond b [] (p ∷ [])) (cond d [] (q ∷ []))
    by_blank true true e = tt
    by_blank false false e = (a, tt)
    by_blank true false e = absurd (true≢false e)
    by_blank false true e = absurd (true≢false (sym e))
put_alike names p q [] (s ∷ vs) a all = absurd all
put_alike names p q (r ∷ us) [] a all = absurd all
put_alike names p q (r ∷ us) (s ∷ vs) a all =
    by_blank (is_blank p.kind && is_blank r.kind) (is_blank q.kind && is_blank s.kind)
    (ap₂ (λ k l. is_blank k && is_blank l) (same_kind names p q a) (same_kind names r s all.0))
  where
    by_blank : (b d : Bool) → b ≡ d → EachAlike names (cond b (r ∷ us) (p ∷ r ∷ us)) (cond d (s ∷ vs) (q ∷ s ∷ vs))
    by_blank true true e = all
    by_blank false false e = (a, all)
    by_blank true false e = absurd (true≢false e)
    by_blank false true e = absurd (true≢false (sym e))

spaced_alike : (names : List Name) (ts us : List Piece) → EachAlike names ts us
    → EachAlike names (spaced ts) (spaced us)
unfolding spaced
spaced_alike names [] [] all = tt
spaced_alike names [] (q ∷ us) all = absurd all
spaced_alike names (p ∷ ts) [] all = absurd all
spaced_alike names (p ∷ ts) (q ∷ us) all =
    put_alike names p q (spaced ts) (spaced us) all.0 (spaced_alike names ts us all.1)

pub tokens_alike : (choice : Choice) (calendar : Calendar) (names : List Name) (a b : List ℕ)
    → EachAlike (names_in calendar names) (tokens 0 a) (tokens 0 b) → SayTheSame choice calendar names a b
tokens_alike choice calendar names a b all =
    let own = names_in calendar names in
    alike_texts_say_the_same choice calendar names a b
    (bare_alike own (spaced (tokens 0 a)) (spaced (tokens 0 b)) (spaced_alike own (tokens 0 a) (tokens 0 b) all))

-- ---- synonyms
one_other : (names : List Name) (xs : List Piece) (p q : Piece) (ys : List Piece) → AreAlike names p q
    → EachAlike names (xs ++ p ∷ ys) (xs ++ q ∷ ys)
one_other names [] p q ys a = (a, each_same names ys)
one_other names (x ∷ xs) p q ys a = (inl refl, one_other names xs p q ys a)

pub synonyms_say_the_same : SynonymsSayTheSame
synonyms_say_the_same choice calendar names a b before after p q left right word other syn =
    let own = names_in calendar names in
    tokens_alike choice calendar names a b
    (subst (λ (x : List Piece). EachAlike own x (tokens 0 b)) (sym left)
    (subst (λ (y : List Piece). EachAlike own (before ++ p ∷ after) y) (sym right)
    (one_other own before p q after (inr (inr (word, other, inr syn))))))

-- ---- a blank ends what is before it
all_false : (l : Kind) (a b c d : Bool) → a ≡ false → b ≡ false → c ≡ false → d ≡ false → picked l a b c d ≡ (l, 0)
all_false l a b c d p q r s = rw (p, q, r, s) refl

three_false : (l : Kind) (a b c d x y z : Bool) → b ≡ false → c ≡ false → d ≡ false → x ≡ false → y ≡ false → z ≡ false
    → picked l a b c d ≡ picked l a x y z
three_false l a b c d x y z p q r s t u = rw (p, q, r, s, t, u) refl

later_false : (a b : Bool) → b ≡ false → (a && b) ≡ false
later_false a b h = grind arith

middle_false : (a b c : Bool) → b ≡ false → (a && b && c) ≡ false
middle_false a b c h = grind arith

last_false : (a b c : Bool) → c ≡ false → (a && b && c) ≡ false
last_false a b c h = grind arith

third_false : (a b c d : Bool) → b ≡ false → (a && b && c && d) ≡ false
third_false a b c d h = grind arith

fourth_false : (a b c d : Bool) → c ≡ false → (a && b && c && d) ≡ false
fourth_false a b c d h = grind arith

first_before : (a : ℕ) (bs : List ℕ) (c : ℕ) (cs : List ℕ) → c < 128 → first a (bs ++ c ∷ cs) ≡ first a bs
first_before a [] c cs small =
    let p : (c == 160) ≡ false = grind (arith, nat_tests) in
    let q : (c == 128) ≡ false = grind (arith, nat_tests) in
    let r : (c == 136) ≡ false = grind (arith, nat_tests) in
    let d : ℕ = get_or (c ∷ cs) 1 0 in
    all_false (kind_of a) ((a == 194) && (c == 160)) ((a == 226) && (c == 128) && (d == 175))
    ((a == 226) && (c == 128) && nat_le 144 d && nat_le d 148) ((a == 226) && (c == 136) && (d == 146))
    (later_false (a == 194) (c == 160) p) (middle_false (a == 226) (c == 128) (d == 175) q)
    (third_false (a == 226) (c == 128) (nat_le 144 d) (nat_le d 148) q)
    (middle_false (a == 226) (c == 136) (d == 146) r)
    ∙ sym (all_false (kind_of a) ((a == 194) && false) ((a == 226) && false && false)
    ((a == 226) && false && false && true) ((a == 226) && false && false) (later_false (a == 194) false refl)
    (middle_false (a == 226) false false refl) (third_false (a == 226) false false true refl)
    (middle_false (a == 226) false false refl))
first_before a (b ∷ []) c cs small =
    let p : (c == 175) ≡ false = grind (arith, nat_tests) in
    let q : nat_le 144 c ≡ false = grind (arith, nat_tests) in
    let r : (c == 146) ≡ false = grind (arith, nat_tests) in
    three_false (kind_of a) ((a == 194) && (b == 160)) ((a == 226) && (b == 128) && (c == 175))
    ((a == 226) && (b == 128) && nat_le 144 c && nat_le c 148) ((a == 226) && (b == 136) && (c == 146))
    ((a == 226) && (b == 128) && false) ((a == 226) && (b == 128) && false && true) ((a == 226) && (b == 136) && false)
    (last_false (a == 226) (b == 128) (c == 175) p) (fourth_false (a == 226) (b == 128) (nat_le 144 c) (nat_le c 148) q)
    (last_false (a == 226) (b == 136) (c == 146) r) (last_false (a == 226) (b == 128) false refl)
    (fourth_false (a == 226) (b == 128) false true refl) (last_false (a == 226) (b == 136) false refl)
first_before a (b ∷ d ∷ bs) c cs small = refl

no_join : (k : Kind) → joins k Blank ≡ false
no_join Digit = refl
no_join Letter = refl
no_join _ = refl

front_append : (p : Piece) (xs : List Piece) (b : List ℕ) (ys : List Piece)
    → in_front p (xs ++ piece_of Blank b ∷ ys) ≡ in_front p xs ++ piece_of Blank b ∷ ys
unfolding in_front
front_append p [] b ys = rw (no_join p.kind) refl
front_append p (q ∷ xs) b ys = by_join (joins p.kind q.kind)
  where
    by_join : (j : Bool)
        → cond j (record { kind = p.kind; text = p.text ++ q.text } ∷ (xs ++ piece_of Blank b ∷ ys))
        (p ∷ q ∷ (xs ++ piece_of Blank b ∷ ys))
        ≡ cond j (record { kind = p.kind; text = p.text ++ q.text } ∷ xs) (p ∷ q ∷ xs) ++ piece_of Blank b ∷ ys
    by_join true = refl
    by_join false = refl

blank_between : (k : Kind) → is_blank k ≡ true → is_between k ≡ true
blank_between Blank h = refl
blank_between _ h = absurd (true≢false (sym h))

blank_low : (c : ℕ) → is_blank (kind_of c) ≡ true → c < 128
blank_low c h = low c (blank_between (kind_of c) h)

blank_token : (c : ℕ) (rest : List ℕ) → is_blank (kind_of c) ≡ true
    → tokens 0 (c ∷ rest) ≡ piece_of Blank (c ∷ []) ∷ tokens 0 rest
unfolding tokens
blank_token c rest h =
    rw (plain_first c rest (blank_low c h), blank_is (kind_of c) h) (alone Blank (c ∷ []) (tokens 0 rest) refl)

tokens_before : (more : ℕ) (before : List ℕ) (c : ℕ) (rest : List ℕ) → more ≤ length before
    → is_blank (kind_of c) ≡ true → tokens more (before ++ c ∷ rest) ≡ tokens more before ++ tokens 0 (c ∷ rest)
unfolding tokens
tokens_before zero [] c rest within h = refl
tokens_before (suc more) [] c rest within h = absurd (omega arith)
tokens_before (suc more) (b ∷ bs) c rest within h = tokens_before more bs c rest (omega arith) h
tokens_before zero (b ∷ bs) c rest within h =
    let small = blank_low c h in
    let same : first b (bs ++ c ∷ rest) ≡ first b bs = first_before b bs c rest small in
    let few : (first b bs).1 ≤ length bs
    = subst (λ (x : Kind × ℕ). x.1 ≤ length bs) same (reach b bs c rest small) in
    let own : Piece = record { kind = (first b bs).0; text = b ∷ take (first b bs).1 bs } in
    let there : tokens 0 (c ∷ rest) ≡ piece_of Blank (c ∷ []) ∷ tokens 0 rest = blank_token c rest h in
    ap (λ (x : Kind × ℕ). in_front (record { kind = x.0; text = b ∷ take x.1 (bs ++ c ∷ rest) })
    (tokens x.1 (bs ++ c ∷ rest))) same
    ∙ ap₂ (λ (t : List ℕ) (ts : List Piece). in_front (record { kind = (first b bs).0; text = b ∷ t }) ts)
    (take-append-le (first b bs).1 bs (c ∷ rest) few) (tokens_before (first b bs).1 bs c rest few h)
    ∙ ap (λ (ts : List Piece). in_front own (tokens (first b bs).1 bs ++ ts)) there
    ∙ front_append own (tokens (first b bs).1 bs) (c ∷ []) (tokens 0 rest)
    ∙ ap (λ (ts : List Piece). in_front own (tokens (first b bs).1 bs) ++ ts) (sym there)

-- ---- blanks for blanks
put_twice : (b c : List ℕ) (us : List Piece)
    → before_spaced (piece_of Blank b) (before_spaced (piece_of Blank c) us) ≡ before_spaced (piece_of Blank c) us
put_twice b c [] = refl
put_twice b c (r ∷ us) = by_blank (is_blank r.kind) refl
  where
    by_blank : (d : Bool) → is_blank r.kind ≡ d
        → before_spaced (piece_of Blank b) (cond d (r ∷ us) (piece_of Blank c ∷ r ∷ us))
        ≡ cond d (r ∷ us) (piece_of Blank c ∷ r ∷ us)
    by_blank true e = rw e refl
    by_blank false e = refl

-- the last of several blanks is left
abbrev LastIsLeft : List ℕ → List ℕ → Type 0
LastIsLeft blanks after =
    (last : List ℕ) × (spaced (tokens 0 (blanks ++ after))
    ≡ before_spaced (piece_of Blank last) (spaced (tokens 0 after)))

abbrev all_blank : List ℕ → Bool
all_blank blanks = list_all (λ c. is_blank (kind_of c)) blanks

last_left : (c : ℕ) (cs after : List ℕ) → all_blank (c ∷ cs) ≡ true → LastIsLeft (c ∷ cs) after
unfolding spaced
last_left c [] after h =
    (c ∷ [], ap spaced (blank_token c after (and_parts (is_blank (kind_of c)) true h).0))
last_left c (d ∷ ds) after h =
    let both = and_parts (is_blank (kind_of c)) (all_blank (d ∷ ds)) h in
    let (last, e) = last_left d ds after both.1 in (
      last,
      ap spaced (blank_token c ((d ∷ ds) ++ after) both.0) ∙ ap (before_spaced (piece_of Blank (c ∷ []))) e
          ∙ put_twice (c ∷ []) last (spaced (tokens 0 after)),
    )

left_of : (blanks after : List ℕ) → AreBlanks blanks → LastIsLeft blanks after
left_of [] after h = absurd (let some = h.some in omega (arith, some))
left_of (c ∷ cs) after h = last_left c cs after h.all

split_before : (before blanks after : List ℕ) → AreBlanks blanks
    → tokens 0 (before ++ (blanks ++ after)) ≡ tokens 0 before ++ tokens 0 (blanks ++ after)
split_before before [] after h = absurd (let some = h.some in omega (arith, some))
split_before before (c ∷ cs) after h =
    tokens_before 0 before c (cs ++ after) (omega arith) (and_parts (is_blank (kind_of c)) (all_blank cs) h.all).0

behind_alike : (names : List Name) (xs us vs : List Piece) → EachAlike names (spaced us) (spaced vs)
    → EachAlike names (spaced (xs ++ us)) (spaced (xs ++ vs))
unfolding spaced
behind_alike names [] us vs all = all
behind_alike names (x ∷ xs) us vs all =
    put_alike names x x (spaced (xs ++ us)) (spaced (xs ++ vs)) (inl refl) (behind_alike names xs us vs all)

pub blanks_say_the_same : BlanksSayTheSame
blanks_say_the_same choice calendar names before blanks others after h k =
    let own = names_in calendar names in
    let (first, e) = left_of blanks after h in
    let (second, f) = left_of others after k in
    let behind : EachAlike own (spaced (tokens 0 (blanks ++ after))) (spaced (tokens 0 (others ++ after)))
    = subst (λ (x : List Piece). EachAlike own x (spaced (tokens 0 (others ++ after)))) (sym e)
    (subst (λ (y : List Piece). EachAlike own (before_spaced (piece_of Blank first) (spaced (tokens 0 after))) y)
    (sym f)
    (put_alike own (piece_of Blank first) (piece_of Blank second) (spaced (tokens 0 after)) (spaced (tokens 0 after))
    (inr (inl (refl, refl))) (each_same own (spaced (tokens 0 after))))) in
    let whole : EachAlike own (spaced (tokens 0 (before ++ (blanks ++ after)))) (spaced (tokens 0 (before ++
    (others ++ after))))
    = subst (λ (x : List Piece). EachAlike own (spaced x) (spaced (tokens 0 (before ++ (others ++ after)))))
    (sym (split_before before blanks after h))
    (subst (λ (y : List Piece). EachAlike own (spaced (tokens 0 before ++ tokens 0 (blanks ++ after))) (spaced y))
    (sym (split_before before others after k))
    (behind_alike own (tokens 0 before) (tokens 0 (blanks ++ after)) (tokens 0 (others ++ after)) behind)) in
    alike_texts_say_the_same choice calendar names (before ++ (blanks ++ after)) (before ++ (others ++ after))
    (bare_alike own (spaced (tokens 0 (before ++ (blanks ++ after)))) (spaced (tokens 0 (before ++
    (others ++ after)))) whole)

-- ---- blanks at the ends
squeezed_say : (choice : Choice) (calendar : Calendar) (names : List Name) (a b : List ℕ) → squeezed a ≡ squeezed b
    → SayTheSame choice calendar names a b
squeezed_say choice calendar names a b e =
    let own = names_in calendar names in
    alike_texts_say_the_same choice calendar names a b
    (subst (λ (y : List Piece). EachAlike own (squeezed a) y) e (each_same own (squeezed a)))

none_behind : (xs us : List Piece) → spaced us ≡ [] → spaced (xs ++ us) ≡ spaced xs
unfolding spaced
none_behind [] us e = e
none_behind (x ∷ xs) us e = ap (before_spaced x) (none_behind xs us e)

front_squeezed : (blanks text : List ℕ) → AreBlanks blanks → squeezed (blanks ++ text) ≡ squeezed text
front_squeezed blanks text h =
    let (last, e) = left_of blanks text h in ap bare e ∙ bare_put (piece_of Blank last) (spaced (tokens 0 text)) refl

all_left : (blanks : List ℕ) → AreBlanks blanks → spaced (tokens 0 (blanks ++ [])) ≡ []
unfolding spaced tokens
all_left blanks h = (left_of blanks [] h).1

end_squeezed : (text blanks : List ℕ) → AreBlanks blanks → squeezed (text ++ blanks) ≡ squeezed text
end_squeezed text blanks h =
    ap (λ (x : List ℕ). bare (spaced (tokens 0 (text ++ x)))) (sym (append-nil blanks))
    ∙ ap (λ (ts : List Piece). bare (spaced ts)) (split_before text blanks [] h)
    ∙ ap bare (none_behind (tokens 0 text) (tokens 0 (blanks ++ [])) (all_left blanks h))

pub outer_blanks_say_nothing : OuterBlanksSayNothing
outer_blanks_say_nothing choice calendar names text blanks h = (
  squeezed_say choice calendar names (blanks ++ text) text (front_squeezed blanks text h),
  squeezed_say choice calendar names (text ++ blanks) text (end_squeezed text blanks h),
)
