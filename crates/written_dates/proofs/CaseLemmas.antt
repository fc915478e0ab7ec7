-- Texts that differ in the case of A to Z alone have tokens that are alike.
use Rattle.std.proofs.Common.{◌≡◌, ◌⊎◌, inl, inr, ℕ, zero, suc, ◌+◌, ◌≤◌, Bool, true, false, ◌&&◌, ◌||◌, ◌==◌, cond}
use Rattle.std.proofs.Common.{refl, sym}
use Rattle.std.proofs.Common.{List, [], ◌∷◌, ◌++◌, Option, None, Some, ◌∙◌, nat_le, arith, ap, ap₂, take, get_or, subst}
use Rattle.std.specs.Prelude.{⊤, is_none, nat_lt}
use Rattle.std.specs.Char.{is_ascii_alphabetic, is_ascii_digit, to_ascii_lowercase}
use Rattle.std.specs.List.{list_all}
use Rattle.std.specs.Str.{str_to_ascii_lowercase}
use Rattle.std.proofs.lemmas.Bool.{and_parts, cases_Bool, true≢false}
use Rattle.std.proofs.lemmas.Bool.Decides.{nat_tests}
use Rattle.std.proofs.lemmas.List.{map-append, take-map}
use Rattle.written_dates.specs.declared.meanings.Meaning.{Meaning}
use Rattle.written_dates.specs.declared.meanings.Meaning.TheVariants.{Nothing}
use Rattle.written_dates.specs.declared.meanings.Name.{Name}
use Rattle.written_dates.specs.declared.tokens.Kind.{Kind}
use Rattle.written_dates.specs.declared.tokens.Kind.TheVariants.{Blank, Letter}
use Rattle.written_dates.specs.Fields.{is_blank}
use Rattle.written_dates.specs.Names.{names_in}
use Rattle.written_dates.specs.Parts.{is_part, parts}
use Rattle.written_dates.specs.Roman.{roman}
use Rattle.written_dates.specs.TextLaws.{AreAlike, AreSameWord, EachAlike, LettersOfEitherCaseSayTheSame}
use Rattle.written_dates.specs.TextLaws.{has_no_roman, is_named}
use Rattle.written_dates.specs.Tokens.{Piece, first, in_front, joins, kind_of, tokens}
use Rattle.written_dates.specs.WholeNames.{is_letter}
use Rattle.written_dates.specs.Words.{same_word}
use Rattle.written_dates.proofs.AlikeLemmas.{longest_same, parts_in, same_too}
use Rattle.written_dates.proofs.KindLemmas.{picked}
use Rattle.written_dates.proofs.LetterLemmas.{letters_alike, lower_large}
use Rattle.written_dates.proofs.MinusLemmas.{plain_first}
use Rattle.written_dates.proofs.TextLawLemmas.{tokens_alike}
use Rattle.written_dates.proofs.TokenLemmas.{same_kind}

-- ---- one character
abbrev is_capital : ℕ → Bool
is_capital c = nat_le 65 c && nat_le c 90

lower_capital : (c : ℕ) → is_capital c ≡ true → to_ascii_lowercase c ≡ c + 32
lower_capital c h = grind (arith, nat_tests)

lower_other : (c : ℕ) → is_capital c ≡ false → to_ascii_lowercase c ≡ c
lower_other c h = grind (arith, nat_tests)

letter_kind : (c : ℕ) → 58 ≤ c → is_ascii_alphabetic c ≡ true → kind_of c ≡ Letter
letter_kind c high h =
    let a : (c == 32) ≡ false = grind (arith, nat_tests) in
    let b : (c == 9) ≡ false = grind (arith, nat_tests) in
    let d : (c == 10) ≡ false = grind (arith, nat_tests) in
    let e : (c == 13) ≡ false = grind (arith, nat_tests) in
    let f : (c == 45) ≡ false = grind (arith, nat_tests) in
    let g : (c == 44) ≡ false = grind (arith, nat_tests) in
    let i : (c == 46) ≡ false = grind (arith, nat_tests) in
    let j : (c == 47) ≡ false = grind (arith, nat_tests) in
    let k : is_ascii_digit c ≡ false = grind (arith, nat_tests) in
    rw (a, b, d, e, f, g, i, j, k, h) refl

capital_high : (c : ℕ) → is_capital c ≡ true → 65 ≤ c
capital_high c h = grind (arith, nat_tests)

capital_low : (c : ℕ) → is_capital c ≡ true → c ≤ 90
capital_low c h = grind (arith, nat_tests)

capital_letter : (c : ℕ) → is_capital c ≡ true → is_ascii_alphabetic c ≡ true
capital_letter c h = grind (arith, nat_tests)

small_letter : (c : ℕ) → is_capital c ≡ true → is_ascii_alphabetic (c + 32) ≡ true
small_letter c h = grind (arith, nat_tests)

kind_lower : (c : ℕ) → kind_of (to_ascii_lowercase c) ≡ kind_of c
kind_lower c = elim (cases_Bool (is_capital c)) [
  | inl capital ↦
      let high = capital_high c capital in
      ap kind_of (lower_capital c capital) ∙ letter_kind (c + 32) (omega (arith, high)) (small_letter c capital)
      ∙ sym (letter_kind c (omega (arith, high)) (capital_letter c capital))
  | inr other ↦ ap kind_of (lower_other c other)
]

-- a byte that begins no letter is no capital
no_capital : (c : ℕ) (cs : List ℕ) → is_letter (first c cs).0 ≡ false → to_ascii_lowercase c ≡ c
no_capital c cs h = elim (cases_Bool (is_capital c)) [
  | inl capital ↦
      let low = capital_low c capital in
      let high = capital_high c capital in
      absurd (true≢false (sym (ap (λ (x : Kind × ℕ). is_letter x.0) (plain_first c cs (omega (arith, low)))
      ∙ ap is_letter (letter_kind c (omega (arith, high)) (capital_letter c capital))) ∙ h))
  | inr other ↦ lower_other c other
]

test_lower : (x k : ℕ) → 128 ≤ k → (to_ascii_lowercase x == k) ≡ (x == k)
test_lower x k h = elim (cases_Bool (is_capital x)) [
  | inl capital ↦
      let low = capital_low x capital in
      let own : (x == k) ≡ false = grind (arith, nat_tests) in
      let other : (x + 32 == k) ≡ false = grind (arith, nat_tests) in
      ap (λ n. n == k) (lower_capital x capital) ∙ other ∙ sym own
  | inr other ↦ ap (λ n. n == k) (lower_other x other)
]

least_lower : (x : ℕ) → nat_le 144 (to_ascii_lowercase x) ≡ nat_le 144 x
least_lower x = elim (cases_Bool (is_capital x)) [
  | inl capital ↦
      let low = capital_low x capital in
      let own : nat_le 144 x ≡ false = grind (arith, nat_tests) in
      let other : nat_le 144 (x + 32) ≡ false = grind (arith, nat_tests) in
      ap (nat_le 144) (lower_capital x capital) ∙ other ∙ sym own
  | inr other ↦ ap (nat_le 144) (lower_other x other)
]

most_lower : (x : ℕ) → nat_le (to_ascii_lowercase x) 148 ≡ nat_le x 148
most_lower x = elim (cases_Bool (is_capital x)) [
  | inl capital ↦
      let low = capital_low x capital in
      let own : nat_le x 148 ≡ true = grind (arith, nat_tests) in
      let other : nat_le (x + 32) 148 ≡ true = grind (arith, nat_tests) in
      ap (λ n. nat_le n 148) (lower_capital x capital) ∙ other ∙ sym own
  | inr other ↦ ap (λ n. nat_le n 148) (lower_other x other)
]

abbrev by_tests : Kind → Bool → Bool → Bool → Bool → Bool → Bool → Bool → Bool → Bool → Kind × ℕ
by_tests l a b d e f g h i j = picked l (a && b) (d && e && f) (d && e && g && h) (d && i && j)

tests_same : (l l' : Kind) (a b d e f g h i j a' b' d' e' f' g' h' i' j' : Bool) → l ≡ l' → a ≡ a' → b ≡ b' → d ≡ d'
    → e ≡ e' → f ≡ f' → g ≡ g' → h ≡ h' → i ≡ i' → j ≡ j'
    → by_tests l a b d e f g h i j ≡ by_tests l' a' b' d' e' f' g' h' i' j'
tests_same l l' a b d e f g h i j a' b' d' e' f' g' h' i' j' p q r s t u v w x y = rw
    (p, q, r, s, t, u, v, w, x, y) refl

-- the kind of a character by its first three bytes
abbrev of_three : ℕ → ℕ → ℕ → Kind × ℕ
of_three c x y =
    by_tests (kind_of c) (c == 194) (x == 160) (c == 226) (x == 128) (y == 175) (nat_le 144 y) (nat_le y 148) (x == 136)
    (y == 146)

three_lower : (c x y : ℕ)
    → of_three (to_ascii_lowercase c) (to_ascii_lowercase x) (to_ascii_lowercase y) ≡ of_three c x y
three_lower c x y =
    tests_same _ _ _ _ _ _ _ _ _ _ _ _ _ _ _ _ _ _ _ _ (kind_lower c) (test_lower c 194 (omega arith))
    (test_lower x 160 (omega arith)) (test_lower c 226 (omega arith)) (test_lower x 128 (omega arith))
    (test_lower y 175 (omega arith)) (least_lower y) (most_lower y) (test_lower x 136 (omega arith))
    (test_lower y 146 (omega arith))

first_of_three : (c : ℕ) (cs : List ℕ) → first c cs ≡ of_three c (get_or cs 0 0) (get_or cs 1 0)
first_of_three c cs = refl

first_lower : (c : ℕ) (cs : List ℕ) → first (to_ascii_lowercase c) (str_to_ascii_lowercase cs) ≡ first c cs
first_lower c [] = three_lower c 0 0
first_lower c (x ∷ []) = three_lower c x 0
first_lower c (x ∷ y ∷ cs) = three_lower c x y

-- ---- tokens
-- two tokens that differ in the case of A to Z alone, and only where they are words or blanks
record IsOtherCase (p q : Piece) : Type 0 where
  kind : p.kind ≡ q.kind
  text : str_to_ascii_lowercase p.text ≡ str_to_ascii_lowercase q.text
  same : is_letter p.kind ≡ false → is_blank p.kind ≡ false → p.text ≡ q.text

abbrev EachOtherCase : List Piece → List Piece → Type 0
EachOtherCase [] [] = ⊤
EachOtherCase (p ∷ ps) (q ∷ qs) = IsOtherCase p q × EachOtherCase ps qs
EachOtherCase ps qs = ⊥

joined_case : (p q r s : Piece) → IsOtherCase p q → IsOtherCase r s → joins p.kind r.kind ≡ true
    → IsOtherCase (record { kind = p.kind; text = p.text ++ r.text })
    (record { kind = q.kind; text = q.text ++ s.text })
joined_case p q r s a b j = record {
  kind = a.kind;
  text = map-append to_ascii_lowercase p.text r.text ∙ ap₂ ◌++◌ a.text b.text
      ∙ sym (map-append to_ascii_lowercase q.text s.text);
  same = λ word blank.
      let one = same_kind p.kind r.kind j in
      ap₂ ◌++◌ (a.same word blank) (b.same (sym (ap is_letter one) ∙ word) (sym (ap is_blank one) ∙ blank));
}

front_case : (p q : Piece) (ts us : List Piece) → IsOtherCase p q → EachOtherCase ts us
    → EachOtherCase (in_front p ts) (in_front q us)
unfolding in_front
front_case p q [] [] a all = (a, tt)
front_case p q [] (s ∷ us) a all = absurd all
front_case p q (r ∷ ts) [] a all = absurd all
front_case p q (r ∷ ts) (s ∷ us) a all = by_join (joins p.kind r.kind) (joins q.kind s.kind)
    (ap₂ joins a.kind all.0.kind) refl
  where
    by_join : (j k : Bool) → j ≡ k → joins p.kind r.kind ≡ j
        → EachOtherCase (cond j (record { kind = p.kind; text = p.text ++ r.text } ∷ ts) (p ∷ r ∷ ts))
        (cond k (record { kind = q.kind; text = q.text ++ s.text } ∷ us) (q ∷ s ∷ us))
    by_join true true e j = (joined_case p q r s a all.0 j, all.1)
    by_join false false e j = (a, all)
    by_join true false e j = absurd (true≢false e)
    by_join false true e j = absurd (true≢false (sym e))

-- the bytes behind the first one of a character that is no blank
high_two : (n : ℕ) (cs : List ℕ) → 128 ≤ get_or cs 0 0 → 128 ≤ get_or cs 1 0
    → str_to_ascii_lowercase (take 2 cs) ≡ take 2 cs
high_two n [] h k = absurd (omega arith)
high_two n (x ∷ []) h k = absurd (omega arith)
high_two n (x ∷ y ∷ cs) h k = ap₂ (λ a b. a ∷ b ∷ []) (lower_large x h) (lower_large y k)

of_all_four : (a b c d : Bool) → (a && b && c && d) ≡ true → (b ≡ true) × (c ≡ true)
of_all_four true true true true h = (refl, refl)
of_all_four true true true false h = absurd (true≢false (sym h))
of_all_four true true false d h = absurd (true≢false (sym h))
of_all_four true false c d h = absurd (true≢false (sym h))
of_all_four false b c d h = absurd (true≢false (sym h))

of_all_three : (a b c : Bool) → (a && b && c) ≡ true → (b ≡ true) × (c ≡ true)
of_all_three true true true h = (refl, refl)
of_all_three true true false h = absurd (true≢false (sym h))
of_all_three true false c h = absurd (true≢false (sym h))
of_all_three false b c h = absurd (true≢false (sym h))

is_this : (x k : ℕ) → (x == k) ≡ true → 128 ≤ k → 128 ≤ x
is_this x k h high = grind (arith, nat_tests)

is_least : (x : ℕ) → nat_le 144 x ≡ true → 128 ≤ x
is_least x h = grind (arith, nat_tests)

picked_rest : (l : Kind) (a b c d : Bool) (cs : List ℕ) → is_blank (picked l a b c d).0 ≡ false
    → (c ≡ true → str_to_ascii_lowercase (take 2 cs) ≡ take 2 cs)
    → (d ≡ true → str_to_ascii_lowercase (take 2 cs) ≡ take 2 cs)
    → str_to_ascii_lowercase (take (picked l a b c d).1 cs) ≡ take (picked l a b c d).1 cs
picked_rest l true b c d cs h p q = absurd (true≢false h)
picked_rest l false true c d cs h p q = absurd (true≢false h)
picked_rest l false false true d cs h p q = p refl
picked_rest l false false false true cs h p q = q refl
picked_rest l false false false false cs h p q = refl

rest_kept : (c : ℕ) (cs : List ℕ) → is_blank (first c cs).0 ≡ false
    → str_to_ascii_lowercase (take (first c cs).1 cs) ≡ take (first c cs).1 cs
rest_kept c cs h =
    let x : ℕ = get_or cs 0 0 in
    let y : ℕ = get_or cs 1 0 in
    picked_rest (kind_of c) ((c == 194) && (x == 160)) ((c == 226) && (x == 128) && (y == 175))
    ((c == 226) && (x == 128) && nat_le 144 y && nat_le y 148) ((c == 226) && (x == 136) && (y == 146)) cs h
    (λ e. (let own = of_all_four (c == 226) (x == 128) (nat_le 144 y) (nat_le y 148) e in
    high_two 2 cs (is_this x 128 own.0 (omega arith)) (is_least y own.1)))
    (λ e. (let own = of_all_three (c == 226) (x == 136) (y == 146) e in
    high_two 2 cs (is_this x 136 own.0 (omega arith)) (is_this y 146 own.1 (omega arith))))

character_case : (c d : ℕ) (cs ds : List ℕ) → to_ascii_lowercase c ≡ to_ascii_lowercase d
    → str_to_ascii_lowercase cs ≡ str_to_ascii_lowercase ds → first c cs ≡ first d ds
    → IsOtherCase (record { kind = (first c cs).0; text = c ∷ take (first c cs).1 cs })
    (record { kind = (first d ds).0; text = d ∷ take (first d ds).1 ds })
character_case c d cs ds e f same =
    let rests : str_to_ascii_lowercase (take (first c cs).1 cs) ≡ str_to_ascii_lowercase (take (first d ds).1 ds)
    = sym (take-map to_ascii_lowercase (first c cs).1 cs)
    ∙ ap₂ (λ (n : ℕ) (x : List ℕ). take n x) (ap (λ (x : Kind × ℕ). x.1) same) f
    ∙ take-map to_ascii_lowercase (first d ds).1 ds in
    record {
      kind = ap (λ (x : Kind × ℕ). x.0) same;
      text = ap₂ ◌∷◌ e rests;
      same = λ word blank.
          let other = sym (ap (λ (x : Kind × ℕ). is_letter x.0) same) ∙ word in
          let none = sym (ap (λ (x : Kind × ℕ). is_blank x.0) same) ∙ blank in
          ap₂ ◌∷◌ (sym (no_capital c cs word) ∙ e ∙ no_capital d ds other)
          (sym (rest_kept c cs blank) ∙ rests ∙ rest_kept d ds none);
    }

tokens_case : (more : ℕ) (a b : List ℕ) → str_to_ascii_lowercase a ≡ str_to_ascii_lowercase b
    → EachOtherCase (tokens more a) (tokens more b)
unfolding tokens
tokens_case zero [] [] e = tt
tokens_case (suc more) [] [] e = tt
tokens_case zero [] (d ∷ ds) e = absurd (cc)
tokens_case (suc more) [] (d ∷ ds) e = absurd (cc)
tokens_case zero (c ∷ cs) [] e = absurd (cc)
tokens_case (suc more) (c ∷ cs) [] e = absurd (cc)
tokens_case (suc more) (c ∷ cs) (d ∷ ds) e =
    let rest : str_to_ascii_lowercase cs ≡ str_to_ascii_lowercase ds = cc in tokens_case more cs ds rest
tokens_case zero (c ∷ cs) (d ∷ ds) e =
    let one : to_ascii_lowercase c ≡ to_ascii_lowercase d = cc in
    let rest : str_to_ascii_lowercase cs ≡ str_to_ascii_lowercase ds = cc in
    let same : first c cs ≡ first d ds = sym (first_lower c cs) ∙ ap₂ first one rest ∙ first_lower d ds in
    front_case (record { kind = (first c cs).0; text = c ∷ take (first c cs).1 cs })
    (record { kind = (first d ds).0; text = d ∷ take (first d ds).1 ds }) (tokens (first c cs).1 cs)
    (tokens (first d ds).1 ds) (character_case c d cs ds one rest same)
    (behind (first c cs).1 (first d ds).1 (ap (λ (x : Kind × ℕ). x.1) same) (tokens_case (first c cs).1 cs ds rest))
  where
    behind : (n k : ℕ) → n ≡ k → EachOtherCase (tokens n cs) (tokens n ds)
        → EachOtherCase (tokens n cs) (tokens k ds)
    behind n k same all = subst (λ (x : ℕ). EachOtherCase (tokens n cs) (tokens x ds)) same all

-- ---- words that are no Roman numbers
abbrev reads_no_roman : List Name → Piece → Bool
reads_no_roman names word = is_none (roman word.text) || is_named names word

no_number : (x y : Option ℕ) → is_none x ≡ true → is_none y ≡ true → x ≡ y
no_number None None a b = refl
no_number None (Some n) a b = absurd (true≢false (sym b))
no_number (Some n) y a b = absurd (true≢false (sym a))

named_both : (names : List Name) (p q : Piece) → same_word p.text q.text ≡ true → is_named names p ≡ is_named names q
named_both names p q same =
    ap (λ (x : ℕ × Meaning). nat_lt 0 x.0)
    (longest_same names names (0, Nothing) p q [] [] (λ n. same_too n p.text q.text same) tt (λ k m a. a.alone))

no_roman_same : (names : List Name) (p q : Piece) → same_word p.text q.text ≡ true → reads_no_roman names p ≡ true
    → reads_no_roman names q ≡ true → AreSameWord names p q
no_roman_same names p q same a b =
    (same, by_named (is_named names p) (is_none (roman p.text)) (is_none (roman q.text)) refl refl refl)
  where
    by_named : (n x y : Bool) → is_named names p ≡ n → is_none (roman p.text) ≡ x → is_none (roman q.text) ≡ y
        → (roman p.text ≡ roman q.text) ⊎ (is_named names p ≡ true)
    by_named true x y e f g = inr e
    by_named false true true e f g = inl (no_number (roman p.text) (roman q.text) f g)
    by_named false false y e f g = absurd (true≢false (sym a ∙ ap₂ (λ s t. s || t) f e))
    by_named false true false e f g =
        absurd (true≢false (sym b ∙ ap₂ (λ s t. s || t) g (sym (named_both names p q same) ∙ e)))

case_alike : (names : List Name) (k : Kind) (p q : Piece) → p.kind ≡ k → IsOtherCase p q
    → (is_letter k ≡ true → reads_no_roman names p ≡ true) → (is_letter k ≡ true → reads_no_roman names q ≡ true)
    → AreAlike names p q
case_alike names Blank p q e o a b = inr (inl (ap is_blank e, ap is_blank (sym o.kind ∙ e)))
case_alike names Letter p q e o a b =
    inr (inr (
      ap is_letter e,
      ap is_letter (sym o.kind ∙ e),
      inl (no_roman_same names p q (letters_alike p.text q.text o.text) (a refl) (b refl)),
    ))
case_alike names _ p q e o a b =
    inl (ap₂ (λ (k : Kind) (t : List ℕ). (let x : Piece = record { kind = k; text = t } in x)) o.kind
    (o.same (ap is_letter e) (ap is_blank e)))

no_roman_first : (names : List Name) (p : Piece) (ts : List Piece)
    → list_all (reads_no_roman names) (parts_in (p ∷ ts)) ≡ true
    → (is_letter p.kind ≡ true → reads_no_roman names p ≡ true) × (list_all (reads_no_roman names) (parts_in ts) ≡ true)
no_roman_first names p ts h = by_part (is_part p) refl h
  where
    word_part : (k : Kind) → is_letter k ≡ true → is_part (record { kind = k; text = p.text }) ≡ true
    word_part Letter h = refl
    word_part _ h = absurd (true≢false (sym h))

    by_part : (b : Bool) → is_part p ≡ b
        → list_all (reads_no_roman names) (cond b (p ∷ parts_in ts) (parts_in ts)) ≡ true
        → (is_letter p.kind ≡ true → reads_no_roman names p ≡ true)
        × (list_all (reads_no_roman names) (parts_in ts) ≡ true)
    by_part true e h =
        let both = and_parts (reads_no_roman names p) (list_all (reads_no_roman names) (parts_in ts)) h in
        (λ word. both.0, both.1)
    by_part false e h = (λ word. absurd (true≢false (sym (word_part p.kind word) ∙ e)), h)

each_alike : (names : List Name) (ts us : List Piece) → EachOtherCase ts us
    → list_all (reads_no_roman names) (parts_in ts) ≡ true → list_all (reads_no_roman names) (parts_in us) ≡ true
    → EachAlike names ts us
each_alike names [] [] all a b = tt
each_alike names [] (q ∷ us) all a b = absurd all
each_alike names (p ∷ ts) [] all a b = absurd all
each_alike names (p ∷ ts) (q ∷ us) all a b =
    let mine = no_roman_first names p ts a in
    let other = no_roman_first names q us b in (
      case_alike names p.kind p q refl all.0 mine.0 (λ word. other.0 (ap is_letter (sym all.0.kind) ∙ word)),
      each_alike names ts us all.1 mine.1 other.1,
    )

no_roman_in : (names : List Name) (text : List ℕ) → has_no_roman names text ≡ true
    → list_all (reads_no_roman names) (parts_in (tokens 0 text)) ≡ true
unfolding parts
no_roman_in names text h = h

pub letters_of_either_case_say_the_same : LettersOfEitherCaseSayTheSame
letters_of_either_case_say_the_same choice calendar names a b e left right =
    let own = names_in calendar names in
    tokens_alike choice calendar names a b
    (each_alike own (tokens 0 a) (tokens 0 b) (tokens_case 0 a b e) (no_roman_in own a left) (no_roman_in own b right))
