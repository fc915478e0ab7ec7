-- Reading finds the civil dates, week dates and long counts that the grammar relates to a text, and nothing else.
use Rattle.std.proofs.Common.{◌≡◌, ℕ, List, [], ◌∷◌, ◌++◌, refl, subst, ap, ◌∙◌, ◌≤◌, arith, Some, ℤ, ◌⊎◌, inl, inr}
use Rattle.std.proofs.Common.{rules}
use Rattle.date_texts.specs.declared.grammar.Grammar.TheVariants.{Civil, Week}
use Rattle.date_texts.specs.private.CivilReading.{after_week_letter, after_mark, month_at, civil_at}
use Rattle.maya_calendars.specs.Places.{ArePlaces}
use Rattle.date_texts.specs.private.LongReading.{place_at, long_at}
use Rattle.date_texts.specs.CivilText.{capital_week, IsCivilText, IsMonthText, of_month, small_week}
use Rattle.date_texts.proofs.Common.{Grammar, IsLongText, IsNumeral, nat_tests}
use Rattle.date_texts.proofs.ReadingLemmas.{NoDigitFirst, Reads, bind_some, some_inside, numbers, years, numeral_below}
use Rattle.date_texts.proofs.ReadingLemmas.{part_found, part_taken, last_found, last_taken}

-- the letter before a week
letter_read : (bytes rest : List ℕ) → after_week_letter bytes ≡ Some rest → (bytes ≡ 87 ∷ rest) ⊎ (bytes ≡ 119 ∷ rest)
unfolding after_week_letter
letter_read [] rest e = absurd (cc)
letter_read (c ∷ cs) rest e = grind (arith, nat_tests, some_inside)

month_read : (grammar : Grammar) (bytes : List ℕ) (x : ℕ × List ℕ) → month_at grammar bytes ≡ Some x
    → (text : List ℕ) × IsMonthText grammar text x.0 × (bytes ≡ text ++ x.1)
unfolding after_mark
month_read Civil bytes x e = let (text, is, joined) = (numbers 1).found bytes x e in (text, of_month is, joined)
month_read Week bytes x e =
    let rest = bind_some (after_week_letter bytes) _ x e in
    let (text, is, joined) = (numbers 1).found rest.0 x rest.2 in
    elim (letter_read bytes rest.0 rest.1) [
      | inl h ↦ (87 ∷ text, capital_week is, h ∙ ap (λ t. 87 ∷ t) joined)
      | inr h ↦ (119 ∷ text, small_week is, h ∙ ap (λ t. 119 ∷ t) joined)
    ]
month_read grammar bytes x e = absurd (cc)

month_take : (grammar : Grammar) (text rest : List ℕ) (n : ℕ) → IsMonthText grammar text n → NoDigitFirst rest
    → month_at grammar (text ++ rest) ≡ Some (n, rest)
unfolding after_mark after_week_letter
month_take _ _ rest n (of_month {text = text} h) stop = (numbers 1).taken text rest n h stop
month_take _ _ rest n (capital_week {text = text} h) stop = (numbers 1).taken text rest n h stop
month_take _ _ rest n (small_week {text = text} h) stop = (numbers 1).taken text rest n h stop

pub month_in : {grammar : Grammar} {text : List ℕ} {n : ℕ} → IsMonthText grammar text n → n ≤ 99
month_in (of_month h) = omega (arith, numeral_below h)
month_in (capital_week h) = omega (arith, numeral_below h)
month_in (small_week h) = omega (arith, numeral_below h)

months : (grammar : Grammar) → Reads (month_at grammar) (IsMonthText grammar)
months grammar = record { found = month_read grammar; taken = month_take grammar }

pub civil_says : (grammar : Grammar) (text : List ℕ) (x : ℤ × ℕ × ℕ) → civil_at grammar text ≡ Some x
    → IsCivilText grammar text x.0 x.1 x.2
unfolding civil_at
civil_says grammar text x e =
    let (y, (year, after_year, is_year, e1, j1)) = part_found years 45 _ text _ e in
    let (n, (month, day, is_month, e2, j2)) = part_found (months grammar) 45 _ after_year _ e1 in
    let (k, is_day, same) = last_found (numbers 1) (λ k. (y, n, k)) day x e2 in
    subst (λ (x : ℤ × ℕ × ℕ). IsCivilText grammar text x.0 x.1 x.2) same
    (year, after_year, is_year, (month, day, is_month, is_day, j2), j1)

pub civil_said : (grammar : Grammar) (text : List ℕ) (x : ℤ × ℕ × ℕ) → IsCivilText grammar text x.0 x.1 x.2
    → civil_at grammar text ≡ Some x
unfolding civil_at
civil_said grammar text x (year, after_year, is_year, (month, day, is_month, is_day, j2), j1) =
    let e2 = last_taken (numbers 1) (λ k. (x.0, x.1, k)) day x.2 is_day in
    let e1 = part_taken (months grammar) 45 _ after_year _ x.1 refl (month, day, is_month, e2, j2) in
    part_taken years 45 _ text _ x.0 refl (year, after_year, is_year, e1, j1)

-- ---- long counts
below : {n : ℕ} {text : List ℕ} → IsNumeral 4 text n → n ≤ 9_999
below h = omega (arith, numeral_below h)

pub long_says : (text : List ℕ) (x : ℕ × ℕ × ℕ × ℕ × ℕ) → long_at text ≡ Some x → IsLongText text x.0 x.1 x.2 x.3 x.4
unfolding long_at place_at
long_says text x e =
    let (i, (a, from_b, is_a, ea, ja)) = part_found (numbers 3) 46 _ text _ e in
    let (j, (b, from_c, is_b, eb, jb)) = part_found (numbers 3) 46 _ from_b _ ea in
    let (k, (c, from_d, is_c, ec, jc)) = part_found (numbers 3) 46 _ from_c _ eb in
    let (l, (d, f, is_d, ed, jd)) = part_found (numbers 3) 46 _ from_d _ ec in
    let (m, is_f, same) = last_found (numbers 3) (λ m. (i, j, k, l, m)) f x ed in
    let joined = ja ∙ ap (λ t. a ++ 46 ∷ t) (jb ∙ ap (λ t. b ++ 46 ∷ t) (jc ∙ ap (λ t. c ++ 46 ∷ t) jd)) in
    subst (λ (x : ℕ × ℕ × ℕ × ℕ × ℕ). IsLongText text x.0 x.1 x.2 x.3 x.4) same
    (a ∷ b ∷ c ∷ d ∷ f ∷ [], (is_a, (is_b, (is_c, (is_d, (is_f, tt))))), joined)

pub long_said : (text : List ℕ) (x : ℕ × ℕ × ℕ × ℕ × ℕ) → IsLongText text x.0 x.1 x.2 x.3 x.4 → long_at text ≡ Some x
unfolding long_at place_at
long_said text x (a ∷ b ∷ c ∷ d ∷ f ∷ [], (is_a, (is_b, (is_c, (is_d, (is_f, end))))), joined) =
    let ed = last_taken (numbers 3) (λ m. (x.0, x.1, x.2, x.3, m)) f x.4 is_f in
    let ec = part_taken (numbers 3) 46 _ _ _ x.3 refl (d, f, is_d, ed, refl) in
    let eb = part_taken (numbers 3) 46 _ _ _ x.2 refl (c, _, is_c, ec, refl) in
    let ea = part_taken (numbers 3) 46 _ _ _ x.1 refl (b, _, is_b, eb, refl) in
    part_taken (numbers 3) 46 _ text _ x.0 refl (a, _, is_a, ea, joined)
long_said text x (places, are, joined) = absurd (search (rules, are))

pub places_in : (text : List ℕ) (x : ℕ × ℕ × ℕ × ℕ × ℕ) → IsLongText text x.0 x.1 x.2 x.3 x.4
    → ArePlaces x.0 x.1 x.2 x.3 x.4
places_in text x (a ∷ b ∷ c ∷ d ∷ f ∷ [], (is_a, (is_b, (is_c, (is_d, (is_f, end))))), joined) = search (rules, below)
places_in text x (places, are, joined) = absurd (search (rules, are))
