-- What is written for a text is written for itself.
use Rattle.std.proofs.Common.{◌≡◌, ◌⊎◌, inl, inr, ℕ, zero, suc, ◌+◌, ◌<◌, ◌≤◌, ◌/◌, ◌%◌, Bool, true, false, not, ◌&&◌}
use Rattle.std.proofs.Common.{◌||◌, ◌==◌, cond, refl, sym}
use Rattle.std.proofs.Common.{List, [], ◌∷◌, ◌++◌, length, Option, None, Some, ◌∙◌, arith, ap, subst, take}
use Rattle.std.proofs.Common.{length-append}
use Rattle.std.specs.Prelude.{nat_lt}
use Rattle.std.specs.Char.{is_ascii_digit}
use Rattle.std.specs.Fmt.{decimal, digit_glyph, digits, digits_onto}
use Rattle.std.specs.List.{list_all}
use Rattle.std.proofs.lemmas.Bool.{and_from, and_parts, true≢false}
use Rattle.std.proofs.lemmas.Bool.Decides.{nat_tests}
use Rattle.std.proofs.lemmas.List.Folds.{list_all-append}
use Rattle.date_texts.specs.declared.calendar.Calendar.{Calendar}
use Rattle.written_dates.specs.declared.calendars.Form.TheVariants as forms
use Rattle.written_dates.specs.declared.calendars.Form.{Form}
use Rattle.written_dates.specs.declared.items.Item.{Item}
use Rattle.written_dates.specs.declared.items.Number.{Number as Numeral}
use Rattle.written_dates.specs.declared.meanings.Name.{Name}
use Rattle.written_dates.specs.declared.rules.InYear.{InYear}
use Rattle.written_dates.specs.declared.rules.Order.{Order}
use Rattle.written_dates.specs.declared.rules.Reading.{Reading}
use Rattle.written_dates.specs.declared.rules.Reading.TheVariants.{Civil, Roman}
use Rattle.written_dates.specs.declared.tokens.Kind.{Kind}
use Rattle.written_dates.specs.declared.tokens.Kind.TheVariants.{Blank, Digit, Hyphen}
use Rattle.written_dates.specs.declared.written.Answer.{Answer}
use Rattle.written_dates.specs.declared.written.Answer.TheVariants.{Stays, NoSuchYear, OtherWeekday, Refused, Date}
use Rattle.written_dates.specs.declared.written.Answer.TheVariants.{RomanDate}
use Rattle.written_dates.specs.declared.written.Choice.{Choice}
use Rattle.written_dates.specs.declared.written.Short.{Short}
use Rattle.written_dates.specs.declared.written.Short.TheVariants.{Refuse, Keep, Add}
use Rattle.written_dates.specs.Calendars.{form}
use Rattle.written_dates.specs.Items.{items}
use Rattle.written_dates.specs.Laws.{AreDigits}
use Rattle.written_dates.specs.Parts.{parts}
use Rattle.written_dates.specs.Signs.{◌>>=◌, at_end, bare, behind_blank, behind_hyphen, digits_first, if_digits}
use Rattle.written_dates.specs.Signs.{if_hyphen, is_digit}
use Rattle.written_dates.specs.Signs.{has_minus, runs_behind_minus, runs_in_front, three_runs}
use Rattle.written_dates.specs.TextLaws.{HasKeptYear, WrittenTextsStay}
use Rattle.written_dates.specs.Tokens.{Piece, first, in_front, joins, tokens}
use Rattle.written_dates.specs.Rules.{civil_reading}
use Rattle.written_dates.specs.Sums.{found_items}
use Rattle.written_dates.specs.Times.{timeless}
use Rattle.written_dates.specs.Written.{agrees, answer_by, counted, date_by_rule, date_of, date_or_stays, has_year}
use Rattle.written_dates.specs.Written.{if_agreed, is_turned}
use Rattle.written_dates.specs.Written.{begins_at_midnight, items_answer, month_and_day, reading_by, unless}
use Rattle.written_dates.specs.Written.{written_form}
use Rattle.written_dates.specs.Written.{answer, answer_text, before_time, by_rule, civil_text, dated, dated_text}
use Rattle.written_dates.specs.Written.{if_dated, is_dated}
use Rattle.written_dates.specs.Written.{joined, numbers, short_rule, stood, unless_turned, written, written_by}
use Rattle.written_dates.proofs.FrontLemmas.{first_digit}
use Rattle.written_dates.proofs.LawLemmas.{minus_stays, they_stay}
use Rattle.written_dates.proofs.TimeLemmas.{dated_whole}
use Rattle.written_dates.proofs.TokenLemmas.{no_more, same_kind}
use Rattle.written_dates.proofs.UseLemmas.{civil_uses}

-- ---- numbers are digits
glyph_digit : (n : ℕ) → is_ascii_digit (digit_glyph false (n % 10)) ≡ true
glyph_digit n = by_small (n % 10) (small n)
  where
    small : (n : ℕ) → n % 10 < 10
    small n = omega arith

    by_small : (d : ℕ) → d < 10 → is_ascii_digit (digit_glyph false d) ≡ true
    by_small d h =
        let test : nat_lt d 10 ≡ true = grind (arith, nat_tests) in
        let own : is_ascii_digit (48 + d) ≡ true = grind (arith, nat_tests) in
        rw test own

onto_digits : (k n : ℕ) (acc : List ℕ) → list_all is_ascii_digit acc ≡ true
    → list_all is_ascii_digit (digits_onto k 10 false n acc) ≡ true
onto_digits zero n acc h = h
onto_digits (suc k) n acc h =
    by_last (n / 10 == 0) (onto_digits k (n / 10) (digit_glyph false (n % 10) ∷ acc) (and_from _ _ (glyph_digit n) h))
  where
    by_last : (b : Bool)
        → list_all is_ascii_digit (digits_onto k 10 false (n / 10) (digit_glyph false (n % 10) ∷ acc)) ≡ true
        → list_all is_ascii_digit (cond b (digit_glyph false (n % 10) ∷ acc)
        (digits_onto k 10 false (n / 10) (digit_glyph false (n % 10) ∷ acc))) ≡ true
    by_last true rest = and_from _ _ (glyph_digit n) h
    by_last false rest = rest

onto_least : (k n : ℕ) (acc : List ℕ) → length acc ≤ length (digits_onto k 10 false n acc)
onto_least zero n acc = omega arith
onto_least (suc k) n acc = by_last (n / 10 == 0) (onto_least k (n / 10) (digit_glyph false (n % 10) ∷ acc))
  where
    by_last : (b : Bool)
        → length (digit_glyph false (n % 10) ∷ acc)
        ≤ length (digits_onto k 10 false (n / 10) (digit_glyph false (n % 10) ∷ acc))
        → length acc ≤ length (cond b (digit_glyph false (n % 10) ∷ acc)
        (digits_onto k 10 false (n / 10) (digit_glyph false (n % 10) ∷ acc)))
    by_last true rest = omega arith
    by_last false rest = omega (arith, rest)

onto_some : (k n : ℕ) (acc : List ℕ) → 0 < length (digits_onto (suc k) 10 false n acc)
onto_some k n acc = by_last (n / 10 == 0) (onto_least k (n / 10) (digit_glyph false (n % 10) ∷ acc))
  where
    by_last : (b : Bool)
        → length (digit_glyph false (n % 10) ∷ acc)
        ≤ length (digits_onto k 10 false (n / 10) (digit_glyph false (n % 10) ∷ acc))
        → 0 < length (cond b (digit_glyph false (n % 10) ∷ acc)
        (digits_onto k 10 false (n / 10) (digit_glyph false (n % 10) ∷ acc)))
    by_last true rest = omega arith
    by_last false rest = omega (arith, rest)

decimal_digits : (n : ℕ) → AreDigits (decimal n)
unfolding digits
decimal_digits n = record { some = onto_some 63 n []; digits = onto_digits 64 n [] refl }

-- ---- runs of digits are digits
abbrev is_number : Piece → Bool
is_number p = not (is_digit p.kind) || (nat_lt 0 (length p.text) && list_all is_ascii_digit p.text)

abbrev are_numbers : List Piece → Bool
are_numbers ts = list_all is_number ts

number_digits : (p : Piece) → is_number p ≡ true → is_digit p.kind ≡ true → AreDigits p.text
number_digits p h k =
    let both : (nat_lt 0 (length p.text) && list_all is_ascii_digit p.text) ≡ true
    = rw k at h in
    let parts = and_parts (nat_lt 0 (length p.text)) (list_all is_ascii_digit p.text) both in
    record { some = grind (arith, nat_tests, parts.0); digits = parts.1 }

digits_number : (k : Kind) (text : List ℕ) → (is_digit k ≡ true → AreDigits text)
    → is_number (record { kind = k; text = text }) ≡ true
digits_number k text h = by_digit (is_digit k) refl
  where
    by_digit : (b : Bool) → is_digit k ≡ b → (not b || (nat_lt 0 (length text) && list_all is_ascii_digit text)) ≡ true
    by_digit false e = refl
    by_digit true e =
        let own = h e in
        let some = own.some in
        let test : nat_lt 0 (length text) ≡ true = grind (arith, nat_tests) in
        and_from _ _ test own.digits

digit_is : (k : Kind) → is_digit k ≡ true → k ≡ Digit
digit_is Digit h = refl
digit_is _ h = absurd (true≢false (sym h))

front_numbers : (p : Piece) (ts : List Piece) → is_number p ≡ true → are_numbers ts ≡ true
    → are_numbers (in_front p ts) ≡ true
unfolding in_front
front_numbers p [] h all = and_from _ _ h refl
front_numbers p (q ∷ ts) h all = by_join (joins p.kind q.kind) refl
  where
    both : (is_number q ≡ true) × (are_numbers ts ≡ true)
    both = and_parts (is_number q) (are_numbers ts) all

    whole : joins p.kind q.kind ≡ true → is_digit p.kind ≡ true → AreDigits (p.text ++ q.text)
    whole j k =
        let mine = number_digits p h k in
        let other = number_digits q both.0 (ap is_digit (sym (same_kind p.kind q.kind j)) ∙ k) in
        let some = mine.some in
        record {
          some = omega (arith, some, length-append p.text q.text);
          digits = list_all-append is_ascii_digit p.text q.text ∙ and_from _ _ mine.digits other.digits;
        }

    by_join : (j : Bool) → joins p.kind q.kind ≡ j
        → are_numbers (cond j (record { kind = p.kind; text = p.text ++ q.text } ∷ ts) (p ∷ q ∷ ts)) ≡ true
    by_join true e = and_from _ _ (digits_number p.kind (p.text ++ q.text) (whole e)) both.1
    by_join false e = and_from _ _ h all

one_digit : (c : ℕ) (cs : List ℕ) → is_digit (first c cs).0 ≡ true → AreDigits (c ∷ take (first c cs).1 cs)
one_digit c cs h =
    let none : (first c cs).1 ≡ 0 = no_more Digit c cs (ap (joins Digit) (digit_is (first c cs).0 h)) in
    let own : is_ascii_digit c ≡ true = by_digit (is_ascii_digit c) refl in
    subst (λ (n : ℕ). AreDigits (c ∷ take n cs)) (sym none)
    (record { some = omega arith; digits = and_from _ _ own refl })
  where
    by_digit : (b : Bool) → is_ascii_digit c ≡ b → b ≡ true
    by_digit true e = refl
    by_digit false e = absurd (true≢false (sym h ∙ first_digit c cs e))

tokens_numbers : (more : ℕ) (text : List ℕ) → are_numbers (tokens more text) ≡ true
unfolding tokens
tokens_numbers zero [] = refl
tokens_numbers (suc more) [] = refl
tokens_numbers (suc more) (c ∷ cs) = tokens_numbers more cs
tokens_numbers zero (c ∷ cs) =
    front_numbers (record { kind = (first c cs).0; text = c ∷ take (first c cs).1 cs }) (tokens (first c cs).1 cs)
    (digits_number (first c cs).0 (c ∷ take (first c cs).1 cs) (one_digit c cs)) (tokens_numbers (first c cs).1 cs)

bare_numbers : (ts : List Piece) → are_numbers ts ≡ true → are_numbers (bare ts) ≡ true
bare_numbers [] h = refl
bare_numbers (p ∷ ts) h = by_kind p.kind (bare_numbers ts (and_parts (is_number p) (are_numbers ts) h).1)
  where
    by_kind : (k : Kind) → are_numbers (bare ts) ≡ true → are_numbers (behind_blank k (bare ts) (p ∷ ts)) ≡ true
    by_kind Blank rest = rest
    by_kind _ rest = h

abbrev Runs : Type 0
Runs = Option (List ℕ × List ℕ × List ℕ)

abbrev AreRuns : List ℕ × List ℕ × List ℕ → Type 0
AreRuns r = AreDigits r.0 × AreDigits r.1 × AreDigits r.2

got : {A B : Type 0} (o : Option A) (f : A → Option B) (r : B) → (o >>= f) ≡ Some r
    → (a : A) × (o ≡ Some a) × (f a ≡ Some r)
got None f r e = absurd (cc)
got (Some a) f r e = (a, refl, e)

digits_got : (ts : List Piece) (a : List ℕ × List Piece) → are_numbers ts ≡ true → digits_first ts ≡ Some a
    → AreDigits a.0 × (are_numbers a.1 ≡ true)
unfolding digits_first
digits_got [] a all e = absurd (cc)
digits_got (p ∷ ts) a all e = by_kind p.kind refl e
  where
    both : (is_number p ≡ true) × (are_numbers ts ≡ true)
    both = and_parts (is_number p) (are_numbers ts) all

    by_kind : (k : Kind) → p.kind ≡ k → if_digits k p.text ts ≡ Some a → AreDigits a.0 × (are_numbers a.1 ≡ true)
    by_kind Digit is e =
        let same : (p.text, ts) ≡ a = cc in
        subst (λ (x : List ℕ × List Piece). AreDigits x.0 × (are_numbers x.1 ≡ true)) same
        (number_digits p both.0 (ap is_digit is), both.1)
    by_kind _ is e = absurd (cc)

hyphen_got : (ts a : List Piece) → are_numbers ts ≡ true → behind_hyphen ts ≡ Some a → are_numbers a ≡ true
unfolding behind_hyphen
hyphen_got [] a all e = absurd (cc)
hyphen_got (p ∷ ts) a all e = by_kind p.kind e
  where
    by_kind : (k : Kind) → if_hyphen k ts ≡ Some a → are_numbers a ≡ true
    by_kind Hyphen e =
        let same : ts ≡ a = cc in
        subst (λ (x : List Piece). are_numbers x ≡ true) same (and_parts (is_number p) (are_numbers ts) all).1
    by_kind _ e = absurd (cc)

end_got : {A : Type 0} (ts : List Piece) (x y : A) → at_end ts x ≡ Some y → x ≡ y
end_got [] x y e = cc
end_got (p ∷ ts) x y e = absurd (cc)

runs_got : (ts : List Piece) (r : List ℕ × List ℕ × List ℕ) → are_numbers ts ≡ true → runs_in_front ts ≡ Some r
    → AreRuns r
unfolding runs_in_front
runs_got ts r all e =
    let (a, ea, fa) = got (digits_first ts) _ r e in
    let own = digits_got ts a all ea in
    let (b, eb, fb) = got (behind_hyphen a.1) _ r fa in
    let (c, ec, fc) = got (digits_first b) _ r fb in
    let middle = digits_got b c (hyphen_got a.1 b own.1 eb) ec in
    let (d, ed, fd) = got (behind_hyphen c.1) _ r fc in
    let (f, ef, ff) = got (digits_first d) _ r fd in
    let last = digits_got d f (hyphen_got c.1 d middle.1 ed) ef in
    subst AreRuns (end_got (bare f.1) (a.0, c.0, f.0) r ff) (own.0, middle.0, last.0)

three_got : (text : List ℕ) (r : List ℕ × List ℕ × List ℕ) → three_runs (tokens 0 text) ≡ Some r → AreRuns r
three_got text r e = runs_got (bare (tokens 0 text)) r (bare_numbers (tokens 0 text) (tokens_numbers 0 text)) e

below_got : (text : List ℕ) (r : List ℕ × List ℕ × List ℕ) → runs_behind_minus (tokens 0 text) ≡ Some r → AreRuns r
below_got text r e =
    let (a, ea, fa) = got (behind_hyphen (bare (tokens 0 text))) runs_in_front r e in
    runs_got a r (hyphen_got (bare (tokens 0 text)) a (bare_numbers (tokens 0 text) (tokens_numbers 0 text)) ea) fa

unturned_got : (order : Order) (o : Runs) (r : List ℕ × List ℕ × List ℕ) → unless_turned order o ≡ Some r → o ≡ Some r
unturned_got order None r e = absurd (cc)
unturned_got order (Some x) r e = by_turned (is_turned order x.0 x.2) e
  where
    by_turned : (b : Bool) → cond b None (Some x) ≡ Some r → Some x ≡ Some r
    by_turned true e = absurd (cc)
    by_turned false e = e

-- ---- no Roman date where dates are years, months and days
abbrev is_roman : Answer → Bool
is_roman (RomanDate y m k c) = true
is_roman x = false

plain_date_in : (b : Bool) (v : ℕ) (o : Option (ℕ × ℕ)) → is_roman (cond b (date_or_stays v o) NoSuchYear) ≡ false
plain_date_in true v None = refl
plain_date_in true v (Some x) = refl
plain_date_in false v o = refl

plain_date : (short : Short) (calendar : Calendar) (v : ℕ) (day : InYear)
    → is_roman (date_by_rule short calendar v day) ≡ false
plain_date Refuse calendar v day = refl
plain_date Keep calendar v day = plain_date_in (has_year calendar v) v (month_and_day calendar v day)
plain_date (Add more) calendar v day =
    plain_date_in (has_year calendar (v + more)) (v + more) (month_and_day calendar (v + more) day)

plain_if : (b : Bool) (x : Answer) → is_roman x ≡ false → is_roman (cond b Stays x) ≡ false
plain_if true x h = refl
plain_if false x h = h

plain_of : (choice : Choice) (calendar : Calendar) (pieces : List Piece) (found : List Item) (o : Option Reading)
    → civil_reading pieces choice.order found ≡ o → is_roman (date_of choice calendar o) ≡ false
plain_of choice calendar pieces found None e = refl
plain_of choice calendar pieces found (Some (Civil year day)) e =
    plain_if _ (date_by_rule (short_rule choice calendar year) calendar (counted year day) day)
    (plain_date (short_rule choice calendar year) calendar (counted year day) day)
plain_of choice calendar pieces found (Some (Roman y m k c)) e =
    let (year, day, same, all) = civil_uses pieces choice.order found (Roman y m k c) e in absurd (cc)

plain_agreed : (calendar : Calendar) (found : List Item) (x : Answer) → is_roman x ≡ false
    → is_roman (if_agreed calendar found x) ≡ false
plain_agreed calendar found (Date y m d) h = by_all (list_all (agrees calendar y m d) found)
  where
    by_all : (b : Bool) → is_roman (cond b (Date y m d) (OtherWeekday y m d)) ≡ false
    by_all true = refl
    by_all false = refl
plain_agreed calendar found Stays h = refl
plain_agreed calendar found NoSuchYear h = refl
plain_agreed calendar found (OtherWeekday _ _ _) h = refl
plain_agreed calendar found Refused h = refl
plain_agreed calendar found (RomanDate _ _ _ _) h = h

plain_found : (choice : Choice) (calendar : Calendar) (pieces : List Piece) (o : Option (List Item))
    → form calendar ≡ forms.Civil → is_roman (answer_by o (items_answer choice calendar pieces)) ≡ false
plain_found choice calendar pieces None civil = refl
plain_found choice calendar pieces (Some found) civil =
    plain_agreed calendar found (date_of choice calendar (reading_by (form calendar) choice pieces found))
    (ap (λ (f : Form). is_roman (date_of choice calendar (reading_by f choice pieces found))) civil
    ∙ plain_of choice calendar pieces found (civil_reading pieces choice.order found) refl)

plain_answer : (choice : Choice) (calendar : Calendar) (names : List Name) (text : List ℕ) → form calendar ≡ forms.Civil
    → is_roman (answer choice calendar names text) ≡ false
unfolding answer
plain_answer choice calendar names text civil =
    plain_if _ (answer_by (found_items calendar names text) (items_answer choice calendar (tokens 0 text)))
    (plain_found choice calendar (tokens 0 text) (found_items calendar names text) civil)

-- ---- nothing stays nothing
no_time : (b : Bool) → unless b None ≡ None
no_time true = refl
no_time false = refl

none_whole : (choice : Choice) (calendar : Calendar) (names : List Name) → dated_text choice calendar names [] ≡ []
unfolding dated_text before_time timeless
none_whole choice calendar names =
    ap (if_dated choice calendar names []) (no_time (not (begins_at_midnight calendar) || has_minus (tokens 0 [])
    || is_dated choice calendar names []))

none_said : (choice : Choice) (calendar : Calendar) (names : List Name) → form calendar ≡ forms.Civil
    → answer choice calendar names [] ≡ Stays
unfolding answer tokens items parts
none_said choice calendar names civil = rw civil refl

none_civil : (choice : Choice) (calendar : Calendar) (names : List Name) → form calendar ≡ forms.Civil
    → civil_text choice calendar names [] ≡ []
unfolding tokens behind_hyphen runs_in_front digits_first
none_civil choice calendar names civil = ap (answer_text []) (none_said choice calendar names civil)

none_written : (choice : Choice) (calendar : Calendar) (names : List Name) → form calendar ≡ forms.Civil
    → written choice (Some calendar) names [] ≡ []
none_written choice calendar names civil =
    ap (written_form (form calendar) choice calendar names) (none_whole choice calendar names)
    ∙ ap (λ (f : Form). written_form f choice calendar names []) civil ∙ none_civil choice calendar names civil

-- ---- the text that is read
text_or_dated : (choice : Choice) (calendar : Calendar) (names : List Name) (text : List ℕ)
    → (dated_text choice calendar names text ≡ text)
    ⊎ (is_dated choice calendar names (dated_text choice calendar names text) ≡ true)
unfolding dated_text
text_or_dated choice calendar names text = by_before (before_time choice calendar names text)
  where
    by_dated : (b : Bool) (before : List ℕ) → is_dated choice calendar names before ≡ b
        → (cond b before text ≡ text) ⊎ (is_dated choice calendar names (cond b before text) ≡ true)
    by_dated true before e = inr e
    by_dated false before e = inl refl

    by_before : (o : Option (List ℕ)) → (if_dated choice calendar names text o ≡ text)
        ⊎ (is_dated choice calendar names (if_dated choice calendar names text o) ≡ true)
    by_before None = inl refl
    by_before (Some before) = by_dated (is_dated choice calendar names before) before refl

read_alone : (choice : Choice) (calendar : Calendar) (names : List Name) (text : List ℕ)
    → written choice (Some calendar) names (dated_text choice calendar names text)
    ≡ written choice (Some calendar) names text
read_alone choice calendar names text = elim (text_or_dated choice calendar names text) [
  | inl e ↦ ap (written choice (Some calendar) names) e
  | inr e ↦ ap (written_form (form calendar) choice calendar names)
      (dated_whole choice calendar names (dated_text choice calendar names text) e)
]

-- ---- what is written stays
-- what is written is a date as registers have it, or nothing
abbrev IsDateOrNone : List ℕ → Type 0
IsDateOrNone out =
    ((y m d : List ℕ) × AreDigits y × AreDigits m × AreDigits d × (out ≡ joined y m d)) ⊎ (out ≡ [])

dated_one : (y m d : ℕ) → IsDateOrNone (dated y m d)
dated_one y m d = inl (decimal y, decimal m, decimal d, decimal_digits y, decimal_digits m, decimal_digits d, refl)

stood_one : (choice : Choice) (calendar : Calendar) (r : List ℕ × List ℕ × List ℕ) → AreRuns r
    → (o : Option (Numeral × Numeral × Numeral)) → IsDateOrNone (stood choice calendar (joined r.0 r.1 r.2) o)
stood_one choice calendar r own None = inl (r.0, r.1, r.2, own.0, own.1, own.2, refl)
stood_one choice calendar r own (Some n) = by_short (short_rule choice calendar n.0)
  where
    by_short : (s : Short) → IsDateOrNone (by_rule s (joined r.0 r.1 r.2) n.0.value n.1.value n.2.value)
    by_short Refuse = inr refl
    by_short Keep = inl (r.0, r.1, r.2, own.0, own.1, own.2, refl)
    by_short (Add more) = dated_one (n.0.value + more) n.1.value n.2.value

again : (choice : Choice) (calendar : Calendar) (names : List Name) (out : List ℕ) → form calendar ≡ forms.Civil
    → HasKeptYear choice calendar out → IsDateOrNone out → written choice (Some calendar) names out ≡ out
again choice calendar names out civil kept (inl (y, m, d, hy, hm, hd, e)) =
    let own = kept y m d e hy hm hd in
    subst (λ (x : List ℕ). written choice (Some calendar) names x ≡ x) (sym e)
    (they_stay choice calendar names y m d civil hy hm hd own.0 own.1)
again choice calendar names out civil kept (inr e) =
    subst (λ (x : List ℕ). written choice (Some calendar) names x
    ≡ x) (sym e) (none_written choice calendar names civil)

abbrev Stay : Choice → Calendar → List Name → List ℕ → Type 0
Stay choice calendar names out =
    HasKeptYear choice calendar out → written choice (Some calendar) names out ≡ out

said_stays : (choice : Choice) (calendar : Calendar) (names : List Name) (text : List ℕ) (x : Answer)
    → form calendar ≡ forms.Civil → is_roman x ≡ false
    → written choice (Some calendar) names text ≡ answer_text text x → Stay choice calendar names (answer_text text x)
said_stays choice calendar names text (Date y m d) civil plain same kept =
    again choice calendar names (dated y m d) civil kept (dated_one y m d)
said_stays choice calendar names text Refused civil plain same kept = none_written choice calendar names civil
said_stays choice calendar names text (RomanDate _ _ _ _) civil plain same kept = absurd (true≢false plain)
said_stays choice calendar names text Stays civil plain same kept = same
said_stays choice calendar names text NoSuchYear civil plain same kept = same
said_stays choice calendar names text (OtherWeekday _ _ _) civil plain same kept = same

by_runs : (choice : Choice) (calendar : Calendar) (names : List Name) (text : List ℕ) (below runs : Runs)
    → form calendar ≡ forms.Civil → runs_behind_minus (tokens 0 text) ≡ below
    → unless_turned choice.order (three_runs (tokens 0 text)) ≡ runs
    → written choice (Some calendar) names text ≡ written_by choice calendar names text below runs
    → Stay choice calendar names (written_by choice calendar names text below runs)
by_runs choice calendar names text (Some r) runs civil e f same kept =
    let own = below_got text r e in minus_stays choice calendar names r.0 r.1 r.2 civil own.0 own.1 own.2
by_runs choice calendar names text None (Some r) civil e f same kept =
    let own = three_got text r (unturned_got choice.order (three_runs (tokens 0 text)) r f) in
    again choice calendar names _ civil kept (stood_one choice calendar r own (numbers r))
by_runs choice calendar names text None None civil e f same kept =
    said_stays choice calendar names text (answer choice calendar names text) civil
    (plain_answer choice calendar names text civil) same kept

pub written_texts_stay : WrittenTextsStay
written_texts_stay choice calendar names text civil kept =
    let before : List ℕ = dated_text choice calendar names text in
    let is : written choice (Some calendar) names text ≡ civil_text choice calendar names before
    = ap (λ (f : Form). written_form f choice calendar names before) civil in
    let same : written choice (Some calendar) names before ≡ civil_text choice calendar names before
    = read_alone choice calendar names text ∙ is in
    subst (λ (x : List ℕ). written choice (Some calendar) names x ≡ x) (sym is)
    (by_runs choice calendar names before (runs_behind_minus (tokens 0 before))
    (unless_turned choice.order (three_runs (tokens 0 before))) civil refl refl same
    (subst (HasKeptYear choice calendar) is kept))
