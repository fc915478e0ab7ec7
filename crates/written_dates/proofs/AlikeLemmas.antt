-- Texts of which the tokens are alike say the same.
use Rattle.std.proofs.Common.{◌≡◌, ◌⊎◌, inl, inr, ℕ, zero, suc, ◌-◌, ◌<◌, Bool, true, false, not, ◌&&◌, ◌||◌, ◌==◌}
use Rattle.std.proofs.Common.{cond, refl, sym}
use Rattle.std.proofs.Common.{List, [], ◌∷◌, length, Option, Some, None, is_some, ◌∙◌, subst, nat_lt, arith, ap, ap₂}
use Rattle.std.specs.Prelude.{⊤, option_map}
use Rattle.std.specs.List.{filter, list_all, list_any}
use Rattle.std.proofs.lemmas.Bool.{and_parts, or_parts, true≢false}
use Rattle.std.proofs.lemmas.Bool.Decides.{nat_tests}
use Rattle.date_texts.specs.declared.calendar.Calendar.{Calendar}
use Rattle.date_texts.specs.declared.calendar.Calendar.TheVariants.{Gregorian, Julian, French, Republican}
use Rattle.written_dates.specs.declared.calendars.Form.{Form}
use Rattle.written_dates.specs.declared.calendars.Form.TheVariants as forms
use Rattle.written_dates.specs.declared.items.Item.{Item}
use Rattle.written_dates.specs.declared.items.Item.TheVariants.{Number, Month}
use Rattle.written_dates.specs.declared.meanings.Meaning.{Meaning}
use Rattle.written_dates.specs.declared.meanings.Meaning.TheVariants.{Nothing}
use Rattle.written_dates.specs.declared.meanings.Name.{Name}
use Rattle.written_dates.specs.declared.rules.Order.{Order}
use Rattle.written_dates.specs.declared.rules.Reading.{Reading}
use Rattle.written_dates.specs.declared.tokens.Kind.{Kind}
use Rattle.written_dates.specs.declared.tokens.Kind.TheVariants.{Blank, Hyphen, Letter}
use Rattle.written_dates.specs.declared.written.Answer.{Answer}
use Rattle.written_dates.specs.declared.written.Answer.TheVariants.{Stays, Refused, Date, RomanDate}
use Rattle.written_dates.specs.declared.written.Choice.{Choice}
use Rattle.written_dates.specs.Calendars.{form}
use Rattle.written_dates.specs.Fields.{is_blank}
use Rattle.written_dates.specs.Items.{alone, bare_number, item_by, item_in_front, items, items_behind, longest, meant}
use Rattle.written_dates.specs.Items.{before, number_of_kind}
use Rattle.written_dates.specs.Names.{names_in}
use Rattle.written_dates.specs.Parts.{is_part, is_part_kind, parts, stands}
use Rattle.written_dates.specs.Roman.{roman}
use Rattle.written_dates.specs.Rules.{beside_weekday, or_reading, plain_reading}
use Rattle.written_dates.specs.Signs.{◌>>=◌, bare, begins_with_dash, behind_hyphen, has_bar_between, has_minus}
use Rattle.written_dates.specs.Signs.{has_mixed_signs}
use Rattle.written_dates.specs.Signs.{has_other, has_two_dashes, if_hyphen, is_dash, runs_behind_minus, runs_in_front}
use Rattle.written_dates.specs.Signs.{three_runs}
use Rattle.written_dates.specs.Sums.{found_items, summed}
use Rattle.written_dates.specs.TextLaws.{AlikeTextsSayTheSame, AreAlike, AreSameWord, AreSynonyms, EachAlike}
use Rattle.written_dates.specs.TextLaws.{SayTheSame, StandsAlone}
use Rattle.written_dates.specs.TextLaws.{SignsOnlyPart, asks_signs, is_unread}
use Rattle.written_dates.specs.TextLaws.{is_alone, is_named, is_read, is_said, squeezed}
use Rattle.written_dates.specs.Tokens.{Piece, tokens}
use Rattle.written_dates.specs.WholeNames.{is_letter}
use Rattle.written_dates.specs.Words.{same_word}
use Rattle.written_dates.specs.Written.{answer, answer_by, answer_text, begins_at_midnight, dated_text, is_dated}
use Rattle.written_dates.specs.Written.{is_found}
use Rattle.written_dates.specs.Written.{civil_text, date_of, if_agreed}
use Rattle.written_dates.specs.Written.{items_answer, reading_by, unless_turned, written_by, written_form}
use Rattle.written_dates.specs.Written.{before_time}
use Rattle.written_dates.proofs.NameLawLemmas.{found_is_longest, found_stands}
use Rattle.written_dates.proofs.PieceLemmas.{IgnoresBlanks, SeenAlike, alike_seen, are_honest, honest, no_blanks}
use Rattle.written_dates.proofs.PieceLemmas.{seen_through}
use Rattle.written_dates.proofs.PieceLemmas.{squeezed_same, squeezed_seen, tokens_honest}
use Rattle.written_dates.proofs.TimeLemmas.{dated_whole}
use Rattle.written_dates.proofs.WordLemmas.{by_cases, same_word-Decides}

-- ---- parts
abbrev pub parts_in : List Piece → List Piece
parts_in ts = filter is_part ts

no_part : (k : Kind) → is_blank k ≡ true → is_part_kind k ≡ false
no_part Blank h = refl
no_part _ h = absurd (true≢false (sym h))

filtered : IgnoresBlanks parts_in
filtered = record {
  more = λ p us vs e. ap (λ (x : List Piece). cond (is_part p) (p ∷ x) x) e;
  skips = λ p us h k. ap (λ b. cond b (p ∷ parts_in us) (parts_in us)) (no_part p.kind k);
}

-- two parts are the same, or words that are the same to a reader or synonyms
abbrev pub ArePartsAlike : List Name → Piece → Piece → Type 0
ArePartsAlike names p q =
    (p ≡ q) ⊎ ((is_letter p.kind ≡ true) × (is_letter q.kind ≡ true) × (AreSameWord names p q ⊎ AreSynonyms names p q))

abbrev pub PartsAlike : List Name → List Piece → List Piece → Type 0
PartsAlike names [] [] = ⊤
PartsAlike names (p ∷ ps) (q ∷ qs) = ArePartsAlike names p q × PartsAlike names ps qs
PartsAlike names ps qs = ⊥

letter_part : (k : Kind) → is_letter k ≡ true → is_part_kind k ≡ true
letter_part Letter h = refl
letter_part _ h = absurd (true≢false (sym h))

pub parts_alike : (names : List Name) (ts us : List Piece) → EachAlike names ts us
    → PartsAlike names (parts_in ts) (parts_in us)
parts_alike names [] [] all = tt
parts_alike names [] (q ∷ us) all = absurd all
parts_alike names (p ∷ ts) [] all = absurd all
parts_alike names (p ∷ ts) (q ∷ us) all = by_all all.0 (parts_alike names ts us all.1)
  where
    by_part : (b d : Bool) → b ≡ d → ArePartsAlike names p q → PartsAlike names (parts_in ts) (parts_in us)
        → PartsAlike names (cond b (p ∷ parts_in ts) (parts_in ts)) (cond d (q ∷ parts_in us) (parts_in us))
    by_part true true e a rest = (a, rest)
    by_part false false e a rest = rest
    by_part true false e a rest = absurd (true≢false e)
    by_part false true e a rest = absurd (true≢false (sym e))

    by_all : AreAlike names p q → PartsAlike names (parts_in ts) (parts_in us)
        → PartsAlike names (cond (is_part p) (p ∷ parts_in ts) (parts_in ts))
        (cond (is_part q) (q ∷ parts_in us) (parts_in us))
    by_all (inl e) rest = by_part (is_part p) (is_part q) (ap is_part e) (inl e) rest
    by_all (inr (inl (a, b))) rest = rw (no_part p.kind a, no_part q.kind b) rest
    by_all (inr (inr (a, b, c))) rest =
        by_part (is_part p) (is_part q) (letter_part p.kind a ∙ sym (letter_part q.kind b)) (inr (a, b, c)) rest

-- ---- names stand in front of both
pub same_too : (n p q : List ℕ) → same_word p q ≡ true → same_word n p ≡ same_word n q
same_too n p q h =
    let both = (same_word-Decides p q).0 h in
    by_cases (same_word n p) (same_word n q)
    (λ e. (let own = (same_word-Decides n p).0 e in (same_word-Decides n q).1 (own.0 ∙ both.0, own.1 ∙ both.1)))
    (λ e. (let own = (same_word-Decides n q).0 e in
    (same_word-Decides n p).1 (own.0 ∙ sym both.0, own.1 ∙ sym both.1)))

abbrev has_word : List Piece → Piece → Bool
has_word ns p = list_any (λ part. same_word part.text p.text) ns

-- none of these words stands alone
abbrev NoneAlone : List Name → List Piece → Type 0
NoneAlone names ns = (p : Piece) (m : Meaning) → StandsAlone names p m → has_word ns p ≡ false

none_both : (a b c d : Bool) → a ≡ false → c ≡ false → (a && b) ≡ (c && d)
none_both a b c d e f = rw (e, f) refl

stands_same : (names : List Name) (ns xs ys : List Piece) → PartsAlike names xs ys → NoneAlone names ns
    → stands ns xs ≡ stands ns ys
stands_same names [] xs ys all none = refl
stands_same names (n ∷ ns) [] [] all none = refl
stands_same names (n ∷ ns) [] (q ∷ ys) all none = absurd all
stands_same names (n ∷ ns) (p ∷ xs) [] all none = absurd all
stands_same names (n ∷ ns) (p ∷ xs) (q ∷ ys) all none =
    let rest : stands ns xs ≡ stands ns ys
    = stands_same names ns xs ys all.1 (λ p m a. (or_parts (same_word n.text p.text) (has_word ns p) (none p m a)).1) in
    elim all.0 [
      | inl e ↦ ap₂ (λ a b. a && b) (ap (λ (x : Piece). same_word n.text x.text) e) rest
      | inr (a, b, inl same) ↦ ap₂ (λ a b. a && b) (same_too n.text p.text q.text same.0) rest
      | inr (a, b, inr syn) ↦
          none_both (same_word n.text p.text) _ (same_word n.text q.text) _
          (or_parts (same_word n.text p.text) (has_word ns p) (none p syn.meaning syn.first)).0
          (or_parts (same_word n.text q.text) (has_word ns q) (none q syn.meaning syn.second)).0
    ]

-- of a name of two parts or more none stands alone
abbrev is_lone : Piece → List Piece → Bool
is_lone p ns = not (has_word ns p) || (length ns == 1)

two_by : (n k : Piece) (ns : List Piece) (p : Piece) → is_lone p (n ∷ k ∷ ns) ≡ true → has_word (n ∷ k ∷ ns) p ≡ false
two_by n k ns p h = by_not (has_word (n ∷ k ∷ ns) p) (suc (suc (length ns)) == 1) (not_one (length ns)) h
  where
    not_one : (l : ℕ) → (suc (suc l) == 1) ≡ false
    not_one l = grind (arith, nat_tests)

    by_not : (a b : Bool) → b ≡ false → (not a || b) ≡ true → a ≡ false
    by_not true b e h = absurd (true≢false (sym h ∙ e))
    by_not false b e h = refl

-- what stands in front, where the first parts are the same to a reader
front_same : (names : List Name) (ns : List Piece) (p q : Piece) (xs ys : List Piece)
    → ((n : List ℕ) → same_word n p.text ≡ same_word n q.text) → PartsAlike names xs ys
    → ((k : Piece) (m : Meaning) → StandsAlone names k m → is_lone k ns ≡ true)
    → stands ns (p ∷ xs) ≡ stands ns (q ∷ ys)
front_same names [] p q xs ys same all lone = refl
front_same names (n ∷ []) p q xs ys same all lone = ap (λ b. b && true) (same n.text)
front_same names (n ∷ k ∷ ns) p q xs ys same all lone =
    ap₂ (λ a b. a && b) (same n.text)
    (stands_same names (k ∷ ns) xs ys all
    (λ w m a. (or_parts (same_word n.text w.text) (has_word (k ∷ ns) w) (two_by n k ns w (lone w m a))).1))

abbrev AllLone : List Name → List Name → Type 0
AllLone names rest = (k : Piece) (m : Meaning) → StandsAlone names k m → list_all (is_alone k) rest ≡ true

pub longest_same : (names rest : List Name) (best : ℕ × Meaning) (p q : Piece) (xs ys : List Piece)
    → ((n : List ℕ) → same_word n p.text ≡ same_word n q.text) → PartsAlike names xs ys → AllLone names rest
    → longest (p ∷ xs) best rest ≡ longest (q ∷ ys) best rest
longest_same names [] best p q xs ys same all lone = refl
longest_same names (name ∷ rest) best p q xs ys same all lone =
    let ns = parts name.text.now in
    let here : stands ns (p ∷ xs) ≡ stands ns (q ∷ ys)
    = front_same names ns p q xs ys same all
    (λ k m a. (and_parts (is_alone k name) (list_all (is_alone k) rest) (lone k m a)).0) in
    let test : Bool → ℕ × Meaning = λ b. cond (b && nat_lt best.0 (length ns)) (length ns, name.meaning) best in
    ap (λ b. longest (p ∷ xs) (test b) rest) here
    ∙ longest_same names rest (test (stands ns (q ∷ ys))) p q xs ys same all
    (λ k m a. (and_parts (is_alone k name) (list_all (is_alone k) rest) (lone k m a)).1)

-- a word that stands alone is all that a name has
alone_front : (ns : List Piece) (p : Piece) (xs : List Piece) → is_lone p ns ≡ true
    → stands ns (p ∷ xs) ≡ stands ns (p ∷ [])
alone_front [] p xs h = refl
alone_front (n ∷ []) p xs h = refl
alone_front (n ∷ k ∷ ns) p xs h =
    let none : same_word n.text p.text ≡ false
    = (or_parts (same_word n.text p.text) (has_word (k ∷ ns) p) (two_by n k ns p h)).0 in
    none_both (same_word n.text p.text) _ (same_word n.text p.text) _ none none

alone_longest : (rest : List Name) (best : ℕ × Meaning) (p : Piece) (xs : List Piece)
    → list_all (is_alone p) rest ≡ true → longest (p ∷ xs) best rest ≡ longest (p ∷ []) best rest
alone_longest [] best p xs h = refl
alone_longest (name ∷ rest) best p xs h =
    let ns = parts name.text.now in
    let both = and_parts (is_alone p name) (list_all (is_alone p) rest) h in
    let test : Bool → ℕ × Meaning = λ b. cond (b && nat_lt best.0 (length ns)) (length ns, name.meaning) best in
    ap (λ b. longest (p ∷ xs) (test b) rest) (alone_front ns p xs both.0)
    ∙ alone_longest rest (test (stands ns (p ∷ []))) p xs both.1

-- ---- items
longer_stands : (ns : List Piece) (p : Piece) (xs : List Piece) → stands ns (p ∷ []) ≡ true
    → stands ns (p ∷ xs) ≡ true
longer_stands [] p xs h = refl
longer_stands (n ∷ []) p xs h = h
longer_stands (n ∷ k ∷ ns) p xs h = absurd (true≢false (sym (and_parts (same_word n.text p.text) false h).1))

named_longer : (names : List Name) (p : Piece) (xs : List Piece) → is_named names p ≡ true
    → 0 < (longest (p ∷ xs) (0, Nothing) names).0
named_longer names p xs h =
    let some : 0 < (longest (p ∷ []) (0, Nothing) names).0 = grind (arith, nat_tests) in
    let (place, name, at, e) = found_stands (p ∷ []) names some in
    let size : (longest (p ∷ []) (0, Nothing) names).0
    ≡ length (parts name.text.now) = ap (λ (x : ℕ × Meaning). x.0) e in
    let least = found_is_longest (p ∷ xs) names place name
    (record { there = at.there; stands = longer_stands (parts name.text.now) p xs at.stands }) in
    omega (arith, some, size, least)

some_item : (found : ℕ × Meaning) (p q : Piece) → 0 < found.0 → item_by found p ≡ item_by found q
some_item found p q h = let some : (found.0 == 0) ≡ false = grind (arith, nat_tests) in rw some refl

letter_number : (k : Kind) (text : List ℕ) → is_letter k ≡ true → number_of_kind k text ≡ bare_number (roman text)
letter_number Letter text h = refl
letter_number _ text h = absurd (true≢false (sym h))

item_same : (names : List Name) (p q : Piece) (xs ys : List Piece) → ArePartsAlike names p q → PartsAlike names xs ys
    → item_in_front names p xs ≡ item_in_front names q ys
unfolding item_in_front
item_same names p q xs ys (inl e) all =
    ap₂ (λ (f : ℕ × Meaning) (x : Piece). item_by f x)
    (longest_same names names (0, Nothing) p q xs ys (λ n. ap (λ (x : Piece). same_word n x.text) e) all
    (λ k m a. a.alone)) e
item_same names p q xs ys (inr (a, b, inl (same, number))) all =
    let found = longest_same names names (0, Nothing) p q xs ys (λ n. same_too n p.text q.text same) all
    (λ k m a. a.alone) in
    ap (λ (f : ℕ × Meaning). item_by f p) found
    ∙ elim number [
      | inl e ↦ ap (λ n. cond ((longest (q ∷ ys) (0, Nothing) names).0 == 0) (alone n)
          (Some ((longest (q ∷ ys) (0, Nothing) names).0 - 1, meant (longest (q ∷ ys) (0, Nothing) names).1)))
          (letter_number p.kind p.text a ∙ ap bare_number e ∙ sym (letter_number q.kind q.text b))
      | inr named ↦ some_item (longest (q ∷ ys) (0, Nothing) names) p q
          (subst (λ (f : ℕ × Meaning). 0 < f.0) found (named_longer names p xs named))
    ]
item_same names p q xs ys (inr (a, b, inr syn)) all =
    let first = alone_longest names (0, Nothing) p xs syn.first.alone ∙ syn.first.means in
    let second = alone_longest names (0, Nothing) q ys syn.second.alone ∙ syn.second.means in
    ap (λ (f : ℕ × Meaning). item_by f p) first ∙ sym (ap (λ (f : ℕ × Meaning). item_by f q) second)

behind_same : (o : Option (ℕ × List Item)) (f g : ℕ → Option (List Item)) → ((more : ℕ) → f more ≡ g more)
    → items_behind o f ≡ items_behind o g
behind_same None f g h = refl
behind_same (Some (n, front)) f g h = ap (λ r. before front r) (h n)

pub items_same : (names : List Name) (more : ℕ) (xs ys : List Piece) → PartsAlike names xs ys
    → items names more xs ≡ items names more ys
unfolding items
items_same names zero [] [] all = refl
items_same names (suc more) [] [] all = refl
items_same names zero [] (q ∷ ys) all = absurd all
items_same names (suc more) [] (q ∷ ys) all = absurd all
items_same names zero (p ∷ xs) [] all = absurd all
items_same names (suc more) (p ∷ xs) [] all = absurd all
items_same names (suc more) (p ∷ xs) (q ∷ ys) all = items_same names more xs ys all.1
items_same names zero (p ∷ xs) (q ∷ ys) all =
    ap (λ o. items_behind o (λ more. items names more xs)) (item_same names p q xs ys all.0 all.1)
    ∙ behind_same (item_in_front names q ys) (λ more. items names more xs) (λ more. items names more ys)
    (λ more. items_same names more xs ys all.1)

-- ---- answers
plain_same : (ts us : List Piece) (order : Order) (found : List Item) → has_two_dashes ts ≡ has_two_dashes us
    → has_mixed_signs ts ≡ has_mixed_signs us → has_bar_between ts ≡ has_bar_between us
    → plain_reading ts order found ≡ plain_reading us order found
plain_same ts us order (Number a ∷ Month m ∷ Number c ∷ []) two mixed bar = refl
plain_same ts us order (Month m ∷ Number a ∷ Number c ∷ []) two mixed bar = rw bar refl
plain_same ts us order (Number a ∷ Number b ∷ Number c ∷ []) two mixed bar = rw (two, mixed) refl
plain_same ts us order _ two mixed bar = refl

or_same : (x y other : Option Reading) → x ≡ y → or_reading x other ≡ or_reading y other
or_same x y other e = rw e refl

reading_same : (f : Form) (choice : Choice) (ts us : List Piece) (found : List Item)
    → plain_reading ts choice.order (beside_weekday found) ≡ plain_reading us choice.order (beside_weekday found)
    → reading_by f choice ts found ≡ reading_by f choice us found
reading_same forms.Civil choice ts us found plain = or_same _ _ _ plain
reading_same forms.Roman choice ts us found plain = refl
reading_same forms.Other choice ts us found plain = refl

says_by : (o : Option (List Item)) (f g : List Item → Answer) → ((found : List Item) → o ≡ Some found
    → f found ≡ g found)
    → answer_by o f ≡ answer_by o g
says_by None f g h = refl
says_by (Some found) f g h = h found refl

-- texts of the same items in which signs let as much be read say the same
pub answer_same : (choice : Choice) (calendar : Calendar) (names : List Name) (a b : List ℕ)
    → is_unread a ≡ is_unread b → found_items calendar names a ≡ found_items calendar names b
    → ((found : List Item) → found_items calendar names a ≡ Some found
    → plain_reading (tokens 0 a) choice.order (beside_weekday found)
    ≡ plain_reading (tokens 0 b) choice.order (beside_weekday found))
    → answer choice calendar names a ≡ answer choice calendar names b
unfolding answer
answer_same choice calendar names a b unread same plain =
    ap₂ (λ (u : Bool) (x : Answer). cond u Stays x) unread
    (says_by (found_items calendar names a) (items_answer choice calendar (tokens 0 a))
    (items_answer choice calendar (tokens 0 b))
    (λ found e. ap (λ r. if_agreed calendar found (date_of choice calendar r))
    (reading_same (form calendar) choice (tokens 0 a) (tokens 0 b) found (plain found e)))
    ∙ ap (λ o. answer_by o (items_answer choice calendar (tokens 0 b))) same)

parts_found : (calendar : Calendar) (names : List Name) (a b : List ℕ)
    → PartsAlike (names_in calendar names) (parts a) (parts b)
    → found_items calendar names a ≡ found_items calendar names b
parts_found calendar names a b all =
    ap (λ o. option_map summed o) (items_same (names_in calendar names) 0 (parts a) (parts b) all)

-- ---- signs only part
unasked : (ts us : List Piece) (order : Order) (found : List Item) → asks_signs found ≡ false
    → plain_reading ts order found ≡ plain_reading us order found
unasked ts us order (Number a ∷ Month m ∷ Number c ∷ []) h = refl
unasked ts us order (Month m ∷ Number a ∷ Number c ∷ []) h = absurd (true≢false h)
unasked ts us order (Number a ∷ Number b ∷ Number c ∷ []) h = absurd (true≢false h)
unasked ts us order _ h = refl

filtered_twice : (ts : List Piece) → parts_in (parts_in ts) ≡ parts_in ts
filtered_twice [] = refl
filtered_twice (p ∷ ts) = by_part (is_part p) refl (filtered_twice ts)
  where
    by_part : (b : Bool) → is_part p ≡ b → parts_in (parts_in ts) ≡ parts_in ts
        → parts_in (cond b (p ∷ parts_in ts) (parts_in ts)) ≡ cond b (p ∷ parts_in ts) (parts_in ts)
    by_part true e rest = ap (λ b. cond b (p ∷ parts_in (parts_in ts)) (parts_in (parts_in ts))) e
        ∙ ap (λ (x : List Piece). p ∷ x) rest
    by_part false e rest = rest

parts_twice : (text : List ℕ) → parts_in (parts text) ≡ parts text
unfolding parts
parts_twice text = filtered_twice (tokens 0 text)

-- ---- what is written
said_text : (a b : List ℕ) (x : Answer) → is_said x ≡ true → answer_text a x ≡ answer_text b x
said_text a b (Date y m d) h = refl
said_text a b (RomanDate y m k c) h = refl
said_text a b Refused h = refl
said_text a b _ h = absurd (true≢false (sym h))

found_said : (x : Answer) → is_found x ≡ true → is_said x ≡ true
found_said (Date y m d) h = refl
found_said Refused h = refl
found_said _ h = absurd (true≢false (sym h))

abbrev Runs : Type 0
Runs = Option (List ℕ × List ℕ × List ℕ)

written_same : (choice : Choice) (calendar : Calendar) (names : List Name) (a b : List ℕ) (below runs : Runs)
    → answer choice calendar names a ≡ answer choice calendar names b
    → (is_some runs || is_found (answer choice calendar names a)) ≡ true
    → written_by choice calendar names a below runs ≡ written_by choice calendar names b below runs
written_same choice calendar names a b (Some r) runs says h = refl
written_same choice calendar names a b None (Some r) says h = refl
written_same choice calendar names a b None None says h =
    said_text a b (answer choice calendar names a) (found_said (answer choice calendar names a) h)
    ∙ ap (answer_text b) says

pub dated_said : (choice : Choice) (calendar : Calendar) (names : List Name) (text : List ℕ)
    → is_dated choice calendar names text
    ≡ (is_some (unless_turned choice.order (three_runs (tokens 0 text))) || is_found
    (answer choice calendar names text))
unfolding is_dated
dated_said choice calendar names text = refl

abbrev is_civil : Form → Bool
is_civil forms.Civil = true
is_civil f = false

-- only where dates are years, months and days days begin at midnight
midnight : (calendar : Calendar) → is_civil (form calendar) ≡ false → begins_at_midnight calendar ≡ false
midnight Gregorian h = absurd (true≢false h)
midnight Julian h = absurd (true≢false h)
midnight French h = absurd (true≢false h)
midnight Republican h = absurd (true≢false h)
midnight _ h = refl

whole_text : (choice : Choice) (calendar : Calendar) (names : List Name) (text : List ℕ)
    → begins_at_midnight calendar ≡ false → dated_text choice calendar names text ≡ text
unfolding dated_text before_time
whole_text choice calendar names text h = rw h refl

-- dates as registers have them stand in both, or in none
abbrev SameRuns : List Piece → List Piece → Type 0
SameRuns ts us = (three_runs ts ≡ three_runs us) × (runs_behind_minus ts ≡ runs_behind_minus us)

written_by_form : (f : Form) (choice : Choice) (calendar : Calendar) (names : List Name) (a b : List ℕ)
    → form calendar ≡ f → SameRuns (tokens 0 a) (tokens 0 b)
    → answer choice calendar names a ≡ answer choice calendar names b
    → is_read f choice calendar names a ≡ is_read f choice calendar names b
    → is_read f choice calendar names a ≡ true
    → written_form f choice calendar names (dated_text choice calendar names a)
    ≡ written_form f choice calendar names (dated_text choice calendar names b)
written_by_form forms.Civil choice calendar names a b e same says reads h =
    ap (civil_text choice calendar names) (dated_whole choice calendar names a h)
    ∙ written_same choice calendar names a b (runs_behind_minus (tokens 0 a))
    (unless_turned choice.order (three_runs (tokens 0 a))) says (sym (dated_said choice calendar names a) ∙ h)
    ∙ ap₂ (written_by choice calendar names b) same.1 (ap (unless_turned choice.order) same.0)
    ∙ ap (civil_text choice calendar names) (sym (dated_whole choice calendar names b (sym reads ∙ h)))
written_by_form forms.Roman choice calendar names a b e same says reads h =
    let never = midnight calendar (ap is_civil e) in
    ap (λ t. answer_text t (answer choice calendar names t)) (whole_text choice calendar names a never)
    ∙ said_text a b (answer choice calendar names a) h ∙ ap (answer_text b) says
    ∙ ap (λ t. answer_text t (answer choice calendar names t)) (sym (whole_text choice calendar names b never))
written_by_form forms.Other choice calendar names a b e same says reads h =
    let never = midnight calendar (ap is_civil e) in
    ap (λ t. answer_text t (answer choice calendar names t)) (whole_text choice calendar names a never)
    ∙ said_text a b (answer choice calendar names a) h ∙ ap (answer_text b) says
    ∙ ap (λ t. answer_text t (answer choice calendar names t)) (sym (whole_text choice calendar names b never))

reads_same : (f : Form) (choice : Choice) (calendar : Calendar) (names : List Name) (a b : List ℕ)
    → SameRuns (tokens 0 a) (tokens 0 b) → answer choice calendar names a ≡ answer choice calendar names b
    → is_read f choice calendar names a ≡ is_read f choice calendar names b
reads_same forms.Civil choice calendar names a b same says =
    dated_said choice calendar names a
    ∙ ap₂ (λ (r : Runs) (x : Answer). is_some (unless_turned choice.order r) || is_found x) same.0 says
    ∙ sym (dated_said choice calendar names b)
reads_same forms.Roman choice calendar names a b same says = ap is_said says
reads_same forms.Other choice calendar names a b same says = ap is_said says

say_same : (choice : Choice) (calendar : Calendar) (names : List Name) (a b : List ℕ)
    → SameRuns (tokens 0 a) (tokens 0 b) → answer choice calendar names a ≡ answer choice calendar names b
    → SayTheSame choice calendar names a b
say_same choice calendar names a b same says =
    let reads = reads_same (form calendar) choice calendar names a b same says in
    record {
      says = says;
      reads = reads;
      writes = λ h. written_by_form (form calendar) choice calendar names a b refl same says reads h;
    }

seen_same : (choice : Choice) (calendar : Calendar) (names : List Name) (a b : List ℕ)
    → SeenAlike (tokens 0 a) (tokens 0 b) → PartsAlike (names_in calendar names) (parts a) (parts b)
    → SayTheSame choice calendar names a b
seen_same choice calendar names a b seen alike =
    let unread : is_unread a ≡ is_unread b
    = ap₂ (λ x y. x || y) (ap₂ (λ x y. x || y) seen.other seen.minus) seen.dash in
    say_same choice calendar names a b (seen.runs, seen.below)
    (answer_same choice calendar names a b unread (parts_found calendar names a b alike)
    (λ found e. plain_same (tokens 0 a) (tokens 0 b) choice.order (beside_weekday found) seen.two seen.mixed seen.bar))

squeezed_parts : (text : List ℕ) → parts_in (squeezed text) ≡ parts text
unfolding parts
squeezed_parts text = squeezed_same parts_in (tokens 0 text) filtered (tokens_honest 0 text)

honest_squeezed : (text : List ℕ) → are_honest (squeezed text) ≡ true
honest_squeezed text =
    squeezed_same are_honest (tokens 0 text) (no_blanks are_honest honest) (tokens_honest 0 text) ∙ tokens_honest 0 text

pub alike_texts_say_the_same : AlikeTextsSayTheSame
alike_texts_say_the_same choice calendar names a b all =
    let own = names_in calendar names in
    let seen = seen_through (tokens 0 a) (squeezed a) (squeezed b) (tokens 0 b)
    (squeezed_seen (tokens 0 a) (tokens_honest 0 a))
    (alike_seen own (squeezed a) (squeezed b) (honest_squeezed a) (honest_squeezed b) all)
    (squeezed_seen (tokens 0 b) (tokens_honest 0 b)) in
    let alike : PartsAlike own (parts a) (parts b)
    = subst (λ (y : List Piece). PartsAlike own (parts a) y) (squeezed_parts b)
    (subst (λ (x : List Piece). PartsAlike own x (parts_in (squeezed b))) (squeezed_parts a)
    (parts_alike own (squeezed a) (squeezed b) all)) in
    seen_same choice calendar names a b seen alike

-- ---- signs only part
no_hyphen_in : (k : Kind) (ts : List Piece) → is_dash k ≡ false → if_hyphen k ts ≡ None
no_hyphen_in Hyphen ts h = absurd (true≢false h)
no_hyphen_in _ ts h = refl

no_runs_below : (ts : List Piece) → begins_with_dash ts ≡ false → (behind_hyphen ts >>= runs_in_front) ≡ None
unfolding behind_hyphen
no_runs_below [] h = refl
no_runs_below (p ∷ ts) h = ap (λ o. o >>= runs_in_front) (no_hyphen_in p.kind ts h)

quiet_runs : (text : List ℕ) → is_unread text ≡ false → runs_behind_minus (tokens 0 text) ≡ None
quiet_runs text h =
    no_runs_below (bare (tokens 0 text))
    (or_parts (has_other (tokens 0 text) || has_minus (tokens 0 text)) (begins_with_dash (bare (tokens 0 text))) h).1

pub signs_only_part : SignsOnlyPart
signs_only_part choice calendar names a b found all left right no_date no_other_date is quiet =
    let alike : PartsAlike (names_in calendar names) (parts a) (parts b)
    = subst (λ (y : List Piece). PartsAlike (names_in calendar names) (parts a) y) (parts_twice b)
    (subst (λ (x : List Piece). PartsAlike (names_in calendar names) x (parts_in (parts b))) (parts_twice a)
    (parts_alike (names_in calendar names) (parts a) (parts b) all)) in
    say_same choice calendar names a b (no_date ∙ sym no_other_date, quiet_runs a left ∙ sym (quiet_runs b right))
    (answer_same choice calendar names a b (left ∙ sym right) (parts_found calendar names a b alike)
    (λ other e. unasked (tokens 0 a) (tokens 0 b) choice.order (beside_weekday other)
    (subst (λ (x : List Item). asks_signs (beside_weekday x) ≡ false) (let s : found ≡ other = some_one (sym is
    ∙ e) in s)
    quiet)))
  where
    some_one : {x y : List Item} → Some x ≡ Some y → x ≡ y
    some_one e = cc
