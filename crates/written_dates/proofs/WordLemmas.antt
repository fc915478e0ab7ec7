-- Characters are put in canonical order one by one.
use Rattle.std.proofs.Common.{◌≡◌, ℕ, zero, suc, ◌+◌, ◌<◌, ◌≤◌, true, false, List, [], ◌∷◌, ◌++◌, length, take, drop}
use Rattle.std.proofs.Common.{Bool, IsAscii, IsUtf8, bytes_eq, chars, flat_map, nat_le, ◌&&◌, ◌↔◌, IsTrue}
use Rattle.std.proofs.Common.{ap₂}
use Rattle.std.proofs.lemmas.List.{length-map}
use Rattle.std.specs.Bool.{beq, Decides}
use Rattle.std.specs.Cmp.{IsEquivalence, bool_eq_equiv, booleans_Decides}
use Rattle.std.proofs.lemmas.Cmp.{and_equiv, nat_list_eq_equiv, on_equiv}
use Rattle.std.specs.Char.{to_ascii_lowercase}
use Rattle.std.proofs.lemmas.Bool.{and_from, and_parts}
use Rattle.std.specs.Str.{is_utf8, str_to_ascii_lowercase}
use Rattle.std.proofs.lemmas.Bool.Decides.{nat_tests}
use Rattle.std.proofs.lemmas.Grind.{flat_map-append}
use Rattle.std.proofs.lemmas.Slice.Eq.{bytes_eq-Decides}
use Rattle.std.proofs.lemmas.Str.{chars-IsAscii, IsUtf8-from_ascii, IsUtf8-from_is_utf8, is_utf8-from_IsUtf8}
use Rattle.std.proofs.Common.{get_or, refl, sym, ap, ◌∙◌, arith, append_assoc, append-nil, length-append}
use Rattle.unicode_normalization.specs.Lookups.{canonical_combining_class as ccc}
use Rattle.unicode_normalization.specs.Order.{is_reorderable, is_ordered, canonical_order}
use Rattle.unicode_normalization.proofs.OrderLemmas.{canonical_order-exchange, canonical_order-front}
use Rattle.unicode_normalization.proofs.OrderLemmas.{canonical_order-ordered}
use Rattle.unicode_normalization.proofs.OrderLemmas.{is_ordered-canonical_order, is_ordered-cons, is_ordered-one}
use Rattle.unicode_normalization.proofs.OrderLemmas.{is_ordered-parts}
use Rattle.unicode_normalization.proofs.OrderLemmas.{is_ordered-tail, is_reorderable_from, not_reorderable_rising}
use Rattle.caseless.specs.Caseless.{canonical_key, default_case_fold}
use Rattle.caseless.proofs.CaselessLemmas.{All-chars, canonical_key-ascii, default_case_fold-append}
use Rattle.caseless.proofs.CaselessLemmas.{default_case_fold-ascii}
use Rattle.caseless.proofs.CaselessLemmas.{default_case_fold-cons, default_case_fold-nil}
use Rattle.ucd_case.specs.CaseFolding.{full_fold}
use Rattle.unicode_normalization.specs.Decompose.{decompose_canonical}
use Rattle.unicode_normalization.specs.Forms.{Nfd, decomposed, nfd, normalize}
use Rattle.unicode_normalization.proofs.FormsLemmas.{normalize-ascii}
use Rattle.unicode_normalization.proofs.OrderLemmas.{canonical_order-nil, length-canonical_order}
use Rattle.written_dates.specs.private.WordViews.{OrdersMore}
use Rattle.written_dates.specs.private.Keys.{key_of, key_of_chars}
use Rattle.written_dates.specs.Words.{folded, is_folded, is_short, same_word}

-- a character and others, among which it is to stand at this place or before
pub record IsPlace (chars : List ℕ) (c place : ℕ) : Type 0 where
  pub within : place ≤ length chars
  pub same : canonical_order (take place chars ++ c ∷ drop place chars) ≡ canonical_order (chars ++ c ∷ [])
  pub behind : is_ordered chars ≡ true → is_ordered (c ∷ drop place chars) ≡ true

take_length : (xs : List ℕ) → take (length xs) xs ≡ xs
take_length [] = refl
take_length (x ∷ xs) = ap (λ l. x ∷ l) (take_length xs)

drop_length : (xs : List ℕ) → drop (length xs) xs ≡ []
drop_length [] = refl
drop_length (x ∷ xs) = drop_length xs

pub IsPlace-end : (chars : List ℕ) (c place : ℕ) → place ≡ length chars → IsPlace chars c place
IsPlace-end chars c place e = rw e (record {
  within = omega arith;
  same = rw (take_length chars, drop_length chars) refl;
  behind = λ h. rw (drop_length chars) (is_ordered-one c);
})

split_at : (chars : List ℕ) (q : ℕ) → q < length chars → take (q + 1) chars ≡ take q chars ++ get_or chars q 0 ∷ []
split_at [] q h = absurd (omega arith)
split_at (x ∷ xs) zero h = refl
split_at (x ∷ xs) (suc q) h =
    let e : suc q + 1 ≡ suc (q + 1) = omega arith in rw e (ap (λ l. x ∷ l) (split_at xs q (omega arith)))

drop_at : (chars : List ℕ) (q : ℕ) → q < length chars → drop q chars ≡ get_or chars q 0 ∷ drop (q + 1) chars
drop_at [] q h = absurd (omega arith)
drop_at (x ∷ xs) zero h = refl
drop_at (x ∷ xs) (suc q) h = let e : suc q + 1 ≡ suc (q + 1) = omega arith in rw e (drop_at xs q (omega arith))

ordered_drop : (chars : List ℕ) (q : ℕ) → is_ordered chars ≡ true → is_ordered (drop q chars) ≡ true
ordered_drop chars zero h = h
ordered_drop [] (suc q) h = h
ordered_drop (x ∷ xs) (suc q) h = ordered_drop xs q (is_ordered-tail x xs h)

-- it stands before a character of a higher class
pub IsPlace-before : (chars : List ℕ) (c place q : ℕ) → place ≡ q + 1 → 0 < ccc c → ccc c < ccc (get_or chars q 0)
    → IsPlace chars c place → IsPlace chars c q
IsPlace-before chars c place q e some higher h =
    let within : q < length chars = omega (arith, h.within) in
    let a : ℕ = get_or chars q 0 in
    let at : drop q chars ≡ a ∷ drop (q + 1) chars = drop_at chars q within in
    let front : take (q + 1) chars ≡ take q chars ++ a ∷ [] = split_at chars q within in
    let so : canonical_order (take (q + 1) chars ++ c ∷ drop (q + 1) chars) ≡ canonical_order (chars ++ c ∷ [])
    = rw e at h.same in
    let joined : take (q + 1) chars ++ c ∷ drop (q + 1) chars ≡ take q chars ++ a ∷ c ∷ drop (q + 1) chars
    = ap (λ l. l ++ c ∷ drop (q + 1) chars) front ∙ append_assoc (take q chars) (a ∷ []) (c ∷ drop (q + 1) chars) in
    record {
      within = omega arith;
      same = ap (λ l. canonical_order (take q chars ++ c ∷ l)) at
          ∙ sym (canonical_order-exchange (take q chars) a c (drop (q + 1) chars) (is_reorderable_from a c some higher))
          ∙ ap canonical_order (sym joined) ∙ so;
      behind = λ o.
          let rest : is_ordered (a ∷ drop (q + 1) chars) ≡ true = ap is_ordered (sym at) ∙ ordered_drop chars q o in
          ap (λ l. is_ordered (c ∷ l)) at
          ∙ is_ordered-cons c a (drop (q + 1) chars) (not_reorderable_rising c a (omega arith)) rest;
    }

-- in order, where nothing in front of it is of a higher class
ordered_in : (chars : List ℕ) (place c : ℕ) → place ≤ length chars → is_ordered chars ≡ true
    → is_ordered (c ∷ drop place chars) ≡ true
    → ((q : ℕ) → place ≡ suc q → is_reorderable (get_or chars q 0) c ≡ false)
    → is_ordered (take place chars ++ c ∷ drop place chars) ≡ true
ordered_in chars zero c w o b last = b
ordered_in [] (suc p) c w o b last = absurd (omega arith)
ordered_in (x ∷ xs) (suc zero) c w o b last = is_ordered-cons x c xs (last 0 refl) b
ordered_in (x ∷ []) (suc (suc p)) c w o b last = absurd (omega arith)
ordered_in (x ∷ y ∷ ys) (suc (suc p)) c w o b last =
    let parts = is_ordered-parts x y ys o in
    is_ordered-cons x y (take p ys ++ c ∷ drop p ys) parts.0
    (ordered_in (y ∷ ys) (suc p) c (omega arith) parts.1 b (λ q e. last (suc q) (ap suc e)))

pub IsPlace-found : (chars : List ℕ) (c place : ℕ) → IsPlace chars c place
    → ((q : ℕ) → place ≡ suc q → is_reorderable (get_or chars q 0) c ≡ false)
    → (xs : List ℕ) → chars ≡ canonical_order xs
    → take place chars ++ c ∷ drop place chars ≡ canonical_order (xs ++ c ∷ [])
IsPlace-found chars c place h last xs e =
    let o : is_ordered chars ≡ true = ap is_ordered e ∙ is_ordered-canonical_order xs in
    sym (canonical_order-ordered _ (ordered_in chars place c h.within o (h.behind o) last)) ∙ h.same
    ∙ ap (λ l. canonical_order (l ++ c ∷ [])) e ∙ canonical_order-front xs (c ∷ [])

-- ---- a list, part by part
in_parts : (all : List ℕ) (n c : ℕ) → n < length all → c ≡ get_or all n c
    → all ≡ (take n all ++ c ∷ []) ++ drop (n + 1) all
in_parts [] n c h e = absurd (omega arith)
in_parts (x ∷ xs) zero c h e = ap (λ y. y ∷ xs) (sym e)
in_parts (x ∷ xs) (suc n) c h e =
    let s : suc n + 1 ≡ suc (n + 1) = omega arith in rw s (ap (λ l. x ∷ l) (in_parts xs n c (omega arith) e))

pub one_more : (all : List ℕ) (n c : ℕ) → n < length all → c ≡ get_or all n c
    → take (n + 1) all ≡ take n all ++ c ∷ []
one_more [] n c h e = absurd (omega arith)
one_more (x ∷ xs) zero c h e = ap (λ y. y ∷ []) (sym e)
one_more (x ∷ xs) (suc n) c h e =
    let s : suc n + 1 ≡ suc (n + 1) = omega arith in rw s (ap (λ l. x ∷ l) (one_more xs n c (omega arith) e))

-- a function that works part by part gives no less for the whole than for two parts
at_least : (g : List ℕ → List ℕ) → ((xs ys : List ℕ) → g (xs ++ ys) ≡ g xs ++ g ys) → (all : List ℕ) (n c : ℕ)
    → n < length all → c ≡ get_or all n c → length (g (take n all)) + length (g (c ∷ [])) ≤ length (g all)
at_least g joins all n c h e =
    let whole : g all ≡ (g (take n all) ++ g (c ∷ [])) ++ g (drop (n + 1) all)
    = ap g (in_parts all n c h e) ∙ joins (take n all ++ c ∷ []) (drop (n + 1) all)
    ∙ ap (λ l. l ++ g (drop (n + 1) all)) (joins (take n all) (c ∷ [])) in
    let first = length-append (g (take n all)) (g (c ∷ [])) in
    let both = length-append (g (take n all) ++ g (c ∷ [])) (g (drop (n + 1) all)) in
    omega (arith, ap length whole, first, both)

pub nfd-ordered : (cs : List ℕ) → nfd cs ≡ canonical_order (flat_map decompose_canonical cs)
unfolding normalize decomposed
nfd-ordered cs = refl

pub too_long : (out all : List ℕ) (n c : ℕ) → n < length all → c ≡ get_or all n c
    → out ≡ canonical_order (flat_map decompose_canonical (take n all))
    → 64 < length out + length (decompose_canonical c) → 64 < length (nfd all)
too_long out all n c h e is long =
    let one : length (flat_map decompose_canonical (c ∷ [])) ≡ length (decompose_canonical c)
    = ap length (append-nil (decompose_canonical c)) in
    omega (
      arith,
      at_least (flat_map decompose_canonical) (flat_map-append decompose_canonical) all n c h e,
      one,
      ap length is,
      length-canonical_order (flat_map decompose_canonical (take n all)),
      ap length (nfd-ordered all),
      length-canonical_order (flat_map decompose_canonical all),
    )

-- ---- folded, and decomposed again
abbrev pub again : List ℕ → List ℕ
again cs = flat_map decompose_canonical (default_case_fold cs)

again-append : (xs ys : List ℕ) → again (xs ++ ys) ≡ again xs ++ again ys
again-append xs ys =
    ap (flat_map decompose_canonical) (default_case_fold-append xs ys)
    ∙ flat_map-append decompose_canonical (default_case_fold xs) (default_case_fold ys)

again-one : (c : ℕ) → again (c ∷ []) ≡ flat_map decompose_canonical (full_fold c)
again-one c =
    ap (flat_map decompose_canonical) (default_case_fold-cons c [] ∙ ap (λ l. full_fold c ++ l) default_case_fold-nil
    ∙ append-nil (full_fold c))

pub order-none : [] ≡ canonical_order []
order-none = sym canonical_order-nil

pub again-none : [] ≡ canonical_order (again [])
again-none = order-none ∙ ap (λ l. canonical_order (flat_map decompose_canonical l)) (sym default_case_fold-nil)

pub again-more : (out new all : List ℕ) (n c : ℕ) → n < length all → c ≡ get_or all n c
    → out ≡ canonical_order (again (take n all)) → OrdersMore out new (flat_map decompose_canonical (full_fold c))
    → new ≡ canonical_order (again (take (n + 1) all))
again-more out new all n c h e is more =
    more.at (again (take n all)) is
    ∙ ap canonical_order (sym (ap again (one_more all n c h e) ∙ again-append (take n all) (c ∷ [])
    ∙ ap (λ l. again (take n all) ++ l) (again-one c)))

pub again-long : (out all : List ℕ) (n c : ℕ) → n < length all → c ≡ get_or all n c
    → out ≡ canonical_order (again (take n all))
    → 64 < length out + length (flat_map decompose_canonical (full_fold c)) → 64 < length (nfd (default_case_fold all))
again-long out all n c h e is long =
    omega (
      arith,
      at_least again again-append all n c h e,
      ap length (again-one c),
      ap length is,
      length-canonical_order (again (take n all)),
      ap length (nfd-ordered (default_case_fold all)),
      length-canonical_order (again all),
    )

-- ---- words
short-true : (cs : List ℕ) → length cs ≤ 64 → is_short cs ≡ true
short-true cs h = grind (arith, nat_tests)

short-false : (cs : List ℕ) → 64 < length cs → is_short cs ≡ false
short-false cs h = grind (arith, nat_tests)

pub is_folded-true : (word : List ℕ) → IsUtf8 word → length (nfd (chars word)) ≤ 64
    → length (canonical_key (chars word)) ≤ 64 → is_folded word ≡ true
unfolding is_folded
is_folded-true word text first second =
    and_from _ _ (and_from _ _ (is_utf8-from_IsUtf8 word text) (short-true _ first)) (short-true _ second)

second_none : (x y z : Bool) → y ≡ false → ((x && y) && z) ≡ false
second_none true y z e = rw e refl
second_none false y z e = refl

third_none : (x y z : Bool) → z ≡ false → ((x && y) && z) ≡ false
third_none true true z e = e
third_none true false z e = refl
third_none false y z e = refl

pub is_folded-long : (word : List ℕ) → 64 < length (nfd (chars word)) → is_folded word ≡ false
unfolding is_folded
is_folded-long word long = second_none _ _ _ (short-false _ long)

pub is_folded-longer : (word : List ℕ) → 64 < length (canonical_key (chars word)) → is_folded word ≡ false
unfolding is_folded
is_folded-longer word long = third_none (is_utf8 word) (is_short (nfd (chars word))) _ (short-false _ long)

pub is_folded-bytes : (word : List ℕ) → ¬ (IsUtf8 word) → is_folded word ≡ false
unfolding is_folded
is_folded-bytes word none =
    let told : (x : Bool) → is_utf8 word ≡ x
    → ((x && is_short (nfd (chars word))) && is_short (canonical_key (chars word))) ≡ false
    = λ x. elim x as (λ x. is_utf8 word ≡ x
    → ((x && is_short (nfd (chars word))) && is_short (canonical_key (chars word))) ≡ false) [
      | true ↦ λ e. absurd (none (IsUtf8-from_is_utf8 word e))
      | false ↦ λ e. refl
    ] in
    told (is_utf8 word) refl

pub folded-read : (word : List ℕ) → is_folded word ≡ true → folded word ≡ canonical_key (chars word)
unfolding folded
folded-read word e = rw e refl

pub folded-plain : (word : List ℕ) → is_folded word ≡ false → folded word ≡ str_to_ascii_lowercase word
unfolding folded
folded-plain word e = rw e refl

-- ---- words of ASCII
pub key-ascii : (word : List ℕ) → IsAscii word → canonical_key (chars word) ≡ str_to_ascii_lowercase word
key-ascii word ascii =
    let all = All-chars word ascii in
    canonical_key-ascii (chars word) all ∙ default_case_fold-ascii (chars word) all
    ∙ ap str_to_ascii_lowercase (chars-IsAscii word ascii)

pub folded-ascii : (word : List ℕ) → IsAscii word → folded word ≡ str_to_ascii_lowercase word
folded-ascii word ascii =
    let key = key-ascii word ascii in
    let told : (x : Bool) → is_folded word ≡ x → folded word ≡ str_to_ascii_lowercase word
    = λ x. elim x as (λ x. is_folded word ≡ x → folded word ≡ str_to_ascii_lowercase word) [
      | true ↦ λ e. folded-read word e ∙ key
      | false ↦ λ e. folded-plain word e
    ] in
    told (is_folded word) refl

ascii_by : (x y z w : Bool) → x ≡ true → y ≡ w → z ≡ w → ((x && y) && z) ≡ w
ascii_by true true z w e f g = g
ascii_by true false z w e f g = f
ascii_by false y z w e f g = absurd (cc)

pub is_folded-ascii : (word : List ℕ) → IsAscii word → is_folded word ≡ is_short word
unfolding is_folded
is_folded-ascii word ascii =
    let cs : chars word ≡ word = chars-IsAscii word ascii in
    let all = All-chars word ascii in
    let first : nfd (chars word) ≡ word = normalize-ascii Nfd (chars word) all ∙ cs in
    let key = key-ascii word ascii in
    let second : length (canonical_key (chars word)) ≡ length word = ap length key ∙ length-map word to_ascii_lowercase in
    let utf8 : is_utf8 word ≡ true = is_utf8-from_IsUtf8 word (IsUtf8-from_ascii word ascii) in
    ascii_by (is_utf8 word) (is_short (nfd (chars word))) (is_short (canonical_key (chars word))) (is_short word)
    utf8 (ap is_short first) (ap (λ n. nat_le n 64) second)

pub short-ascii : (word : List ℕ) → IsAscii word → (length word ≤ 64) → is_folded word ≡ true
short-ascii word ascii few = is_folded-ascii word ascii ∙ few_is (length word) few
  where
    few_is : (n : ℕ) → n ≤ 64 → nat_le n 64 ≡ true
    few_is n few = grind (arith, nat_tests)

pub long-ascii : (word : List ℕ) → IsAscii word → 64 < length word → is_folded word ≡ false
long-ascii word ascii many = is_folded-ascii word ascii ∙ many_is (length word) many
  where
    many_is : (n : ℕ) → 64 < n → nat_le n 64 ≡ false
    many_is n many = grind (arith, nat_tests)

pub same_word-Decides : (a b : List ℕ) → Decides (same_word a b) ((is_folded a ≡ is_folded b) × (folded a ≡ folded b))
unfolding same_word
same_word-Decides a b =
    let flags = booleans_Decides (is_folded a) (is_folded b) in
    let texts = bytes_eq-Decides (folded a) (folded b) in (
      λ e. (let both = and_parts (beq (is_folded a) (is_folded b)) (bytes_eq (folded a) (folded b)) e in
          (flags.0 both.0, texts.0 both.1)),
      λ e. and_from _ _ (flags.1 e.0) (texts.1 e.1),
    )

pub same_word_equiv : IsEquivalence same_word
unfolding same_word
same_word_equiv = and_equiv (on_equiv is_folded bool_eq_equiv) (on_equiv folded nat_list_eq_equiv)

-- a test that says the same
pub by_cases : (x y : Bool) → (x ≡ true → y ≡ true) → (y ≡ true → x ≡ true) → x ≡ y
by_cases true y f g = sym (f refl)
by_cases false true f g = g refl
by_cases false false f g = refl

pub same_ascii : (r : Bool) (a b : List ℕ) → IsAscii a → IsAscii b
    → (IsTrue r ↔ (str_to_ascii_lowercase a ≡ str_to_ascii_lowercase b)) → r ≡ same_word a b
same_ascii r a b left right test =
    let d = same_word-Decides a b in
    let of_a = folded-ascii a left in
    let of_b = folded-ascii b right in
    by_cases r (same_word a b)
    (λ e. (let same = test.0 e in
    let long : length a ≡ length b
    = sym (length-map a to_ascii_lowercase) ∙ ap length same ∙ length-map b to_ascii_lowercase in
    d.1 (is_folded-ascii a left ∙ ap (λ n. nat_le n 64) long ∙ sym (is_folded-ascii b right), of_a ∙ same ∙ sym of_b)))
    (λ e. test.1 (sym of_a ∙ (d.0 e).1 ∙ of_b))

pub same_read : (a b x y : List ℕ) → is_folded a ≡ true → is_folded b ≡ true → x ≡ canonical_key (chars a)
    → y ≡ canonical_key (chars b) → bytes_eq x y ≡ same_word a b
unfolding same_word
same_read a b x y e f g h =
    rw (e, f) (ap₂ bytes_eq (g ∙ sym (folded-read a e)) (h ∙ sym (folded-read b f)))

pub same_plain : (r : Bool) (a b : List ℕ) → is_folded a ≡ false → is_folded b ≡ false
    → (IsTrue r ↔ (str_to_ascii_lowercase a ≡ str_to_ascii_lowercase b)) → r ≡ same_word a b
same_plain r a b e f test =
    let d = same_word-Decides a b in
    by_cases r (same_word a b)
    (λ t. d.1 (e ∙ sym f, folded-plain a e ∙ test.0 t ∙ sym (folded-plain b f)))
    (λ t. test.1 (sym (folded-plain a e) ∙ (d.0 t).1 ∙ folded-plain b f))

pub key_of_none : key_of [] ≡ 0
key_of_none = ap key_of_chars (folded-ascii [] (λ i. omega arith))
