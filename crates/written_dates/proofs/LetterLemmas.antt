-- Words that differ in the case of A to Z alone are the same.
use Rattle.std.proofs.Common.{◌≡◌, ℕ, suc, ◌<◌, ◌≤◌, Bool, true, false, ◌&&◌, IsUtf8, List, [], ◌∷◌, ◌++◌, length}
use Rattle.std.proofs.Common.{get_or, chars, encode_utf8, encode_utf8_all, flat_map, nat_le, refl, sym, ap}
use Rattle.std.proofs.Common.{ap₂, ◌∙◌, arith, inl, inr, append-nil, subst, ◌↔◌}
use Rattle.std.specs.Char.{IsScalar, to_ascii_lowercase}
use lib.Utf8.{scalar}
use Rattle.std.specs.Str.{all_scalars, is_utf8, str_to_ascii_lowercase}
use Rattle.std.proofs.lemmas.Bool.{and_from, and_parts, cases_Bool, cases_lt}
use Rattle.std.proofs.lemmas.Bool.Decides.{nat_tests}
use Rattle.std.proofs.lemmas.List.{length-map, map-append}
use Rattle.std.proofs.lemmas.Str.{IsUtf8-append, IsUtf8-encode, IsUtf8-from_is_utf8, IsUtf8-nil}
use Rattle.std.proofs.lemmas.Str.{chars-encodes, encode_ascii}
use Rattle.std.proofs.lemmas.Str.{inside_one, is_utf8-from_IsUtf8}
use Rattle.ucd_case.specs.CaseFolding.{full_fold}
use Rattle.ucd_case.proofs.CaseFoldingLemmas.{full_fold-ascii}
use Rattle.caseless.specs.Caseless.{IsCanonicalMatch, canonical_key, default_case_fold}
use Rattle.caseless.proofs.CaselessLemmas.{default_case_fold-cons}
use Rattle.unicode_normalization.specs.Decompose.{decompose_canonical}
use Rattle.unicode_normalization.specs.Forms.{Nfd, nfd}
use Rattle.unicode_normalization.specs.Lookups.{canonical_combining_class as ccc}
use Rattle.unicode_normalization.specs.Order.{canonical_order, is_reorderable, sink}
use Rattle.unicode_normalization.proofs.DecomposeLemmas.{decompose-final}
use Rattle.unicode_normalization.proofs.FormsLemmas.{class-latin, is_final-Nfd, quick_check-ascii}
use Rattle.unicode_normalization.proofs.OrderLemmas.{canonical_order-cons, canonical_order-nil, sink-nil}
use Rattle.unicode_normalization.proofs.OrderLemmas.{sink-past, sink-stays}
use Rattle.written_dates.specs.Words.{folded, is_folded, is_short, same_word}
use Rattle.written_dates.proofs.WordLemmas.{by_cases, folded-plain, folded-read, nfd-ordered, same_word-Decides}

-- ---- one letter
lower_twice : (c : ℕ) → to_ascii_lowercase (to_ascii_lowercase c) ≡ to_ascii_lowercase c
lower_twice c = grind (arith, nat_tests)

pub lower_small : (c : ℕ) → c < 128 → to_ascii_lowercase c < 128
lower_small c h = grind (arith, nat_tests)

pub lower_large : (c : ℕ) → 128 ≤ c → to_ascii_lowercase c ≡ c
lower_large c h = grind (arith, nat_tests)

class_lower : (c : ℕ) → ccc (to_ascii_lowercase c) ≡ ccc c
class_lower c =
    elim (cases_lt c 128) [
      | inl small ↦ class-latin _ (omega (arith, lower_small c small)) ∙ sym (class-latin c (omega arith))
      | inr large ↦ ap ccc (lower_large c large)
    ]

part_ascii : (c : ℕ) → c < 128 → decompose_canonical c ≡ c ∷ []
part_ascii c h = decompose-final Nfd c (is_final-Nfd c (quick_check-ascii Nfd c h))

part_lower : (c : ℕ)
    → str_to_ascii_lowercase (decompose_canonical (to_ascii_lowercase c)) ≡ str_to_ascii_lowercase (decompose_canonical c)
part_lower c =
    elim (cases_lt c 128) [
      | inl small ↦
          ap str_to_ascii_lowercase (part_ascii (to_ascii_lowercase c) (lower_small c small))
          ∙ ap (λ x. x ∷ []) (lower_twice c) ∙ sym (ap str_to_ascii_lowercase (part_ascii c small))
      | inr large ↦ ap (λ x. str_to_ascii_lowercase (decompose_canonical x)) (lower_large c large)
    ]

fold_one : (c : ℕ) → full_fold (to_ascii_lowercase c) ≡ full_fold c
fold_one c =
    elim (cases_lt c 128) [
      | inl small ↦
          full_fold-ascii (to_ascii_lowercase c) (lower_small c small) ∙ ap (λ x. x ∷ []) (lower_twice c)
          ∙ sym (full_fold-ascii c small)
      | inr large ↦ ap full_fold (lower_large c large)
    ]

-- ---- characters
twice : (cs : List ℕ) → str_to_ascii_lowercase (str_to_ascii_lowercase cs) ≡ str_to_ascii_lowercase cs
twice [] = refl
twice (c ∷ cs) = ap₂ ◌∷◌ (lower_twice c) (twice cs)

reorder_lower : (a b : ℕ) → is_reorderable (to_ascii_lowercase a) (to_ascii_lowercase b) ≡ is_reorderable a b
unfolding is_reorderable
reorder_lower a b = rw (class_lower a, class_lower b) refl

sink_lower : (c : ℕ) (ds : List ℕ)
    → str_to_ascii_lowercase (sink c ds) ≡ sink (to_ascii_lowercase c) (str_to_ascii_lowercase ds)
sink_lower c [] = ap str_to_ascii_lowercase (sink-nil c) ∙ sym (sink-nil (to_ascii_lowercase c))
sink_lower c (d ∷ ds) =
    elim (cases_Bool (is_reorderable c d)) [
      | inl past ↦
          ap str_to_ascii_lowercase (sink-past c d ds past) ∙ ap (λ l. to_ascii_lowercase d ∷ l) (sink_lower c ds)
          ∙ sym (sink-past (to_ascii_lowercase c) (to_ascii_lowercase d) (str_to_ascii_lowercase ds)
          (reorder_lower c d ∙ past))
      | inr stays ↦
          ap str_to_ascii_lowercase (sink-stays c d ds stays)
          ∙ sym (sink-stays (to_ascii_lowercase c) (to_ascii_lowercase d) (str_to_ascii_lowercase ds)
          (reorder_lower c d ∙ stays))
    ]

order_lower : (cs : List ℕ) → str_to_ascii_lowercase (canonical_order cs) ≡ canonical_order (str_to_ascii_lowercase cs)
order_lower [] = ap str_to_ascii_lowercase canonical_order-nil ∙ sym canonical_order-nil
order_lower (c ∷ cs) =
    ap str_to_ascii_lowercase (canonical_order-cons c cs) ∙ sink_lower c (canonical_order cs)
    ∙ ap (sink (to_ascii_lowercase c)) (order_lower cs)
    ∙ sym (canonical_order-cons (to_ascii_lowercase c) (str_to_ascii_lowercase cs))

parts_lower : (cs : List ℕ) → str_to_ascii_lowercase (flat_map decompose_canonical (str_to_ascii_lowercase cs))
    ≡ str_to_ascii_lowercase (flat_map decompose_canonical cs)
parts_lower [] = refl
parts_lower (c ∷ cs) =
    map-append to_ascii_lowercase (decompose_canonical (to_ascii_lowercase c)) _
    ∙ ap₂ ◌++◌ (part_lower c) (parts_lower cs)
    ∙ sym (map-append to_ascii_lowercase (decompose_canonical c) (flat_map decompose_canonical cs))

nfd_lower : (cs : List ℕ) → str_to_ascii_lowercase (nfd (str_to_ascii_lowercase cs)) ≡ str_to_ascii_lowercase (nfd cs)
nfd_lower cs =
    ap str_to_ascii_lowercase (nfd-ordered (str_to_ascii_lowercase cs))
    ∙ order_lower (flat_map decompose_canonical (str_to_ascii_lowercase cs)) ∙ ap canonical_order (parts_lower cs)
    ∙ sym (ap str_to_ascii_lowercase (nfd-ordered cs) ∙ order_lower (flat_map decompose_canonical cs))

fold_lower : (cs : List ℕ) → default_case_fold (str_to_ascii_lowercase cs) ≡ default_case_fold cs
fold_lower [] = refl
fold_lower (c ∷ cs) =
    default_case_fold-cons (to_ascii_lowercase c) (str_to_ascii_lowercase cs) ∙ ap₂ ◌++◌ (fold_one c) (fold_lower cs)
    ∙ sym (default_case_fold-cons c cs)

key_lower : (cs : List ℕ) → canonical_key (str_to_ascii_lowercase cs) ≡ canonical_key cs
key_lower cs =
    ap nfd (sym (fold_lower (nfd (str_to_ascii_lowercase cs))) ∙ ap default_case_fold (nfd_lower cs) ∙ fold_lower (nfd cs))

length_lower : (cs : List ℕ) → length (nfd (str_to_ascii_lowercase cs)) ≡ length (nfd cs)
length_lower cs =
    sym (length-map (nfd (str_to_ascii_lowercase cs)) to_ascii_lowercase) ∙ ap length (nfd_lower cs)
    ∙ length-map (nfd cs) to_ascii_lowercase

-- ---- UTF-8
-- bytes that are no letters of ASCII
record AreLarge (bytes : List ℕ) : Type 0 where
  at : (k : ℕ) → k < length bytes → 128 ≤ get_or bytes k 0

large_tail : (x : ℕ) (xs : List ℕ) → AreLarge (x ∷ xs) → AreLarge xs
large_tail x xs h = record { at = λ k less. h.at (suc k) (omega arith) }

large_bytes : (c : ℕ) → 128 ≤ c → AreLarge (encode_utf8 c)
large_bytes c h = record {
  at = λ k less.
      elim (cases_lt (get_or (encode_utf8 c) k 0) 128) [
        | inl small ↦ absurd (omega (arith, inside_one c [] (encode_utf8 c) k (sym (append-nil (encode_utf8 c))) less small))
        | inr large ↦ large
      ];
}

-- nothing but these bytes becomes them
only_they : (p xs : List ℕ) → str_to_ascii_lowercase p ≡ xs → AreLarge xs → p ≡ xs
only_they [] xs e h = e
only_they (y ∷ p) [] e h = absurd (cc)
only_they (y ∷ p) (x ∷ xs) e h =
    let first : to_ascii_lowercase y ≡ x = cc in
    let rest : str_to_ascii_lowercase p ≡ xs = cc in
    let same : y ≡ x = elim (cases_lt y 128) [
      | inl small ↦ absurd (omega (arith, lower_small y small, first, h.at 0 (omega arith)))
      | inr large ↦ sym (lower_large y large) ∙ first
    ] in
    ap₂ ◌∷◌ same (only_they p xs rest (large_tail x xs h))

lower_them : (xs : List ℕ) → AreLarge xs → str_to_ascii_lowercase xs ≡ xs
lower_them [] h = refl
lower_them (x ∷ xs) h = ap₂ ◌∷◌ (lower_large x (h.at 0 (omega arith))) (lower_them xs (large_tail x xs h))

encode_lower : (c : ℕ) → str_to_ascii_lowercase (encode_utf8 c) ≡ encode_utf8 (to_ascii_lowercase c)
encode_lower c =
    elim (cases_lt c 128) [
      | inl small ↦ ap str_to_ascii_lowercase (encode_ascii c small)
          ∙ sym (encode_ascii (to_ascii_lowercase c) (lower_small c small))
      | inr large ↦ lower_them (encode_utf8 c) (large_bytes c large) ∙ ap encode_utf8 (sym (lower_large c large))
    ]

encodes_lower : (cs : List ℕ) → str_to_ascii_lowercase (encode_utf8_all cs) ≡ encode_utf8_all (str_to_ascii_lowercase cs)
encodes_lower [] = refl
encodes_lower (c ∷ cs) =
    map-append to_ascii_lowercase (encode_utf8 c) (encode_utf8_all cs) ∙ ap₂ ◌++◌ (encode_lower c) (encodes_lower cs)

scalar_small : (c : ℕ) → c < 128 → IsScalar c
scalar_small c h = grind (arith, nat_tests)

scalar_lower : (c : ℕ) → IsScalar c → IsScalar (to_ascii_lowercase c)
scalar_lower c h =
    elim (cases_lt c 128) [
      | inl small ↦ scalar_small (to_ascii_lowercase c) (lower_small c small)
      | inr large ↦ ap scalar (lower_large c large) ∙ h
    ]

scalars_lower : (cs : List ℕ) → all_scalars cs ≡ true → all_scalars (str_to_ascii_lowercase cs) ≡ true
scalars_lower [] h = refl
scalars_lower (c ∷ cs) h =
    let parts = and_parts (scalar c) (all_scalars cs) h in
    and_from _ _ (scalar_lower c parts.0) (scalars_lower cs parts.1)

utf8_lower : (word : List ℕ) → IsUtf8 word → IsUtf8 (str_to_ascii_lowercase word)
utf8_lower word (cs, (are, e)) =
    (str_to_ascii_lowercase cs, (scalars_lower cs are, sym (encodes_lower cs) ∙ ap str_to_ascii_lowercase e))

chars_lower : (word : List ℕ) → IsUtf8 word → chars (str_to_ascii_lowercase word) ≡ str_to_ascii_lowercase (chars word)
chars_lower word (cs, (are, e)) =
    ap chars (ap str_to_ascii_lowercase (sym e) ∙ encodes_lower cs)
    ∙ chars-encodes (str_to_ascii_lowercase cs) (scalars_lower cs are)
    ∙ ap str_to_ascii_lowercase (sym (chars-encodes cs are) ∙ ap chars e)

-- a text that becomes two parts has two parts
record Parts (text xs ys : List ℕ) : Type 0 where
  front : List ℕ
  rest : List ℕ
  both : text ≡ front ++ rest
  front_is : str_to_ascii_lowercase front ≡ xs
  rest_is : str_to_ascii_lowercase rest ≡ ys

in_two : (text xs ys : List ℕ) → str_to_ascii_lowercase text ≡ xs ++ ys → Parts text xs ys
in_two text [] ys e = record { front = []; rest = text; both = refl; front_is = refl; rest_is = e }
in_two [] (x ∷ xs) ys e = absurd (cc)
in_two (c ∷ text) (x ∷ xs) ys e =
    let first : to_ascii_lowercase c ≡ x = cc in
    let later = in_two text xs ys (let rest : str_to_ascii_lowercase text ≡ xs ++ ys = cc in rest) in
    record {
      front = c ∷ later.front;
      rest = later.rest;
      both = ap (λ l. c ∷ l) later.both;
      front_is = ap₂ ◌∷◌ first later.front_is;
      rest_is = later.rest_is;
    }

one_small : (front : List ℕ) (c : ℕ) → c < 128 → str_to_ascii_lowercase front ≡ c ∷ [] → IsUtf8 front
one_small [] c h e = absurd (cc)
one_small (x ∷ []) c h e =
    let first : to_ascii_lowercase x ≡ c = cc in
    elim (cases_lt x 128) [
      | inl small ↦ (x ∷ [], (and_from _ _ (scalar_small x small) refl, append-nil (encode_utf8 x) ∙ encode_ascii x small))
      | inr large ↦ absurd (omega (arith, lower_large x large, first))
    ]
one_small (x ∷ y ∷ front) c h e = absurd (cc)

one_part : (front : List ℕ) (c : ℕ) → IsScalar c → str_to_ascii_lowercase front ≡ encode_utf8 c → IsUtf8 front
one_part front c is e =
    elim (cases_lt c 128) [
      | inl small ↦ one_small front c small (e ∙ encode_ascii c small)
      | inr large ↦ subst IsUtf8 (sym (only_they front (encode_utf8 c) e (large_bytes c large))) (IsUtf8-encode c is)
    ]

utf8_back : (ds word : List ℕ) → all_scalars ds ≡ true → str_to_ascii_lowercase word ≡ encode_utf8_all ds
    → IsUtf8 word
utf8_back [] [] are e = IsUtf8-nil
utf8_back [] (x ∷ word) are e = absurd (cc)
utf8_back (d ∷ ds) word are e =
    let parts = and_parts (scalar d) (all_scalars ds) are in
    let two = in_two word (encode_utf8 d) (encode_utf8_all ds) e in
    subst IsUtf8 (sym two.both)
    (IsUtf8-append two.front two.rest (one_part two.front d parts.0 two.front_is) (utf8_back ds two.rest parts.1 two.rest_is))

is_utf8_lower : (word : List ℕ) → is_utf8 (str_to_ascii_lowercase word) ≡ is_utf8 word
is_utf8_lower word =
    by_cases _ _
    (λ e. (let (ds, (are, is)) = IsUtf8-from_is_utf8 (str_to_ascii_lowercase word) e in
    is_utf8-from_IsUtf8 word (utf8_back ds word are (sym is))))
    (λ e. is_utf8-from_IsUtf8 (str_to_ascii_lowercase word) (utf8_lower word (IsUtf8-from_is_utf8 word e)))

-- ---- words
by_text : (x y z : Bool) (a b c d : Bool) → x ≡ y → (y ≡ true → (a ≡ c) × (b ≡ d))
    → ((x && a) && b) ≡ ((y && c) && d)
by_text x true z a b c d e h = rw (e, (h refl).0, (h refl).1) refl
by_text x false z a b c d e h = rw e refl

flag_lower : (word : List ℕ) → is_folded (str_to_ascii_lowercase word) ≡ is_folded word
unfolding is_folded
flag_lower word =
    by_text _ (is_utf8 word) true _ _ _ _ (is_utf8_lower word) (λ text.
    let cs = chars_lower word (IsUtf8-from_is_utf8 word text) in (
      ap is_short (ap nfd cs) ∙ ap (λ n. nat_le n 64) (length_lower (chars word)),
      ap (λ l. is_short (canonical_key l)) cs ∙ ap is_short (key_lower (chars word)),
    ))

text_of : (word : List ℕ) → is_folded word ≡ true → IsUtf8 word
unfolding is_folded
text_of word h =
    let parts = and_parts (is_utf8 word && is_short (nfd (chars word))) (is_short (canonical_key (chars word))) h in
    IsUtf8-from_is_utf8 word (and_parts (is_utf8 word) (is_short (nfd (chars word))) parts.0).0

folded_lower : (word : List ℕ) → folded (str_to_ascii_lowercase word) ≡ folded word
folded_lower word =
    elim (cases_Bool (is_folded word)) [
      | inl reads ↦
          folded-read (str_to_ascii_lowercase word) (flag_lower word ∙ reads)
          ∙ ap canonical_key (chars_lower word (text_of word reads)) ∙ key_lower (chars word) ∙ sym (folded-read word reads)
      | inr plain ↦
          folded-plain (str_to_ascii_lowercase word) (flag_lower word ∙ plain) ∙ twice word ∙ sym (folded-plain word plain)
    ]

pub letters_alike : (a b : List ℕ) → str_to_ascii_lowercase a ≡ str_to_ascii_lowercase b → same_word a b ≡ true
letters_alike a b e =
    (same_word-Decides a b).1 (
      sym (flag_lower a) ∙ ap is_folded e ∙ flag_lower b,
      sym (folded_lower a) ∙ ap folded e ∙ folded_lower b,
    )

pub words_match : (a b : List ℕ) → is_folded a ≡ true → is_folded b ≡ true
    → (same_word a b ≡ true) ↔ IsCanonicalMatch (chars a) (chars b)
words_match a b e f =
    let d = same_word-Decides a b in (
      λ h. sym (folded-read a e) ∙ (d.0 h).1 ∙ folded-read b f,
      λ h. d.1 (e ∙ sym f, folded-read a e ∙ h ∙ sym (folded-read b f)),
    )
