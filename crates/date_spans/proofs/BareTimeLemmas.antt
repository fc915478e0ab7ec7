-- A time of day has no brackets.
use Rattle.std.proofs.Common.{◌≡◌, ℕ, zero, suc, ◌<◌, ◌≤◌, Bool, true, false, ◌&&◌, ◌||◌, cond, refl, sym, ap, ◌∙◌}
use Rattle.std.proofs.Common.{IsAscii, IsUtf8, List, [], ◌∷◌, append-nil, arith, chars, encode_utf8, encode_utf8_all}
use Rattle.std.proofs.Common.{flat_map, get_or, inl, inr, length}
use Rattle.std.specs.Prelude.{◌==◌, codes, nat_le, not, nat_lt, Option, Some, None}
use Rattle.std.specs.Char.{is_ascii_digit, to_ascii_lowercase}
use Rattle.std.specs.List.{list_all, list_any}
use Rattle.std.specs.Str.{is_utf8, str_to_ascii_lowercase}
use Rattle.std.proofs.lemmas.Bool.{and_parts, cases_Bool, cases_lt, or_from, or_parts}
use Rattle.std.proofs.lemmas.Bool.Decides.{nat_tests}
use Rattle.std.proofs.lemmas.Str.{IsUtf8-from_is_utf8, chars-encodes, encode_ascii, inside_one}
use Rattle.ucd_case.specs.CaseFolding.{full_fold}
use Rattle.ucd_case.proofs.CaseFoldingLemmas.{full_fold-ascii}
use Rattle.caseless.specs.Caseless.{canonical_key, default_case_fold}
use Rattle.caseless.proofs.CaselessLemmas.{default_case_fold-cons}
use Rattle.unicode_normalization.specs.Decompose.{decompose_canonical}
use Rattle.unicode_normalization.specs.Forms.{Nfd, nfd}
use Rattle.unicode_normalization.specs.Order.{canonical_order, is_reorderable, sink}
use Rattle.unicode_normalization.proofs.DecomposeLemmas.{decompose-final}
use Rattle.unicode_normalization.proofs.FormsLemmas.{is_final-Nfd, quick_check-ascii}
use Rattle.unicode_normalization.proofs.OrderLemmas.{canonical_order-cons, sink-nil, sink-past, sink-stays}
use Rattle.date_texts.specs.declared.calendar.Calendar.{Calendar}
use Rattle.written_dates.specs.declared.meanings.Name.{Name}
use Rattle.written_dates.specs.declared.written.Choice.{Choice}
use Rattle.written_dates.specs.Fields.{without_blanks}
use Rattle.written_dates.specs.Times.{are_digits, begins_time, behind_byte, behind_gaps, behind_hour, behind_part}
use Rattle.written_dates.specs.Times.{behind_sixtieth, is_after_hour, is_after_minutes, is_after_seconds, is_fraction}
use Rattle.written_dates.specs.Times.{is_gap, is_hour, is_hour_word, is_so, is_time, is_worded, is_worded_hour}
use Rattle.written_dates.specs.Times.{timeless}
use Rattle.written_dates.specs.Signs.{◌>>=◌}
use Rattle.written_dates.specs.Words.{folded, is_folded, is_short, same_word}
use Rattle.written_dates.specs.Written.{is_dated}
use Rattle.written_dates.proofs.TimeLemmas.{times_stand_last}
use Rattle.written_dates.proofs.WordLemmas.{folded-ascii, folded-plain, folded-read, nfd-ordered, same_word-Decides}
use Rattle.date_spans.specs.Brackets.{is_bracket, without_brackets}
use Rattle.date_spans.specs.Cuts.{unmarked}
use Rattle.date_spans.proofs.BareLemmas.{IsBare, bare_behind, bare_both, bare_parts, blanks_are_bare, dated_is_bare}
use Rattle.date_spans.proofs.BareLemmas.{next_of, unmarked_is_bare}
use Rattle.date_spans.proofs.BracketLemmas.{unbracketed}

-- ---- a bracket stays one, however a word is folded
lower : (c : ℕ) → is_bracket (to_ascii_lowercase c) ≡ is_bracket c
lower c = grind (arith, nat_tests)

same_lower : (c : ℕ) → is_bracket c ≡ true → to_ascii_lowercase c ≡ c
same_lower c h = grind (arith, nat_tests)

bracket_small : (c : ℕ) → is_bracket c ≡ true → c < 128
bracket_small c h = grind (arith, nat_tests)

lower_bare : (cs : List ℕ) → IsBare (str_to_ascii_lowercase cs) → IsBare cs
lower_bare [] h = refl
lower_bare (c ∷ cs) h =
    let both = or_parts (is_bracket (to_ascii_lowercase c)) (list_any is_bracket (str_to_ascii_lowercase cs)) h in
    or_from _ _ (sym (lower c) ∙ both.0) (lower_bare cs both.1)

abbrev Keeps : (ℕ → List ℕ) → Type 0
Keeps f = (c : ℕ) → is_bracket c ≡ true → f c ≡ c ∷ []

one_kept : (f : ℕ → List ℕ) → Keeps f → (c : ℕ) → IsBare (f c) → is_bracket c ≡ false
one_kept f keeps c h =
    elim (cases_Bool (is_bracket c)) [
      | inl is ↦
          let there : (is_bracket c || false) ≡ false = sym (ap (list_any is_bracket) (keeps c is)) ∙ h in
          (or_parts (is_bracket c) false there).0
      | inr free ↦ free
    ]

parts_kept : (f : ℕ → List ℕ) → Keeps f → (cs : List ℕ) → IsBare (flat_map f cs) → IsBare cs
parts_kept f keeps [] h = refl
parts_kept f keeps (c ∷ cs) h =
    let both = bare_parts (f c) (flat_map f cs) h in
    or_from _ _ (one_kept f keeps c both.0) (parts_kept f keeps cs both.1)

decomposed : Keeps decompose_canonical
decomposed c h = decompose-final Nfd c (is_final-Nfd c (quick_check-ascii Nfd c (bracket_small c h)))

fold_one : Keeps full_fold
fold_one c h = full_fold-ascii c (bracket_small c h) ∙ ap (λ x. x ∷ []) (same_lower c h)

fold_kept : (cs : List ℕ) → IsBare (default_case_fold cs) → IsBare cs
fold_kept [] h = refl
fold_kept (c ∷ cs) h =
    let both = bare_parts (full_fold c) (default_case_fold cs)
    (sym (ap (list_any is_bracket) (default_case_fold-cons c cs)) ∙ h) in
    or_from _ _ (one_kept full_fold fold_one c both.0) (fold_kept cs both.1)

sink_kept : (c : ℕ) (cs : List ℕ) → IsBare (sink c cs) → IsBare (c ∷ cs)
sink_kept c [] h = sym (ap (list_any is_bracket) (sink-nil c)) ∙ h
sink_kept c (d ∷ cs) h =
    elim (cases_Bool (is_reorderable c d)) [
      | inl past ↦
          let both = or_parts (is_bracket d) (list_any is_bracket (sink c cs))
          (sym (ap (list_any is_bracket) (sink-past c d cs past)) ∙ h) in
          let rest = or_parts (is_bracket c) (list_any is_bracket cs) (sink_kept c cs both.1) in
          or_from _ _ rest.0 (or_from _ _ both.0 rest.1)
      | inr stays ↦ sym (ap (list_any is_bracket) (sink-stays c d cs stays)) ∙ h
    ]

order_kept : (cs : List ℕ) → IsBare (canonical_order cs) → IsBare cs
order_kept [] h = refl
order_kept (c ∷ cs) h =
    let both = or_parts (is_bracket c) (list_any is_bracket (canonical_order cs))
    (sink_kept c (canonical_order cs) (sym (ap (list_any is_bracket) (canonical_order-cons c cs)) ∙ h)) in
    or_from _ _ both.0 (order_kept cs both.1)

nfd_kept : (cs : List ℕ) → IsBare (nfd cs) → IsBare cs
nfd_kept cs h =
    parts_kept decompose_canonical decomposed cs
    (order_kept (flat_map decompose_canonical cs) (sym (ap (list_any is_bracket) (nfd-ordered cs)) ∙ h))

key_kept : (cs : List ℕ) → IsBare (canonical_key cs) → IsBare cs
key_kept cs h = nfd_kept cs (fold_kept (nfd cs) (nfd_kept (default_case_fold (nfd cs)) h))

-- bytes that are no character of ASCII are none
large : (c : ℕ) → 128 ≤ c → is_bracket c ≡ false
large c h = grind (arith, nat_tests)

large_bare : (c : ℕ) → 128 ≤ c → IsBare (encode_utf8 c)
large_bare c h =
    bare_behind (encode_utf8 c) 0 (λ i from to.
    elim (cases_lt (get_or (encode_utf8 c) i 0) 128) [
      | inl less ↦ absurd (omega (arith, inside_one c [] (encode_utf8 c) i (sym (append-nil (encode_utf8 c))) to less))
      | inr more ↦ large (get_or (encode_utf8 c) i 0) more
    ])

encoded : (cs : List ℕ) → IsBare cs → IsBare (encode_utf8_all cs)
encoded [] h = refl
encoded (c ∷ cs) h =
    let both = or_parts (is_bracket c) (list_any is_bracket cs) h in
    bare_both (encode_utf8 c) (encode_utf8_all cs) (elim (cases_lt c 128) [
      | inl less ↦ ap (list_any is_bracket) (encode_ascii c less) ∙ or_from _ _ both.0 refl
      | inr more ↦ large_bare c more
    ]) (encoded cs both.1)

chars_kept : (word : List ℕ) → IsUtf8 word → IsBare (chars word) → IsBare word
chars_kept word (cs, (are, e)) h =
    ap (list_any is_bracket) (sym e)
    ∙ encoded cs (ap (list_any is_bracket) (sym (chars-encodes cs are) ∙ ap chars e) ∙ h)

text_of : (word : List ℕ) → is_folded word ≡ true → IsUtf8 word
unfolding is_folded
text_of word h =
    let parts = and_parts (is_utf8 word && is_short (nfd (chars word))) (is_short (canonical_key (chars word))) h in
    IsUtf8-from_is_utf8 word (and_parts (is_utf8 word) (is_short (nfd (chars word))) parts.0).0

folded_kept : (word : List ℕ) → IsBare (folded word) → IsBare word
folded_kept word h =
    elim (cases_Bool (is_folded word)) [
      | inl reads ↦
          chars_kept word (text_of word reads)
          (key_kept (chars word) (sym (ap (list_any is_bracket) (folded-read word reads)) ∙ h))
      | inr plain ↦ lower_bare word (sym (ap (list_any is_bracket) (folded-plain word plain)) ∙ h)
    ]

-- ---- tests that no text with a bracket passes
abbrev Refuses : (List ℕ → Bool) → Type 0
Refuses test = (text : List ℕ) → test text ≡ true → IsBare text

abbrev Skips : (List ℕ → Option (List ℕ)) → Type 0
Skips f = (text rest : List ℕ) → f text ≡ Some rest → IsBare rest → IsBare text

either : (s t : List ℕ → Bool) → Refuses s → Refuses t → Refuses (λ x. s x || t x)
either s t f g text h = by_either (s text) (t text) h (f text) (g text)
  where
    by_either : (a b : Bool) → (a || b) ≡ true → (a ≡ true → IsBare text) → (b ≡ true → IsBare text) → IsBare text
    by_either true b e f g = f refl
    by_either false b e f g = g e

so_by : (test : List ℕ → Bool) (found : Option (List ℕ)) → is_so test found ≡ true
    → (rest : List ℕ) × (found ≡ Some rest) × (test rest ≡ true)
so_by test None e = absurd (cc)
so_by test (Some rest) e = (rest, refl, e)

behind_so : (f : List ℕ → Option (List ℕ)) (test : List ℕ → Bool) → Skips f → Refuses test
    → Refuses (λ text. is_so test (f text))
behind_so f test skips refuses text e =
    let (rest, is, so) = so_by test (f text) e in skips text rest is (refuses rest so)

all_of : (ok : ℕ → Bool) → ((c : ℕ) → ok c ≡ true → is_bracket c ≡ false) → Refuses (list_all ok)
all_of ok free [] h = refl
all_of ok free (c ∷ cs) h =
    let both = and_parts (ok c) (list_all ok cs) h in or_from _ _ (free c both.0) (all_of ok free cs both.1)

no_gap : (c : ℕ) → is_gap c ≡ true → is_bracket c ≡ false
no_gap c h = grind (arith, nat_tests)

no_digit : (c : ℕ) → is_ascii_digit c ≡ true → is_bracket c ≡ false
no_digit c h = grind (arith, nat_tests)

byte_by : (b : Bool) (c byte : ℕ) (rest found : List ℕ) → (c == byte) ≡ b → is_bracket byte ≡ false
    → cond b (Some rest) None ≡ Some found → IsBare found → IsBare (c ∷ rest)
byte_by true c byte rest found same free e h =
    let is : c ≡ byte = grind (arith, nat_tests) in
    let left : rest ≡ found = cc in
    or_from _ _ (ap is_bracket is ∙ free) (ap (list_any is_bracket) left ∙ h)
byte_by false c byte rest found same free e h = absurd (cc)

skips_byte : (byte : ℕ) → is_bracket byte ≡ false → Skips (behind_byte byte)
skips_byte byte free [] rest e h = absurd (cc)
skips_byte byte free (c ∷ cs) rest e h = byte_by (c == byte) c byte cs rest refl free e h

two_by : (b : Bool) (a c : ℕ) (rest found : List ℕ) → (b ≡ true → is_bracket a ≡ false)
    → (b ≡ true → is_bracket c ≡ false) → cond b (Some rest) None ≡ Some found → IsBare found → IsBare (a ∷ c ∷ rest)
two_by true a c rest found f g e h =
    let left : rest ≡ found = cc in or_from _ _ (f refl) (or_from _ _ (g refl) (ap (list_any is_bracket) left ∙ h))
two_by false a c rest found f g e h = absurd (cc)

skips_sixtieth : Skips behind_sixtieth
skips_sixtieth [] rest e h = absurd (cc)
skips_sixtieth (a ∷ []) rest e h = absurd (cc)
skips_sixtieth (a ∷ b ∷ text) rest e h =
    two_by (is_ascii_digit a && nat_le a 53 && is_ascii_digit b) a b text rest
    (λ t. no_digit a (and_parts (is_ascii_digit a) (nat_le a 53)
    (and_parts (is_ascii_digit a && nat_le a 53) (is_ascii_digit b) t).0).0)
    (λ t. no_digit b (and_parts (is_ascii_digit a && nat_le a 53) (is_ascii_digit b) t).1) e h

in_turn : (f g : List ℕ → Option (List ℕ)) → Skips f → Skips g → Skips (λ text. f text >>= g)
in_turn f g first second text rest e h =
    let (x, is, then) = next_of (f text) g rest e in first text x is (second x rest then h)

skips_part : (byte : ℕ) → is_bracket byte ≡ false → Skips (behind_part byte)
skips_part byte free = in_turn (behind_byte byte) behind_sixtieth (skips_byte byte free) skips_sixtieth

hour_by : (x y : Bool) (a b : ℕ) (rest found : List ℕ) → (x ≡ true → (is_bracket a ≡ false) × (is_bracket b ≡ false))
    → (y ≡ true → is_bracket a ≡ false) → cond x (Some rest) (cond y (Some (b ∷ rest)) None) ≡ Some found
    → IsBare found → IsBare (a ∷ b ∷ rest)
hour_by true y a b rest found f g e h =
    let left : rest ≡ found = cc in
    or_from _ _ (f refl).0 (or_from _ _ (f refl).1 (ap (list_any is_bracket) left ∙ h))
hour_by false true a b rest found f g e h =
    let left : b ∷ rest ≡ found = cc in or_from _ _ (g refl) (ap (list_any is_bracket) left ∙ h)
hour_by false false a b rest found f g e h = absurd (cc)

two_digits : (a b : ℕ) → is_hour a b ≡ true → (is_bracket a ≡ false) × (is_bracket b ≡ false)
two_digits a b h =
    let both = and_parts (is_ascii_digit a) (is_ascii_digit b)
    (and_parts (is_ascii_digit a && is_ascii_digit b) (nat_le a 49 || ((a == 50) && nat_le b 52)) h).0 in
    (no_digit a both.0, no_digit b both.1)

skips_hour : Skips behind_hour
skips_hour [] rest e h = absurd (cc)
skips_hour (a ∷ []) rest e h = absurd (cc)
skips_hour (a ∷ b ∷ text) rest e h =
    hour_by (is_hour a b) (is_ascii_digit a && not (is_ascii_digit b)) a b text rest (two_digits a b)
    (λ t. no_digit a (and_parts (is_ascii_digit a) (not (is_ascii_digit b)) t).0) e h

-- ---- words for hours
ascii : (text : List ℕ) → list_all (λ c. nat_lt c 128) text ≡ true → IsAscii text
ascii [] h i = omega arith
ascii (c ∷ cs) h zero = grind (arith, nat_tests, (and_parts (nat_lt c 128) (list_all (λ c. nat_lt c 128) cs) h).0)
ascii (c ∷ cs) h (suc i) = ascii cs (and_parts (nat_lt c 128) (list_all (λ c. nat_lt c 128) cs) h).1 i

is_word : List ℕ → List ℕ → Bool
is_word key word = same_word word key

no_word : (key : List ℕ) → IsAscii key → IsBare (str_to_ascii_lowercase key) → Refuses (is_word key)
unfolding is_word
no_word key plain free word h =
    folded_kept word (ap (list_any is_bracket) (((same_word-Decides word key).0 h).1 ∙ folded-ascii key plain) ∙ free)

hour_word : Refuses is_hour_word
unfolding is_word
hour_word =
    either _ (is_word (codes "h"))
    (either _ (is_word (codes "Uhr"))
    (either _ (is_word (codes "p.m."))
    (either _ (is_word (codes "pm"))
    (either (is_word (codes "am")) (is_word (codes "a.m."))
    (no_word (codes "am") (ascii (codes "am") refl) refl) (no_word (codes "a.m.") (ascii (codes "a.m.") refl) refl))
    (no_word (codes "pm") (ascii (codes "pm") refl) refl))
    (no_word (codes "p.m.") (ascii (codes "p.m.") refl) refl))
    (no_word (codes "Uhr") (ascii (codes "Uhr") refl) refl))
    (no_word (codes "h") (ascii (codes "h") refl) refl)

worded : Refuses is_worded
worded rest h = blanks_are_bare rest (hour_word (without_blanks rest) h)

-- ---- times
digits : Refuses are_digits
digits text h =
    all_of is_ascii_digit no_digit text (and_parts (nat_lt 0 (length text)) (list_all is_ascii_digit text) h).1

fraction : Refuses is_fraction
fraction = behind_so (behind_byte 46) are_digits (skips_byte 46 refl) digits

gaps_or_word : Refuses (λ rest. list_all is_gap rest || is_worded rest)
gaps_or_word = either (list_all is_gap) is_worded (all_of is_gap no_gap) worded

after_seconds : Refuses is_after_seconds
after_seconds = either (λ rest. list_all is_gap rest || is_worded rest) is_fraction gaps_or_word fraction

after_minutes : Refuses is_after_minutes
after_minutes =
    either (λ rest. list_all is_gap rest || is_worded rest) (λ rest. is_so is_after_seconds (behind_part 58 rest))
    gaps_or_word (behind_so (behind_part 58) is_after_seconds (skips_part 58 refl) after_seconds)

after_hour : Refuses is_after_hour
after_hour = behind_so (behind_part 58) is_after_minutes (skips_part 58 refl) after_minutes

worded_hour : Refuses is_worded_hour
worded_hour =
    either is_worded (λ rest. is_so is_worded (behind_part 46 rest)) worded
    (behind_so (behind_part 46) is_worded (skips_part 46 refl) worded)

time : Refuses is_time
time =
    behind_so behind_hour (λ rest. is_after_hour rest || is_worded_hour rest) skips_hour
    (either is_after_hour is_worded_hour after_hour worded_hour)

gap_by : (b : Bool) (c : ℕ) (front rest : List ℕ) → is_gap c ≡ b → (IsBare front → IsBare rest)
    → IsBare (cond b front (c ∷ rest)) → IsBare (c ∷ rest)
gap_by true c front rest e more h = or_from _ _ (no_gap c e) (more h)
gap_by false c front rest e more h = h

gaps_kept : (text : List ℕ) → IsBare (behind_gaps text) → IsBare text
gaps_kept [] h = refl
gaps_kept (c ∷ cs) h = gap_by (is_gap c) c (behind_gaps cs) cs refl (gaps_kept cs) h

begun : (c : ℕ) (rest : List ℕ) → begins_time c rest ≡ true → IsBare (c ∷ rest)
begun c rest h =
    elim (cases_Bool ((c == 84) && is_so is_after_hour (behind_hour rest))) [
      | inl letter ↦
          let both = and_parts (c == 84) (is_so is_after_hour (behind_hour rest)) letter in
          let free : is_bracket c ≡ false = grind (arith, nat_tests, both.0) in
          or_from _ _ free (behind_so behind_hour is_after_hour skips_hour after_hour rest both.1)
      | inr other ↦
          let later : (((c == 44) || is_gap c) && is_time (behind_gaps rest)) ≡ true = rw other at h in
          let both = and_parts ((c == 44) || is_gap c) (is_time (behind_gaps rest)) later in
          let free : is_bracket c ≡ false = grind (arith, nat_tests, both.0) in
          or_from _ _ free (gaps_kept rest (time (behind_gaps rest) both.1))
    ]

pub times_are_bare : (text before : List ℕ) → timeless text ≡ Some before → IsBare before → IsBare text
times_are_bare text before e h =
    let (c, rest, is, begins) = times_stand_last text before e in
    ap (list_any is_bracket) is ∙ bare_both before (c ∷ rest) h (begun c rest begins)

-- so none are left out of a date before a time of day
pub no_brackets_before : (choice : Choice) (calendar : Calendar) (names : List Name) (text before : List ℕ)
    → timeless (unmarked text).0 ≡ Some before → is_dated choice calendar names before ≡ true
    → without_brackets text ≡ None
no_brackets_before choice calendar names text before e h =
    unbracketed text (unmarked_is_bare text
    (times_are_bare (unmarked text).0 before e (dated_is_bare choice calendar names before h)))
