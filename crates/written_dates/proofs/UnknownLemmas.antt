-- The first part that means nothing is found from the left.
use Rattle.std.proofs.Common.{◌≡◌, ◌≢◌, ℕ, zero, suc, ◌-◌, Bool, true, false, List, [], ◌∷◌, refl, sym, ap, arith, drop, ◌==◌}
use Rattle.std.proofs.Common.{Option, Some, None, cond}
use Rattle.std.specs.List.{filter, list_any}
use Rattle.std.proofs.lemmas.Bool.{or_from, or_parts, true≢false}
use Rattle.std.proofs.lemmas.Bool.Decides.{nat_tests}
use Rattle.written_dates.specs.declared.items.Number.{Number}
use Rattle.written_dates.specs.declared.meanings.Meaning.{Meaning}
use Rattle.written_dates.specs.declared.meanings.Meaning.TheVariants.{Nothing}
use Rattle.written_dates.specs.declared.meanings.Name.{Name}
use Rattle.date_texts.specs.declared.calendar.Calendar.{Calendar}
use Rattle.written_dates.specs.declared.items.Item.{Item}
use Rattle.written_dates.specs.declared.tokens.Kind.{Kind}
use Rattle.written_dates.specs.declared.tokens.Kind.TheVariants.{Digit, Letter}
use Rattle.written_dates.specs.Tokens.{Piece, kind_of, tokens}
use Rattle.written_dates.specs.Items.{alone, item_in_front, longest, number_of}
use Rattle.written_dates.specs.Names.{names_in}
use Rattle.written_dates.specs.Parts.{is_part, parts}
use Rattle.written_dates.specs.WholeNames.{is_letter, whole_name}
use Rattle.written_dates.proofs.KindLemmas.{has_kind, none_of_kind, none_picked}
use Rattle.written_dates.specs.Unknown.{first_unknown, if_letters, or_behind, unknown_word, word_in}

-- what is skipped is left out
pub unknown_skipped : (names : List Name) (more : ℕ) (text : List Piece)
    → first_unknown names more text ≡ first_unknown names 0 (drop more text)
unfolding first_unknown
unknown_skipped names zero text = refl
unknown_skipped names (suc more) [] = refl
unknown_skipped names (suc more) (part ∷ behind) = unknown_skipped names more behind

-- where no name stands in front, a number must
pub unknown_number : (names : List Name) (text behind : List Piece) (part : Piece) (n : Option Number)
    (found : ℕ × Meaning)
    → text ≡ part ∷ behind → found ≡ longest text (0, Nothing) names → found.0 ≡ 0 → n ≡ number_of part
    → first_unknown names 0 text ≡ or_behind (alone n) part (λ more. first_unknown names more behind)
unfolding first_unknown item_in_front
unknown_number names text behind part n found e f z is =
    let start : longest (part ∷ behind) (0, Nothing) names ≡ found = rw (← e) (sym f) in
    rw (e, start, z, is) refl

pub known_name : (names : List Name) (text behind : List Piece) (part : Piece) (found : ℕ × Meaning)
    → text ≡ part ∷ behind → found ≡ longest text (0, Nothing) names → found.0 ≢ 0
    → first_unknown names 0 text ≡ first_unknown names 0 (drop found.0 text)
unfolding first_unknown item_in_front
known_name names text behind part found e f some =
    let start : longest (part ∷ behind) (0, Nothing) names ≡ found = rw (← e) (sym f) in
    let there : (found.0 == 0) ≡ false = grind (arith, nat_tests) in
    let more : found.0 ≡ suc (found.0 - 1) = omega arith in
    let after : drop found.0 (part ∷ behind) ≡ drop (found.0 - 1) behind
    = ap (λ (n : ℕ). drop n (part ∷ behind)) more in
    rw (e, start, there, after, unknown_skipped names (found.0 - 1) behind) refl

pub none_unknown : (names : List Name) (text : List Piece) → text ≡ [] → first_unknown names 0 text ≡ None
unfolding first_unknown
none_unknown names text e = rw e refl

-- ---- a text without a byte that may be of a word has no word
abbrev has_words : List Piece → Bool
has_words ts = has_kind is_letter ts

no_letter : (text : List ℕ) → list_any (λ c. is_letter (kind_of c)) text ≡ false → has_words (tokens 0 text) ≡ false
no_letter text h =
    none_of_kind is_letter (λ c. is_letter (kind_of c)) (λ c cs e. none_picked is_letter refl refl (kind_of c) _ _ _ _ e) 0
    text h

parts_by : (j : Bool) (p : Piece) (ts : List Piece) → is_letter p.kind ≡ false → has_words ts ≡ false
    → has_words (cond j (p ∷ ts) ts) ≡ false
parts_by true p ts h k = or_from _ _ h k
parts_by false p ts h k = k

no_word_kept : (ts : List Piece) → has_words ts ≡ false → has_words (filter is_part ts) ≡ false
no_word_kept [] h = refl
no_word_kept (p ∷ ts) h =
    let both = or_parts (is_letter p.kind) (has_words ts) h in
    parts_by (is_part p) p (filter is_part ts) both.0 (no_word_kept ts both.1)

not_letters : (k : Kind) (text : List ℕ) → is_letter k ≡ false → if_letters k text ≡ None
not_letters Letter text h = absurd (true≢false h)
not_letters Digit text h = refl
not_letters _ text h = refl

none_first : (front : Option (ℕ × List Item)) (part : Piece) (behind : ℕ → Option Piece)
    → is_letter part.kind ≡ false → ((more : ℕ) → word_in (behind more) ≡ None)
    → word_in (or_behind front part behind) ≡ None
none_first None part behind h k = not_letters part.kind part.text h
none_first (Some front) part behind h k = k front.0

no_word_found : (names : List Name) (more : ℕ) (text : List Piece) → has_words text ≡ false
    → word_in (first_unknown names more text) ≡ None
unfolding first_unknown
no_word_found names zero [] h = refl
no_word_found names (suc more) [] h = refl
no_word_found names zero (part ∷ behind) h =
    let both = or_parts (is_letter part.kind) (has_words behind) h in
    none_first (item_in_front names part behind) part (λ more. first_unknown names more behind) both.0
    (λ more. no_word_found names more behind both.1)
no_word_found names (suc more) (part ∷ behind) h =
    no_word_found names more behind (or_parts (is_letter part.kind) (has_words behind) h).1

none_anyway : {A : Type 0} (b : Bool) (x : Option A) → x ≡ None → cond b None x ≡ None
none_anyway true x h = refl
none_anyway false x h = h

pub no_word : (calendar : Calendar) (names : List Name) (text : List ℕ)
    → list_any (λ c. is_letter (kind_of c)) text ≡ false → unknown_word calendar names text ≡ None
unfolding unknown_word parts
no_word calendar names text h =
    none_anyway _ _ (ap (whole_name (tokens 0 text)) (no_word_found (names_in calendar names) 0 (parts text)
    (no_word_kept (tokens 0 text) (no_letter text h))))
