-- Texts that hold no byte that calls for quotes, and plain texts, which are ASCII besides.
use Rattle.std.proofs.Common.{◌≡◌, ℕ, zero, suc, ◌+◌, ◌-◌, ◌*◌, ◌/◌, ◌<◌, ◌≤◌, true, false, List, [], ◌∷◌, ◌++◌, length}
use Rattle.std.proofs.Common.{get_or, take, drop, IfSome, Some, Err, Option, sym, refl, ap, ◌∙◌}
use Rattle.std.proofs.Common.{arith, take_all, rules}
use Rattle.register_records.proofs.Common.{cut_from, needs_byte, needs_quotes, IsPlain, has_plain_texts}
use Rattle.register_records.proofs.Common.{is_plain_byte, are_utf8, body_of, body_of_texts, writing, Fields, Texts}
use Rattle.register_records.proofs.Common.{texts_of, is_delimiter, CHUNK, Form, take-add, and_parts}
use Rattle.register_records.proofs.Common.{nat_tests, AllPass-from_list_all, list_all, ⊤, is_utf8}
use Rattle.std.proofs.lemmas.List.{drop-drop, take-append-drop}
use Rattle.std.specs.Simd.{first_chunks}
use Rattle.std.proofs.lemmas.Str.{is_utf8-from_IsUtf8, IsUtf8-from_ascii}
use Rattle.date_texts.specs.declared.refusal.Refusal.TheVariants as refusal
use Rattle.std.specs.Option.{option_map_or}
use Rattle.std.proofs.lemmas.List.Folds.{list_all_more, list_all-append, list_any_none}
use Rattle.std.proofs.lemmas.Str.Ascii.{IsAscii-from_all}

-- no byte of a plain text calls for quotes in a table
plain_byte_bare : (d c : ℕ) → is_delimiter d ≡ true → is_plain_byte c ≡ true → needs_byte (writing d) c ≡ false
plain_byte_bare d c h p = grind (arith, nat_tests)

pub bare_text : (d : ℕ) → is_delimiter d ≡ true → (text : List ℕ) → IsPlain text → needs_quotes (writing d) text ≡ false
bare_text d h text p =
    let all = AllPass-from_list_all is_plain_byte text p in
    list_any_none (needs_byte (writing d)) text (λ k e lt. plain_byte_bare d _ h (all k e lt))

-- the two parts of a plain text
plain_halves : (n : ℕ) (text : List ℕ) → IsPlain text → IsPlain (take n text) × IsPlain (drop n text)
plain_halves n text h =
    let both = and_parts (list_all is_plain_byte (take n text)) (list_all is_plain_byte (drop n text))
    (sym (list_all-append is_plain_byte (take n text) (drop n text))
    ∙ ap (list_all is_plain_byte) (take-append-drop n text) ∙ h) in
    (both.0, both.1)

-- the fields of a plain record are plain
abbrev ArePlainFields : Fields → Type 0
ArePlainFields [] = ⊤
ArePlainFields (f ∷ fs) = IsPlain f × ArePlainFields fs

plain_fields : (s : ℕ) (ends bytes : List ℕ) → IsPlain bytes → ArePlainFields (cut_from s ends bytes)
unfolding cut_from
plain_fields s [] bytes h = tt
plain_fields s (end ∷ ends) bytes h =
    ((plain_halves (end - s) (drop s bytes) (plain_halves s bytes h).1).0, plain_fields end ends bytes h)

abbrev ArePlainTexts : Texts → Type 0
ArePlainTexts t = IsPlain t.id × IsPlain t.calendar × IsPlain t.date × IsPlain t.note

plain_texts : (form : Form) (fs : Fields) → ArePlainFields fs → IfSome (texts_of form fs) ArePlainTexts
plain_texts form fs h = search rules

plain_record : (form : Form) (ends bytes : List ℕ) → IsPlain bytes
    → IfSome (texts_of form (cut_from 0 ends bytes)) ArePlainTexts
plain_record form ends bytes h = plain_texts form (cut_from 0 ends bytes) (plain_fields 0 ends bytes h)

-- so they are ASCII, which is UTF-8
plain_byte_ascii : (b : ℕ) → is_plain_byte b ≡ true → b < 128
plain_byte_ascii b h = grind (arith, nat_tests)

plain_utf8 : (text : List ℕ) → IsPlain text → is_utf8 text ≡ true
plain_utf8 text h =
    let all = AllPass-from_list_all is_plain_byte text h in
    let ascii = IsAscii-from_all text (λ k d lt. plain_byte_ascii _ (all k d lt)) in
    is_utf8-from_IsUtf8 text (IsUtf8-from_ascii text ascii)

pub utf8_texts : (form : Form) (ends bytes : List ℕ) (t : Texts) → texts_of form (cut_from 0 ends bytes) ≡ Some t
    → IsPlain bytes → are_utf8 t ≡ true
utf8_texts form ends bytes t e h =
    let plain : ArePlainTexts t = rw e at (plain_record form ends bytes h) in
    rw (plain_utf8 _ plain.0, plain_utf8 _ plain.1, plain_utf8 _ plain.2, plain_utf8 _ plain.3) refl

-- and the body of such a record has plain texts
bare_option : (o : Option Texts) → IfSome o ArePlainTexts
    → has_plain_texts (option_map_or body_of_texts o (Err refusal.FieldCount)) ≡ true
bare_option o h = grind arith

pub bare_record : (form : Form) (ends bytes : List ℕ) → IsPlain bytes
    → has_plain_texts (body_of form (cut_from 0 ends bytes)) ≡ true
bare_record form ends bytes h = bare_option (texts_of form (cut_from 0 ends bytes)) (plain_record form ends bytes h)

-- a text is plain by its chunks, and by as many bytes at its end
abbrev pub ArePlain : List (List ℕ) → Type 0
ArePlain chunks = list_all (λ (chunk : List ℕ). list_all is_plain_byte chunk) chunks ≡ true

pub plain_more : (chunks : List (List ℕ)) (i : ℕ) (d : List ℕ) → i < length chunks → ArePlain (take i chunks)
    → IsPlain (get_or chunks i d) → ArePlain (take (i + 1) chunks)
plain_more chunks i d lt h k =
    list_all_more (λ (chunk : List ℕ). list_all is_plain_byte chunk) chunks i d lt ∙ cc (h, k)

plain_join : (a b : List ℕ) → IsPlain a → IsPlain b → IsPlain (a ++ b)
plain_join a b h k = list_all-append is_plain_byte a b ∙ cc (h, k)

plain_front : (count : ℕ) (text : List ℕ) → ArePlain (first_chunks CHUNK count text)
    → IsPlain (take (count * CHUNK) text)
plain_front zero text h = refl
plain_front (suc count) text h =
    let parts = and_parts (list_all is_plain_byte (take CHUNK text))
    (list_all (λ (chunk : List ℕ). list_all is_plain_byte chunk) (first_chunks CHUNK count (drop CHUNK text))) h in
    let whole : suc count * CHUNK ≡ CHUNK + count * CHUNK = omega arith in
    rw (whole, take-add CHUNK (count * CHUNK) text)
    (plain_join (take CHUNK text) (take (count * CHUNK) (drop CHUNK text)) parts.0
    (plain_front count (drop CHUNK text) parts.1))

pub plain_by_chunks : (text : List ℕ) (chunks : List (List ℕ)) → CHUNK ≤ length text
    → chunks ≡ first_chunks CHUNK (length text / CHUNK) text → IsPlain (drop (length text - CHUNK) text)
    → ArePlain chunks → IsPlain text
plain_by_chunks text chunks long is h k =
    let start = length text - CHUNK in
    let end = length text / CHUNK * CHUNK in
    let front : IsPlain (take end text) = plain_front (length text / CHUNK) text (rw (← is) k) in
    let place : start + (end - start) ≡ end = omega arith in
    let back = rw (drop-drop (end - start) start text, place) at (plain_halves (end - start) (drop start text) h).1 in
    rw take-append-drop at (plain_join (take end text) (drop end text) front back)

-- the steps of looking at a text chunk by chunk
pub ruleset chunk_steps = (and_parts, plain_more, plain_by_chunks, take_all)
