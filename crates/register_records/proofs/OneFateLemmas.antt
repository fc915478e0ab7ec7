-- A text has one fate: each test that decides it is decided by the text.
use Rattle.std.proofs.Common.{Bool, IsSomeAnd, if◌then◌else◌, IsTrue, codes, inr}
use Rattle.register_records.proofs.Common.{◌≡◌, ℕ, ◌<◌, ◌≤◌, true, false, List, [], ◌∷◌, ◌++◌, length, Some, None}
use Rattle.register_records.proofs.Common.{Option, sym, refl, ap, ◌∙◌, subst, inl, arith, rules, strip_bom, IsNamed}
use Rattle.register_records.proofs.Common.{Reading, record_limit, Fields, Texts, texts_of, Agrees, AreClosed}
use Rattle.register_records.proofs.Common.{before_seal, entry_records, is_seal, Form, Plain, Sealed, append_cancel_left}
use Rattle.date_texts.proofs.DecisionLemmas.{Is, all_four, both, in_words, is_at_most, is_named, is_number, is_true}
use Rattle.register_records.specs.Laws.{Fate, HasFate, OneFate, accepted, no_header, not_sealed, too_many}
use Rattle.register_records.specs.Entries.{AreAfterHeader, AreAll, HasRecords, entries_of, text_records}

-- whether a record is an accepted header
is_noted : (form : Form) (note : List ℕ) → Is (form ≡ Sealed → IsNamed note (codes "note"))
is_noted Plain note = inl (λ e. absurd (cc))
is_noted Sealed note = in_words (is_named note (codes "note")) (λ named e. named) (λ h. h refl)

is_header_of : (form : Form) (texts : Option Texts) → Is (IsSomeAnd texts (λ t. IsNamed (strip_bom t.id) (codes "id")
    × IsNamed t.calendar (codes "calendar") × IsNamed t.date (codes "date")
    × (form ≡ Sealed → IsNamed t.note (codes "note"))))
is_header_of form None = inr (λ h. h)
is_header_of form (Some t) = search (rules, all_four, is_named, is_noted)

-- whether a seal agrees with a number
agrees : (seal : Fields) (n : ℕ) → Is (Agrees seal n)
agrees (a ∷ b ∷ []) n = search (rules, both, is_at_most, is_true, is_number)
agrees seal n = inr (λ h. h)

-- the records up to the first seal, and the rest: whether the seal stands last and agrees with their number can be
-- decided from these
from_seal : (after : List Fields) → (rest : List Fields) × (after ≡ before_seal after ++ rest)
unfolding before_seal
from_seal [] = ([], refl)
from_seal (r ∷ rest) = by (is_seal r) (from_seal rest)
  where
    by : (b : Bool) → (last : List Fields) × (rest ≡ before_seal rest ++ last)
        → (last : List Fields) × (r ∷ rest ≡ (if b then [] else r ∷ before_seal rest) ++ last)
    by true later = (r ∷ rest, refl)
    by false later = (later.0, ap (λ l. r ∷ l) later.1)

closed_by : (before rest : List Fields) → Is ((seal : Fields) × (rest ≡ seal ∷ []) × IsTrue (is_seal seal)
    × Agrees seal (length before))
closed_by before (seal ∷ []) =
    in_words (both (is_true (is_seal seal)) (agrees seal (length before))) (λ h. (seal, refl, h.0, h.1))
    (λ h. let same : h.0 ≡ seal = cc (h.1) in (rw same at h.2, rw same at h.3))
closed_by before rest = inr (λ h. cc (h.1))

are_closed : (form : Form) (after : List Fields) → Is (AreClosed form after)
are_closed Plain after = inl tt
are_closed Sealed after =
    let (rest, is) = from_seal after in
    in_words (closed_by (before_seal after) rest) (λ h. (h.0, is ∙ ap (λ l. before_seal after ++ l) h.1, h.2, h.3))
    (λ h. (h.0, append_cancel_left (before_seal after) rest (h.0 ∷ []) (sym is ∙ h.1), h.2, h.3))

-- the records behind an accepted header, if the text has one
has_records_of : (form : Form) (records : List Fields) → Is ((after : List Fields) × AreAfterHeader form records after)
has_records_of form [] = inr (λ h. cc (h.1.1))
has_records_of form (r ∷ rest) =
    in_words (is_header_of form (texts_of form r)) (λ is. (rest, (r, refl, is)))
    (λ h. let same : h.1.0 ≡ r = cc (h.1.1) in rw same at h.1.2)

one_after : (reading : Reading) (text : List ℕ) (a b : List Fields) → HasRecords reading text a → HasRecords reading text b
    → a ≡ b
one_after reading text a b p q = let e : p.0 ∷ a ≡ q.0 ∷ b = cc in cc

-- what a fate says of the records behind the header: no two fates hold of the same records
abbrev IsFateOf : Form → Fate → List Fields → Type 0
IsFateOf form accepted after = AreAll form after
IsFateOf form no_header after = ⊥
IsFateOf form too_many after = record_limit < length (entry_records form after)
IsFateOf form not_sealed after = (length (entry_records form after) ≤ record_limit) × ¬ (AreClosed form after)

one_of : (form : Form) (after : List Fields) (fate other : Fate) → IsFateOf form fate after → IsFateOf form other after
    → other ≡ fate
one_of form after fate other h k = search rules

-- the fate of a text with these records behind its header
module _ (reading : Reading) (text : List ℕ) (after : List Fields) (has : HasRecords reading text after) where
  of_others : (fate : Fate) (others : List Fields) → HasRecords reading text others → IsFateOf reading.form fate others
      → IsFateOf reading.form fate after
  of_others fate others h k = subst (IsFateOf reading.form fate) (one_after reading text others after h has) k

  says : (fate : Fate) → HasFate reading text fate → IsFateOf reading.form fate after
  says accepted h = of_others accepted h.1.0 h.1.1 h.1.2
  says no_header h = h after has
  says too_many h = of_others too_many h.0 h.1 h.2
  says not_sealed h = of_others not_sealed h.0 h.1 (h.2, h.3)

  alone : (fate : Fate) → HasFate reading text fate
      → (fate : Fate) × HasFate reading text fate × ((other : Fate) → HasFate reading text other → other ≡ fate)
  alone fate h = (fate, h, λ other k. one_of reading.form after fate other (says fate h) (says other k))

  of_records : (fate : Fate) × HasFate reading text fate
      × ((other : Fate) → HasFate reading text other → other ≡ fate)
  of_records = elim (is_at_most (length (entry_records reading.form after)) record_limit) [
    | inr more ↦ alone too_many (after, has, omega (arith, more))
    | inl few ↦ elim (are_closed reading.form after) [
      | inl closed ↦ alone accepted (entries_of reading.form after, (after, has, (few, closed), refl))
      | inr not ↦ alone not_sealed (after, has, few, not)
    ]
  ]

without_header : (reading : Reading) (text : List ℕ) → ¬ ((after : List Fields) × HasRecords reading text after)
    → (other : Fate) → HasFate reading text other → other ≡ no_header
without_header reading text not fate h = search rules

pub one_fate : OneFate
one_fate reading text = elim (has_records_of reading.form (text_records reading.delimiter text)) [
  | inl h ↦ of_records reading text h.0 h.1
  | inr not ↦ (no_header, λ after h. not (after, h), without_header reading text not)
]
