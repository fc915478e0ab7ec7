-- How far records are written to an output.
use Rattle.std.proofs.Common.{◌≡◌, ◌∙◌, ◌++◌, ℕ, List, [], ◌∷◌, Option, ap, append-nil, append_assoc, arith}
use Rattle.std.proofs.Common.{length, IsErrAnd, min, subst, sym, take, Err, IfOk, Ok, Result}
use Rattle.sheets.proofs.Common.{Fields, line_text, GainsFields, records_text, SheetLines}
use Rattle.std.specs.Io.KnownBytes.{Appends}
use Rattle.std.proofs.KnownBytes.{Appends-trans}
use Rattle.std.proofs.Math.Seq.{take-append_seam}
use Rattle.std.proofs.lemmas.List.{flat_map_more, take-append-le, take_min}
use Rattle.std.proofs.lemmas.List.Concat.{flat_map-append}
use Rattle.sheets.specs.private.LineViews.{Begins, EndsLine}
use Rattle.sheets.specs.private.Sending.{HasFront, HasMade, IsSent}

pub text_both : (d : ℕ) (xs ys : List Fields) → records_text d (xs ++ ys) ≡ records_text d xs ++ records_text d ys
text_both d xs ys = flat_map-append (line_text d) xs ys

pub text_more : (d : ℕ) (xs : List Fields) (x : Fields)
    → records_text d (xs ++ x ∷ []) ≡ records_text d xs ++ line_text d x
text_more d xs x = sym (flat_map_more (line_text d) [] xs x)

-- the line gains fields, and is ended
pub fields_made : (d : ℕ) (begun now : Option (List ℕ)) (old new : SheetLines) (made : List Fields) (fields more :
    Fields)
    → HasMade d begun now old made fields → GainsFields more old new → HasMade d begun now new made (fields ++ more)
fields_made d begun now old new made fields more h gains =
    record {
      sent = h.sent;
      waiting = h.waiting;
      gained = h.gained;
      held = gains _ _ _ h.held;
      parted = h.parted;
    }

pub record_made : (d : ℕ) (begun now : Option (List ℕ)) (old new : SheetLines) (made : List Fields) (fields : Fields)
    → HasMade d begun now old made fields → EndsLine old new → HasMade d begun now new (made ++ fields ∷ []) []
record_made d begun now old new made fields h ends =
    record {
      sent = h.sent;
      waiting = h.waiting ++ fields ∷ [];
      gained = h.gained;
      held = subst (λ text. Begins d text [] new) (sym (text_more d h.waiting fields)) (ends _ _ _ h.held);
      parted = ap (λ xs. xs ++ fields ∷ []) h.parted ∙ append_assoc h.sent h.waiting (fields ∷ []);
    }

-- all that waits is sent
pub all_sent : (d : ℕ) (begun now next : Option (List ℕ)) (old new : SheetLines) (made : List Fields) (text : List ℕ)
    → (h : HasMade d begun now old made []) → text ≡ records_text d h.waiting → Appends now next text
    → Begins d [] [] new → IsSent d begun next new made
all_sent d begun now next old new made text h is appends held =
    record {
      gained = subst (Appends begun next) (sym (ap (records_text d) h.parted ∙ text_both d h.sent h.waiting))
          (Appends-trans begun now next _ _ h.gained (subst (Appends now next) is appends));
      held = held;
    }

pub sent_made : (d : ℕ) (begun now : Option (List ℕ)) (lines : SheetLines) (made : List Fields)
    → IsSent d begun now lines made → HasMade d begun now lines made []
sent_made d begun now lines made h =
    record { sent = made; waiting = []; gained = h.gained; held = h.held; parted = sym (append-nil made) }

-- what was sent is a front of what was made, and of whatever begins so
pub front_made : (d : ℕ) (begun now : Option (List ℕ)) (lines : SheetLines) (made : List Fields) (fields : Fields)
    → HasMade d begun now lines made fields → HasFront d begun now made
front_made d begun now lines made fields h = (
  length h.sent,
  subst (Appends begun now)
      (ap (records_text d) (sym (ap (take (length h.sent)) h.parted ∙ take-append_seam h.sent h.waiting))) h.gained,
)

pub front_more : (d : ℕ) (begun now : Option (List ℕ)) (xs ys : List Fields) → HasFront d begun now xs
    → HasFront d begun now (xs ++ ys)
front_more d begun now xs ys (n, appends) = (
  min n (length xs),
  subst (Appends begun now) (ap (records_text d) (sym (take-append-le (min n (length xs)) xs ys (omega arith)
      ∙ take_min n xs))) appends,
)

-- where it is a fault, nothing is said of a value
pub no_value : {T E : Type 0} (r : Result T E) (e : E) (P : T → Type 0) → IsErrAnd r (λ x. x ≡ e) → IfOk r P
no_value (Ok v) e P is = absurd is
no_value (Err c) e P is = tt
