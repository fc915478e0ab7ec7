-- Records of a sheet that is being written.
use Rattle.std.proofs.Common.{◌≡◌, ◌∙◌, ℕ, List, [], ◌∷◌, ◌++◌, append-nil, append_assoc, ap, arith, false}
use Rattle.std.proofs.Common.{refl, subst, sym}
use Rattle.std.specs.Prelude.{Err, IfOk, Ok, OnOk, Result, Vec, is_err}
use Rattle.std.specs.declared.alloc.Global.{Global}
use Rattle.csv.specs.Writing.{default_writer, escaped, field_text, fields_text, is_blank, row_body, row_text}
use Rattle.csv.specs.Writing.{with_delimiter}
use Rattle.register_records.specs.Entries.{Fields}
use Rattle.register_records.specs.Lines.{line_text}
use Rattle.sheets.specs.Sheets.{records_text}
use Rattle.date_parts.specs.private.SheetViews.{GainsRecords, Holds, writing}
use Rattle.date_parts.specs.declared.places.DatePlaces.{DatePlaces}
use Rattle.date_parts.specs.declared.joined_sheets.JoinedSheet.{JoinedSheet}
use Rattle.std.proofs.lemmas.List.Concat.{flat_map-append}

-- a line is the same text whether records may differ in length or not
same_escaped : (d : ℕ) (field : List ℕ)
    → escaped (writing d) field ≡ escaped (with_delimiter default_writer d) field
unfolding escaped
same_escaped d [] = refl
same_escaped d (b ∷ rest) = rw (same_escaped d rest) refl

same_field : (d : ℕ) (field : List ℕ)
    → field_text (writing d) field ≡ field_text (with_delimiter default_writer d) field
same_field d field = rw (same_escaped d field) refl

same_fields : (d : ℕ) (fields : List (List ℕ))
    → fields_text (writing d) fields ≡ fields_text (with_delimiter default_writer d) fields
unfolding fields_text
same_fields d [] = refl
same_fields d (field ∷ rest) = rw (same_field d field, same_fields d rest) refl

same_blank : (d : ℕ) (fields : List (List ℕ))
    → is_blank (writing d) fields ≡ is_blank (with_delimiter default_writer d) fields
unfolding is_blank
same_blank d fields = grind (arith, same_field)

same_body : (d : ℕ) (fields : List (List ℕ))
    → row_body (writing d) fields ≡ row_body (with_delimiter default_writer d) fields
same_body d fields = grind (arith, same_field, same_fields)

pub same_line : (d : ℕ) (fields : List (List ℕ)) → row_text (writing d) fields ≡ line_text d fields
same_line d fields = rw (same_body d fields, same_blank d fields) refl

-- what holds of a call that did not fail
pub of_ok : {T E : Type 0} (r : Result T E) (P : Type 0) → is_err r ≡ false → OnOk r P → P
of_ok (Ok x) P e h = h
of_ok (Err x) P e h = absurd (cc)

pub then_ok : {T E : Type 0} (r : Result T E) (P Q : Type 0) → OnOk r P → (P → Q) → OnOk r Q
then_ok (Ok x) P Q h f = f h
then_ok (Err x) P Q h f = tt

-- one record more
pub gains_one : (fields : Fields) (old new : JoinedSheet)
    → ((d : ℕ) (text : List ℕ) → Holds d text old.sheet → Holds d (text ++ line_text d fields) new.sheet)
    → new.places ≡ old.places → new.width ≡ old.width → GainsRecords (fields ∷ []) old new
gains_one fields old new gains places width = record {
  text = λ d text has.
      subst (λ t. Holds d t new.sheet) (ap (λ (t : List ℕ). text ++ t) (sym (append-nil (line_text d fields))))
      (gains d text has);
  places = places;
  width = width;
}

-- some, and then others
pub gains_more : (first then all : List Fields) (old mid new : JoinedSheet) → GainsRecords first old mid
    → GainsRecords then mid new → all ≡ first ++ then → GainsRecords all old new
gains_more first then all old mid new one other e = record {
  text = λ d text has.
      subst (λ t. Holds d t new.sheet)
      (append_assoc text (records_text d first) (records_text d then)
      ∙ rw (e, flat_map-append (line_text d) first then) refl)
      (other.text d _ (one.text d text has));
  places = other.places ∙ one.places;
  width = other.width ∙ one.width;
}

-- the same where the columns are given by what was written before
pub gains_dated : (make : DatePlaces → ℕ → List Fields) (old mid new : JoinedSheet) → mid.places ≡ old.places
    → mid.width ≡ old.width → GainsRecords (make mid.places mid.width) mid new
    → GainsRecords (make old.places old.width) mid new
gains_dated make old mid new places width gains =
    subst (λ (w : ℕ). GainsRecords (make old.places w) mid new) width
    (subst (λ (p : DatePlaces). GainsRecords (make p mid.width) mid new) places gains)

-- the text of a sheet that holds it
pub text_known : {E : Type 0} (result : Result (Vec ℕ Global) E) (d : ℕ) (text whole : List ℕ) (joined : JoinedSheet)
    → IfOk result (λ given. (k : ℕ) (t : List ℕ) → Holds k t joined.sheet → given.items ≡ t)
    → Holds d text joined.sheet → text ≡ whole → IfOk result (λ given. given.items ≡ whole)
text_known (Ok given) d text whole joined gives holds same = gives d text holds ∙ same
text_known (Err error) d text whole joined gives holds same = tt
