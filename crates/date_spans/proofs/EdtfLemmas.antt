-- What is written of dates is the text of their days.
use Rattle.std.proofs.Common.{◌≡◌, ℕ, List, [], ◌++◌, ℤ, Option, Some, None}
use Rattle.std.specs.Prelude.{Result, Ok, Err, OnOk, codes}
use Rattle.day_numbers.specs.declared.ymd.Ymd.{Ymd}
use Rattle.date_spans.specs.declared.edtf.Precision.TheVariants.{Day}
use Rattle.date_spans.specs.declared.edtf.Sense.{Sense}
use Rattle.date_spans.specs.Edtf.{IsEdtf, IsOn, closed, date_text, mark}

on_ok : {A E P Q : Type 0} → (P → Q) → (r : Result A E) → OnOk r P → OnOk r Q
on_ok f (Ok x) h = f h
on_ok f (Err e) h = tt

gained : (text empty more : List ℕ) → empty ≡ [] → text ≡ empty ++ more → text ≡ more
gained text empty more e h = rw e at h

pub both_ends : {A E : Type 0} (sense : Sense) (first last : Option ℤ) (n k : ℤ) (a b : Ymd) (empty text : List ℕ)
    → first ≡ Some n → last ≡ Some k → IsOn n a → IsOn k b → empty ≡ [] → (r : Result A E)
    → OnOk r (text ≡ empty ++ closed sense a b) → OnOk r (IsEdtf sense first last text)
both_ends sense first last n k a b empty text e f g h none r done =
    on_ok (λ is. rw (e, f) (a, b, g, h, gained text empty (closed sense a b) none is)) r done

pub first_alone : {A E : Type 0} (sense : Sense) (first last : Option ℤ) (n : ℤ) (a : Ymd) (empty text : List ℕ)
    → first ≡ Some n → last ≡ None → IsOn n a → empty ≡ [] → (r : Result A E)
    → OnOk r (text ≡ empty ++ (date_text Day a ++ (mark sense ++ codes "/.."))) → OnOk r (IsEdtf sense first last text)
first_alone sense first last n a empty text e f g none r done =
    on_ok (λ is. rw (e, f) (a, g, gained text empty _ none is)) r done

pub last_alone : {A E : Type 0} (sense : Sense) (first last : Option ℤ) (k : ℤ) (b : Ymd) (empty text : List ℕ)
    → first ≡ None → last ≡ Some k → IsOn k b → empty ≡ [] → (r : Result A E)
    → OnOk r (text ≡ empty ++ (codes "../" ++ (date_text Day b ++ mark sense))) → OnOk r (IsEdtf sense first last text)
last_alone sense first last k b empty text e f g none r done =
    on_ok (λ is. rw (e, f) (b, g, gained text empty _ none is)) r done
