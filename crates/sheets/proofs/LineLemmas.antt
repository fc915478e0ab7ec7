-- What the lines of a sheet hold.
use Rattle.std.proofs.Common.{◌≡◌, ◌∙◌, ℕ, List, [], ◌++◌, false, length, refl, subst, sym, ap, append_assoc}
use Rattle.std.proofs.Common.{append-nil, Err, Ok, OnOk, Result}
use Rattle.sheets.proofs.Common.{line_text, GainsFields, SheetLines}
use Rattle.register_records.specs.LineRoom as buffer
use Rattle.register_records.specs.LineViews.{line_bytes}
use Rattle.register_records.specs.private.LineViews.{line_delimiter}
use Rattle.register_records.specs.declared.lines.LineBuffer.{LineBuffer}
use Rattle.sheets.specs.private.LineViews.{EndsLine}

-- memory with the same lines
pub record SameLines (old new : LineBuffer) : Type 0 where
  pub bytes : line_bytes new ≡ line_bytes old
  pub delimiter : line_delimiter new ≡ line_delimiter old

pub none_gained : (lines : SheetLines) → GainsFields [] lines lines
none_gained lines d before fields begun = rw append-nil begun

pub both_gained : (more last : List (List ℕ)) (old mid new : SheetLines) → GainsFields more old mid
    → GainsFields last mid new → GainsFields (more ++ last) old new
both_gained more last old mid new a b d before fields begun =
    rw (← append_assoc fields more last) (b d before (fields ++ more) (a d before fields begun))

-- what the fields are
pub gained_as : (more all : List (List ℕ)) (old new : SheetLines) → more ≡ all → GainsFields more old new
    → GainsFields all old new
gained_as more all old new e a = subst (λ (fields : List (List ℕ)). GainsFields fields old new) e a

pub next_gained : (more last all : List (List ℕ)) (old mid new : SheetLines) → GainsFields more old mid
    → GainsFields last mid new → more ++ last ≡ all → GainsFields all old new
next_gained more last all old mid new a b e =
    gained_as (more ++ last) all old new e (both_gained more last old mid new a b)

-- the last of some fields, where there was memory for it
pub gained_at_last : {A E : Type 0} (result : Result A E) (more last all : List (List ℕ)) (old mid new : SheetLines)
    → GainsFields more old mid → OnOk result (GainsFields last mid new) → more ++ last ≡ all
    → OnOk result (GainsFields all old new)
gained_at_last (Ok x) more last all old mid new a b e = next_gained more last all old mid new a b e
gained_at_last (Err x) more last all old mid new a b e = tt

-- the end of a line
pub line_ended : (old new : SheetLines) (mid : LineBuffer) → SameLines old.buffer mid
    → line_delimiter new.buffer ≡ line_delimiter mid
    → ((before : List ℕ) (fields : List (List ℕ)) → length before ≡ old.begun
    → buffer.Begins (line_delimiter mid) before fields (line_bytes mid)
    → line_bytes new.buffer ≡ before ++ line_text (line_delimiter mid) fields)
    → new.begun ≡ length (line_bytes new.buffer) → new.has_field ≡ false → EndsLine old new
line_ended old new mid same kept ends at has d before fields begun =
    let known : line_delimiter mid ≡ d = same.delimiter ∙ begun.separated in
    let whole : line_bytes new.buffer ≡ before ++ line_text d fields =
    (rw known at ends) before fields (sym begun.begun) (same.bytes ∙ begun.bytes) in
    record {
      separated = kept ∙ known;
      bytes = whole ∙ sym (append-nil (before ++ line_text d fields));
      begun = at ∙ ap length whole;
      some = λ some. absurd (cc);
      none = λ _. refl;
    }
