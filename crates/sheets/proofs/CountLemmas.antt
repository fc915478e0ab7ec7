-- Dates that were refused or are empty are counted record by record.
use Rattle.std.proofs.Common.{◌≡◌, ◌≤◌, ◌<◌, ◌∙◌, ◌+◌, ◌++◌, ℕ, zero, suc, List, [], ◌∷◌, Option, Some, Bool}
use Rattle.std.proofs.Common.{true, false, ap, arith, cond, count_by, get_or, get_or-set_other}
use Rattle.std.proofs.Common.{get_or-set_same, inl, inr, length, length-append, refl, replicate, set, sym}
use Rattle.std.proofs.Common.{if◌then◌else◌, slice_get}
use Rattle.sheets.proofs.Common.{flat_map, Refusal, Fields, Dated, CountsDates, AreSheetCounts, no_counts}
use Rattle.sheets.proofs.Common.{DateColumn}
use Rattle.std.specs.List.{zip}
use Rattle.std.proofs.lemmas.Bool.Decides.{eqb_tells}
use Rattle.std.proofs.lemmas.List.{flat_map_more}
use Rattle.std.proofs.lemmas.List.Sums.{count_by-le-length, sum_by-append}
use Rattle.date_texts.specs.declared.refusal.Refusal.TheVariants as refusals
use Rattle.register_records.specs.RefusalCounts.{count_of}
use Rattle.sheets.specs.private.CountViews.{AreUpTo, CountsRecord}
use Rattle.sheets.specs.DateCounts.{AreDateCounts, DateRow, date_at, date_of, dates_at, is_blank_record}
use Rattle.sheets.specs.DateCounts.{is_empty, is_refused, is_refused_with, is_span}
use Rattle.sheets.specs.declared.date_counts.DateCounts.{DateCounts}
use Rattle.sheets.specs.declared.date_counts.SheetCounts.{SheetCounts}

-- each has no count yet
none_refused : (refusal : Refusal) → count_of no_counts.refused_with refusal ≡ 0
none_refused refusals.FieldCount = refl
none_refused refusal = refl

pub none_at : (counts : DateCounts) (n i : ℕ) → AreDateCounts [] counts
    → AreDateCounts [] (get_or (replicate n counts) i no_counts)
none_at counts zero i none = record { refused = refl; reasons = none_refused; empty = refl; spans = refl }
none_at counts (suc n) zero none = none
none_at counts (suc n) (suc i) none = none_at counts n i none

both : {X : Type 0} (p : X → Bool) (xs ys : List X) → count_by p (xs ++ ys) ≡ count_by p xs + count_by p ys
both p xs ys = sum_by-append (λ x. cond (p x) 1 0) xs ys

-- one record more
zip_more : {X Y : Type 0} (xs : List X) (ys : List Y) (x : X) (y : Y) → length xs ≡ length ys
    → zip (xs ++ x ∷ []) (ys ++ y ∷ []) ≡ zip xs ys ++ (x, y) ∷ []
zip_more [] [] x y e = refl
zip_more (a ∷ xs) (b ∷ ys) x y e = ap (λ rest. (a, b) ∷ rest) (zip_more xs ys x y (omega arith))
zip_more xs ys x y e = absurd (omega arith)

dates_more : (columns : List DateColumn) (place : ℕ) (done : List Fields) (rows : List (List Dated)) (fields : Fields)
    (one : List Dated) → length done ≡ length rows → dates_at columns place (done ++ fields ∷ []) (rows ++ one ∷ [])
    ≡ dates_at columns place done rows ++ date_at columns place fields one
dates_more columns place done rows fields one e =
    let f : Fields × List Dated → List DateRow = λ r. date_at columns place r.0 r.1 in
    ap (flat_map f) (zip_more done rows fields one e) ∙ sym (flat_map_more f [] (zip done rows) (fields, one))

pub counts_more : (columns : List DateColumn) (done : List Fields) (rows : List (List Dated)) (fields : Fields)
    (one : List Dated) (old new : SheetCounts) → length done ≡ length rows → AreSheetCounts columns done rows old
    → CountsRecord columns fields one old new → AreSheetCounts columns (done ++ fields ∷ []) (rows ++ one ∷ []) new
counts_more columns done rows fields one old new same all more =
    record {
      dates = λ place low.
          let before = all.dates place low in
          let then_ = more.dates place low in
          let xs = dates_at columns place done rows in
          let ys = date_at columns place fields one in
          let next : (p : DateRow → Bool) → count_by p (dates_at columns place (done ++ fields ∷ []) (rows ++ one ∷ []))
          ≡ count_by p xs + count_by p ys
          = λ p. ap (count_by p) (dates_more columns place done rows fields one same) ∙ both p xs ys in
          record {
            refused = omega (arith, then_.refused, before.refused, next is_refused);
            reasons = λ refusal.
                omega (arith, then_.reasons refusal, before.reasons refusal, next (is_refused_with refusal));
            empty = omega (arith, then_.empty, before.empty, next is_empty);
            spans = omega (arith, then_.spans, before.spans, next is_span);
          };
      blank = omega (arith, more.blank, all.blank, both is_blank_record done (fields ∷ []));
    }

-- no more are counted than there are records
if_few : (b : Bool) (dates : List DateRow) → length dates ≤ 1 → length (if b then [] else dates) ≤ 1
if_few true dates few = omega arith
if_few false dates few = few

of_few : (fields : Fields) (column : Option DateColumn) (row : Option Dated) → length (date_of fields column row) ≤ 1
of_few fields (Some column) (Some row) = omega arith
of_few fields column row = omega arith

dates_few : (columns : List DateColumn) (place : ℕ) (records : List Fields) (rows : List (List Dated))
    → length (dates_at columns place records rows) ≤ length records
dates_few columns place [] rows = omega arith
dates_few columns place (x ∷ xs) [] = omega arith
dates_few columns place (x ∷ xs) (y ∷ ys) =
    omega (
      arith,
      length-append (date_at columns place x y) (dates_at columns place xs ys),
      if_few (is_blank_record x) (date_of x (slice_get columns place) (slice_get y place))
          (of_few x (slice_get columns place) (slice_get y place)),
      dates_few columns place xs ys,
    )

pub up_to : (columns : List DateColumn) (records : List Fields) (rows : List (List Dated)) (counts : SheetCounts)
    (limit : ℕ) → AreSheetCounts columns records rows counts → length records ≤ limit → AreUpTo limit columns counts
up_to columns records rows counts limit all few =
    record {
      dates = λ place low.
          let of_column = all.dates place low in
          let dates = dates_at columns place records rows in
          let most : (p : DateRow → Bool) → count_by p dates ≤ limit
          = λ p. omega (arith, count_by-le-length p dates, dates_few columns place records rows, few) in
          record {
            refused = omega (arith, of_column.refused, most is_refused);
            reasons = λ refusal. omega (arith, of_column.reasons refusal, most (is_refused_with refusal));
            empty = omega (arith, of_column.empty, most is_empty);
            spans = omega (arith, of_column.spans, most is_span);
          };
      blank = omega (arith, all.blank, count_by-le-length is_blank_record records, few);
    }

pub one_found : {X : Type 0} (found : Option X) (x y : X) → found ≡ Some x → found ≡ Some y → x ≡ y
one_found found x y a b = cc

-- the date at one place more is counted
pub place_counted : (columns : List DateColumn) (fields : Fields) (rows : List Dated) (place : ℕ) (column : DateColumn)
    (row : Dated) (old mid : List DateCounts) (next : DateCounts) → place < length mid
    → slice_get columns place ≡ Some column → slice_get rows place ≡ Some row → is_blank_record fields ≡ false
    → CountsDates ((get_or fields column.date [], row) ∷ []) (get_or mid place no_counts) next
    → ((q : ℕ) → place ≤ q → get_or mid q no_counts ≡ get_or old q no_counts) → ((q : ℕ) → q < place
    → CountsDates (date_at columns q fields rows) (get_or old q no_counts) (get_or mid q no_counts)) → (q : ℕ)
    → q < place + 1
    → CountsDates (date_at columns q fields rows) (get_or old q no_counts) (get_or (set mid place next) q no_counts)
place_counted columns fields rows place column row old mid next room at_column at_row full counts left counted q low =
    elim (eqb_tells q place) [
      | inl same ↦
          rw (
            same.1,
            get_or-set_same mid place next no_counts room,
            sym (left place (omega arith)),
            full,
            at_column,
            at_row,
          ) counts
      | inr other ↦
          rw (get_or-set_other mid place q next no_counts other.1) (counted q (omega (arith, other.1)))
    ]

pub place_left : (place : ℕ) (old mid : List DateCounts) (next : DateCounts)
    → ((q : ℕ) → place ≤ q → get_or mid q no_counts ≡ get_or old q no_counts) → (q : ℕ) → place + 1 ≤ q
    → get_or (set mid place next) q no_counts ≡ get_or old q no_counts
place_left place old mid next left q low =
    get_or-set_other mid place q next no_counts (λ e. absurd (omega (arith, e))) ∙ left q (omega arith)
