-- Each turn adds the next count to each list.
use Rattle.std.proofs.Common.{◌≡◌, ◌<◌, ◌∙◌, ◌-◌, [], ◌++◌, ℕ, List, ap, ap₂, arith, codes, length, map, min, rules}
use Rattle.std.proofs.Common.{sym}
use Rattle.sheet_app.proofs.Common.{DateCounts, head_of}
use Rattle.std.specs.Fmt.{decimal}
use Rattle.std.proofs.lemmas.List.{get_or-map, length-map}
use Rattle.sheets.specs.DateCounts.{no_counts}
use Rattle.sheet_app.specs.Lines.{empty_list, listed, refused_list}
use Rattle.sheet_app.proofs.LineLemmas.{counts_made, shown, text_more}
use Rattle.sheet_app.proofs.reports.line_of_counts.Goals as goal

pub dates-preserved : goal.dates-preserved
dates-preserved c =
    let whole = c.args.whole.now in
    let dates = c.as_slice-columns.result.now in
    let index = c.dates.index in
    let within : index < length dates = search rules in
    let refused : DateCounts → List ℕ = λ counts. decimal counts.refused in
    let empty : DateCounts → List ℕ = λ counts. decimal counts.empty in
    let head = head_of c.args.name.now ++ (decimal (whole.records - whole.counts.blank) ++ codes " records, refused: ") in
    record {
      refused = c.in_ok-push_number.ensures
          ∙ text_more c.dates.line.items head (map refused dates) index _ (simp length-map within)
          (sym (get_or-map refused dates index no_counts [] within)) c.dates.invariant.refused;
      empty = c.in_ok-push_number-2.ensures
          ∙ text_more c.dates.empty.items [] (map empty dates) index _ (simp length-map within)
          (sym (get_or-map empty dates index no_counts [] within)) c.dates.invariant.empty;
    }

pub returns : goal.returns
returns c =
    let whole = c.args.whole.now in
    let dates = c.as_slice-columns.result.now in
    let refused : DateCounts → List ℕ = λ counts. decimal counts.refused in
    let empty : DateCounts → List ℕ = λ counts. decimal counts.empty in
    let head = head_of c.args.name.now in
    let records = decimal (whole.records - whole.counts.blank) ++ codes " records, refused: " in
    let last : c.dates.index ≡ min c.args.dates (length dates)
    = omega (arith, c.dates-test.false, c.dates.auto.index-end, c.min-index-end.ensures) in
    let refused_all = c.dates.invariant.refused ∙ ap (λ (xs : List (List ℕ)). (head ++ records) ++ listed xs)
    (shown refused dates whole.counts.dates c.args.dates c.dates.index last c.as_slice-columns.ensures) in
    let empty_all = c.as_slice.ensures.value ∙ c.dates.invariant.empty
    ∙ ap listed (shown empty dates whole.counts.dates c.args.dates c.dates.index last c.as_slice-columns.ensures) in
    c.in_ok-extend_from_slice-2.ensures.items ∙ ap₂ (λ (xs ys : List ℕ). xs ++ ys)
    (c.in_ok-extend_from_slice.ensures.items ∙ ap (λ (xs : List ℕ). xs ++ codes ", empty: ") refused_all) empty_all
    ∙ counts_made head records (refused_list c.args.dates whole) (codes ", empty: ") (empty_list c.args.dates whole)
