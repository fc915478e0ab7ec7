-- Each turn adds the next number.
use Rattle.std.proofs.Common.{◌≡◌, ◌<◌, ◌∙◌, [], ◌++◌, ℕ, List, ap, append_assoc, arith, codes, length, map, min, rules}
use Rattle.std.proofs.Common.{sym}
use Rattle.sheet_app.proofs.Common.{DateCounts}
use Rattle.std.specs.Fmt.{decimal}
use Rattle.std.proofs.lemmas.List.{get_or-map, length-map}
use Rattle.sheets.specs.DateCounts.{no_counts}
use Rattle.sheet_app.specs.Lines.{listed}
use Rattle.sheet_app.proofs.LineLemmas.{shown, text_more}
use Rattle.sheet_app.proofs.reports.push_spans.Goals as goal

pub dates-preserved : goal.dates-preserved
dates-preserved c =
    let dates = c.as_slice-columns.result.now in
    let index = c.dates.index in
    let within : index < length dates = search rules in
    let spans : DateCounts → List ℕ = λ counts. decimal counts.spans in
    let head = c.args.line.now.items ++ codes ", spans: " in
    c.in_ok-push_number.ensures ∙ text_more c.dates.line.items head (map spans dates) index _ (simp length-map within)
    (sym (get_or-map spans dates index no_counts [] within)) c.dates.invariant

pub returns : goal.returns
returns c =
    let whole = c.args.whole.now in
    let dates = c.as_slice-columns.result.now in
    let spans : DateCounts → List ℕ = λ counts. decimal counts.spans in
    let last : c.dates.index ≡ min c.args.dates (length dates)
    = omega (arith, c.dates-test.false, c.dates.auto.index-end, c.min-index-end.ensures) in
    c.dates.invariant ∙ ap (λ (xs : List (List ℕ)). (c.args.line.now.items ++ codes ", spans: ") ++ listed xs)
    (shown spans dates whole.counts.dates c.args.dates c.dates.index last c.as_slice-columns.ensures)
    ∙ append_assoc c.args.line.now.items (codes ", spans: ") _
