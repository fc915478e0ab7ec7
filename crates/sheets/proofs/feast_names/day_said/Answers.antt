use Rattle.std.proofs.Common.{◌≡◌, ◌∙◌, ap, arith, sym, ℤ, pos}
use Rattle.std.specs.Ordering.{int_eq}
use Rattle.std.proofs.lemmas.Bool.{true≢false}
use Rattle.std.proofs.lemmas.Int.{ints}
use Rattle.std.proofs.lemmas.Str.Pattern.{split_parts}
use Rattle.sheets.proofs.MeaningLemmas.{Lacks, few_mag, parted_day, plain_day, same_days}
use Rattle.sheets.proofs.feast_names.day_said.Goals as goal

pub returns-in_err-number_said-clause-none : goal.returns-in_err-number_said-clause-none
returns-in_err-number_said-clause-none c none day days (low, high, few, is) =
    let text = c.args.text.now in
    let lack : Lacks 32 text
    = rw c.in_default.is at (split_parts 32 text c.split_once.result c.split_once.ensures.cases (omega arith)) in
    c.number_said.ensures.none c.in_err-number_said.was day (low, high, plain_day text day days lack is)

pub returns-in_err-day-clause-none : goal.returns-in_err-day-clause-none
returns-in_err-day-clause-none c none day days (low, high, few, is) =
    let text = c.args.text.now in
    let (cut, lack) = rw c.in-Some.is at (split_parts 32 text c.split_once.result c.split_once.ensures.cases (omega arith)) in
    let (front, behind, some) = parted_day text _ _ day days high cut lack is in
    c.number_said-2.ensures.none c.in_err-day.was day (low, high, front)

pub returns-in_err-days-clause-none : goal.returns-in_err-days-clause-none
returns-in_err-days-clause-none c none day days (low, high, few, is) =
    let text = c.args.text.now in
    let (cut, lack) = rw c.in-Some.is at (split_parts 32 text c.split_once.result c.split_once.ensures.cases (omega arith)) in
    let (front, behind, some) = parted_day text _ _ day days high cut lack is in
    c.days_said.ensures.none c.in_err-days.was days (few, behind)

pub returns-then-days-eq0-clause-none : goal.returns-then-days-eq0-clause-none
returns-then-days-eq0-clause-none c none day days (low, high, few, is) =
    let text = c.args.text.now in
    let (cut, lack) = rw c.in-Some.is at (split_parts 32 text c.split_once.result c.split_once.ensures.cases (omega arith)) in
    let (front, behind, some) = parted_day text _ _ day days high cut lack is in
    let (few_found, found) = c.in_ok-days.ensures.some in
    let same = same_days c.in-Some.days.now c.in_ok-days.days days (few_mag c.in_ok-days.days few_found) few found behind in
    let zero : c.in_ok-days.days ≡ pos 0 = omega (arith, ints) in
    true≢false (ap (λ (z : ℤ). int_eq z (pos 0)) (sym zero ∙ same) ∙ some)
