use Rattle.std.proofs.Common.{◌≡◌, ◌∙◌, arith, codes, sym}
use Rattle.std.specs.Fmt.{decimal}
use Rattle.std.proofs.lemmas.Fmt.{decimal_injective}
use Rattle.sheets.proofs.MeaningLemmas.{parts_said}
use Rattle.sheets.proofs.name_meanings.months_said.Goals as goal

pub returns-in_err-first-clause-none : goal.returns-in_err-first-clause-none
returns-in_err-first-clause-none c none first last (low, later, high, is) =
    rw c.in_err-first.was at (parts_said 45 (codes "months ") c.args.field.now c.in_ok-strip_prefix.field-0.now first
    (decimal last) c.split_once.result c.in_ok-strip_prefix.ensures.cases
    c.split_once.ensures.cases (omega arith) (omega arith) is)

pub returns-in_err-first-2-clause-none : goal.returns-in_err-first-2-clause-none
returns-in_err-first-2-clause-none c none first last (low, later, high, is) =
    let (front, behind) = rw c.in_ok-first.was at (parts_said 45 (codes "months ") c.args.field.now
    c.in_ok-strip_prefix.field-0.now first (decimal last) c.split_once.result c.in_ok-strip_prefix.ensures.cases
    c.split_once.ensures.cases (omega arith) (omega arith) is) in
    c.number_said.ensures.none c.in_err-first-2.was first (low, omega arith, front)

pub returns-in_err-last-clause-none : goal.returns-in_err-last-clause-none
returns-in_err-last-clause-none c none first last (low, later, high, is) =
    let (front, behind) = rw c.in_ok-first.was at (parts_said 45 (codes "months ") c.args.field.now
    c.in_ok-strip_prefix.field-0.now first (decimal last) c.split_once.result c.in_ok-strip_prefix.ensures.cases
    c.split_once.ensures.cases (omega arith) (omega arith) is) in
    let (one, most, said) = c.in_ok-first-2.ensures.some in
    let same : c.in_ok-first-2.first ≡ first
    = decimal_injective c.in_ok-first-2.first first (omega arith) (omega arith) (sym said ∙ front) in
    c.number_said-2.ensures.none c.in_err-last.was last (omega arith, high, behind)
