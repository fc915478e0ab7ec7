use Rattle.std.proofs.Common.{◌≡◌, ◌∙◌, arith, codes, sym}
use Rattle.std.specs.Fmt.{decimal}
use Rattle.std.proofs.lemmas.Fmt.{decimal_injective}
use Rattle.sheets.proofs.MeaningLemmas.{parts_said}
use Rattle.sheets.proofs.name_meanings.part_said.Goals as goal

pub returns-in_err-place-clause-none : goal.returns-in_err-place-clause-none
returns-in_err-place-clause-none c none place parts (low, high, two, four, is) =
    rw c.in_err-place.was at (parts_said 47 (codes "part ") c.args.field.now c.in_ok-strip_prefix.field-0.now place
    (decimal parts) c.split_once.result c.in_ok-strip_prefix.ensures.cases
    c.split_once.ensures.cases (omega arith) (omega arith) is)

pub returns-in_err-parts-clause-none : goal.returns-in_err-parts-clause-none
returns-in_err-parts-clause-none c none place parts (low, high, two, four, is) =
    let (front, behind) = rw c.in_ok-place.was at (parts_said 47 (codes "part ") c.args.field.now
    c.in_ok-strip_prefix.field-0.now place (decimal parts) c.split_once.result c.in_ok-strip_prefix.ensures.cases
    c.split_once.ensures.cases (omega arith) (omega arith) is) in
    c.number_said.ensures.none c.in_err-parts.was parts (two, four, behind)

pub returns-in_err-place-2-clause-none : goal.returns-in_err-place-2-clause-none
returns-in_err-place-2-clause-none c none place parts (low, high, two, four, is) =
    let (front, behind) = rw c.in_ok-place.was at (parts_said 47 (codes "part ") c.args.field.now
    c.in_ok-strip_prefix.field-0.now place (decimal parts) c.split_once.result c.in_ok-strip_prefix.ensures.cases
    c.split_once.ensures.cases (omega arith) (omega arith) is) in
    let (least, most, said) = c.in_ok-parts.ensures.some in
    let same : c.in_ok-parts.parts ≡ parts
    = decimal_injective c.in_ok-parts.parts parts (omega arith) (omega arith) (sym said ∙ behind) in
    c.number_said-2.ensures.none c.in_err-place-2.was place (low, omega arith, front)
