use Rattle.std.proofs.Common.{◌≡◌, ◌∙◌, ◌<◌, arith, false, get_or, length, refl, rules, sym}
use Rattle.sheets.proofs.Common.{bytes_eq}
use Rattle.std.proofs.lemmas.Slice.Eq.{bytes_eq-Decides}
use Rattle.sheets.proofs.HeadingLemmas.{bytes_alike, made_next}
use Rattle.sheets.proofs.new_headings.NewNames.is_made.Goals as goal

pub returns-then-eq : goal.returns-then-eq
returns-then-eq c =
    let made = c.args.self.now.made.items in
    let lt : c.made.made-index < length made = grind arith in
    let at : c.made-item.result ≡ get_or made c.made.made-index c.made-item.result = grind arith in
    let next = made_next made c.made.made-index c.made-item.result c.args.name.now lt at in
    let same : c.made-item.result.items ≡ c.args.name.now = search rules in
    sym (sym c.made.invariant ∙ next ∙ rw (same, bytes_alike c.args.name.now) refl)

pub made-preserved : goal.made-preserved
made-preserved c =
    let made = c.args.self.now.made.items in
    let lt : c.made.made-index < length made = grind arith in
    let at : c.made-item.result ≡ get_or made c.made.made-index c.made-item.result = grind arith in
    let next = made_next made c.made.made-index c.made-item.result c.args.name.now lt at in
    let differ : bytes_eq c.args.name.now c.made-item.result.items ≡ false = grind (arith, bytes_eq-Decides) in
    let behind = rw differ at next in sym behind ∙ c.made.invariant
