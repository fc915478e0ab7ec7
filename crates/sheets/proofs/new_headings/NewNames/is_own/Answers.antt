use Rattle.std.proofs.Common.{◌≡◌, ◌∙◌, [], arith, false, get_or, refl, rules, sym}
use Rattle.sheets.proofs.Common.{bytes_eq, fields_of}
use Rattle.std.proofs.lemmas.Slice.Eq.{bytes_eq-Decides}
use Rattle.sheets.proofs.HeadingLemmas.{bytes_alike, taken_next}
use Rattle.sheets.proofs.new_headings.NewNames.is_own.Goals as goal

pub returns-then-eq : goal.returns-then-eq
returns-then-eq c =
    let own = fields_of c.args.self.now.own in
    let next = taken_next own c.own.place c.args.name.now (omega arith) in
    let same : get_or own c.own.place [] ≡ c.args.name.now = search rules in
    sym (sym c.own.invariant ∙ next ∙ rw (same, bytes_alike c.args.name.now) refl)

pub own-preserved : goal.own-preserved
own-preserved c =
    let own = fields_of c.args.self.now.own in
    let next = taken_next own c.own.place c.args.name.now (omega arith) in
    let differ : bytes_eq c.args.name.now (get_or own c.own.place []) ≡ false = grind (arith, bytes_eq-Decides) in
    let behind = rw differ at next in sym behind ∙ c.own.invariant
