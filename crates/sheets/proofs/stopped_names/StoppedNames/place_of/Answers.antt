use Rattle.std.proofs.Common.{◌∙◌, ap, arith, sym}
use Rattle.sheets.proofs.Common.{NameStop, is_alike}
use Rattle.sheets.specs.UnknownViews.{name_seen}
use Rattle.sheets.specs.private.UnknownViews.{named}
use Rattle.sheets.proofs.StopLemmas.{named_at, none_more}
use Rattle.sheets.proofs.stopped_names.StoppedNames.place_of.Goals as goal

pub returns-then-is_alike-clause-some : goal.returns-then-is_alike-clause-some
returns-then-is_alike-clause-some c =
    let stop = name_seen c.args.stop in
    let alike = ap (λ (name : NameStop). is_alike name stop) (sym c.stop_by.ensures) ∙ sym c.is_alike.ensures
    ∙ c.if-is_alike.true in
    (named c.index.result.now, named_at c.args.self.now.listed.items c.names.place _ (omega arith) c.index.ensures, alike)

pub names-preserved : goal.names-preserved
names-preserved c =
    let stop = name_seen c.args.stop in
    let other = ap (λ (name : NameStop). is_alike name stop) (sym c.stop_by.ensures) ∙ sym c.is_alike.ensures
    ∙ c.if-is_alike.false in
    none_more stop c.args.self.now.listed.items c.names.place _ (omega arith) c.index.ensures other c.names.invariant
