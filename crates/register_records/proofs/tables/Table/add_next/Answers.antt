use Rattle.std.proofs.Common.{refl}
use Rattle.register_records.proofs.TableLemmas.{holds_more}
use Rattle.register_records.proofs.tables.Table.add_next.Goals as goal

pub returns-clause-added : goal.returns-clause-added
returns-clause-added g c output rows h =
    holds_more g.W.Output _ _ output _ _ rows _ h c.requires.next c.in-Some.is refl refl (refl, refl)
    c.in_default-append.ensures.line c.append.ensures.by c.in_default-append.ensures.noted refl
