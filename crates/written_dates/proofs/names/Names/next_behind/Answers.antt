use Rattle.std.proofs.Common.{◌≡◌, ◌+◌, ◌∙◌, arith, get_or, drop}
use Rattle.std.proofs.lemmas.Grind.{get_or_default_zero}
use Rattle.written_dates.specs.private.Keys.{key, ahead}
use Rattle.written_dates.proofs.KeyLemmas.{some_at}
use Rattle.written_dates.proofs.names.Names.next_behind.Goals as goal

pub returns-clause-behind : goal.returns-clause-behind
returns-clause-behind c =
    let names = c.args.self.now.listed.now in
    let found = some_at names c.args.place c.requires in
    let next : get_or c.args.self.now.nexts.items c.args.place 0
    ≡ c.args.place + 1 + ahead key (key found.0) (drop (c.args.place + 1) names)
    = c.args.self.now.indexed.next c.args.place found.0 (omega arith) found.1 in
    let as_many = c.args.self.now.indexed.as_many in
    let here : c.index.result.now ≡ get_or c.args.self.now.nexts.items c.args.place 0
    = c.index.ensures
    ∙ get_or_default_zero c.args.self.now.nexts.items c.args.place c.index.result.now (omega (arith, as_many)) in
    omega (arith, next, here)
