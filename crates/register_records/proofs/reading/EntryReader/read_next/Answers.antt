use Rattle.std.proofs.Common.{◌≡◌, true, [], ◌∷◌, length, sym, refl, ap, ◌∙◌, arith, length-append, rules}
use Rattle.register_records.proofs.Common.{entry_seen}
use Rattle.register_records.proofs.GivenLemmas.{may_first, may_more}
use Rattle.register_records.proofs.reading.EntryReader.read_next.Goals as goal

pub invariant_of-self : goal.invariant_of-self
invariant_of-self g c =
    let self = c.args.self.now in
    let longer = ap length c.push.ensures ∙ length-append self.given (entry_seen c.read_entry-found.new.entry ∷ []) in
    let found : c.in-Ok-true.field-0 ≡ true = search rules in
    let gives = (rw found at c.in-Ok-true.ensures.gives) refl in
    let number = (rw found at c.in-Ok-true.ensures.number) refl in
    let has_read =
    may_more self.has_read c.in-Open.is (sym self.counted) gives (omega (arith, number.0, number.1)) c.push.ensures in
    let first = may_first has_read in let few = number.0 in search (rules, has_read, first, longer, few, number.1)
