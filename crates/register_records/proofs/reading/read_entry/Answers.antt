use Rattle.register_records.proofs.Common.{◌≡◌, true, sym, ◌∙◌, inl, rules, Sealed}
use Rattle.register_records.proofs.StepLemmas.{behind_seal, found}
use Rattle.register_records.proofs.reading.read_entry.Goals as goal

pub read_record-requires : goal.read_record-requires
read_record-requires g c = let live = c.requires.live in (live.0, inl live.1, live.2)

pub returns-then-is_seal : goal.returns-then-is_seal
returns-then-is_seal g c =
    let some : c.in-Ok-true.field-0 ≡ true = search rules in
    let sealed : c.args.form ≡ Sealed = search rules in
    behind_seal _ _ _ _ _ _ _ _ _ _ sealed (found _ _ _ _ c.in-Ok-true.ensures.reads some)
    (sym c.is_seal.ensures ∙ c.if-is_seal.true) c.read_behind_seal.ensures
