use Rattle.register_records.proofs.Common.{[], refl, inl, rules, appends-none}
use Rattle.register_records.proofs.TableLemmas.{ends_whole}
use Rattle.register_records.proofs.sources.convert_source.Goals as goal

pub returns-in-Err-clause-part : goal.returns-in-Err-clause-part
returns-in-Err-clause-part g c = rw c.from.ensures (λ other. ∣ ([], inl refl, appends-none _) ∣₁)

pub returns-in-Err-write_table : goal.returns-in-Err-write_table
returns-in-Err-write_table g c =
    let broken = rw c.in-Ok.ensures.text.0 at c.in-Err-write_table.ensures.broken in search rules

pub returns-clause-whole : goal.returns-clause-whole
returns-clause-whole g c =
    let whole = rw c.in-Ok.ensures.text.0 at c.in_default.ensures.whole in
    ends_whole _ c.write_table.new.table _ _ _ _ _ c.end.ensures.whole whole.whole
