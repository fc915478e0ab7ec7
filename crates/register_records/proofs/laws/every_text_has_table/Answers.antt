use Rattle.register_records.proofs.Common.{sym, refl, subst, IsRowOf, table_text}
use Rattle.register_records.proofs.OutcomeLemmas.{AreInOrder, all_beside, has_row, numbered}
use Rattle.register_records.proofs.laws.every_text_has_table.Goals as goal
use Rattle.register_records.specs.Sources.{IsTableOf}

pub returns : goal.returns
returns c reading layout text entries is =
    let (after, has, all, are) = is in
    let rows = all_beside (IsRowOf layout.targets) (has_row layout.targets) entries in
    let table : IsTableOf layout entries rows.0 (table_text layout rows.0) = record {
      numbered = subst (λ es. AreInOrder 1 es) (sym are) (numbered reading.form 0 _);
      converted = rows.1;
      written = refl;
    } in (_, _, _, _, (entries, rows.0, table, (is, refl, refl, refl)))
