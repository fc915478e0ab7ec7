-- The columns asked by numbers from 2 on.
use Rattle.std.proofs.Common.{◌≡◌, ◌∙◌, ℕ, suc, Some, ap, map, option_map, slice_get, sym}
use Rattle.std.proofs.lemmas.Option.{slice_get-map}
use Rattle.date_texts.specs.Calendars.{all_targets}
use Rattle.date_texts.specs.declared.target.Target.{Target}
use Rattle.sheets.specs.declared.choices.AskedColumn.{AskedColumn}
use Rattle.sheets.specs.declared.choices.AskedColumn.TheVariants.{Cells, Church}
use Rattle.sheets.proofs.EachLemmas.{answer_kept}
use Rattle.page_module.specs.SheetChoices.{column_by}

-- a column asked by a number from 2 on is that of a target
pub column_at : (n k : ℕ) (target : Target) → n ≡ suc (suc k) → slice_get all_targets k ≡ Some target
    → Some (Cells target) ≡ column_by n
column_at n k target e is =
    let column : Target → AskedColumn = λ target. Cells target in
    rw e (sym (answer_kept (map column all_targets) Church k (Cells target)
    (slice_get-map column all_targets k ∙ ap (option_map column) is)))
