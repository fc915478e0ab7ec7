use Rattle.std.proofs.Common.{◌≡◌, drop}
use Rattle.page_module.specs.private.AskedViews.{all_before}
use Rattle.page_module.specs.SheetChoices.{columns_by}
use Rattle.page_module.proofs.choices.columns_of.Given as goal

abbrev pub invariant-numbers : goal.invariant-numbers
invariant-numbers l =
    columns_by l.numbers ≡ all_before l.columns.items (columns_by (drop l.number-index l.numbers))
