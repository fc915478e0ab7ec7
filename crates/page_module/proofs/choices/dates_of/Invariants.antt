use Rattle.std.proofs.Common.{◌≡◌, drop}
use Rattle.page_module.specs.private.AskedViews.{all_before}
use Rattle.page_module.specs.SheetChoices.{dates_by}
use Rattle.page_module.proofs.choices.dates_of.Given as goal

abbrev pub invariant-all : goal.invariant-all
invariant-all l = dates_by l.all ≡ all_before l.dates.items (dates_by (drop l.numbers-index l.all))
