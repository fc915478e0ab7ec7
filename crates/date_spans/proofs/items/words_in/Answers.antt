use Rattle.std.proofs.Common.{◌≤◌, List, length, sym, subst}
use Rattle.written_dates.specs.declared.items.Item.{Item}
use Rattle.date_spans.proofs.ItemLemmas.{few_items}
use Rattle.date_spans.proofs.items.words_in.Goals as goal

pub returns-in-Some : goal.returns-in-Some
returns-in-Some c =
    sym (few_items c.args.calendar c.args.names.now.listed.now c.args.text.now c.in-Some.found.items c.in-Some.ensures.some
    (subst (λ (xs : List Item). length xs ≤ 16) c.as_slice-items.ensures.value c.as_slice-items.ensures.fits))
