use Rattle.std.proofs.Common.{◌∙◌, ℕ, Vec, ap, sym}
use Rattle.std.specs.declared.alloc.Global.{Global}
use Rattle.page_rules.proofs.LineLemmas.{line_found}
use Rattle.page_rules.proofs.lines.RecordLines.line.Goals as goal

pub returns : goal.returns
returns c d records has =
    line_found d records c.args.self.now c.as_slice.result.now c.args.index c.in_ok-begin.begin c.in_ok-end.end
    c.get.result has (sym c.bound.ensures ∙ c.in_ok-begin.was) (sym c.bound-2.ensures ∙ c.in_ok-end.was)
    (c.as_slice.ensures.value ∙ ap (λ (v : Vec ℕ Global). v.items) c.get_ref.ensures ∙ has.text) c.get.ensures.lookup
