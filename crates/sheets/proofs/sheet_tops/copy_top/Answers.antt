use Rattle.std.proofs.Common.{◌≡◌, ◌∙◌, ◌+◌, ap, arith, drop, refl, take}
use Rattle.sheets.proofs.Common.{left_of, top_records}
use Rattle.std.proofs.lemmas.List.{drop-drop}
use Rattle.sheets.proofs.LineWriterLemmas.{makes_both}
use Rattle.sheets.proofs.ReadingLemmas.{begun_reads}
use Rattle.sheets.proofs.TopLemmas.{rest_of_top, top_cut, top_head, top_line}
use Rattle.sheets.proofs.sheet_tops.copy_top.Goals as goal

pub above-preserved : goal.above-preserved
above-preserved g c =
    let inv = c.above.invariant in
    let all = left_of c.args.records.now in
    let k = c.above.counter in
    record {
      reading = begun_reads c.copy_next.new.records c.in_default.ensures.reading;
      left = c.in_default.ensures.left ∙ ap (drop 1) inv.left ∙ drop-drop 1 k all;
      made = makes_both g.W.Output (take k all) _ (take (k + 1) all) c.args.writer.now c.above.writer
          c.copy_next.new.writer c.args.output.now c.above.output c.copy_next.new.output
          (top_line all (left_of c.above.records) k _ refl (omega (arith, c.above-test.true, c.requires.named))
          inv.left) inv.made c.copy_next.ensures.made;
    }

pub returns-in-Err-clause-made : goal.returns-in-Err-clause-made
returns-in-Err-clause-made g c =
    let inv = c.above.invariant in
    let all = left_of c.args.records.now in
    let k = c.above.counter in
    let choice = c.args.choice.now in
    makes_both g.W.Output (take (k + 1) all) (rest_of_top choice c.args.width (k + 1) all)
    (top_records choice c.args.width all) c.args.writer.now c.copy_next.new.writer c.cut.new.self c.args.output.now
    c.copy_next.new.output c.copy_next.new.output (top_cut choice c.args.width (k + 1) all (omega (
      arith,
      c.above-test.true,
    ))) (makes_both g.W.Output (take k all) _ (take (k + 1) all) c.args.writer.now c.above.writer c.copy_next.new.writer
    c.args.output.now c.above.output c.copy_next.new.output
    (top_line all (left_of c.above.records) k _ refl (omega (arith, c.above-test.true, c.requires.named)) inv.left)
    inv.made c.copy_next.ensures.made) (c.cut.ensures (rest_of_top choice c.args.width (k + 1) all))

pub returns-clause-made : goal.returns-clause-made
returns-clause-made g c =
    let inv = c.above.invariant in
    let all = left_of c.args.records.now in
    let k = c.above.counter in
    let choice = c.args.choice.now in
    let last : k ≡ choice.above = omega (arith, c.above-test.false, c.above.auto.counter-end) in
    makes_both g.W.Output (take k all) _ (top_records choice c.args.width all) c.args.writer.now c.above.writer
    c.copy_next-2.new.writer c.args.output.now c.above.output c.copy_next-2.new.output
    (top_head choice c.args.width k all (left_of c.above.records) last inv.left) inv.made c.copy_next-2.ensures.made
