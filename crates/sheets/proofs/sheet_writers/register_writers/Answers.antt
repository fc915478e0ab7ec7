use Rattle.std.proofs.Common.{◌∙◌}
use Rattle.sheets.proofs.TakeLemmas.{no_writers, one_writer_more}
use Rattle.sheets.proofs.sheet_writers.register_writers.Goals as goal

pub columns-init : goal.columns-init
columns-init c = no_writers _ _ _ c.new-writers.ensures.items

pub columns-preserved : goal.columns-preserved
columns-preserved c =
    one_writer_more _ _ _ _ _ _ c.columns.invariant c.in_ok-push.ensures.items
    (c.register_writer.ensures.maker ∙ c.entry_maker.ensures) c.register_writer.ensures.waits
