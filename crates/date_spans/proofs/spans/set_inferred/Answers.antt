use Rattle.std.proofs.Common.{◌∙◌, sym}
use Rattle.date_spans.specs.Spans.{said, unsaid}
use Rattle.date_spans.proofs.EndLemmas.{if_ok}
use Rattle.date_spans.proofs.spans.set_inferred.Goals as goal

pub returns-then-is_read : goal.returns-then-is_read
returns-then-is_read c =
    said c.in_ok-marks.marks (sym c.is_read.ensures ∙ c.if-is_read.true) c.in_ok-marks.ensures c.inferred.ensures

pub returns : goal.returns
returns c =
    if_ok (λ found h. unsaid c.set_plain.new.first.items c.set_plain.new.last.items c.in_ok-marks.marks
    (sym c.is_read.ensures ∙ c.if-is_read.false) c.in_ok-marks.ensures h.0 h.1 h.2) c.set_unread.result c.set_unread.ensures
