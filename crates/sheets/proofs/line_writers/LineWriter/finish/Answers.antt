use Rattle.std.proofs.Common.{◌∙◌, [], Result, subst, sym}
use Rattle.sheets.proofs.Common.{AreLines, Produced, SheetCause, ending_of}
use Rattle.sheets.specs.private.LineWriters.{Stands}
use Rattle.sheets.specs.declared.sheet_ends.SheetCause.TheVariants as cause
use Rattle.sheets.proofs.LineWriterLemmas.{agrees_read, finishes_fault, finishes_stopped, memory_is, no_other}
use Rattle.sheets.proofs.LineWriterLemmas.{produced_fault, produced_sent}
use Rattle.sheets.proofs.SendingLemmas.{front_made}
use Rattle.sheets.proofs.line_writers.LineWriter.finish.Goals as goal

pub returns-in-Some : goal.returns-in-Some
returns-in-Some g c =
    finishes_fault g.W.Output c.args.read c.args.self.now c.args.output.now c.in-Some.cause c.in-Some.is

pub returns-then-lacks_memory : goal.returns-then-lacks_memory
returns-then-lacks_memory g c given made h =
    let o = g.W.Output in
    let self = c.args.self.now in
    let out = c.args.output.now in
    let d = self.sender.delimiter in
    let none = no_other self.fault c.in_default.not-Some in
    let stands = subst (Stands o d given out self.sender.lines made) none h.stands in
    let is = memory_is c.args.read (sym c.lacks_memory.ensures ∙ c.if-lacks_memory.true) in (
      subst (λ (r : Result (Unit {0}) SheetCause). Produced o given out (ending_of r) (AreLines d made r)) (sym is)
          (produced_fault o d given out self.sender.lines made cause.NoMemory
          (front_made d _ _ self.sender.lines made [] stands.0, stands.1) h.mark),
      agrees_read c.args.read c.requires,
    )

pub returns-in_err-send : goal.returns-in_err-send
returns-in_err-send g c =
    finishes_stopped g.W.Output c.args.read c.from_residual.result c.args.self.now c.args.output.now c.send.new.output
    c.in_err-send.field-0.0 (no_other c.args.self.now.fault c.in_default.not-Some) c.in_err-send.ensures.output
    c.from_residual.ensures.1

pub returns : goal.returns
returns g c given made h =
    let o = g.W.Output in
    let self = c.args.self.now in
    let none = no_other self.fault c.in_default.not-Some in
    let stands = subst (Stands o self.sender.delimiter given c.args.output.now self.sender.lines made) none h.stands in
    let sent = c.in_ok-send.ensures in (
      produced_sent o self.sender.delimiter given c.send.new.output made c.args.read
          (sym c.lacks_memory.ensures ∙ c.if-lacks_memory.false) c.requires
          (sent.sent (o.contents given) made stands.0).gained sent.flushed (sent.output.good ∙ stands.1)
          (sent.output.marked ∙ h.mark),
      agrees_read c.args.read c.requires,
    )
