-- Each text stands behind those before it.
use Rattle.std.proofs.Common.{◌++◌, arith, flat_map, take, take_all}
use Rattle.std.proofs.lemmas.List.{append_assoc}
use Rattle.programs.specs.HelpPages.{option_text}
use Rattle.programs.specs.private.Sending.{IsSent}
use Rattle.programs.proofs.PageLemmas.{sent_as, sent_then}
use Rattle.programs.proofs.pages.send_help.Goals as goal

pub returns-clause-sent : goal.returns-clause-sent
returns-clause-sent g c =
    let help = c.args.help.now in
    let last : IsSent g.W.Output c.as_bytes-3.result.now c.send-3.result c.send-2.new.output c.send-3.new.output
    = record { sent = c.send-3.ensures.ok; failed = c.send-3.ensures.fails; mark = c.send-3.ensures.mark } in
    let behind = sent_then g.W.Output c.as_bytes-2.result.now _ c.send-3.result c.options.output c.send-2.new.output
    c.send-3.new.output c.in_ok-send-2.ensures.ok c.send-2.ensures.mark last in
    let options = help.above.now ++ flat_map option_text (take c.options.argument-index help.arguments.now) in
    let all = sent_then g.W.Output options _ c.send-3.result c.args.output.now c.options.output c.send-3.new.output
    c.options.invariant.0 c.options.invariant.1 behind in
    sent_as g.W.Output _ _ c.send-3.result c.args.output.now c.send-3.new.output
    (grind (arith, take_all, append_assoc, c.as_bytes-2.ensures.value, c.as_bytes-3.ensures.value)) all
