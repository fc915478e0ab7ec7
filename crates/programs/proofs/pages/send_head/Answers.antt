-- What leads to the column stands behind the name and the value.
use Rattle.std.proofs.Common.{◌∙◌, ◌++◌, ◌-◌, ℕ, List, ap, append-nil, codes, length}
use Rattle.programs.specs.HelpPages.{gap}
use Rattle.programs.specs.private.Sending.{head}
use Rattle.programs.proofs.PageLemmas.{sent_as, sent_then}
use Rattle.programs.proofs.pages.send_head.Goals as goal

pub returns : goal.returns
returns g c =
    let argument = c.args.argument in
    let texts = c.value_texts.result in
    let begun = λ (t : List ℕ). codes "    --" ++ (argument.name.now ++ t) in
    let whole = ap begun (ap (λ (t : List ℕ). texts.0.now ++ t) (append-nil texts.1.now) ∙ c.value_texts.ensures) in
    let room = c.room_behind.ensures ∙ ap (λ (t : List ℕ). 22 - length (begun t)) c.value_texts.ensures in
    sent_as g.W.Output _ _ c.send_gap.result c.args.output.now c.send_gap.new.output
    (ap (λ (t : List ℕ). t ++ gap c.room_behind.result) whole ∙ ap (λ (n : ℕ). head argument ++ gap n) room)
    (sent_then g.W.Output _ _ c.send_gap.result c.args.output.now c.send_all.new.output c.send_gap.new.output
    c.in_ok-send_all.ensures.sent c.send_all.ensures.mark c.send_gap.ensures)
