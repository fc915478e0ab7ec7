use Rattle.std.proofs.Common.{◌≡◌, ◌-◌, ◌<◌, ◌≤◌, ◌^◌, ◌∙◌, arith, drop, length, length-drop, rules, take_all}
use Rattle.date_texts.proofs.WordLemmas.{last_compared}
use Rattle.date_texts.proofs.comparing.are_equal.Goals as goal

pub returns-then-word : goal.returns-then-word
returns-then-word c =
    let text = c.args.text.now in
    let other = c.args.other.now in
    let rest = length text - 8 in
    let le : rest ≤ 8 = omega (arith, c.if-len.false) in
    let small : c.word-then-word.result < 2 ^ 64 = search rules in
    let small2 : c.word-then-word-2.result < 2 ^ 64 = search rules in
    let same_length : length text ≡ length other = search rules in
    last_compared text other 8 rest c.word.result c.word-2.result c.word-then-word.result c.word-then-word-2.result le
    small small2 c.word.ensures c.word-2.ensures c.if-word.true
    (c.word-then-word.ensures ∙ take_all _ (drop rest text) (omega (arith, length-drop rest text)))
    (c.word-then-word-2.ensures ∙ take_all _ (drop rest other) (omega (arith, length-drop rest other, same_length)))
