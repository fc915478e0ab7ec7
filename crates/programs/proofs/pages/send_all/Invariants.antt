use Rattle.std.proofs.Common.{◌≡◌, flat_map, take}
use Rattle.std.specs.Io.KnownBytes.{Appends}
use Rattle.programs.proofs.pages.send_all.Given as goal

-- the texts so far were sent
abbrev pub invariant-texts : goal.invariant-texts
invariant-texts g l =
    Appends (g.W.Output.contents l.fn.output) (g.W.Output.contents l.output)
    (flat_map (λ text. text.now) (take l.text-index l.texts))
    × (g.W.Output.own_mark l.output ≡ g.W.Output.own_mark l.fn.output)
