-- The second text follows the first.
use Rattle.programs.proofs.Common.{◌∙◌, ◌++◌, ap}
use Rattle.programs.proofs.places.joined.Goals as goal

pub returns : goal.returns
returns c = c.in_ok-push_str.ensures.bytes ∙ ap (λ t. t ++ c.args.behind.now) c.in_ok-both.ensures.ok
