use Rattle.std.proofs.Common.{◌≡◌, List, [], ap, arith, replicate, ℕ}
use Rattle.std.proofs.lemmas.List.{replicate_more}
use Rattle.sheets.proofs.LineLemmas.{gained_as, next_gained, none_gained}
use Rattle.sheets.proofs.lines.SheetLines.push_empty.Goals as goal

pub fields-init : goal.fields-init
fields-init c = none_gained c.args.self.now

pub fields-preserved : goal.fields-preserved
fields-preserved c =
    next_gained _ _ _ c.args.self.now c.fields.self c.push.new.self c.fields.invariant c.in_ok-push.ensures
    (replicate_more c.fields.counter [])

pub returns : goal.returns
returns c =
    let all : c.fields.counter ≡ c.args.count = omega arith in
    gained_as _ _ c.args.self.now c.fields.self (ap (λ (n : ℕ). replicate {A = List ℕ} n []) all) c.fields.invariant
