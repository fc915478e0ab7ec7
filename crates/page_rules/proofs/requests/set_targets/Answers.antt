use Rattle.std.proofs.Common.{◌≡◌, ◌<◌, ◌∙◌, ap, arith, length, min, refl, take}
use Rattle.std.proofs.lemmas.List.{length-set, take_min}
use Rattle.page_rules.specs.Requests.{targets_at}
use Rattle.page_rules.specs.declared.requests.TheConstants.{TOO_MANY}
use Rattle.page_rules.proofs.RequestLemmas.{one_more}
use Rattle.page_rules.proofs.requests.set_targets.Goals as goal

pub columns-init : goal.columns-init
columns-init c = record { long = c.told-targets; placed = refl }

pub columns-preserved : goal.columns-preserved
columns-preserved c =
    let here : c.columns.i < length c.args.columns.now = omega (arith, c.min-count.ensures) in
    let room : c.columns.i < length c.columns.targets =
    omega (arith, c.columns.invariant.long, c.min-count.ensures) in
    record {
      long = length-set c.columns.targets c.columns.i c.target_at.result ∙ c.columns.invariant.long;
      placed = one_more _ _ _ _ here room c.target_at.ensures c.columns.invariant.placed;
    }

pub returns-clause-value : goal.returns-clause-value
returns-clause-value c =
    let end : c.columns.i ≡ c.min-count.result = omega arith in
    let few : c.min-count.result ≡ min TOO_MANY (length c.args.columns.now) = omega (arith, c.min-count.ensures) in
    rw end at c.columns.invariant.placed
    ∙ ap (λ n. targets_at (take n c.args.columns.now)) few
    ∙ ap targets_at (take_min TOO_MANY c.args.columns.now)
