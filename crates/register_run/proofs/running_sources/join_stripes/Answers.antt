use Rattle.register_run.proofs.Common.{rules, arith}
use Rattle.register_run.proofs.StripeLemmas.{end_passed}
use Rattle.register_run.proofs.running_sources.join_stripes.Goals as goal

pub loop-stripe-init : goal.loop-stripe-init
loop-stripe-init g c = grind arith

pub loop-stripe-preserved-in-Ok : goal.loop-stripe-preserved-in-Ok
loop-stripe-preserved-in-Ok g c = grind arith

pub loop-stripe-preserved : goal.loop-stripe-preserved
loop-stripe-preserved g c = search rules

pub returns-then-confirmed : goal.returns-then-confirmed
returns-then-confirmed g c = search (rules, end_passed)
