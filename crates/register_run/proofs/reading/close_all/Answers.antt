use Rattle.register_run.proofs.Common.{append_assoc, rules}
use Rattle.register_run.proofs.StripeLemmas.{zip_end}
use Rattle.register_run.proofs.reading.close_all.Goals as goal

pub loop-sender-init : goal.loop-sender-init
loop-sender-init g c = search rules

pub loop-sender-preserved : goal.loop-sender-preserved
loop-sender-preserved g c = search (rules, append_assoc)

pub returns : goal.returns
returns g c = search (rules, zip_end)
