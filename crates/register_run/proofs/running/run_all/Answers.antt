use Rattle.register_run.proofs.Common.{◌≡◌, ◌∙◌, arith, length}
use Rattle.register_run.proofs.HeadlineLemmas.{reported}
use Rattle.register_run.proofs.running.run_all.Goals as goal

pub returns : goal.returns
returns g c =
    let setup = c.args.context.now.setup.now in let ended_sources = c.finish_all-ended_sources.result.items in
    let sources = c.args.sources.items in let outputs = c.args.outputs.items in
    let same : length sources ≡ length outputs =
    (let a = c.args.sources.ok.0 in let b = c.args.outputs.ok.0 in let p = c.requires.0 in
    let q = c.requires.1 in omega arith) in
    let is = c.finish_all-ended_sources.ensures.cases ∙ c.visit_until_ended.ensures.cases
    ∙ c.start_all-running_sources.ensures.cases in
    let e = c.report.ensures in
    let all = reported setup ended_sources sources outputs same is c.report.result e.outputs e.ends e.ran e.verdict in
    record { report = all.0; machine = all.1; threads = all.2 }
