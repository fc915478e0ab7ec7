-- A run that began has a report, and standard error has gained its lines.
use Rattle.std.proofs.Common.{rules, ◌≡◌, ℕ, List, arith, false, ◌↔◌}
use Rattle.std.specs.Io.KnownBytes.{Appends}
use Rattle.std.specs.declared.io.traits.Read as reads
use Rattle.register_records.specs.declared.outputs.Output as outputs
use Rattle.register_records.specs.declared.setups.Setup.{Setup}
use Rattle.register_run.specs.Histories.{AreOfMachine}
use Rattle.register_run.specs.Reports.{IsReport, stripes_of}
use Rattle.register_run.specs.Threads.{AreThreads}
use Rattle.register_run.specs.declared.reports.Report.{Report}
use Rattle.register_run.specs.declared.reports.Verdict.TheVariants.{Complete}
use Rattle.register_run.proofs.HeadlineLemmas.{lengths_of}
use Rattle.register_app.specs.Answers.{IsConverted}
use Rattle.register_app.specs.Reports.{lines_from}
use Rattle.register_arguments.specs.Requests.{IsSetupOf, Task, task_of}
use Rattle.register_app.proofs.RefusedLemmas.{out_of_memory}
use Rattle.register_app.proofs.program.run_job.Goals as goal

-- a run whose setup is the task's
converted : {R W E : Type 0} (r : reads.Ghosts R) (o : outputs.Ghosts W) (e : outputs.Ghosts E) (task : Task)
    (status processors : ℕ) (sources : List R) (given : List W) (before after : E) (setup : Setup) (report : Report W)
    → IsReport r o setup sources given report
    → AreOfMachine r o setup sources given report.outputs.items report.ends.items (stripes_of report)
    → AreThreads setup report.ends.items report.ran.items → IsSetupOf task processors setup
    → ((status ≡ 0) ↔ (report.verdict ≡ Complete))
    → (e.has_failed after ≡ false
    → Appends (e.contents before) (e.contents after) (lines_from task.summary 1 report.ends.items))
    → (status ≡ 0 → task.summary ≡ false → after ≡ before)
    → IsConverted r o e task status sources given report.outputs.items report.ran.items before after
converted r o e task status processors sources given before after setup report reports machine threads asked complete
    lines quiet = search rules

pub returns-in-Ok-clause-converted : goal.returns-in-Ok-clause-converted
returns-in-Ok-clause-converted g c = λ begun.
    converted _ _ _ (task_of c.args.job.now) _ c.usable_processors.result _ _ _ _ _ c.in-Ok.report
    c.in-Ok.ensures.report c.in-Ok.ensures.machine c.in-Ok.ensures.threads c.setup-setup.ensures
    c.report_run.ensures.complete c.report_run.ensures.lines c.report_run.ensures.quiet

pub returns-in-Ok-clause-len : goal.returns-in-Ok-clause-len
returns-in-Ok-clause-len g c = grind (arith, lengths_of)

-- a run that did not begin was refused memory
pub returns-in-Err-clause-reported : goal.returns-in-Err-clause-reported
returns-in-Err-clause-reported g c = search (rules, out_of_memory)
