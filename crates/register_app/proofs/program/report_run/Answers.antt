-- Where all is whole and no summary is asked for, there are no lines.
use Rattle.std.proofs.Common.{rules, arith}
use Rattle.register_app.proofs.ReportLemmas.{no_lines}
use Rattle.programs.proofs.AppendsLemmas.{appends_none}
use Rattle.register_app.proofs.program.report_run.Goals as goal

pub returns-else-summary-clause-lines : goal.returns-else-summary-clause-lines
returns-else-summary-clause-lines g c = search (rules, no_lines, appends_none)

-- a run with a broken source is reported as such
pub returns-in-Incomplete-clause-complete : goal.returns-in-Incomplete-clause-complete
returns-in-Incomplete-clause-complete g c = (λ none. absurd (omega (arith, none)), λ whole. absurd (cc))

pub returns-in-Incomplete-clause-quiet : goal.returns-in-Incomplete-clause-quiet
returns-in-Incomplete-clause-quiet g c = λ none. absurd (omega (arith, none))
