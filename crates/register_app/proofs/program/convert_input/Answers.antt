-- The lists of the run hold standard input and standard output alone.
use Rattle.std.proofs.Common.{◌≡◌, ◌∙◌, ◌∷◌, ◌++◌, [], ap, length, rules}
use Rattle.register_run.proofs.HeadlineLemmas.{lengths_of}
use Rattle.register_app.proofs.ReportLemmas.{taken_alone}
use Rattle.register_app.proofs.program.convert_input.Goals as goal

pub returns-clause-converted : goal.returns-clause-converted
returns-clause-converted g c = λ begun.
    let sources : c.push_reserved.new.self.items ≡ c.args.input ∷ [] = search rules in
    let given : c.push_reserved-2.new.self.items ≡ c.args.output ∷ [] = search rules in
    let ran = c.run_job-end.ensures.converted begun in
    let one = ap length ran.outputs ∙ (lengths_of _ _ _ _ _ ran.reports.places).0 ∙ ap length given in
    let rest = taken_alone c.run_job-end.result.outputs.items c.pop.new.self.items c.in-Some.output
    c.in-Some.ensures.items one in
    let written : c.run_job-end.result.outputs.items
    ≡ c.in-Some.output ∷ [] = c.in-Some.ensures.items ∙ ap (λ xs. xs ++ c.in-Some.output ∷ []) rest in
    rw (sources, given, written) at ran
