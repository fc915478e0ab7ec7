use Rattle.register_run.proofs.Common.{◌∙◌, Option, ap, subst, sym, ℕ, props, ∥∥₁_elim, ∥∥₁_prop, Cause, Findings, Ran}
use Rattle.register_records.specs.TablesWritten.{table_fault}
use Rattle.register_run.specs.Threads.{AreThreadsOf}
use Rattle.register_run.proofs.EndedSourceLemmas.{headless, source_end, with_table}
use Rattle.register_run.proofs.HeadlineLemmas.{threads_of}
use Rattle.register_run.proofs.ended_sources.conclude.Goals as goal

pub invariant_of-result : goal.invariant_of-result
invariant_of-result g c =
    let table = c.args.table in let output = c.args.output in
    let text = g.R.Read.remaining c.args.joined.source.value in
    let sent = c.args.joined.sent in
    let headed = c.has_heading.result in
    let end = c.end_of_source.result in
    let met_of : Option Cause → ℕ → Findings = λ f rows.
    record { sent = sent; fault = f; headed = headed; rows = rows } in
    let ran : Ran = record { setup = c.of.result; stripes = c.args.joined.stripes; findings = c.of-2.result } in
    let setup = c.of.ensures ∙ c.setup.ensures in
    let whole = rw (c.fault.ensures, c.rows.ensures) at c.end_of_source.ensures.whole in
    let broken = rw (c.fault.ensures, c.rows.ensures) at c.end_of_source.ensures.broken in record {
      marked = ∥∥₁_elim c.requires.passed (Prim.hlevel props) (λ (rows, holds, has, carries).
          rw c.of-3.ensures holds.mark);
      untouched = λ bad.
          let none = ∥∥₁_elim c.requires.passed (Prim.hlevel props) (λ (rows, holds, has, carries).
          headless g.W.Output text table output rows sent holds c.requires.sent has headed c.has_heading.ensures end
          broken bad) in
          rw c.of-3.ensures (c.requires.untouched none.0 none.1);
      threads =
          subst (λ s. ∥ AreThreadsOf s end ran ∥₁) (sym setup)
          ∣ threads_of table.setup (met_of (table_fault table) table.rows) table.journal.items table.of_table ran end
          (c.of-2.ensures ∙ ap (λ f. met_of f c.rows.result) c.fault.ensures
          ∙ ap (λ n. met_of (table_fault table) n) c.rows.ensures)
          c.requires.staffed whole broken ∣₁;
      source_end = ∥∥₁_elim c.requires.passed ∥∥₁_prop (λ (rows, holds, has, carries).
          rw (setup, c.of-3.ensures)
          (source_end g.W.Output text table output rows sent holds c.requires.sent has headed c.has_heading.ensures end
          whole broken));
      machine = ∥∥₁_elim c.requires.passed ∥∥₁_prop (λ (rows, holds, has, carries).
          rw (setup, c.of-3.ensures)
          (with_table g.W.Output text table output rows sent holds c.requires.sent has headed c.has_heading.ensures
          c.args.joined.stripes.value.items carries end whole));
    }
