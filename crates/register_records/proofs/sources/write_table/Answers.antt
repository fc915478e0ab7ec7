use Rattle.std.proofs.Common.{◌≡◌, ℕ, ◌+◌, ◌≢◌, [], ◌∷◌, ◌++◌, length, Some, None, sym, refl, ap, ◌∙◌, inl, inr, rules}
use Rattle.register_records.proofs.Common.{entry_fault_cause, HasEntries, HasFirstEntries, entry_seen, table_fault}
use Rattle.register_records.proofs.Common.{given_of, targets_of, text_of, Row, length-map, map-append}
use Rattle.register_records.specs.declared.ends.Cause.TheVariants as cause
use Rattle.register_records.proofs.TableLemmas.{broken_by_reader, broken_by_table, fewer_left, of_row, Follows}
use Rattle.register_records.proofs.TableLemmas.{faultless, flushed, kept, marked, of_reader, other_cause, whole_rows}
use Rattle.register_records.proofs.StepLemmas.{passed_on}
use Rattle.register_records.proofs.sources.write_table.Given.{Over}
use Rattle.register_records.proofs.sources.write_table.Goals.{After-write_heading, In_err-put_next}
use Rattle.register_records.proofs.sources.write_table.Goals as goal

-- the table once its heading was written, or once that broke it off
begun : (g : Over) (c : After-write_heading g) → Follows g.W.Output c.args.output.now c.args.setup.now
    (text_of c.args.entries.now) (given_of c.args.entries.now) c.write_heading.new.self c.write_heading.new.output
begun g c =
    let first = of_reader HasFirstEntries _ _ _ _ _ _ refl c.requires.reads c.requires.none_given c.args.entries.now.first
    in search (rules, first)

pub entries-init : goal.entries-init
entries-init g c =
    let follows = begun g (goal.at.entries-init g c).After-write_heading in search (rules, follows)

pub returns-in-Some-clause-broken : goal.returns-in-Some-clause-broken
returns-in-Some-clause-broken g c =
    let from = begun g (goal.at.returns-in-Some-clause-broken g c).After-write_heading in
    let fault = sym c.fault.ensures ∙ c.in-Some.is in
    broken_by_table _ _ _ _ _ _ _ _ fault (λ is. from.confirmed (fault ∙ ap Some is))
    (λ is. from.holds.failed (c.write_heading.new.self.sink_fault (fault ∙ ap Some is)))
    (marked _ _ _ _ _ _ _ from) (λ other. from)

-- the row that was read is the next one of the table
pub put_next-requires-clause-next : goal.put_next-requires-clause-next
put_next-requires-clause-next g c =
    let inv = c.entries.invariant in let f = inv.follows in
    let read = c.in_ok-read_next.ensures in
    let found = c.if-branch.true in
    let counted : length (given_of c.entries.entries) ≡ c.entries.table.rows
    = ap length (f.all inv.open_) ∙ length-map f.rows (λ (r : Row). entry_seen r.entry) ∙ f.holds.counted in (
      f.headed inv.open_,
      ((rw found at read.reads.number) refl).0 ∙ ap (λ (n : ℕ). n + 1) counted,
      (rw found at read.targets) refl ∙ sym (ap targets_of f.same.1),
    )

pub entries-smaller : goal.entries-smaller
entries-smaller g c =
    let read = c.in_ok-read_next.ensures.reads in let found = c.if-branch.true in
    fewer_left _ _ _ _ ((rw found at read.gives) refl) ((rw found at read.number) refl)

pub entries-preserved : goal.entries-preserved
entries-preserved g c =
    let inv = c.entries.invariant in let f = inv.follows in
    let read = c.in_ok-read_next.ensures in let found = c.if-branch.true in
    let row = c.read_next.new.self in
    let put = c.in_ok-put_next.ensures in
    let given = (rw found at read.reads.gives) refl
    ∙ ap (λ entries. entries ++ entry_seen row.entry ∷ []) (f.all inv.open_)
    ∙ sym (map-append (λ (r : Row). entry_seen r.entry) f.rows (row ∷ [])) in
    let text = read.reads.text.0 ∙ inv.text in let by = read.reads.text.1 ∙ inv.by in record {
      text = text;
      by = by;
      failed = read.reads.fails;
      open_ = put.sent.0;
      follows = record {
        rows = f.rows ++ row ∷ [];
        holds = put.put _ f.holds;
        same = (put.same.0 ∙ f.same.0, put.same.1 ∙ f.same.1);
        all = λ e. given;
        first = of_reader HasFirstEntries _ _ _ _ _ _ text by given c.read_next.new.entries.first;
        headed = λ e. put.heading ∙ f.headed inv.open_;
        sent = put.sent.1;
        confirmed = λ is. let clash = sym put.sent.0 ∙ is in absurd (cc);
        lost = λ lost. let clash = sym lost ∙ faultless _ put.sent.0 in absurd (cc);
      };
    }

-- a fault of a row: without one of the output, the table stays as it was
stopped : (g : Over) (c : In_err-put_next g) → c.in_err-put_next.field-0.0 ≢ cause.SinkFault
    → Follows g.W.Output c.args.output.now c.args.setup.now (text_of c.args.entries.now)
    (given_of c.read_next.new.entries) c.put_next.new.self c.put_next.new.output
stopped g c other =
    let inv = c.entries.invariant in let f = inv.follows in
    let put = c.put_next.ensures in let fault = c.in_err-put_next.ensures.fault in
    let memory = c.in_err-put_next.ensures.memory (elim fault.0 [ inl is ↦ is | inr is ↦ absurd (other is) ]) in
    let broke : table_fault c.put_next.new.self ≢ None = λ e. let clash = sym e ∙ fault.1 in absurd (cc) in
    let holds = memory.3 f.rows f.holds in let known = other_cause _ _ _ fault.1 (of_row _ fault.0) in
    let sent = memory.2 ∙ f.sent in search (rules, holds, known, broke, sent)

pub returns-in_err-put_next-clause-broken : goal.returns-in_err-put_next-clause-broken
returns-in_err-put_next-clause-broken g c =
    let broke = c.in_err-put_next.ensures in
    passed_on _ c.in_err-put_next.field-0.0 _ c.from_residual-in_err-put_next.ensures.1
    (broken_by_table _ _ _ _ _ _ _ _ broke.fault.1 (of_row _ broke.fault.0) broke.sink
    (c.put_next.ensures.mark ∙ marked _ _ _ _ _ _ _ c.entries.invariant.follows)
    (stopped g (goal.at.returns-in_err-put_next-clause-broken g c).In_err-put_next))

pub returns-in_err-read_next-clause-broken : goal.returns-in_err-read_next-clause-broken
returns-in_err-read_next-clause-broken g c =
    let inv = c.entries.invariant in
    passed_on _ (entry_fault_cause c.in_err-read_next.field-0.0) _ c.from_residual.ensures.1
    (broken_by_reader _ _ _ _ _ _ _ _ _ _ _ c.in_err-read_next.ensures.reads inv.text inv.by inv.failed refl inv.open_
    inv.follows)

pub returns-clause-whole : goal.returns-clause-whole
returns-clause-whole g c =
    let inv = c.entries.invariant in let open_ = inv.open_ in let follows = inv.follows in
    let none = c.if-branch.false in
    let read = c.in_ok-read_next.ensures.reads in record {
      goes_on = open_;
      whole = whole_rows _ _ _ _ _ _ _ follows open_ (of_reader HasEntries _ _ _ _ _ _ (read.text.0 ∙ inv.text)
          (read.text.1 ∙ inv.by) ((rw none at read.ends) refl).1 ((rw none at read.all) refl));
      flushed = flushed _ _ _ _ _ _ _ follows open_;
      good = kept _ _ _ _ _ _ _ follows (λ is. let e = sym open_ ∙ is in absurd (cc));
      mark = marked _ _ _ _ _ _ _ follows;
    }
