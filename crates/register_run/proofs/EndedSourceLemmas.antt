-- What is known of a source that has ended.
use Rattle.register_run.proofs.Common.{rules, ◌≡◌, ◌≢◌, ◌∙◌, ap, refl, sym, subst, ℕ, List, [], ◌++◌, length, Option}
use Rattle.register_run.proofs.Common.{None, Some, ◌≤◌, inl, inr, arith, length-append, true, false, Bool, Err, Ok}
use Rattle.register_run.proofs.Common.{IfOk, IfSome, AllZip, Contains, length-map, props, ∥∥₁_elim, ∥∥₁_map, ∥∥₁_prop}
use Rattle.register_run.proofs.Common.{Row, Cause, SourceEnd, HasAllEntries, HasEntries, HasFirstEntries, Numbered}
use Rattle.register_run.proofs.Common.{record_limit, entry_seen, Reading, layout_of, reading_of, Stripe, Sent, Findings}
use Rattle.register_run.proofs.Common.{Table, is_of_table, Carries, IsMachineWithTable, HasPassed, IsGiven, IsOfGiven}
use Rattle.register_run.proofs.Common.{cases_eq, false_from_ne_true, IsNotOfOutput, is_of_reading, speaks_of_text}
use Rattle.register_records.specs.Outcomes.{IsRowOf}
use Rattle.register_records.specs.Sources.{IfBroken, IfWhole, cause_number, ArePartOfTable, Gains, IsFrontOfTable}
use Rattle.register_records.specs.Sources.{IsTableOf}
use Rattle.register_records.specs.Tables.{Layout, table_text}
use Rattle.register_records.specs.TablesWritten.{Holds, entries_seen, rows_seen, table_fault, HasEnded, has_lost_output}
use Rattle.register_records.specs.TablesWritten.{is_headed, made_for, waiting_of}
use Rattle.register_records.proofs.SomeRecordsLemmas.{front_of_some}
use Rattle.register_records.proofs.TableLemmas.{are_rows, faultless, front_so, gained_so, table_is, whole_so, written}
use Rattle.register_records.specs.declared.outputs.Output as outputs
use Rattle.register_records.specs.declared.ends.Cause.TheVariants as cause
use Rattle.register_records.specs.declared.ends.SourceEnd.TheVariants as end
use Rattle.register_run.specs.MetCauses.{IsLowest, IsMet, Differs}
use Rattle.register_run.specs.private.MetCauses.{HasMetNone}
use Rattle.register_run.specs.Headline.{IsSourceEnd, IsAllOfTable, causes_of_reading}
use Rattle.register_run.proofs.GivenLemmas.{first_of_first, front_all, rows_front}

listed : (c : Cause) → Contains causes_of_reading c → is_of_reading c ≡ true
listed c h = search rules

-- the threads gave up for this cause of reading; the table has the rows of all entries that were read, and no heading
-- without a row
abbrev IsReadingMet : Findings → Cause → Type 0
IsReadingMet met c =
    (met.sent.outcome ≡ Err c) × (met.fault ≡ None) × (met.headed ≡ true → met.rows ≢ 0)
    × (met.rows ≡ met.sent.count)

module _ (met : Findings) (c : Cause) (of_table : IfSome met.fault (λ f. is_of_table f ≡ true)) where
  -- a cause that no table gives is the outcome of the threads
  met_by_threads : is_of_table c ≡ false → IsMet met c → met.sent.outcome ≡ Err c
  met_by_threads other is = grind arith

  sink_met : IsNotOfOutput met.sent.outcome → IsMet met c → c ≡ cause.SinkFault → met.fault ≡ Some cause.SinkFault
  sink_met good is e = grind arith

  module _ (lowest : IsLowest (IsMet met) c) (reading : is_of_reading c ≡ true) where
    not_of_table : (d : Cause) → is_of_table d ≡ true → cause_number c ≤ cause_number d → ⊥
    not_of_table d of below = grind arith

    none_broke : (f : Option Cause) → met.fault ≡ f → f ≡ None
    none_broke f e = grind (arith, not_of_table)

    read_outcome : met.sent.outcome ≡ Err c
    read_outcome = met_by_threads (false_from_ne_true (is_of_table c) (λ of. not_of_table c of (omega arith))) lowest.0

    unmet : Differs (Err c) met.sent.count met.headed met.rows → ⊥
    unmet differs =
        not_of_table cause.Unconfirmed refl (lowest.1 cause.Unconfirmed (inr (inr (
          refl,
          none_broke met.fault refl,
          subst (λ p. Differs p met.sent.count met.headed met.rows) (sym read_outcome) differs,
        ))))

    all_written : met.rows ≡ met.sent.count
    all_written = elim (cases_eq met.rows met.sent.count) [ inl e ↦ e | inr n ↦ absurd (unmet (inl n)) ]

    reading_met : IsReadingMet met c
    reading_met = (read_outcome, none_broke met.fault refl, λ head zero. unmet (inr (head, zero)), all_written)

-- cause 2 is the outcome of the threads
pub thread_outcome : (met : Findings) → IfSome met.fault (λ f. is_of_table f ≡ true) → (e : SourceEnd)
    → IfBroken e (IsLowest (IsMet met)) → e ≡ end.Broken cause.NoThread → met.sent.outcome ≡ Err cause.NoThread
thread_outcome met of_table e lowest is = search (rules, met_by_threads, met)

-- where nothing was met, a source ends as its table does
pub met_none : {W : Type 0} (e : SourceEnd) (met : Findings) (table : Table W) → met.sent.outcome ≡ Ok met.rows
    → met.fault ≡ None → met.headed ≡ true → met.rows ≡ table.rows
    → IfWhole e (HasEnded table) → IfWhole e (HasMetNone met table.journal.items)
met_none e met table outcome fault headed rows is = grind arith

pub never_broken : (e : SourceEnd) (f : Option Cause) (P : Cause → Type 0) → f ≡ None → IfBroken e (λ c. f ≡ Some c)
    → IfBroken e P
never_broken e f P none is = grind arith

module _ {W : Type 0} (o : outputs.Ghosts W) (text : Option (List ℕ)) (table : Table W) (output : W)
    (rows : List Row) (passed : Sent) (holds : Holds o table output rows) (sent : waiting_of table ≡ [])
    (has : HasPassed text (reading_of table.setup) passed (λ row. Contains rows row)) (headed : Bool)
    (same_head : headed ≡ is_headed table) where
  -- what was met of the source
  abbrev met : Findings
  met = record { sent = passed; fault = table_fault table; headed = headed; rows = table.rows }

  abbrev by : Reading
  by = reading_of table.setup

  abbrev layout : Layout
  layout = layout_of table.setup

  abbrev AreRows : Type 0
  AreRows = AllZip (IsRowOf layout.targets) (entries_seen rows) (rows_seen rows)

  -- what the output has gained is so, and the source has ended so
  abbrev Gained : (List ℕ → Type 0) → Type 0
  Gained AreSo = Gains (o.contents (made_for table)) (o.contents output) AreSo

  abbrev EndsSo : SourceEnd → Type 0
  EndsSo e = ∥ IsSourceEnd o by layout text (made_for table) output e ∥₁

  entries_len : length (entries_seen rows) ≡ table.rows
  entries_len = length-map rows (λ (row : Row). entry_seen row.entry) ∙ holds.counted

  in_order_so : has_lost_output table ≡ false → AreRows → Gained (ArePartOfTable by layout None)
  in_order_so good are =
      gained_so o table output rows holds sent (ArePartOfTable by layout None) (is_headed table) refl good
      (λ none. inl refl) (λ some. inr (length (rows_seen rows), front_of_some by layout refl rows holds.numbered are))

  not_failed : o.has_failed output ≡ false → has_lost_output table ≡ false
  not_failed good = false_from_ne_true (has_lost_output table) (λ s. let f = holds.failed s in absurd (cc))

  module _ (given : List Numbered) (is : IsGiven text by passed given)
      (all : (row : Row) → Contains rows row → IsOfGiven given row) where
    taken_front : (rest : List Numbered) × (given ≡ entries_seen rows ++ rest)
    taken_front = rows_front given rows is.numbered holds.numbered all

    none_given : given ≡ [] → table.rows ≡ 0
    none_given e = grind (arith, taken_front.1, entries_len, length-append (entries_seen rows) taken_front.0)

    first_so : table.rows ≢ 0 → HasFirstEntries by text (entries_seen rows)
    first_so some = elim is.first [
      | inl e ↦ absurd (some (none_given e))
      | inr f ↦ first_of_first by text given (entries_seen rows) taken_front.0 taken_front.1 f
    ]

    part_so : has_lost_output table ≡ false → (headed ≡ true → table.rows ≢ 0) → AreRows
        → Gained (ArePartOfTable by layout text)
    part_so good some are =
        gained_so o table output rows holds sent (ArePartOfTable by layout text) (is_headed table) refl good (λ none. inl refl)
        (λ has. inr (
          length rows,
          front_so o table output rows holds sent text are good (length rows) refl
              (first_so (some (same_head ∙ has))),
        ))

  -- as many rows were written as there may be
  most_so : length rows ≡ record_limit → has_lost_output table ≡ false
      → HasFirstEntries by text (entries_seen rows) → AreRows
      → Gained (IsFrontOfTable by layout text record_limit)
  most_so most good first are =
      gained_so o table output rows holds sent (IsFrontOfTable by layout text record_limit) (is_headed table) refl good
      (λ none. absurd (let zero : length rows ≡ 0 = ap length none in omega (arith, most)))
      (λ some. front_so o table output rows holds sent text are good record_limit (sym most) first)

  -- the rows of all entries were written
  all_so : has_lost_output table ≡ false → HasAllEntries by text (entries_seen rows)
      → AreRows → Gained (IsAllOfTable by layout text)
  all_so good all are =
      gained_so o table output rows holds sent (IsAllOfTable by layout text) (is_headed table) refl good
      (λ none. inl (refl, subst (λ rs. HasAllEntries by text (entries_seen rs)) none all))
      (λ some. inr (entries_seen rows, rows_seen rows, table_is o table output rows holds sent are, all))

  reading_so : (c : Cause) → is_of_reading c ≡ true → IsReadingMet met c → EndsSo (end.Broken c)
  reading_so c reading fact =
      let good = faultless table.state fact.1 in
      let speaks : speaks_of_text passed.outcome ≡ true = ap speaks_of_text fact.0 ∙ reading in
      ∥∥₁_elim (has.rows speaks) ∥∥₁_prop
      (λ (given, is, all). ∥∥₁_map (are_rows o table output rows holds sent) (λ are.
      let bad = rw fact.0 at is.bad_header in
      let many = rw fact.0 at is.too_many in
      let unsealed = rw fact.0 at is.not_sealed in
      let front = taken_front given is all in
      let long : length given ≡ table.rows = is.counted speaks ∙ sym fact.3 in
      let same : given ≡ entries_seen rows =
      front_all given (entries_seen rows) front.0 front.1 (long ∙ sym entries_len) in record {
        part = λ e. part_so given is all good fact.2 are;
        bad_header = λ e. (bad e).1;
        too_many = λ e.
            let most : table.rows ≡ record_limit = sym long ∙ (many e).0 in (
              (many e).1,
              most_so (holds.counted ∙ most) good (first_so given is all (λ zero. omega (arith, most))) are,
            );
        not_sealed = λ e.
            let u = unsealed e in (
              u.0,
              u.1,
              all_so good (subst (λ es. HasAllEntries by text es) same u.2) are,
            );
        in_order = λ unfailed. in_order_so good are;
        sink = λ e. absurd (let k : is_of_reading c ≡ false = ap is_of_reading e in cc);
        kept = λ e. holds.good good;
      }))

  threads_so : (c : Cause) → is_of_reading c ≡ false
      → (c ≡ cause.SinkFault → table_fault table ≡ Some cause.SinkFault) → EndsSo (end.Broken c)
  threads_so c other sink =
      ∥∥₁_map (are_rows o table output rows holds sent) (λ are. search (rules, listed, in_order_so, not_failed))

  broken_so : (b : Bool) (c : Cause) → is_of_reading c ≡ b → (is_of_reading c ≡ true → IsReadingMet met c)
      → (c ≡ cause.SinkFault → table_fault table ≡ Some cause.SinkFault) → EndsSo (end.Broken c)
  broken_so b c of reading sink = grind (arith, reading_so, threads_so)

  -- a source with another header has no table
  pub headless : (e : SourceEnd) → IfBroken e (IsLowest (IsMet met))
      → e ≡ end.Broken cause.BadHeader → (is_headed table ≡ false) × (has_lost_output table ≡ false)
  headless (end.Whole count refused journal) lowest is = absurd (cc)
  headless (end.Broken c) lowest is =
      let same : c ≡ cause.BadHeader = cc in
      let fact =
      reading_met met c table.of_table lowest (ap is_of_reading same) in
      let speaks : speaks_of_text passed.outcome ≡ true = ap speaks_of_text fact.0 ∙ ap is_of_reading same in (
        false_from_ne_true (is_headed table) (λ some.
            ∥∥₁_elim (has.rows speaks) (Prim.hlevel props) (λ (given, so, all).
            let bad = rw fact.0 at so.bad_header in
            fact.2 (same_head ∙ some) (none_given given so all (bad same).0))),
        faultless table.state fact.1,
      )

  pub source_end : (e : SourceEnd) → IfWhole e (HasMetNone met table.journal.items)
      → IfBroken e (IsLowest (IsMet met)) → EndsSo e
  source_end (end.Broken c) whole lowest =
      broken_so (is_of_reading c) c refl (reading_met met c table.of_table lowest)
      (sink_met met c table.of_table has.not_of_output lowest.0)
  source_end (end.Whole count refused journal) whole lowest =
      let good = faultless table.state whole.1 in
      let speaks : speaks_of_text passed.outcome ≡ true = ap speaks_of_text whole.0 in
      ∥∥₁_elim (has.rows speaks) ∥∥₁_prop
      (λ (given, is, all). ∥∥₁_map (are_rows o table output rows holds sent) (λ are.
      let ended = rw whole.0 at is.all in
      let front = taken_front given is all in
      let len : length given ≡ length (entries_seen rows) = sym ended.0 ∙ whole.3 ∙ sym entries_len in
      let same = front_all given (entries_seen rows) front.0 front.1 len in
      let some = sym same_head ∙ whole.2 in record {
        table =
            rw (whole.4, whole.5) (whole_so o table output rows holds sent text are good count (whole.3 ∙ sym holds.counted) some
            (subst (λ g. HasEntries by text g) same ended.1));
        flushed = (written o table output rows holds sent good some).1;
        good = holds.good good;
      }))

  -- the table of a source that is whole is that of the machine's entries
  pub with_table : (stripes : List Stripe)
      → IfOk passed.outcome (λ count. ∥ Carries text table.setup count stripes (λ row. Contains rows row) ∥₁)
      → (e : SourceEnd)
      → IfWhole e (HasMetNone met table.journal.items)
      → ∥ IfWhole e (λ count refused notes.
      IsMachineWithTable text table.setup (o.contents (made_for table)) (o.contents output) count stripes) ∥₁
  with_table stripes carries (end.Broken c) whole = ∣ tt ∣₁
  with_table stripes carries (end.Whole count refused journal) whole =
      ∥∥₁_elim (rw whole.0 at carries) ∥∥₁_prop
      (λ (machine, all). ∥∥₁_map (are_rows o table output rows holds sent) (λ are.
      let front = rows_front machine.given rows machine.numbered holds.numbered all in
      let len : length machine.given ≡ length (entries_seen rows) = machine.counted ∙ whole.3 ∙ sym entries_len in
      let same = front_all machine.given (entries_seen rows) front.0 front.1 len in (
        machine,
        rows_seen rows,
        (
          table_text layout (rows_seen rows),
          subst (λ es. IsTableOf layout es (rows_seen rows) (table_text layout (rows_seen rows))) (sym same)
              (table_is o table output rows holds sent are),
          (written o table output rows holds sent (faultless table.state whole.1) (sym same_head ∙ whole.2)).0,
        ),
      )))
