use Rattle.std.proofs.Common.{◌≡◌, ◌∙◌, ◌-◌, ◌+◌, [], ◌∷◌, ◌++◌, suc, append_assoc, ap, arith, length-append, rules}
use Rattle.std.proofs.Common.{true, Ok, ℕ, refl, take}
use Rattle.sheets.specs.Reading.{left_of}
use Rattle.page_rules.specs.declared.picking.PickFault.TheVariants.{LongField, OutOfMemory}
use Rattle.sheets.proofs.SendingLemmas.{no_value}
use Rattle.csv.specs.Records.{fields_of}
use Rattle.register_records.proofs.StepLemmas.{passed_on}
use Rattle.page_rules.proofs.PickLemmas.{long_among}
use Rattle.page_rules.proofs.picking.Picked.add_records.Goals as goal

pub records-preserved : goal.records-preserved
records-preserved c =
    let (done, picked, counted, rest) = c.records.invariant.done in
    let yes : c.in_ok-read_next.field-0 ≡ true = search rules in
    let found = c.read_next.ensures.found (c.in_ok-read_next.was ∙ ap Ok yes) in
    let fields = fields_of c.read_next.new.record in
    let step : c.args.most - c.records.counter ≡ suc (c.args.most - (c.records.counter + 1)) =
    omega (arith, c.records-test.true) in
    record {
      reading = c.read_next.ensures.reading (c.in_ok-read_next.was ∙ ap Ok yes);
      done = (
        done ++ fields ∷ [],
        c.in_ok-add.ensures.picked done picked,
        length-append done (fields ∷ []) ∙ ap (λ n. n + 1) counted,
        append_assoc done (fields ∷ []) _ ∙ rw (found, step) at rest,
      );
    }

pub returns-in_err-add-clause-long : goal.returns-in_err-add-clause-long
returns-in_err-add-clause-long c =
    let (done, picked, counted, rest) = c.records.invariant.done in
    let yes : c.in_ok-read_next.field-0 ≡ true = search rules in
    let found = c.read_next.ensures.found (c.in_ok-read_next.was ∙ ap Ok yes) in
    let step : c.args.most - c.records.counter ≡ suc (c.args.most - (c.records.counter + 1)) =
    omega (arith, c.records-test.true) in
    passed_on _ c.in_err-add.field-0.0 _ c.from_residual-in_err-add.ensures.1 (λ is.
    long_among c.args.places.now done _ _ (fields_of c.read_next.new.record) (rw (found, step) at rest)
    (c.in_err-add.ensures.long is))

memory_not_long : OutOfMemory ≡ LongField → ⊥
memory_not_long e = cc

pub returns-in_err-read_next : goal.returns-in_err-read_next
returns-in_err-read_next c =
    let is = c.from_residual.ensures.1 in
    record {
      picked = no_value c.from_residual.result _ _ is;
      long = passed_on _ _ _ is (λ e. absurd (memory_not_long e));
    }

pub returns-in_err-add-clause-picked : goal.returns-in_err-add-clause-picked
returns-in_err-add-clause-picked c =
    no_value c.from_residual-in_err-add.result _ _ c.from_residual-in_err-add.ensures.1

pub records-init : goal.records-init
records-init c =
    let all : c.args.most - 0 ≡ c.args.most = omega arith in
    record {
      reading = c.requires.reading;
      done = ([], c.requires.none, refl, ap (λ (n : ℕ). take n (left_of c.args.records.now)) all);
    }
