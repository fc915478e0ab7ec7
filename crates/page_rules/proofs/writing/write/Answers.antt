use Rattle.std.proofs.Common.{◌≡◌, ◌∙◌, ◌-◌, ◌+◌, ◌++◌, ◌∷◌, [], suc, ℕ, ap, append-nil, append_assoc, arith, length}
use Rattle.std.proofs.Common.{rules, sym}
use Rattle.std.specs.Int.{div_ceil}
use Rattle.csv.specs.Records.{fields_of}
use Rattle.sheets.specs.Sheets.{records_text}
use Rattle.page_rules.proofs.writing.write.Goals as goal

pub groups-preserved : goal.groups-preserved
groups-preserved c =
    let (done, has, all) = c.groups.invariant in
    let count : ℕ = div_ceil (length c.args.lengths.now) c.args.width in
    let step : count - c.groups.counter ≡ suc (count - (c.groups.counter + 1)) =
    omega (arith, c.groups-test.true, c.div_ceil-end.ensures) in
    let taken = c.in_ok-take_record.ensures in (
      done ++ fields_of c.take_record.new.row ∷ [],
      c.in_ok-push.ensures c.args.delimiter done has,
      rw (taken.fields, taken.left) (append_assoc done _ _ ∙ rw step at all),
    )

pub returns-clause-text : goal.returns-clause-text
returns-clause-text c =
    let (done, has, all) = c.groups.invariant in
    let count : ℕ = div_ceil (length c.args.lengths.now) c.args.width in
    let none : count - c.groups.counter ≡ 0 = omega (arith, c.groups-test.false, c.div_ceil-end.ensures) in (
      search rules,
      c.in_ok-into_text.ensures c.args.delimiter done has
          ∙ ap (records_text c.args.delimiter) (sym (append-nil done) ∙ (rw none at all)),
    )
