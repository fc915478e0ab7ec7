use Rattle.std.proofs.Common.{[], List, refl, subst}
use Rattle.sheets.proofs.Common.{Fields, left_of, HasReadSheet}
use Rattle.sheets.proofs.OutputLemmas.{none_read}
use Rattle.sheets.proofs.TakeLemmas.{takes_none}
use Rattle.sheets.proofs.sheet_readings.read_below.Goals as goal

pub returns-in_err-reader : goal.returns-in_err-reader
returns-in_err-reader g c =
    record {
      reads = [];
      read = none_read c.args.setup.now.choice (left_of c.args.records) c.from_residual.result
          c.from_residual.ensures.1;
      takes = takes_none g.W.Output g.M.RecordLine.line c.args.setup.now.choice [] c.args.writers.now c.args.output.now
          c.args.files.now refl;
    }

pub read_all-requires-clause-opened : goal.read_all-requires-clause-opened
read_all-requires-clause-opened g c =
    let opened = c.in_ok-reader.ensures in
    record { goes_by = opened.goes_by; over = refl; none_given = opened.none_given; goes = opened.goes }

pub returns : goal.returns
returns g c =
    let all = c.read_all.ensures in
    record {
      reads = all.reads;
      read = subst (λ (xs : List Fields). HasReadSheet c.args.setup.now.choice xs all.reads c.read_all.result)
          c.in_ok-reader.ensures.over all.read;
      takes = all.takes;
    }
