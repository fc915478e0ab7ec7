use Rattle.std.proofs.Common.{arith, List, ℕ}
use Rattle.sheet_app.proofs.Common.{Bor, place_name}
use Rattle.programs.specs.OutputNames.{IsApartFrom}
use Rattle.sheet_app.proofs.NameLemmas.{all_values, each_value}
use Rattle.sheet_app.proofs.file_sheets.is_among.Goals as goal

pub files-preserved : goal.files-preserved
files-preserved g c =
    each_value (λ (file : List ℕ). IsApartFrom (g.P.FileStore.are_apart c.args.store.now) file (place_name c.args.place.now))
    (λ (f : Bor (List ℕ)). f.now) c.args.files.now c.files.file-index _ c.files-test.true c.files.invariant
    (c.is_of_output.ensures c.if-is_of_output.false)

pub returns : goal.returns
returns g c = λ no.
    all_values (λ (file : List ℕ). IsApartFrom (g.P.FileStore.are_apart c.args.store.now) file (place_name c.args.place.now))
    (λ (f : Bor (List ℕ)). f.now) c.args.files.now c.files.file-index (omega (arith, c.files-test.false)) c.files.invariant
