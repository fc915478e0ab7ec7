use Rattle.std.proofs.Common.{◌<◌, [], ◌∷◌, arith, get_or, length, length-set}
use Rattle.sheets.proofs.Common.{Gathers, record_read}
use Rattle.std.proofs.lemmas.Option.{slice_get-get_or}
use Rattle.sheets.proofs.EachLemmas.{up_to_all, up_to_more}
use Rattle.sheets.proofs.line_writers.take_each.Goals as goal

pub writers-preserved : goal.writers-preserved
writers-preserved g c =
    let inv = c.writers.invariant in
    let i = c.writers.place in
    let low : i < length c.writers.writers = omega (arith, c.writers-test.true, inv.writers) in
    let room : i < length c.writers.files = omega (arith, c.writers-test.true, inv.files, c.requires) in
    up_to_more
    (λ place. Gathers g.W.Output g.M.RecordLine.line c.args.setup.now.choice (record_read c.args.of_sheet.now ∷ [])) i
    c.args.writers.now c.writers.writers c.args.files.now c.writers.files
    (get_or c.writers.writers i c.index-writers-place.result) c.take.new.self
    (get_or c.writers.files i c.index-files-place.result) c.take.new.output inv low room
    (slice_get-get_or c.writers.writers i c.index-writers-place.result low)
    (slice_get-get_or c.writers.files i c.index-files-place.result room) c.take.ensures
    (length-set c.writers.writers i c.take.new.self) (length-set c.writers.files i c.take.new.output)

pub returns : goal.returns
returns g c =
    up_to_all
    (λ place. Gathers g.W.Output g.M.RecordLine.line c.args.setup.now.choice (record_read c.args.of_sheet.now ∷ []))
    c.writers.place c.args.writers.now c.writers.writers c.args.files.now c.writers.files
    (omega (arith, c.writers-test.false, c.writers.invariant.writers)) c.writers.invariant
