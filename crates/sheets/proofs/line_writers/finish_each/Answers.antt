use Rattle.std.proofs.Common.{◌≡◌, ◌<◌, ◌++◌, [], ◌∷◌, List, Some, arith, get_or, length, length-append}
use Rattle.std.proofs.Common.{length-set, refl, ℕ, Result, slice_get}
use Rattle.sheets.proofs.Common.{Finishes, LineWriter, SheetCause}
use Rattle.std.proofs.lemmas.Option.{slice_get-get_or}
use Rattle.sheets.proofs.EachLemmas.{answer_kept, answer_last, first_more, up_to_all, up_to_as, up_to_more}
use Rattle.sheets.proofs.EachLemmas.{up_to_none}
use Rattle.sheets.proofs.line_writers.finish_each.Goals as goal

pub writers-init : goal.writers-init
writers-init g c = ([], refl, refl, up_to_none _ c.args.writers.now c.args.files.now)

pub writers-preserved : goal.writers-preserved
writers-preserved g c =
    let (answers, many, first, inv) = c.writers.invariant in
    let i = c.writers.place in
    let low : i < length c.writers.writers = omega (arith, c.writers-test.true, inv.writers) in
    let room : i < length c.writers.files = omega (arith, c.writers-test.true, inv.files, c.requires.matched) in
    let more = answers ++ c.finish-answer.result ∷ [] in
    let Did : List (Result (Unit {0}) SheetCause) → ℕ → LineWriter g.row.M.Denot → LineWriter g.row.M.Denot →
    g.row.W.Denot → g.row.W.Denot → Type 0
    = λ xs place w v b a. (answer : Result (Unit {0}) SheetCause) × (slice_get xs place ≡ Some answer)
    × Finishes g.W.Output c.args.read w b a answer in (
      more,
      omega (arith, many, length-append answers (c.finish-answer.result ∷ [])),
      first_more answers c.writers.result c.finish-answer.result c.first_of-result.result first
          c.first_of-result.ensures,
      up_to_more (Did more) i c.args.writers.now c.writers.writers c.args.files.now c.writers.files
          (get_or c.writers.writers i c.index-writers-place.result) c.finish-answer.new.self
          (get_or c.writers.files i c.index-files-place.result) c.finish-answer.new.output
          (up_to_as (Did answers) (Did more) i c.args.writers.now c.writers.writers c.args.files.now c.writers.files
          (λ place w v b a below did.
          (did.0, answer_kept answers c.finish-answer.result place did.0 did.1, did.2)) inv) low room
          (slice_get-get_or c.writers.writers i c.index-writers-place.result low)
          (slice_get-get_or c.writers.files i c.index-files-place.result room) (
            c.finish-answer.result,
            answer_last answers c.finish-answer.result i many,
            c.finish-answer.ensures,
          ) (length-set c.writers.writers i c.finish-answer.new.self) (length-set c.writers.files i
          c.finish-answer.new.output),
    )

pub returns : goal.returns
returns g c =
    let (answers, many, first, inv) = c.writers.invariant in
    let all : c.writers.place ≡ length c.writers.writers = omega (
      arith,
      c.writers-test.false,
      c.writers.auto.place-end,
    ) in (
      answers,
      omega (arith, many, all, inv.writers),
      first,
      up_to_all _ c.writers.place c.args.writers.now c.writers.writers c.args.files.now c.writers.files
          (omega (arith, all)) inv,
    )
