-- The word that says nothing is one of all.
use Rattle.std.proofs.Common.{[], List, get_or, map, ℕ}
use Rattle.sheet_app.proofs.Common.{Bor, IsOfWords}
use Rattle.sheet_app.proofs.FaultLemmas.{handed}
use Rattle.sheet_app.proofs.NameListLemmas.{one_of_files}
use Rattle.sheet_app.proofs.StartLemmas.{of_one}
use Rattle.sheet_app.proofs.calendar_words.check_words.Goals as goal

pub returns-in_err-check_word : goal.returns-in_err-check_word
returns-in_err-check_word c =
    let lines = c.args.list.now.lines.items in
    let words = c.args.words.now in
    let all = map (λ (w : Bor (List ℕ)). w.now) words in
    let none : Bor (List ℕ) = record { ref_ptr = (0, 0); now = [] } in
    let word = get_or words c.words.word-index none in
    let why = c.in_err-check_word.field-0.0 in
    handed (IsOfWords lines all) c.from_residual.result why c.from_residual.ensures.1
    (of_one lines all word.now why (one_of_files words c.words.word-index none c.words-test.true)
    c.in_err-check_word.ensures)
