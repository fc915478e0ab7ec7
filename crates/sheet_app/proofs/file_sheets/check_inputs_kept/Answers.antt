use Rattle.std.proofs.Common.{arith, get_or, List, [], ℕ, flat_map}
use Rattle.sheet_app.proofs.Common.{Bor, string_bytes, task_of, IsNoInput, ending_of, names_ending, IsOfOutputs}
use Rattle.sheet_app.proofs.FaultLemmas.{handed, of_list, of_more}
use Rattle.sheet_app.proofs.NameLemmas.{all_lists, each_list}
use Rattle.sheet_app.proofs.file_sheets.check_inputs_kept.Goals as goal

pub files-preserved : goal.files-preserved
files-preserved g c =
    let task = task_of c.args.job.now in
    each_list (λ (name : List ℕ). IsNoInput (g.P.FileStore.are_apart c.args.store.now) task name)
    (λ (file : Bor (List ℕ)). names_ending (ending_of task) string_bytes c.args.endings.now file.now) c.args.files.now
    c.files.file-index _ c.files-test.true c.files.invariant c.in_ok-check_outputs_kept.ensures.kept

pub returns-clause-kept : goal.returns-clause-kept
returns-clause-kept g c =
    let task = task_of c.args.job.now in
    all_lists (λ (name : List ℕ). IsNoInput (g.P.FileStore.are_apart c.args.store.now) task name)
    (λ (file : Bor (List ℕ)). names_ending (ending_of task) string_bytes c.args.endings.now file.now) c.args.files.now
    c.files.file-index (omega (arith, c.files-test.false)) c.files.invariant

pub returns-in_err-check_outputs_kept-clause-missing : goal.returns-in_err-check_outputs_kept-clause-missing
returns-in_err-check_outputs_kept-clause-missing g c =
    let names = λ (file : Bor (List ℕ)). names_ending (ending_of (task_of c.args.job.now)) string_bytes c.args.endings.now
    file.now in
    let files = c.args.files.now in
    let none : Bor (List ℕ) = record { ref_ptr = (0, 0); now = [] } in
    let fault = c.in_err-check_outputs_kept.field-0.0 in
    handed (IsOfOutputs (flat_map names files)) c.from_residual.result fault c.from_residual.ensures.1
    (of_more (names (get_or files c.files.file-index none)) (flat_map names files) fault
    (of_list names files c.files.file-index none c.files-test.true) c.in_err-check_outputs_kept.ensures.missing)
