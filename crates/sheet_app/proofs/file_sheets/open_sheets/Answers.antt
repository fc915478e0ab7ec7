-- The names by which outputs were told apart are those of a task.
use Rattle.std.proofs.Common.{◌≡◌, ◌∙◌, All, ap, Global, List, map, ℕ, refl, String, subst, AllPairs, IfOk, flat_map}
use Rattle.sheet_app.proofs.Common.{Bor, string_bytes, Task, task_of, AreTwoOutputs, IsNewSheet, IsNoInput, ending_of}
use Rattle.sheet_app.proofs.Common.{names_ending, source_name, IsOfOutputs, OpenedFile}
use Rattle.sheet_app.specs.FileSheets.{outputs_of, register_endings}
use Rattle.sheet_app.specs.ProgramFaults.{IsFaultOfFiles}
use Rattle.std.proofs.lemmas.Result.{IfErr-weaker}
use Rattle.sheet_app.proofs.FaultLemmas.{handed, of_inputs, of_outputs}
use Rattle.sheet_app.proofs.NameLemmas.{on_ok, same_names}
use Rattle.sheet_app.proofs.file_sheets.open_sheets.Goals as goal

-- the names of outputs by these files, with endings that are those of a task
names_by : {X : Type 0} (task : Task) (name : X → List ℕ) (endings : List (String Global)) (xs : List X)
    → map string_bytes endings ≡ register_endings task → map name xs ≡ task.files
    → flat_map (λ x. names_ending (ending_of task) string_bytes endings (name x)) xs ≡ outputs_of task
names_by task name endings xs ends named =
    let own = ending_of task in
    let by_endings : flat_map (λ x. names_ending own string_bytes endings (name x)) xs
    ≡ flat_map (names_ending own (λ ending. ending) (map string_bytes endings)) (map name xs)
    = same_names name own string_bytes endings xs in
    rw (ends, named) at by_endings

pub returns-clause-apart : goal.returns-clause-apart
returns-clause-apart g c =
    let Apart = λ (one other : List ℕ). g.P.FileStore.are_apart c.args.store.now one other in
    let task = task_of c.args.job.now in
    let own = ending_of task in
    let endings = c.in_ok-endings.endings.items in
    let files = c.args.job.now.files.items in
    let opened = c.in_ok-sources.sources.items in
    let named : map source_name opened ≡ task.files = rw c.as_slice.ensures.value at c.in_ok-sources.ensures.named in
    let of_files = names_by task (λ (file : Bor (List ℕ)). file.now) endings files c.in_ok-endings.ensures refl in
    let of_opened = names_by task (source_name {R = g.row.R.Denot}) endings opened c.in_ok-endings.ensures named in
    let kept : All (λ (name : List ℕ). IsNoInput Apart task name)
    (flat_map (λ (file : Bor (List ℕ)). names_ending own string_bytes endings file.now) files)
    = rw (c.as_slice-2.ensures.value, c.as_slice-3.ensures.value) at c.in_ok-check_inputs_kept.ensures.kept in
    on_ok c.make_sheets.result _ _ c.make_sheets.ensures.apart (λ sheets apart. record {
      kept = subst (All (λ (name : List ℕ). IsNoInput Apart task name)) of_files kept;
      apart = subst (AllPairs (AreTwoOutputs Apart)) of_opened (rw c.as_slice-4.ensures.value at apart);
    })

pub returns-clause-made : goal.returns-clause-made
returns-clause-made g c =
    subst (λ (endings : List (List ℕ)). IfOk c.make_sheets.result (λ sheets. All (IsNewSheet g.W.Output
    (g.P.FileStore.is_opened c.args.store.now) (g.P.FileStore.is_made c.args.store.now) (task_of c.args.job.now) endings)
    sheets.items)) (ap (map string_bytes) c.as_slice-4.ensures.value ∙ c.in_ok-endings.ensures) c.make_sheets.ensures.made

-- a fault names a file of the task
pub returns-in_err-sources-clause-fault : goal.returns-in_err-sources-clause-fault
returns-in_err-sources-clause-fault g c =
    let task = task_of c.args.job.now in
    let fault = c.in_err-sources.field-0.0 in
    handed (IsFaultOfFiles task) c.from_residual-in_err-sources.result fault c.from_residual-in_err-sources.ensures.1
    (of_inputs task (map (λ (file : Bor (List ℕ)). file.now) c.as_slice.result.now) fault
    (ap (map (λ (file : Bor (List ℕ)). file.now)) c.as_slice.ensures.value) c.in_err-sources.ensures.missing)

pub returns-in_err-check_inputs_kept-clause-fault : goal.returns-in_err-check_inputs_kept-clause-fault
returns-in_err-check_inputs_kept-clause-fault g c =
    let task = task_of c.args.job.now in
    let endings = c.in_ok-endings.endings.items in
    let files = c.args.job.now.files.items in
    let names = λ (file : Bor (List ℕ)). names_ending (ending_of task) string_bytes endings file.now in
    let fault = c.in_err-check_inputs_kept.field-0.0 in
    handed (IsFaultOfFiles task) c.from_residual-in_err-check_inputs_kept.result fault
    c.from_residual-in_err-check_inputs_kept.ensures.1 (of_outputs task (flat_map names files) fault
    (names_by task (λ (file : Bor (List ℕ)). file.now) endings files c.in_ok-endings.ensures refl)
    (rw (c.as_slice-2.ensures.value, c.as_slice-3.ensures.value) at c.in_err-check_inputs_kept.ensures.missing))

pub returns-clause-fault : goal.returns-clause-fault
returns-clause-fault g c =
    let task = task_of c.args.job.now in
    let endings = c.in_ok-endings.endings.items in
    let opened = c.in_ok-sources.sources.items in
    let named : map source_name opened ≡ task.files = rw c.as_slice.ensures.value at c.in_ok-sources.ensures.named in
    let names = λ (file : OpenedFile g.row.R.Denot). names_ending (ending_of task) string_bytes endings (source_name file) in
    IfErr-weaker c.make_sheets.result (IsOfOutputs (flat_map names opened)) (IsFaultOfFiles task)
    (λ fault. of_outputs task (flat_map names opened) fault
    (names_by task (source_name {R = g.row.R.Denot}) endings opened c.in_ok-endings.ensures named))
    (rw c.as_slice-4.ensures.value at c.make_sheets.ensures.missing)
