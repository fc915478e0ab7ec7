use Rattle.std.proofs.Common.{◌≡◌, ◌∙◌, ◌++◌, ◌∷◌, [], ap, arith, get_or, Global, List, map, ℕ, rules, String, subst}
use Rattle.sheet_app.proofs.Common.{string_bytes, task_of, IsNoInput, ending_of, IsOfOutputs}
use Rattle.std.proofs.lemmas.List.Elements.{All-cons}
use Rattle.sheet_app.proofs.FaultLemmas.{behind, handed, of_more, of_value}
use Rattle.sheet_app.proofs.NameLemmas.{all_values, each_value}
use Rattle.sheet_app.proofs.file_sheets.check_outputs_kept.Goals as goal

pub endings-preserved : goal.endings-preserved
endings-preserved g c =
    let IsKept = λ (name : List ℕ). IsNoInput (g.P.FileStore.are_apart c.args.store.now) (task_of c.args.job.now) name in
    let item = c.ending-item.result in
    let there : item ≡ get_or c.args.endings.now c.endings.ending-index item = search rules in
    each_value IsKept (λ (ending : String Global). c.args.file.now ++ string_bytes ending) c.args.endings.now
    c.endings.ending-index item c.endings-test.true c.endings.invariant
    (subst (λ (text : List ℕ). IsKept (c.args.file.now ++ text)) (c.as_str.ensures.value ∙ ap string_bytes there)
    c.in_ok-check_kept-2.ensures.kept)

pub returns-clause-kept : goal.returns-clause-kept
returns-clause-kept g c =
    let task = task_of c.args.job.now in
    let IsKept = λ (name : List ℕ). IsNoInput (g.P.FileStore.are_apart c.args.store.now) task name in
    let name = λ (ending : String Global). c.args.file.now ++ string_bytes ending in
    All-cons IsKept (c.args.file.now ++ ending_of task) (map name c.args.endings.now)
    (subst (λ (text : List ℕ). IsKept (c.args.file.now ++ text)) c.ending.ensures c.in_ok-check_kept.ensures.kept)
    (all_values IsKept name c.args.endings.now c.endings.ending-index (omega (arith, c.endings-test.false))
    c.endings.invariant)

pub returns-in_err-check_kept-2-clause-missing : goal.returns-in_err-check_kept-2-clause-missing
returns-in_err-check_kept-2-clause-missing g c =
    let item = c.ending-item.result in
    let file = c.args.file.now in
    let own = file ++ ending_of (task_of c.args.job.now) in
    let endings = c.args.endings.now in
    let name = λ (ending : String Global). file ++ string_bytes ending in
    let there : item ≡ get_or endings c.endings.ending-index item = search rules in
    let text : file ++ c.as_str.result.now ≡ name (get_or endings c.endings.ending-index item)
    = ap (λ (ending : List ℕ). file ++ ending) (c.as_str.ensures.value ∙ ap string_bytes there) in
    let fault = c.in_err-check_kept-2.field-0.0 in
    handed (IsOfOutputs (own ∷ map name endings)) c.from_residual-in_err-check_kept-2.result fault
    c.from_residual-in_err-check_kept-2.ensures.1
    (of_more (name (get_or endings c.endings.ending-index item) ∷ []) (own ∷ map name endings) fault
    (λ one is. behind own (map name endings) one
    (of_value name endings c.endings.ending-index item c.endings-test.true one is))
    (subst (λ (one : List ℕ). IsOfOutputs (one ∷ []) fault) text c.in_err-check_kept-2.ensures.missing))
