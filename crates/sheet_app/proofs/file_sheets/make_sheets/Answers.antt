-- Each turn makes the outputs of the next file.
use Rattle.std.proofs.Common.{arith, rules, ◌≡◌, ◌∙◌, ◌++◌, ◌∷◌, [], append-nil, map, subst, sym, AllPairs, flat_map}
use Rattle.sheet_app.proofs.Common.{string_bytes, into_iter_items, task_of, AreTwoOutputs, place_name, IsNewSheet}
use Rattle.sheet_app.proofs.Common.{ending_of, names_ending, sheet_name, source_name, OpenedFile, IsOfOutputs}
use Rattle.std.proofs.lemmas.List.{nil_from_length}
use Rattle.sheet_app.specs.declared.file_sheets.FileSheet.{FileSheet}
use Rattle.sheet_app.proofs.FaultLemmas.{handed, of_left, of_more}
use Rattle.std.proofs.lemmas.List.Elements.{All-rest}
use Rattle.sheet_app.proofs.ListLemmas.{each_more, first_of_left, made_more}
use Rattle.sheet_app.proofs.NameLemmas.{listed_more}
use Rattle.sheet_app.proofs.file_sheets.make_sheets.Goals as goal

pub sources-preserved : goal.sources-preserved
sources-preserved g c =
    let opened = c.in-Some.opened in
    let store = c.args.store.now in
    let before = c.sources.opened-iterator in
    let IsOpened = λ (file : OpenedFile g.row.R.Denot). g.P.FileStore.is_opened store file.name.now file.source in
    let IsMade = λ (sheet : FileSheet g.row.R.Denot g.row.W.Denot). IsNewSheet g.W.Output (g.P.FileStore.is_opened store)
    (g.P.FileStore.is_made store) (task_of c.args.job.now) (map string_bytes c.args.endings.now) sheet in
    let left : into_iter_items before ≡ opened ∷ into_iter_items c.next.new.self = search rules in
    let pushed : c.push.new.self.items ≡ c.sources.sheets.items ++ c.in_ok-sheet.sheet ∷ [] = search rules in
    let first = first_of_left IsOpened (into_iter_items before) (into_iter_items c.next.new.self) opened left
    c.sources.invariant.opened in
    record {
      named = made_more sheet_name source_name _ c.sources.sheets.items c.push.new.self.items c.in_ok-sheet.sheet
          (into_iter_items before) (into_iter_items c.next.new.self) opened pushed c.in_ok-sheet.ensures.named left
          c.sources.invariant.named;
      opened = All-rest IsOpened opened (into_iter_items c.next.new.self) (into_iter_items before) left
          c.sources.invariant.opened;
      made = each_more IsMade c.sources.sheets.items c.push.new.self.items c.in_ok-sheet.sheet pushed
          c.sources.invariant.made (c.in_ok-sheet.ensures.made first);
      noted = listed_more (λ (file : OpenedFile g.row.R.Denot). names_ending (ending_of (task_of c.args.job.now)) string_bytes
          c.args.endings.now (source_name file)) _ (map place_name c.sources.taken.items)
          (map place_name c.make_sheet.new.taken.items) (into_iter_items before) (into_iter_items c.next.new.self) opened
          c.in_ok-sheet.ensures.noted left c.sources.invariant.noted;
      apart = c.in_ok-sheet.ensures.apart c.sources.invariant.apart;
    }

pub returns-in_err-sheet-clause-missing : goal.returns-in_err-sheet-clause-missing
returns-in_err-sheet-clause-missing g c =
    let opened = c.in-Some.opened in
    let before = c.sources.opened-iterator in
    let names = λ (file : OpenedFile g.row.R.Denot). names_ending (ending_of (task_of c.args.job.now)) string_bytes
    c.args.endings.now (source_name file) in
    let left : into_iter_items before ≡ opened ∷ into_iter_items c.next.new.self = search rules in
    let fault = c.in_err-sheet.field-0.0 in
    handed (IsOfOutputs (flat_map names c.args.sources.items)) c.from_residual.result fault c.from_residual.ensures.1
    (of_more (names opened) (flat_map names c.args.sources.items) fault
    (of_left names (flat_map names c.args.sources.items) (map place_name c.sources.taken.items) (into_iter_items before)
    (into_iter_items c.next.new.self) opened left c.sources.invariant.noted) c.in_err-sheet.ensures.missing)

pub returns-clause-apart : goal.returns-clause-apart
returns-clause-apart g c =
    let names = λ (file : OpenedFile g.row.R.Denot). names_ending (ending_of (task_of c.args.job.now)) string_bytes
    c.args.endings.now (source_name file) in
    let none : into_iter_items c.sources.opened-iterator ≡ []
    = nil_from_length _ (omega (arith, c.in-None.ensures.steps.0, c.sources.opened-iterator.rest.ok.0)) in
    let all : map place_name c.sources.taken.items ++ [] ≡ flat_map names c.args.sources.items
    = rw none at c.sources.invariant.noted in
    subst (AllPairs (AreTwoOutputs (g.P.FileStore.are_apart c.args.store.now)))
    (sym (append-nil (map place_name c.sources.taken.items)) ∙ all) c.sources.invariant.apart

pub returns-clause-named : goal.returns-clause-named
returns-clause-named g c =
    let none : into_iter_items c.sources.opened-iterator ≡ []
    = nil_from_length _ (omega (arith, c.in-None.ensures.steps.0, c.sources.opened-iterator.rest.ok.0)) in
    let all : map sheet_name c.sources.sheets.items ++ [] ≡ map source_name c.args.sources.items
    = rw none at c.sources.invariant.named in
    sym (append-nil (map sheet_name c.sources.sheets.items)) ∙ all

pub returns-clause-made : goal.returns-clause-made
returns-clause-made g c = c.sources.invariant.made
