-- Each turn opens the next file.
use Rattle.std.proofs.Common.{rules, ◌≡◌, ◌∙◌, ◌++◌, ◌∷◌, [], List, ℕ, arith, get_or, map, refl}
use Rattle.sheet_app.proofs.Common.{Bor, source_name, OpenedFile}
use Rattle.std.proofs.lemmas.List.{length-map, take_all}
use Rattle.sheet_app.proofs.ListLemmas.{each_more, named_more}
use Rattle.sheet_app.proofs.file_sheets.open_sources.Goals as goal

pub files-preserved : goal.files-preserved
files-preserved g c =
    let sources = c.files.sources.items in
    let files = c.args.files.now in
    let none : Bor (List ℕ) = record { ref_ptr = (0, 0); now = [] } in
    let one : OpenedFile g.row.R.Denot = record { name = get_or files c.files.name-index none; source = c.in-Ok.source } in
    let pushed : c.push.new.self.items ≡ sources ++ one ∷ [] = search rules in
    record {
      named = named_more source_name files sources c.push.new.self.items one c.files.name-index none pushed refl
          c.files-test.true c.files.invariant.named;
      opened = each_more
          (λ (opened : OpenedFile g.row.R.Denot). g.P.FileStore.is_opened c.args.store.now opened.name.now opened.source)
          sources c.push.new.self.items one pushed c.files.invariant.opened c.in-Ok.ensures;
    }

pub returns-clause-named : goal.returns-clause-named
returns-clause-named g c =
    let now = λ (f : Bor (List ℕ)). f.now in
    c.files.invariant.named ∙ take_all c.files.name-index (map now c.args.files.now)
    (omega (arith, c.files-test.false, length-map c.args.files.now now))

pub returns-clause-opened : goal.returns-clause-opened
returns-clause-opened g c = c.files.invariant.opened
