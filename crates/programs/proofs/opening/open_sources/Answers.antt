-- Each turn opens the next file.
use Rattle.programs.proofs.Common.{◌≡◌, rules, arith, is_ok, true}
use Rattle.programs.proofs.MatchLemmas.{so_far_all, so_far_more, so_far_none}
use Rattle.programs.proofs.opening.open_sources.Goals as goal

pub files-init : goal.files-init
files-init g c = search (rules, so_far_none)

pub files-preserved : goal.files-preserved
files-preserved g c =
    let ok : is_ok c.push.result ≡ true = search rules in
    let items = rw ok at c.push.ensures.items in
    so_far_more (λ i file source. g.P.FileStore.is_opened c.args.store.now file source) (λ f. f.now) c.args.files.now
    c.files.sources.items c.push.new.self.items
    c.files.file-index _ c.in-Ok.source c.files.invariant c.files-test.true c.in-Ok.ensures items

pub returns-clause-opened : goal.returns-clause-opened
returns-clause-opened g c =
    so_far_all (λ i file source. g.P.FileStore.is_opened c.args.store.now file source) (λ f. f.now) c.args.files.now
    c.files.sources.items c.files.file-index c.files.invariant
    (omega (arith, c.files-test.false, c.files.auto.file-index-end))
