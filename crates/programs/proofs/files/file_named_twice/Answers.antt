-- None of the files so far is named twice, so the first that is among them is the first named twice.
use Rattle.std.proofs.Common.{rules, ◌∙◌, List, map, ℕ, sym, subst, arith, take_all}
use Rattle.std.proofs.lemmas.List.{length-map}
use Rattle.programs.specs.FileLists.{IsNamedTwice}
use Rattle.programs.proofs.FileLemmas.{first_at, still_once}
use Rattle.programs.proofs.files.file_named_twice.Goals as goal

pub returns-then-contains-clause-first : goal.returns-then-contains-clause-first
returns-then-contains-clause-first c = search (rules, first_at)

pub places-preserved : goal.places-preserved
places-preserved c = still_once c.args.files.now c.places.place _ c.places-test.true c.places.invariant
    (sym c.contains.ensures.value ∙ c.if-contains.false)

pub returns-clause-none : goal.returns-clause-none
returns-clause-none c =
    let files = map (λ f. f.now) c.args.files.now in
    let all = take_all c.places.place files (omega
    (arith, c.places-test.false, length-map c.args.files.now (λ f. f.now))) in
    subst (λ (xs : List (List ℕ)). (file : List ℕ) → ¬ IsNamedTwice xs file) all c.places.invariant
