use Rattle.std.proofs.Common.{rules, ◌∙◌, List, ap, sym}
use Rattle.written_dates.specs.Tokens.{Piece, tokens}
use Rattle.written_dates.specs.WholeNames.{name_with}
use Rattle.written_dates.proofs.WholeNameLemmas.{found_name, next_name, no_name, nothing_left}
use Rattle.written_dates.proofs.whole_names.whole_name.Goals as goal

pub returns-in-Some-default-true-default : goal.returns-in-Some-default-true-default
returns-in-Some-default-true-default c =
    let front = c.in-Some-default-true-default in
    sym (c.names.invariant ∙ found_name c.args.word.now _ _ (tokens 0 c.names.rest.now) c.in-Some.ensures.some
    (front.ensures.has ∙ front.field-0-1-test) ∙ front.ensures.name)

pub names-preserved-in-Some-default-false-default : goal.names-preserved-in-Some-default-false-default
names-preserved-in-Some-default-false-default c =
    let front = c.in-Some-default-false-default in
    c.names.invariant ∙ next_name c.args.word.now _ _ (tokens 0 c.names.rest.now) c.in-Some.ensures.some
    (front.ensures.has ∙ front.field-0-1-test) front.ensures.some
    ∙ ap (λ (ts : List Piece). name_with c.args.word.now 0 ts) (sym front.ensures.rest)

pub names-preserved : goal.names-preserved
names-preserved c =
    c.names.invariant ∙ no_name c.args.word.now _ _ (tokens 0 c.names.rest.now) c.in-Some.ensures.some
    c.in-None.ensures.none

pub returns : goal.returns
returns c =
    sym (c.names.invariant ∙ nothing_left c.args.word.now (tokens 0 c.names.rest.now) (search rules))
