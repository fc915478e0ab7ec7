use Rattle.std.proofs.Common.{◌≡◌, ◌<◌, ◌∙◌, [], ℕ, List, get_or, ap, append-nil, arith, length, map, subst, sym, take}
use Rattle.std.proofs.Common.{take_all}
use Rattle.sheets.proofs.Common.{line_text, list_head, name_record, name_seen, UnknownName}
use Rattle.sheets.specs.private.LineViews.{Begins}
use Rattle.sheets.specs.UnknownNames.{list_text}
use Rattle.sheets.proofs.FoundLemmas.{listed_more}
use Rattle.sheets.proofs.stopped_dates.Unknown.text.Goals as goal

pub names-init : goal.names-init
names-init c =
    subst (λ (bytes : List ℕ). Begins 44 bytes [] c.end.new.self) (sym (append-nil (line_text 44 list_head)))
    (c.in_ok-end.ensures 44 [] list_head (c.in_ok-push_list_head.ensures 44 [] [] c.new-lines.ensures))

pub names-preserved : goal.names-preserved
names-preserved c =
    let names = c.args.self.now.names.items in
    let k = c.names.name-index in
    let x = c.name-item.result in
    let same = c.deref-name-items.ensures.value in
    let is = c.name-item.is ∙ ap (λ (xs : List UnknownName). get_or xs k x) same in
    let lt : k < length names = omega (arith, c.names-test.true, ap length same) in
    subst (λ (bytes : List ℕ). Begins 44 bytes [] c.end-in-names.new.self) (listed_more names k x lt is)
    (c.in_ok-end-2.ensures 44 _ (name_record (name_seen x)) (c.in_ok-push_name.ensures 44 _ [] c.names.invariant))

pub returns : goal.returns
returns c =
    let names = c.args.self.now.names.items in
    let all : take c.names.name-index names ≡ names
    = take_all c.names.name-index names (omega (arith, c.names-test.false, ap length c.deref-name-items.ensures.value)) in
    subst (λ (bytes : List ℕ). c.into_text.result.items ≡ bytes)
    (ap (λ (xs : List UnknownName). list_text (map name_seen xs)) all) (c.into_text.ensures 44 _ c.names.invariant)
