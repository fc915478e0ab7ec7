use Rattle.std.proofs.Common.{◌≡◌, ◌<◌, ◌-◌, ◌∙◌, ◌++◌, List, [], ◌∷◌, ap, arith, length, replicate, sym, take}
use Rattle.std.proofs.Common.{take_all, ℕ}
use Rattle.sheets.proofs.Common.{fields_of}
use Rattle.std.proofs.lemmas.List.{take_more}
use Rattle.sheets.proofs.LineLemmas.{gained_at_last, next_gained, none_gained}
use Rattle.sheets.proofs.own_fields.push_own.Goals as goal

pub own-init : goal.own-init
own-init c = none_gained c.args.lines.now

pub own-preserved : goal.own-preserved
own-preserved c =
    let fields = fields_of c.args.record.now in
    let lt : c.own.place < length fields = omega arith in
    next_gained _ _ _ c.args.lines.now c.own.lines c.push.new.self c.own.invariant c.in_ok-push.ensures
    (ap (λ (field : List ℕ). take c.own.place fields ++ field ∷ []) c.field_at.ensures
    ∙ sym (take_more fields c.own.place [] lt))

pub returns : goal.returns
returns c =
    let fields = fields_of c.args.record.now in
    let left : c.saturating_sub.result ≡ c.args.fill - length fields = omega arith in
    gained_at_last c.push_empty.result _ _ _ c.args.lines.now c.own.lines c.push_empty.new.self c.own.invariant
    c.push_empty.ensures
    (ap (λ (front : List (List ℕ)). front ++ replicate c.saturating_sub.result []) (take_all c.own.place fields (omega arith))
    ∙ ap (λ (n : ℕ). fields ++ replicate n []) left)
