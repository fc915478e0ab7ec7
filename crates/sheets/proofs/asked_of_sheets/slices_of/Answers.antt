use Rattle.std.proofs.Common.{◌∙◌, ◌++◌, Bor, Global, List, Vec, [], ◌∷◌, ap, map, sym, take, take_all, ℕ}
use Rattle.sheets.proofs.Common.{Fields, items_of}
use Rattle.std.proofs.lemmas.List.{map-append, take_more}
use Rattle.sheets.proofs.asked_of_sheets.slices_of.Goals as goal

pub texts-init : goal.texts-init
texts-init c = ap (map (λ (slice : Bor (List ℕ)). slice.now)) c.new-slices.ensures.items

pub texts-preserved : goal.texts-preserved
texts-preserved c =
    let texts = c.args.texts.now in
    let i = c.texts.text-index in
    let text = c.text-item.result in
    ap (map (λ (slice : Bor (List ℕ)). slice.now)) c.in_ok-push.ensures.items
    ∙ map-append (λ (slice : Bor (List ℕ)). slice.now) c.texts.slices.items (c.as_slice.result ∷ [])
    ∙ ap (λ (front : Fields). front ++ c.as_slice.result.now ∷ []) c.texts.invariant
    ∙ ap (λ (field : List ℕ). items_of (take i texts) ++ field ∷ []) c.as_slice.ensures.value
    ∙ sym (ap items_of (take_more texts i text c.texts-test.true
    ∙ ap (λ (next : Vec ℕ Global). take i texts ++ next ∷ []) (sym c.text-item.is))
    ∙ map-append (λ (next : Vec ℕ Global). next.items) (take i texts) (text ∷ []))

pub returns : goal.returns
returns c = c.texts.invariant ∙ ap items_of (take_all c.texts.text-index c.args.texts.now c.texts-test.false)
