use Rattle.std.proofs.Common.{◌≡◌, ◌∙◌, ap, arith, chars, flat_map, length, map-id, sym, take}
use Rattle.std.proofs.lemmas.Iterator.{YieldsList-from_chars}
use Rattle.std.proofs.lemmas.Iterator.Consumers.{YieldsList-end, YieldsList-so_far, YieldsList-turn}
use Rattle.unicode_normalization.specs.Decompose.{decompose_canonical}
use Rattle.unicode_normalization.specs.Order.{canonical_order}
use Rattle.written_dates.proofs.WordLemmas.{nfd-ordered, order-none, too_long}
use Rattle.written_dates.proofs.words.decomposed.Goals as goal

pub chars-init : goal.chars-init
chars-init c = record {
  same = c.new-out.ensures ∙ order-none;
  short = omega (arith, ap length c.new-out.ensures);
}

pub returns-then-not-push_decomposed-clause-none : goal.returns-then-not-push_decomposed-clause-none
returns-then-not-push_decomposed-clause-none c =
    let list = YieldsList-from_chars c.args.text.now c.utf8.text cc in
    let seen = YieldsList-so_far list c.chars.yielded _ c.chars.yielded_by in
    let turn = YieldsList-turn list c.chars.yielded _ c.chars.yielded_by _ _ _ c.in-Some.is c.next.ensures.steps in
    let front : c.chars.yielded ≡ take (length c.chars.yielded) (chars c.args.text.now)
    = sym (map-id c.chars.yielded) ∙ seen in
    too_long c.chars.out.items (chars c.args.text.now) (length c.chars.yielded) c.in-Some.c turn.0 turn.1
    (c.chars.invariant.same ∙ ap (λ l. canonical_order (flat_map decompose_canonical l)) front)
    (c.push_decomposed.ensures.full c.if-not-push_decomposed.true)

pub returns-clause-some : goal.returns-clause-some
returns-clause-some c =
    let end = YieldsList-end (YieldsList-from_chars c.args.text.now c.utf8.text cc) c.chars.yielded _ c.chars.yielded_by
    _ _ c.in-None.is c.next.ensures.steps in
    c.chars.invariant.same
    ∙ ap (λ l. canonical_order (flat_map decompose_canonical l)) (sym (map-id c.chars.yielded) ∙ end.0)
    ∙ sym (nfd-ordered (chars c.args.text.now))
