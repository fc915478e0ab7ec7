use Rattle.std.proofs.Common.{◌≡◌, ◌∙◌, ap, arith, length, sym, take, take_all}
use Rattle.caseless.specs.Caseless.{default_case_fold}
use Rattle.written_dates.proofs.WordLemmas.{again, again-long, again-more, again-none, nfd-ordered}
use Rattle.unicode_normalization.specs.Order.{canonical_order}
use Rattle.written_dates.proofs.words.refolded.Goals as goal

pub chars-init : goal.chars-init
chars-init c = record {
  same = c.new-out.ensures ∙ again-none;
  short = omega (arith, ap length c.new-out.ensures);
}

pub returns-then-not-push_folded-clause-none : goal.returns-then-not-push_folded-clause-none
returns-then-not-push_folded-clause-none c =
    again-long c.chars.out.items c.args.text.now c.chars.c-index c.c-item.result c.chars-test.true c.c-item.is
    c.chars.invariant.same (c.push_folded.ensures.full c.if-not-push_folded.true)

pub chars-preserved : goal.chars-preserved
chars-preserved c =
    let more = c.push_folded.ensures.room c.if-not-push_folded.false in
    record {
      same = again-more c.chars.out.items c.push_folded.new.out.items c.args.text.now c.chars.c-index c.c-item.result
          c.chars-test.true c.c-item.is c.chars.invariant.same more;
      short = more.short c.chars.invariant.short;
    }

pub returns-clause-some : goal.returns-clause-some
returns-clause-some c =
    let all : take c.chars.c-index c.args.text.now ≡ c.args.text.now = take_all _ _ (omega arith) in
    c.chars.invariant.same ∙ ap (λ l. canonical_order (again l)) all ∙ sym (nfd-ordered (default_case_fold c.args.text.now))
