use Rattle.std.proofs.Common.{◌≡◌, ◌+◌, ◌∙◌, ◌++◌, rules, sym, ap, [], take, length, length-append, arith}
use Rattle.written_dates.specs.Tokens.{tokens, piece}
use Rattle.written_dates.specs.Fields.{bare_end, spelling, without_blanks}
use Rattle.written_dates.proofs.FieldLemmas.{token_stands, ending, ending_blank, ending_other, takes_more, drops_more}
use Rattle.written_dates.proofs.FieldLemmas.{without_none}
use Rattle.written_dates.proofs.fields.without_blanks.Goals as goal

pub tokens-preserved-then-not-is_blank : goal.tokens-preserved-then-not-is_blank
tokens-preserved-then-not-is_blank c =
    let front = c.bare-front.result.now in
    let rest = c.tokens.rest.now in
    let after = c.in-Some.after.now in
    let token = piece c.in-Some.token in
    let h = c.tokens.invariant in
    let stands : rest ≡ token.text ++ after = token_stands rest after token c.in-Some.ensures.some in
    let taken : take (c.tokens.place + length token.text) front ≡ take c.tokens.place front ++ token.text
    = takes_more front rest after token.text c.tokens.place h.rest stands (omega (arith, h.within)) in
    record {
      rest = drops_more front rest after token.text c.tokens.place h.rest stands;
      within = omega (arith, h.within, ap length stands, length-append token.text after);
      end = omega (arith, h.end);
      same = rw taken (ending_other (take c.tokens.end front) (take c.tokens.place front) token (bare_end (tokens 0 after))
          (sym c.is_blank.ensures ∙ c.if-not-is_blank.true))
          ∙ ap (λ ts. ending (take c.tokens.end front) (take c.tokens.place front) (bare_end ts)) (sym c.in-Some.ensures.some)
          ∙ h.same;
    }

pub tokens-preserved : goal.tokens-preserved
tokens-preserved c =
    let front = c.bare-front.result.now in
    let rest = c.tokens.rest.now in
    let after = c.in-Some.after.now in
    let token = piece c.in-Some.token in
    let h = c.tokens.invariant in
    let stands : rest ≡ token.text ++ after = token_stands rest after token c.in-Some.ensures.some in
    let taken : take (c.tokens.place + length token.text) front ≡ take c.tokens.place front ++ token.text
    = takes_more front rest after token.text c.tokens.place h.rest stands (omega (arith, h.within)) in
    record {
      rest = drops_more front rest after token.text c.tokens.place h.rest stands;
      within = omega (arith, h.within, ap length stands, length-append token.text after);
      end = omega (arith, h.end);
      same = rw taken (ending_blank (take c.tokens.end front) (take c.tokens.place front) token (bare_end (tokens 0 after))
          (sym c.is_blank.ensures ∙ c.if-not-is_blank.false))
          ∙ ap (λ ts. ending (take c.tokens.end front) (take c.tokens.place front) (bare_end ts)) (sym c.in-Some.ensures.some)
          ∙ h.same;
    }

pub returns : goal.returns
unfolding without_blanks
returns c =
    let none : tokens 0 c.tokens.rest.now ≡ [] = search rules in
    c.split_at.ensures.front ∙ (rw none at c.tokens.invariant.same)
    ∙ ap (λ ts. spelling (bare_end ts)) c.bare-front.ensures

pub returns-then-not-may_have_blank : goal.returns-then-not-may_have_blank
returns-then-not-may_have_blank c =
    sym (without_none c.args.text.now (sym c.may_have_blank.ensures ∙ c.if-not-may_have_blank.true))
