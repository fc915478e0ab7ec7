use Rattle.std.proofs.Common.{◌≡◌, ◌+◌, ◌∙◌, ◌++◌, sym, ap, take, length, length-append, arith}
use Rattle.written_dates.specs.Tokens.{piece}
use Rattle.written_dates.proofs.FieldLemmas.{token_stands, takes_more, drops_more}
use Rattle.date_spans.proofs.CutLemmas.{before_here, before_later, behind_here, behind_later, count_later}
use Rattle.date_spans.proofs.cuts.first_sides.Goals as goal

pub tokens-preserved : goal.tokens-preserved
tokens-preserved c =
    let text = c.args.text.now in
    let rest = c.tokens.rest.now in
    let after = c.in-Some.after.now in
    let token = piece c.in-Some.token in
    let kind = c.tokens.before in
    let h = c.tokens.invariant in
    let none = sym c.cuts.ensures ∙ c.if-cuts.false in
    let stands : rest ≡ token.text ++ after = token_stands rest after token c.in-Some.ensures.some in
    let taken : take (c.tokens.place + length token.text) text ≡ take c.tokens.place text ++ token.text
    = takes_more text rest after token.text c.tokens.place h.rest stands (omega (arith, h.within)) in
    record {
      rest = drops_more text rest after token.text c.tokens.place h.rest stands;
      within = omega (arith, h.within, ap length stands, length-append token.text after);
      left = rw taken
          (before_later c.args.cut kind text rest after (take c.tokens.place text) token c.in-Some.ensures.some none h.left);
      behind = behind_later c.args.cut kind text rest after token c.in-Some.ensures.some none h.behind;
      count = count_later c.args.cut kind text rest after token c.in-Some.ensures.some none h.count;
    }

pub returns-then-cuts-clause-some : goal.returns-then-cuts-clause-some
returns-then-cuts-clause-some c =
    let text = c.args.text.now in
    let rest = c.tokens.rest.now in
    let after = c.in-Some.after.now in
    let token = piece c.in-Some.token in
    let kind = c.tokens.before in
    let h = c.tokens.invariant in
    let here = sym c.cuts.ensures ∙ c.if-cuts.true in (
      c.split_at.ensures.front
          ∙ before_here c.args.cut kind text rest after (take c.tokens.place text) token c.in-Some.ensures.some here h.left,
      behind_here c.args.cut kind text rest after token c.in-Some.ensures.some here h.behind,
    )
