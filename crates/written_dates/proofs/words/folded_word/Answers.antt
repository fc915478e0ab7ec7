use Rattle.std.proofs.Common.{◌≡◌, ◌∙◌, ◌<◌, ap, arith, chars, length}
use Rattle.caseless.specs.Caseless.{canonical_key, default_case_fold}
use Rattle.unicode_normalization.specs.Forms.{nfd}
use Rattle.written_dates.proofs.WordLemmas.{is_folded-bytes, is_folded-long, is_folded-longer, is_folded-true}
use Rattle.written_dates.proofs.words.folded_word.Goals as goal

pub returns-in_default-clause-none : goal.returns-in_default-clause-none
returns-in_default-clause-none c = is_folded-bytes c.args.word.now c.in_default.ensures.cases.0

pub returns-in_err-first-clause-none : goal.returns-in_err-first-clause-none
returns-in_err-first-clause-none c =
    let long : 64 < length (nfd (chars c.in-Ok.text.now)) = c.in_err-first.ensures.none in
    rw c.from_residual.ensures (is_folded-long c.args.word.now
    (omega (arith, long, ap (λ l. length (nfd (chars l))) c.in-Ok.ensures.cases.0)))

pub returns-in_err-key-clause-none : goal.returns-in_err-key-clause-none
returns-in_err-key-clause-none c =
    let long : 64 < length (nfd (default_case_fold c.as_slice.result.now)) = c.in_err-key.ensures.none in
    let is : c.as_slice.result.now ≡ nfd (chars c.args.word.now)
    = c.as_slice.ensures.value ∙ c.in_ok-first.ensures.some ∙ ap (λ l. nfd (chars l)) c.in-Ok.ensures.cases.0 in
    rw c.from_residual-in_err-key.ensures (is_folded-longer c.args.word.now
    (omega (arith, long, ap (λ l. length (nfd (default_case_fold l))) is)))

pub returns-clause-some : goal.returns-clause-some
returns-clause-some c =
    let is : c.as_slice.result.now ≡ nfd (chars c.args.word.now)
    = c.as_slice.ensures.value ∙ c.in_ok-first.ensures.some ∙ ap (λ l. nfd (chars l)) c.in-Ok.ensures.cases.0 in
    let key : c.in_ok-key.key.items ≡ canonical_key (chars c.args.word.now)
    = c.in_ok-key.ensures.some ∙ ap (λ l. nfd (default_case_fold l)) is in (
      is_folded-true c.args.word.now c.in-Ok.ensures.cases.1 (omega (arith, c.as_slice.ensures.fits, ap length is))
          (omega (arith, c.in_ok-key.ensures.short, ap length key)),
      key,
    )
