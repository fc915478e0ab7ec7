use Rattle.std.proofs.Common.{◌∙◌, refl, sym}
use Rattle.page_rules.proofs.RequestLemmas.{names_once, names_twice, notes_by}
use Rattle.page_rules.proofs.requests.setup_for.Goals as goal

pub returns-in-Ok-clause-value : goal.returns-in-Ok-clause-value
returns-in-Ok-clause-value c =
    let once = names_once c.few_targets.ensures _ _ c.set_targets-count.ensures.value
    (λ twice. let e = c.in-Ok.ensures.twice.1 twice in cc e) in
    let value = c.in-Ok.ensures.value in
    let form = value.4 ∙ c.form_of.ensures in
    (rw (value.2, form) refl, rw (value.0 ∙ once.0, value.2, form, notes_by c.args.sealed) refl)

pub returns-in-Ok-clause-good : goal.returns-in-Ok-clause-good
returns-in-Ok-clause-good c =
    let once = names_once c.few_targets.ensures _ _ c.set_targets-count.ensures.value
    (λ twice. let e = c.in-Ok.ensures.twice.1 twice in cc e) in (
      sym c.goes_beyond_all.ensures ∙ c.if-goes_beyond_all.false,
      once.1,
      rw c.in-Ok.ensures.value.2 at c.in-Ok.setup.separates,
    )

pub returns-in-Err-TargetTwice-clause-twice : goal.returns-in-Err-TargetTwice-clause-twice
returns-in-Err-TargetTwice-clause-twice c same =
    let twice = (rw c.in-Err-TargetTwice.field-0-is at c.in-Err-TargetTwice.ensures.twice).0 refl in (
      sym c.goes_beyond_all.ensures ∙ c.if-goes_beyond_all.false,
      names_twice _ _ c.set_targets-count.ensures.value twice,
    )

pub returns-in-Err-Delimiter-clause-delimiter : goal.returns-in-Err-Delimiter-clause-delimiter
returns-in-Err-Delimiter-clause-delimiter c same =
    let why = (rw c.in-Err-Delimiter.field-0-is at c.in-Err-Delimiter.ensures.delimiter).0 refl in
    let once = names_once c.few_targets.ensures _ _ c.set_targets-count.ensures.value why.0 in
    (sym c.goes_beyond_all.ensures ∙ c.if-goes_beyond_all.false, once.1, why.2)
