use Rattle.std.proofs.Common.{◌≡◌, ◌↔◌, ◌∙◌, Some, ap, subst}
use Rattle.date_texts.specs.declared.refusal.Refusal.TheVariants.{DateText}
use Rattle.date_texts.proofs.Common.{Date, IsDateText, SaysDate, trimmed}
use Rattle.date_texts.proofs.DateTextLemmas.{refused_where_none}
use Rattle.date_texts.proofs.read.read_date.Goals as goal

pub returns-clause-refused : goal.returns-clause-refused
returns-clause-refused c =
    let text : c.trimmed.result.now ≡ trimmed c.args.text.now = c.trimmed.ensures
    ∙ ap trimmed c.as_bytes.ensures.value in
    let says = subst (λ t. (date : Date) → (c.date_at.result ≡ Some date) ↔ SaysDate c.args.calendar t date) text
    c.date_at.ensures in
    rw c.ok_or.ensures.value (refused_where_none c.date_at.result DateText (IsDateText c.args.calendar c.args.text.now)
    says)
