use Rattle.written_dates.proofs.RuleLemmas.{no_answer}
use Rattle.written_dates.proofs.written.answer_of.Goals as goal

pub returns-in-None : goal.returns-in-None
returns-in-None c =
    no_answer c.args.choice.now c.args.calendar c.args.names.now.listed.now c.args.text.now c.in-None.ensures.none
