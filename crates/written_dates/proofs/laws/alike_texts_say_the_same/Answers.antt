use Rattle.written_dates.proofs.AlikeLemmas.{alike_texts_say_the_same}
use Rattle.written_dates.proofs.CaseLemmas.{letters_of_either_case_say_the_same}
use Rattle.written_dates.proofs.TextLawLemmas.{blanks_say_the_same, outer_blanks_say_nothing, synonyms_say_the_same}
use Rattle.written_dates.proofs.laws.alike_texts_say_the_same.Goals as goal

pub returns-clause-alike : goal.returns-clause-alike
returns-clause-alike c = alike_texts_say_the_same

pub returns-clause-blanks : goal.returns-clause-blanks
returns-clause-blanks c = blanks_say_the_same

pub returns-clause-outer : goal.returns-clause-outer
returns-clause-outer c = outer_blanks_say_nothing

pub returns-clause-synonyms : goal.returns-clause-synonyms
returns-clause-synonyms c = synonyms_say_the_same

pub returns-clause-letters : goal.returns-clause-letters
returns-clause-letters c = letters_of_either_case_say_the_same
