use Rattle.written_dates.proofs.LetterLemmas.{letters_alike, words_match}
use Rattle.written_dates.proofs.laws.same_words.Goals as goal

pub returns : goal.returns
returns c = record { letters = letters_alike; matching = words_match }
