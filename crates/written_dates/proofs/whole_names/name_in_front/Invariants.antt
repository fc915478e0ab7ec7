use Rattle.std.proofs.Common.{◌≡◌, ◌+◌, ◌++◌, ◌||◌, drop, length, take}
use Rattle.written_dates.specs.Tokens.{tokens}
use Rattle.written_dates.specs.WholeNames.{has_word, joined_words, name_in_front, spelled}
use Rattle.written_dates.proofs.whole_names.name_in_front.Given as goal

-- what is found so far and what is joined to it are the name, and what follows the one follows the other
abbrev pub invariant-words : goal.invariant-words
invariant-words l =
    record {
      text : take l.end l.fn.text ++ l.rest ≡ l.fn.text;
      size : l.end + length l.rest ≡ length l.fn.text;
      name : spelled (name_in_front (tokens 0 l.fn.text)) ≡ take l.end l.fn.text ++ spelled (joined_words (tokens 0 l.rest));
      has : has_word l.word (name_in_front (tokens 0 l.fn.text)) ≡ (l.has || has_word l.word (joined_words (tokens 0 l.rest)));
      behind : drop (length (name_in_front (tokens 0 l.fn.text))) (tokens 0 l.fn.text)
          ≡ drop (length (joined_words (tokens 0 l.rest))) (tokens 0 l.rest);
    }

abbrev pub decreases-words : goal.decreases-words
decreases-words l = length l.rest
