-- The lines on sources, one after the other.
use Rattle.std.proofs.Common.{◌≡◌, ◌<◌, ◌≤◌, ◌+◌, ℕ, List, [], ◌∷◌, ◌++◌, length, get_or, drop, ap, refl, arith}
use Rattle.std.proofs.Common.{append_assoc, append-nil, length-append, Bool, true, false, All}
use Rattle.std.proofs.lemmas.List.{drop_all, drop_more}
use Rattle.std.proofs.lemmas.List.Elements.{All-head, All-tail}
use Rattle.register_records.specs.Sources.{is_whole_end}
use Rattle.register_records.specs.declared.ends.SourceEnd.{SourceEnd}
use Rattle.register_records.specs.declared.ends.SourceEnd.TheVariants as ended
use Rattle.register_records.specs.declared.ends.Note.{Note}
use Rattle.date_texts.specs.Refusals.{refusal_number}
use Rattle.date_texts.specs.declared.refusal.Refusal.{Refusal}
use Rattle.register_records.specs.RefusalCounts.{refused_with}
use Rattle.register_app.specs.Reports.{count_text, counts_from, every_refusal, line_of_end, lines_from}

-- with the next line written, one line fewer is left
pub lines_more : (summary : Bool) (ends : List SourceEnd) (i : ℕ) (e : SourceEnd) (text all : List ℕ) → i < length ends
    → e ≡ get_or ends i e
    → text ++ lines_from summary (i + 1) (drop i ends) ≡ all
    → (text ++ line_of_end summary (i + 1) e) ++ lines_from summary (i + 1 + 1) (drop (i + 1) ends) ≡ all
lines_more summary ends i e text all lt at is = grind (arith, append_assoc, drop_more)

-- past the last end no line is left
pub lines_end : (summary : Bool) (ends : List SourceEnd) (i : ℕ) (text all : List ℕ) → length ends ≤ i
    → text ++ lines_from summary (i + 1) (drop i ends) ≡ all → text ≡ all
lines_end summary ends i text all le is = grind (arith, append-nil text, drop_all i ends le)

-- without a summary, sources that are all whole have no line
pub no_lines : (ends : List SourceEnd) (place : ℕ) → All (λ e. is_whole_end e ≡ true) ends
    → lines_from false place ends ≡ []
no_lines [] place whole = refl
no_lines (ended.Whole rows refused journal ∷ ends) place whole =
    no_lines ends (place + 1) (All-tail (λ e. is_whole_end e ≡ true) (ended.Whole rows refused journal) ends whole)
no_lines (ended.Broken cause ∷ ends) place whole =
    let bad : false ≡ true = All-head (λ e. is_whole_end e ≡ true) (ended.Broken cause) ends whole in cc

-- one item that is taken from the end of a list of one leaves none
pub taken_alone : {W : Type 0} (xs rest : List W) (x : W) → xs ≡ rest ++ x ∷ [] → length xs ≡ 1 → rest ≡ []
taken_alone xs [] x is one = refl
taken_alone xs (y ∷ rest) x is one = absurd (omega (arith, ap length is, length-append rest (x ∷ []), one))

-- with the next count added, or none where there is none, one number fewer is left
pub count_added : (line new all : List ℕ) (is_first : Bool) (journal : List Note) (i : ℕ) (d : Refusal)
    (number count : ℕ) → i < 7 → number ≡ refusal_number (get_or every_refusal i d)
    → count ≡ refused_with journal (get_or every_refusal i d) → 0 < count
    → new ≡ line ++ count_text is_first number count
    → line ++ counts_from is_first journal (drop i every_refusal) ≡ all
    → new ++ counts_from false journal (drop (i + 1) every_refusal) ≡ all
count_added line new all is_first journal i d number count lt numbered counted some added is =
    grind (arith, append_assoc, drop_more every_refusal i d lt)

pub count_left_out : (line all : List ℕ) (is_first : Bool) (journal : List Note) (i : ℕ) (d : Refusal) (count : ℕ)
    → i < 7
    → count ≡ refused_with journal (get_or every_refusal i d) → count ≡ 0
    → line ++ counts_from is_first journal (drop i every_refusal) ≡ all
    → line ++ counts_from is_first journal (drop (i + 1) every_refusal) ≡ all
count_left_out line all is_first journal i d count lt counted none is =
    grind (arith, append_assoc, drop_more every_refusal i d lt)
