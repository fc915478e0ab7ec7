-- One more record of a sheet, and its end.
use Rattle.std.proofs.Common.{◌≡◌, ◌<◌, ◌+◌, ◌∙◌, ◌++◌, ◌∷◌, [], ℕ, List, ap, get_or, length, map, sym, take}
use Rattle.std.specs.Prelude.{Err, IfOk, Ok, Result, Vec}
use Rattle.std.specs.declared.alloc.Global.{Global}
use Rattle.std.proofs.lemmas.List.{flat_map_more, map-append, take_more}
use Rattle.csv.specs.Writing.{default_writer, row_text}
use Rattle.csv.specs.declared.writer.Writer.{Writer}
use Rattle.family_trees.specs.DateViews.{date_seen}
use Rattle.family_trees.specs.private.SheetViews.{Holds}
use Rattle.family_trees.specs.TreeSheets.{date_record, records_text, tree_head}
use Rattle.family_trees.specs.declared.dates.TreeDate.{TreeDate}

-- the text of the records of the first dates, and of the next
pub one_date_more : (dates : List TreeDate) (k : ℕ) (d : TreeDate) → k < length dates
    → records_text (tree_head ∷ map date_record (map date_seen (take k dates)))
    ++ row_text default_writer (date_record (date_seen (get_or dates k d)))
    ≡ records_text (tree_head ∷ map date_record (map date_seen (take (k + 1) dates)))
one_date_more dates k d lt =
    let done = take k dates in
    let next : map date_record (map date_seen (take (k + 1) dates))
    ≡ map date_record (map date_seen done) ++ date_record (date_seen (get_or dates k d)) ∷ []
    = ap (λ (xs : List TreeDate). map date_record (map date_seen xs)) (take_more dates k d lt)
    ∙ ap (map date_record) (map-append date_seen done (get_or dates k d ∷ []))
    ∙ map-append date_record (map date_seen done) (date_seen (get_or dates k d) ∷ []) in
    flat_map_more (row_text default_writer) [] (tree_head ∷ map date_record (map date_seen done))
    (date_record (date_seen (get_or dates k d)))
    ∙ ap (λ (xs : List (List (List ℕ))). records_text (tree_head ∷ xs)) (sym next)

-- the text of a sheet that holds it
pub text_known : {E : Type 0} (result : Result (Vec ℕ Global) E) (text whole : List ℕ) (sheet : Writer (Vec ℕ Global))
    → IfOk result (λ given. (t : List ℕ) → Holds t sheet → given.items ≡ t) → Holds text sheet → text ≡ whole
    → IfOk result (λ given. given.items ≡ whole)
text_known (Ok given) text whole sheet gives holds same = gives text holds ∙ same
text_known (Err error) text whole sheet gives holds same = tt
