-- The columns asked, one after the other.
use Rattle.std.proofs.Common.{◌≡◌, ◌≤◌, ◌<◌, ◌∙◌, ◌++◌, ◌+◌, ℕ, List, [], ◌∷◌, Option, Some, None, add-one, ap}
use Rattle.std.proofs.Common.{append-nil, append_assoc, arith, drop, drop-cons, get_or, length, refl, set, sym, take}
use Rattle.std.proofs.Common.{codes, map, suc, true, zero, option_to_list}
use Rattle.sheets.proofs.Common.{flat_map, Fields, asked_targets, AskedColumn, DayNumber}
use Rattle.std.specs.List.{list_all}
use Rattle.std.proofs.lemmas.List.{drop-drop, flat_map_more, take_more, take_more_set}
use Rattle.register_records.specs.Columns.{Column, cell_columns, kind_columns, tail_order}
use Rattle.register_records.specs.Outcomes.{TableRow}
use Rattle.date_texts.specs.declared.target.Target.{Target}
use Rattle.sheets.specs.private.AskedViews.{day_columns, has_cells}
use Rattle.sheets.specs.Choices.{target_in}
use Rattle.sheets.specs.Converted.{asked_fields, asked_text, asked_texts, cells_taken, shown_in}
use Rattle.sheets.specs.declared.choices.AskedColumn.TheVariants.{Cells, Weekday}
use Rattle.sheets.proofs.RowLemmas.{same_head}

pub asked_step : (columns : List AskedColumn) (i : ℕ) (d : AskedColumn) (row : TableRow) (cells : List (List ℕ))
    (taken more : ℕ) (made all : Fields) → i < length columns → more ≡ cells_taken (get_or columns i d)
    → made ++ asked_texts (drop i columns) row (drop taken cells) ≡ all
    → (made ++ asked_text (get_or columns i d) row (drop taken cells) ∷ [])
    ++ asked_texts (drop (i + 1) columns) row (drop (taken + more) cells) ≡ all
asked_step columns i d row cells taken more made all lt is e =
    let column = get_or columns i d in
    append_assoc made (asked_text column row (drop taken cells) ∷ []) _
    ∙ ap (λ rest. made ++ asked_text column row (drop taken cells) ∷ asked_texts (drop (i + 1) columns) row rest)
    (sym (drop-drop more taken cells) ∙ ap (λ n. drop n (drop taken cells)) is)
    ∙ ap (λ rest. made ++ asked_texts rest row (drop taken cells))
    (sym (drop-cons columns i d lt ∙ ap (λ j. column ∷ drop j columns) (sym (add-one i)))) ∙ e

targets_more : (columns : List AskedColumn) (i : ℕ) (d : AskedColumn) → i < length columns
    → asked_targets (take (i + 1) columns) ≡ asked_targets (take i columns) ++ target_in (get_or columns i d)
targets_more columns i d lt =
    ap asked_targets (take_more columns i d lt) ∙ sym (flat_map_more target_in [] (take i columns) (get_or columns i d))

pub target_taken : (columns : List AskedColumn) (i : ℕ) (d : AskedColumn) (o : Option Target) (t : Target) (ts : List Target)
    (count : ℕ) → i < length columns → count < length ts → option_to_list o ≡ target_in (get_or columns i d) → o ≡ Some t
    → take count ts ≡ asked_targets (take i columns)
    → take (count + 1) (set ts count t) ≡ asked_targets (take (i + 1) columns)
target_taken columns i d o t ts count lt room is some e =
    take_more_set ts count t room ∙ ap (λ front. front ++ t ∷ []) e
    ∙ ap (λ one. asked_targets (take i columns) ++ one) (sym (ap option_to_list some) ∙ is)
    ∙ sym (targets_more columns i d lt)

pub none_taken : (columns : List AskedColumn) (i : ℕ) (d : AskedColumn) (o : Option Target) (ts : List Target) (count : ℕ)
    → i < length columns → option_to_list o ≡ target_in (get_or columns i d) → o ≡ None
    → take count ts ≡ asked_targets (take i columns) → take count ts ≡ asked_targets (take (i + 1) columns)
none_taken columns i d o ts count lt is none e =
    e ∙ sym (append-nil (asked_targets (take i columns)))
    ∙ ap (λ one. asked_targets (take i columns) ++ one) (sym (ap option_to_list none) ∙ is)
    ∙ sym (targets_more columns i d lt)

pub few_taken : (column : AskedColumn) → cells_taken column ≤ 1
few_taken DayNumber = omega arith
few_taken column = omega arith

-- what a table has behind the cells
abbrev behind_cells : List Column
behind_cells = flat_map (kind_columns []) (drop 3 tail_order)

-- where so many columns of cells are asked, they and the refusal show what a table shows behind the day
cells_shown : (columns : List AskedColumn) (ts : List Target) (row : TableRow) (place : ℕ)
    → list_all has_cells columns ≡ true → length columns ≡ length ts
    → asked_texts columns row (drop place row.cells) ++ shown_in (codes "refusal") row ∷ []
    ≡ map (λ (c : Column). c.field row) (cell_columns place ts ++ behind_cells)
cells_shown [] [] row place all same = refl
cells_shown (Cells t ∷ columns) (u ∷ ts) row place all same =
    ap (λ (rest : Fields). get_or (drop place row.cells) 0 [] ∷ rest)
    (ap (λ (cells : List (List ℕ)). asked_texts columns row cells ++ shown_in (codes "refusal") row ∷ [])
    (drop-drop 1 place row.cells) ∙ cells_shown columns ts row (place + 1) all (omega arith))
    ∙ ap (λ (text : List ℕ). text ∷ map (λ (c : Column). c.field row) (cell_columns (place + 1) ts ++ behind_cells))
    (same_head place row.cells [])
cells_shown (column ∷ columns) (u ∷ ts) row place all same = absurd (cc)
cells_shown columns ts row place all same = absurd (omega arith)

pub asked_of_tail : (columns others : List AskedColumn) (passed targets : ℕ) → passed ≤ 2
    → columns ≡ drop passed day_columns ++ others → length others ≡ targets → list_all has_cells others ≡ true
    → (row : TableRow) (ts : List Target) → length ts ≡ targets
    → asked_fields columns row ≡ drop passed (map (λ (c : Column). c.field row) (flat_map (kind_columns ts) tail_order))
asked_of_tail columns others zero targets few is many all row ts same =
    ap (λ (asked : List AskedColumn). asked_fields asked row) is
    ∙ ap (λ (rest : Fields). asked_text DayNumber row [] ∷ asked_text Weekday row [] ∷ rest)
    (cells_shown others ts row 0 all (many ∙ sym same))
asked_of_tail columns others (suc zero) targets few is many all row ts same =
    ap (λ (asked : List AskedColumn). asked_fields asked row) is
    ∙ ap (λ (rest : Fields). asked_text Weekday row [] ∷ rest) (cells_shown others ts row 0 all (many ∙ sym same))
asked_of_tail columns others (suc (suc zero)) targets few is many all row ts same =
    ap (λ (asked : List AskedColumn). asked_fields asked row) is ∙ cells_shown others ts row 0 all (many ∙ sym same)
asked_of_tail columns others (suc (suc (suc n))) targets few is many all row ts same = absurd (omega arith)
