use Rattle.std.proofs.Common.{◌≡◌, ◌∙◌, ◌++◌, ◌∷◌, ◌+◌, [], List, ap, append-nil, append_assoc, arith, map, rules, sym}
use Rattle.std.proofs.Common.{ℕ}
use Rattle.sheet_app.proofs.Common.{string_bytes}
use Rattle.std.specs.List.{range_with_len}
use Rattle.std.proofs.lemmas.List.{map-append}
use Rattle.std.proofs.lemmas.List.FromFn.{map-range_with_len_more}
use Rattle.sheet_app.specs.FileSheets.{register_ending}
use Rattle.sheet_app.proofs.file_sheets.push_numbered.Goals as goal

pub columns-init : goal.columns-init
columns-init c = sym (append-nil (map string_bytes c.args.endings.now.items))

pub columns-preserved : goal.columns-preserved
columns-preserved c =
    let old = map string_bytes c.args.endings.now.items in
    let f = register_ending c.args.part.now in
    let i = c.columns.index in
    let pushed : c.push.new.self.items ≡ c.columns.endings.items ++ c.in_ok-numbered_ending.field-0 ∷ [] = search rules in
    ap (map string_bytes) pushed
    ∙ map-append string_bytes c.columns.endings.items (c.in_ok-numbered_ending.field-0 ∷ [])
    ∙ ap (λ (xs : List (List ℕ)). xs ++ string_bytes c.in_ok-numbered_ending.field-0 ∷ []) c.columns.invariant
    ∙ append_assoc old (map f (range_with_len 1 i)) (string_bytes c.in_ok-numbered_ending.field-0 ∷ [])
    ∙ ap (λ (text : List ℕ). old ++ (map f (range_with_len 1 i) ++ text ∷ [])) c.in_ok-numbered_ending.ensures
    ∙ ap (λ (xs : List (List ℕ)). old ++ xs) (sym (map-range_with_len_more f 1 i (i + 1) (omega arith)))
