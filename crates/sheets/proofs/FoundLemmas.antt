-- What is not known is counted date by date.
use Rattle.std.proofs.Common.{◌≡◌, ◌≤◌, ◌<◌, ◌+◌, ◌*◌, ◌^◌, ◌∙◌, ◌++◌, ℕ, zero, suc, List, [], ◌∷◌, Option, Some}
use Rattle.std.proofs.Common.{inl, ap, append-nil, append_assoc, arith, get_or, length, map, sym, take}
use Rattle.std.proofs.Common.{option_to_list}
use Rattle.sheets.proofs.Common.{Fields, line_text, DateStop, NameStop, SheetDate, records_text}
use Rattle.sheets.proofs.Common.{NameCount, all_dates, is_alike, list_head, name_record, name_seen, DateColumn}
use Rattle.sheets.proofs.Common.{SheetChoice, UnknownName}
use Rattle.std.proofs.lemmas.List.{flat_map_more, length-append, length-map, map_more, map_push}
use Rattle.std.proofs.lemmas.List.Concat.{flat_map-append}
use Rattle.std.proofs.lemmas.List.Sums.{count_by-le-length}
use Rattle.sheets.specs.DateStops.{name_in}
use Rattle.sheets.specs.UnknownNames.{counted, dates_of, firsts, is_other, names_in}
use Rattle.sheets.specs.private.UnknownViews.{HasNames, HasRoom}
use Rattle.sheets.specs.declared.stopped_names.StoppedNames.{StoppedNames}

-- no count is above the number of stops
low_at : (stops : List NameStop) (items : List UnknownName) (names : List NameStop)
    → map name_seen items ≡ map (counted stops) names → length stops < 2 ^ 32 → (k : ℕ) (d : UnknownName)
    → k < length items → (get_or items k d).count < 2 ^ 32
low_at stops [] names e few k d lt = absurd (omega arith)
low_at stops (x ∷ items) [] e few k d lt = absurd (cc)
low_at stops (x ∷ items) (n ∷ names) e few zero d lt =
    let first : name_seen x ≡ counted stops n = cc in
    omega (arith, ap (λ (c : NameCount). c.2) first, count_by-le-length (is_alike n) stops, few)
low_at stops (x ∷ items) (n ∷ names) e few (suc k) d lt =
    let rest : map name_seen items ≡ map (counted stops) names = cc in
    low_at stops items names rest few k d (omega arith)

pub has_room : (most : ℕ) (stops : List NameStop) (names : StoppedNames) → HasNames most stops names
    → length stops < 2 ^ 32 → HasRoom names
has_room most stops names are few =
    record {
      listed = low_at stops names.listed.items _ are.names_are few;
      others = omega (arith, are.more_are, count_by-le-length (is_other (take most (firsts stops))) stops, few);
    }

-- a date was stopped by one name at most
name_few : (stop : Option DateStop) → length (option_to_list (name_in stop)) ≤ 1
name_few (Some (inl name)) = omega arith
name_few stop = omega arith

pub names_few : (stops : List (Option DateStop)) → length (names_in stops) ≤ length stops
names_few [] = omega arith
names_few (stop ∷ stops) =
    omega (arith, length-append (option_to_list (name_in stop)) (names_in stops), name_few stop, names_few stops)

pub names_both : (a b : List (Option DateStop)) → names_in (a ++ b) ≡ names_in a ++ names_in b
names_both a b = flat_map-append (λ stop. option_to_list (name_in stop)) a b

pub names_one : (stop : Option DateStop) → names_in (stop ∷ []) ≡ option_to_list (name_in stop)
names_one stop = append-nil (option_to_list (name_in stop))

-- how many dates these are
pub dates_few : (choice : SheetChoice) (records : List Fields) → length choice.dates.now ≤ 8
    → length (all_dates choice records) ≤ length records * 8
dates_few choice [] few = omega arith
dates_few choice (x ∷ records) few =
    let f : DateColumn → SheetDate = λ column. (column, x) in
    omega (
      arith,
      length-append (dates_of choice x) (all_dates choice records),
      length-map choice.dates.now f,
      dates_few choice records few,
    )

-- one more column of a record
pub dates_taken : (dates : List SheetDate) (columns : List DateColumn) (fields : Fields) (k : ℕ) (d : DateColumn)
    → k < length columns
    → (dates ++ map (λ column. (column, fields)) (take k columns)) ++ (get_or columns k d, fields) ∷ []
    ≡ dates ++ map (λ column. (column, fields)) (take (k + 1) columns)
dates_taken dates columns fields k d lt =
    let f : DateColumn → SheetDate = λ column. (column, fields) in
    append_assoc dates (map f (take k columns)) (f (get_or columns k d) ∷ [])
    ∙ ap (λ (xs : List SheetDate). dates ++ xs) (sym (map_more f columns k d lt))

pub dates_more : (choice : SheetChoice) (records : List Fields) (fields : Fields)
    → all_dates choice (records ++ fields ∷ []) ≡ all_dates choice records ++ dates_of choice fields
dates_more choice records fields = sym (flat_map_more (dates_of choice) [] records fields)

-- one more name of a list
pub listed_more : (names : List UnknownName) (k : ℕ) (name : UnknownName) → k < length names
    → name ≡ get_or names k name → records_text 44 (list_head ∷ map name_record (map name_seen (take k names)))
    ++ line_text 44 (name_record (name_seen name))
    ≡ records_text 44 (list_head ∷ map name_record (map name_seen (take (k + 1) names)))
listed_more names k name lt is =
    let done = take k names in
    let next : map name_record (map name_seen (take (k + 1) names))
    ≡ map name_record (map name_seen done) ++ name_record (name_seen name) ∷ []
    = ap (map name_record) (map_more name_seen names k name lt)
    ∙ map_push name_record (map name_seen done) (name_seen (get_or names k name))
    ∙ ap (λ (x : UnknownName). map name_record (map name_seen done) ++ name_record (name_seen x) ∷ []) (sym is) in
    flat_map_more (line_text 44) [] (list_head ∷ map name_record (map name_seen done)) (name_record (name_seen name))
    ∙ ap (λ (xs : List Fields). records_text 44 (list_head ∷ xs)) (sym next)
