-- What arguments ask for is a choice.
use Rattle.std.proofs.Common.{◌≡◌, ◌≤◌, ◌+◌, ◌*◌, ◌∙◌, ◌++◌, ◌∷◌, ℕ, suc, Bool, List, [], Option, None, Some}
use Rattle.std.proofs.Common.{Result, Ok, Err, ap, arith, false, get_or, inl, inr, length, length-append, map, refl}
use Rattle.std.proofs.Common.{subst, sym, true, ap₂, ◌==◌, codes, count_by, if◌then◌else◌, nat_lt, unwrap_or}
use Rattle.sheet_app.proofs.Common.{Bor, Text, DateColumn, NameLine, Task}
use Rattle.std.specs.Cmp.{IsEquivalence}
use Rattle.std.specs.List.{AllByRecursion, IsDistinct, flat_map, list_any}
use Rattle.std.specs.Set.{is_member}
use Rattle.std.specs.Str.{bytes_eq}
use Rattle.std.proofs.lemmas.Bool.{cases_Bool}
use Rattle.std.proofs.lemmas.Cmp.{nat_list_eq_equiv}
use Rattle.std.proofs.lemmas.List.{length-map}
use Rattle.std.proofs.lemmas.List.Sums.{sum_by-cons}
use Rattle.std.proofs.lemmas.Map.Keys.{IsDistinct-push, apart_from_distinct}
use Rattle.std.proofs.lemmas.Map.Made.{length-le_from_is_member}
use Rattle.std.proofs.lemmas.Option.{unwrap_or-slice_get}
use Rattle.date_texts.specs.Calendars.{target_name}
use Rattle.programs.specs.Meanings.{AllPass}
use Rattle.programs.specs.Values.{byte_of, delimiter_of}
use Rattle.programs.specs.declared.values.Delimiter.{Delimiter as DelimiterWord}
use Rattle.programs.specs.declared.values.Delimiter.TheVariants.{Comma}
use Rattle.std.specs.Prelude.{option_and_then}
use Rattle.date_texts.specs.declared.calendar.Calendar.TheVariants as calendar
use Rattle.date_texts.specs.declared.target.Target.{Target}
use Rattle.date_texts.specs.declared.target.Target.TheVariants as target
use Rattle.register_records.specs.Entries.{Fields, text_records}
use Rattle.register_records.specs.SetupRules.{NamesTwice, is_delimiter}
use Rattle.sheets.specs.AskedOfSheets.{HasHeadings, IsChoice, IsChoiceOf, SheetAsked}
use Rattle.sheets.specs.Choices.{AsksOnce, asked_targets, asks_twice, column_limit, date_limit, added_each}
use Rattle.sheets.specs.Choices.{is_church, is_day_number, is_weekday}
use Rattle.sheets.specs.Headings.{AreHeadings, asked_behind, asked_name, asked_names, column_names, mark_names}
use Rattle.sheets.specs.Headings.{wanted_for, wanted_heading}
use Rattle.sheets.specs.declared.choices.AskedColumn.{AskedColumn}
use Rattle.sheets.specs.declared.choices.AskedColumn.TheVariants.{Cells, Church, DayNumber, Weekday}
use Rattle.sheets.specs.declared.choices.SheetChoice.{SheetChoice}
use Rattle.sheets.specs.declared.choices.Spans.{Spans}
use Rattle.sheets.specs.declared.choices.Spans.TheVariants as spans
use Rattle.sheet_arguments.specs.Requests.{Ask, Values, date_checks}
use Rattle.programs.specs.Faults.{Fault}
use Rattle.sheet_arguments.specs.WordLists.{all_columns, column_named, columns_asked, is_among, names_in, or_fault}
use Rattle.sheet_arguments.specs.WordLists.{column_twice, unknown_column, with_columns}
use Rattle.written_dates.specs.declared.fields.CalendarMeaning.{CalendarMeaning}
use Rattle.written_dates.specs.declared.meanings.Name.{Name}
use Rattle.sheet_app.specs.private.SheetViews.{IsTask}
use Rattle.sheet_app.specs.Sheets.{IsAskedOf}

-- columns of one name
abbrev alike : AskedColumn → AskedColumn → Bool
alike a b = bytes_eq (asked_name a) (asked_name b)

alike_equiv : IsEquivalence alike
alike_equiv = record {
  refl = λ a. nat_list_eq_equiv.refl (asked_name a);
  symm = λ a b. nat_list_eq_equiv.symm (asked_name a) (asked_name b);
  congr = λ a b c. nat_list_eq_equiv.congr (asked_name a) (asked_name b) (asked_name c);
}

abbrev target_alike : Target → Target → Bool
target_alike a b = bytes_eq (target_name a) (target_name b)

found_next : {A B : Type 0} (fault : Fault) (found : Option A) (next : A → Result B Fault) (b : B)
    → or_fault fault found next ≡ Ok b → (a : A) × (next a ≡ Ok b)
found_next fault None next b is = absurd (cc)
found_next fault (Some a) next b is = (a, is)

new_next : {B : Type 0} (among : Bool) (fault : Fault) (next : Result B Fault) (b : B)
    → (if among then Err fault else next) ≡ Ok b → (among ≡ false) × (next ≡ Ok b)
new_next true fault next b is = absurd (cc)
new_next false fault next b is = (refl, is)

among_alike : (column : AskedColumn) (columns : List AskedColumn)
    → list_any (alike column) columns ≡ is_among columns column
among_alike column [] = refl
among_alike column (other ∷ columns) = rw (alike_equiv.symm column other, among_alike column columns) refl

-- columns that lists name are of different names
distinct : (columns : List AskedColumn) (names : List Text) (all : List AskedColumn) → IsDistinct alike columns
    → with_columns columns names ≡ Ok all → IsDistinct alike all
distinct columns [] all so is = let same : columns ≡ all = cc in subst (λ l. IsDistinct alike l) same so
distinct columns (name ∷ names) all so is =
    let (column, found) = found_next (unknown_column name) (column_named name) (λ column.
    if is_among columns column then Err (column_twice column) else with_columns (columns ++ column ∷ []) names) all is in
    let (new, rest) = new_next (is_among columns column) (column_twice column) (with_columns (columns ++ column ∷ []) names)
    all found in
    distinct (columns ++ column ∷ []) names all
    (IsDistinct-push alike_equiv columns column so (among_alike column columns ∙ new)) rest

two_default : IsDistinct alike (Weekday ∷ Cells (target.Date calendar.Gregorian) ∷ [])
unfolding IsDistinct
two_default = ((refl, tt), (tt, tt))

none_distinct : IsDistinct alike []
unfolding IsDistinct
none_distinct = tt

asked_distinct : (list : Option Text) (all : List AskedColumn) → columns_asked list ≡ Ok all → IsDistinct alike all
asked_distinct None all is =
    let same : Weekday ∷ Cells (target.Date calendar.Gregorian) ∷ [] ≡ all = cc in
    subst (λ l. IsDistinct alike l) same two_default
asked_distinct (Some list) all is = distinct [] (names_in list) all none_distinct is

-- each column is one of those that there are
member : (column : AskedColumn) → is_member alike all_columns column ≡ true
member (Cells (target.Date calendar.Gregorian)) = refl
member column = refl

few : (all : List AskedColumn) → IsDistinct alike all → nat_lt column_limit (length all) ≡ false
few all so =
    let most : length all ≤ 18 = length-le_from_is_member alike_equiv all all_columns so (λ column is. member column) in
    grind (arith, most)

not_both : (b c : Bool) → c ≡ false → (b ≡ true → c ≡ true) → b ≡ false
not_both true c isnt same = absurd (let holds = same refl in cc)
not_both false c isnt same = refl

-- of columns that are alike there is at most one
no_other : (p : AskedColumn → Bool) (column : AskedColumn) (columns : List AskedColumn)
    → ((other : AskedColumn) → p other ≡ true → alike column other ≡ true)
    → AllByRecursion (λ other. alike column other ≡ false) columns → count_by p columns ≡ 0
no_other p column [] same apart = refl
no_other p column (other ∷ columns) same (differs, apart) =
    let rest = no_other p column columns same apart in
    let none : p other ≡ false = not_both (p other) (alike column other) differs (same other) in grind (arith, rest, none)

one_counted : (p : AskedColumn → Bool) (column : AskedColumn) (columns : List AskedColumn) → p column ≡ true
    → count_by p columns ≡ 0 → count_by p (column ∷ columns) ≤ 1
one_counted p column columns holds none =
    let more : count_by p (column ∷ columns) ≡ (if p column then 1 else 0) + count_by p columns
    = sum_by-cons (λ (x : AskedColumn). if p x then 1 else 0) column columns in
    let counted : Bool → ℕ = λ b. if b then 1 else 0 in
    let one : counted (p column) ≡ counted true = ap counted holds in
    omega (arith, more, one, none)

none_counted : (p : AskedColumn → Bool) (column : AskedColumn) (columns : List AskedColumn) → p column ≡ false
    → count_by p columns ≤ 1 → count_by p (column ∷ columns) ≤ 1
none_counted p column columns isnt rest = grind (arith, isnt, rest)

at_most_one : (p : AskedColumn → Bool) (only : AskedColumn) (columns : List AskedColumn)
    → ((column : AskedColumn) → p column ≡ true → column ≡ only)
    → IsDistinct alike columns → count_by p columns ≤ 1
unfolding IsDistinct
at_most_one p only [] is_only so = omega arith
at_most_one p only (column ∷ columns) is_only so =
    let rest = at_most_one p only columns is_only so.1 in
    elim (cases_Bool (p column)) [
      | inl holds ↦
          one_counted p column columns holds (no_other p column columns
          (λ other is. rw (is_only column holds, is_only other is) (alike_equiv.refl only)) so.0)
      | inr isnt ↦ none_counted p column columns isnt rest
    ]

only_day : (column : AskedColumn) → is_day_number column ≡ true → column ≡ DayNumber
only_day DayNumber is = refl
only_day column is = absurd (cc)

only_weekday : (column : AskedColumn) → is_weekday column ≡ true → column ≡ Weekday
only_weekday Weekday is = refl
only_weekday column is = absurd (cc)

only_church : (column : AskedColumn) → is_church column ≡ true → column ≡ Church
only_church Church is = refl
only_church column is = absurd (cc)

asked_once : (all : List AskedColumn) → IsDistinct alike all → asks_twice all ≡ false
asked_once all so =
    let days = at_most_one is_day_number DayNumber all only_day so in
    let weekdays = at_most_one is_weekday Weekday all only_weekday so in
    let churches = at_most_one is_church Church all only_church so in grind (arith, days, weekdays, churches)

-- targets stand apart as their columns do
other_targets : (one : Target) (columns : List AskedColumn)
    → AllByRecursion (λ other. alike (Cells one) other ≡ false) columns
    → AllByRecursion (λ other. target_alike one other ≡ false) (asked_targets columns)
other_targets one [] apart = tt
other_targets one (Cells other ∷ columns) (first, apart) = (first, other_targets one columns apart)
other_targets one (column ∷ columns) (first, apart) = other_targets one columns apart

targets_distinct : (columns : List AskedColumn) → IsDistinct alike columns
    → IsDistinct target_alike (asked_targets columns)
unfolding IsDistinct
targets_distinct [] so = tt
targets_distinct (Cells one ∷ columns) so = (other_targets one columns so.0, targets_distinct columns so.1)
targets_distinct (column ∷ columns) so = targets_distinct columns so.1

none_twice : (targets : List Target) → IsDistinct target_alike targets → ¬ (NamesTwice targets)
none_twice targets so (i, j, before, within, same) =
    let d = target.Haab in
    let here : get_or targets i d ≡ get_or targets j d
    = sym (unwrap_or-slice_get targets i d) ∙ ap (λ found. unwrap_or found d) same ∙ unwrap_or-slice_get targets j d in
    let apart = apart_from_distinct target_alike targets i j d so before within in
    let alike_too = nat_list_eq_equiv.refl (target_name (get_or targets j d)) in
    let other : target_alike (get_or targets j d) (get_or targets j d) ≡ false = rw here at apart in cc

-- the columns of a task are asked once
once : (task : Task) (choice : SheetChoice) → IsTask task → choice.columns.now ≡ task.columns → AsksOnce choice
once task choice is same =
    record { few = rw same is.few_columns; day = rw same is.once; targets = rw same is.targets }

-- there are as many headings as are wanted
headings_long : (taken wanted headings : Fields) → AreHeadings taken wanted headings → length headings ≡ length wanted
headings_long taken [] [] are = refl
headings_long taken (name ∷ wanted) (heading ∷ headings) are =
    ap suc (headings_long (taken ++ heading ∷ []) wanted headings are.1)
headings_long taken wanted headings are = absurd are

both_ends : (columns : List AskedColumn)
    → length (map (asked_behind (codes "first")) columns ++ map (asked_behind (codes "last")) columns)
    ≡ length columns + length columns
both_ends columns =
    length-append (map (asked_behind (codes "first")) columns) (map (asked_behind (codes "last")) columns)
    ∙ ap (λ n. n + length (map (asked_behind (codes "last")) columns)) (length-map columns (asked_behind (codes "first")))
    ∙ ap (λ n. length columns + n) (length-map columns (asked_behind (codes "last")))

columns_long : (kind : Spans) (columns : List AskedColumn)
    → length (column_names kind columns) + length (mark_names kind) + 1 ≡ added_each kind (length columns)
columns_long spans.Unread columns = let same = length-map columns asked_name in omega (arith, same)
columns_long kind columns = let same = both_ends columns in omega (arith, same)

names_long : (kind : Spans) (columns : List AskedColumn)
    → length (asked_names kind columns) ≡ added_each kind (length columns)
names_long kind columns =
    length-append (column_names kind columns ++ mark_names kind) (codes "refusal" ∷ [])
    ∙ ap (λ n. n + 1) (length-append (column_names kind columns) (mark_names kind)) ∙ columns_long kind columns

wanted_long : (several : Bool) (own : Fields) (kind : Spans) (columns : List AskedColumn) (dates : List DateColumn)
    → length (flat_map (wanted_for several own kind columns) dates) ≡ length dates * added_each kind (length columns)
wanted_long several own kind columns [] = omega arith
wanted_long several own kind columns (date ∷ dates) =
    let rest = wanted_long several own kind columns dates in
    let here : length (wanted_for several own kind columns date) ≡ added_each kind (length columns)
    = length-map (asked_names kind columns) (wanted_heading several (get_or own date.date []))
    ∙ names_long kind columns in
    length-append (wanted_for several own kind columns date) (flat_map (wanted_for several own kind columns) dates)
    ∙ grind (arith, here, rest)

pub is_choice : (task : Task) (lines : List NameLine) (names headings : Fields) (asked : SheetAsked) (sheet : List ℕ)
    (in_dates : List Name) (of_calendars : List (List ℕ × CalendarMeaning)) (choice : SheetChoice) → IsTask task
    → IsAskedOf task lines names asked
    → HasHeadings asked sheet headings → IsChoiceOf asked in_dates of_calendars headings choice → IsChoice choice
is_choice task lines names headings asked sheet in_dates of_calendars choice task_is is headed of =
    let own = get_or (text_records asked.delimiter sheet) asked.above [] in
    let dates : length choice.dates.now ≡ length task.dates = ap length of.dates ∙ is.dates.as_many in
    let made : length choice.headings.now ≡ length headings
    = sym (length-map choice.headings.now (λ (heading : Bor (List ℕ)). heading.now)) ∙ ap length of.headings_are in
    let long = headings_long own _ headings headed in
    let wanted = wanted_long (nat_lt 1 (length asked.dates)) own asked.spans asked.columns asked.dates in
    let some : (length task.dates == 0) ≡ false = task_is.some_dates in
    let few : nat_lt date_limit (length task.dates) ≡ false = task_is.few_dates in
    record {
      dated = record { some = grind (arith, dates, some); few = rw dates few };
      once = once task choice task_is (of.columns ∙ is.columns);
      delimited = rw (of.delimiter ∙ is.delimiter) task_is.delimited;
      headed = made ∙ long ∙ wanted
          ∙ ap₂ (λ (m n : ℕ). m * added_each asked.spans n) (sym (ap length of.dates)) (sym (ap length of.columns))
          ∙ ap (λ (kind : Spans). length choice.dates.now * added_each kind (length choice.columns.now)) (sym of.spans);
    }

delimiter_is : (delimiter : DelimiterWord) → is_delimiter (byte_of delimiter) ≡ true
delimiter_is delimiter = grind arith

pub is_task : (values : Values) (task : Task) → AllPass (date_checks values) → Ask values task → IsTask task
is_task values task pass ask =
    let distinct = asked_distinct values.to task.columns ask.1 in
    record {
      some_dates = rw ask.2 pass.0;
      few_dates = rw ask.2 pass.1.0;
      delimited = rw ask.2 (delimiter_is (unwrap_or (option_and_then delimiter_of values.delimiter) Comma));
      few_columns = few task.columns distinct;
      once = asked_once task.columns distinct;
      targets = none_twice (asked_targets task.columns) (targets_distinct task.columns distinct);
    }
