-- What words name, and lists of words.
use Rattle.std.proofs.Common.{◌≡◌, ◌↔◌, ◌∙◌, ◌+◌, ◌<◌, ◌++◌, ◌∷◌, ℕ, zero, suc, Bool, true, false, List, [], Option, None}
use Rattle.std.proofs.Common.{Some, true≢false, ap, ap₂, arith, drop, get_or, length, lit<, refl, sym, take}
use Rattle.std.proofs.Common.{Result, Ok, Err}
use Rattle.std.specs.List.{find}
use Rattle.std.specs.Prelude.{if◌then◌else◌}
use Rattle.std.specs.Str.{bytes_eq, str_to_ascii_lowercase}
use Rattle.std.specs.Bool.{IsTrue}
use Rattle.std.specs.Str.Iter.{split_has_more, split_pattern, split_steps, split_text}
use Rattle.std.specs.Str.Pattern.{FindsChar}
use Rattle.std.specs.declared.str.Split.{Split}
use Rattle.std.proofs.lemmas.Iterator.{YieldsList}
use Rattle.std.proofs.lemmas.Iterator.Consumers.{YieldsList-at}
use Rattle.std.proofs.lemmas.Iterator.Splits.{YieldsList-from_str_split}
use Rattle.std.proofs.lemmas.Slice.Eq.{bytes_eq-Decides}
use Rattle.clap.specs.Words.{Text}
use Rattle.date_texts.specs.Calendars.{target_name}
use Rattle.date_texts.specs.Names.{IsNamed}
use Rattle.date_texts.specs.Trimmed.{trimmed}
use Rattle.date_texts.specs.declared.calendar.Calendar.TheVariants.{Gregorian}
use Rattle.date_texts.specs.declared.target.Target.{Target}
use Rattle.date_texts.specs.declared.target.Target.TheVariants.{Date, Haab, Tzolkin}
use Rattle.programs.specs.Faults.{Fault}
use Rattle.sheets.specs.Headings.{asked_name}
use Rattle.sheets.specs.declared.choices.AskedColumn.{AskedColumn}
use Rattle.sheets.specs.declared.choices.AskedColumn.TheVariants.{Cells, Church, DayNumber, Weekday}
use Rattle.sheet_arguments.specs.WordLists.{all_columns, column_named, is_among}
use Rattle.sheet_arguments.specs.WordLists.{column_twice, or_fault, unknown_column}
use Rattle.sheet_arguments.specs.WordLists.{is_column_name, names_in, with_columns}

-- where no element passes the test
none_found : {X : Type 0} (test : X → Bool) (xs : List X) → ((x : X) → test x ≡ false) → find test xs ≡ None
none_found test [] h = refl
none_found test (x ∷ xs) h = rw (h x) (none_found test xs h)

not_true : (b : Bool) → (b ≡ true → ⊥) → b ≡ false
not_true true h = absurd (h refl)
not_true false h = refl

no_value : {B : Type 0} (fault : Fault) (b : B) → Err fault ≡ Ok b → ⊥
no_value fault b e = cc

-- where what goes on has a value, what goes on further does too
goes_on : {A B : Type 0} (fault : Fault) (named : Option A) (next after : A → Result B Fault) (b : B)
    (all : Result B Fault) → ((a : A) → next a ≡ Ok b → after a ≡ all) → or_fault fault named next ≡ Ok b
    → or_fault fault named after ≡ all
goes_on fault None next after b all h e = absurd (no_value fault b e)
goes_on fault (Some a) next after b all h e = h a e

stays_new : {B : Type 0} (among : Bool) (fault : Fault) (next after : Result B Fault) (b : B) (all : Result B Fault)
    → (next ≡ Ok b → after ≡ all) → (if among then Err fault else next) ≡ Ok b
    → (if among then Err fault else after) ≡ all
stays_new true fault next after b all h e = absurd (no_value fault b e)
stays_new false fault next after b all h e = h e

-- ---- columns

column_itself : (c : AskedColumn) → find (λ other. bytes_eq (asked_name c) (asked_name other)) all_columns ≡ Some c
column_itself DayNumber = refl
column_itself Weekday = refl
column_itself Church = refl
column_itself (Cells (Date Gregorian)) = refl
column_itself (Cells (Date c)) = refl
column_itself (Cells Haab) = refl
column_itself (Cells Tzolkin) = refl

-- the column whose name the text is, is the one that it names
pub column_by_name : (text : List ℕ) (c : AskedColumn) → IsNamed text (asked_name c) → Some c ≡ column_named text
column_by_name text c is = rw is (sym (column_itself c))

-- a text that is no target's name, nor one of the other three, names none
pub no_column : (text : List ℕ) → ((t : Target) → ¬ IsNamed text (target_name t)) → (¬ IsNamed text (asked_name DayNumber))
    → (¬ IsNamed text (asked_name Weekday)) → (¬ IsNamed text (asked_name Church)) → None ≡ column_named text
no_column text targets day week church =
    sym (none_found (is_column_name text) all_columns (λ c. not_true (is_column_name text c) (λ is.
    no_name c ((bytes_eq-Decides (str_to_ascii_lowercase (trimmed text)) (asked_name c)).0 is))))
  where
    no_name : (c : AskedColumn) → IsNamed text (asked_name c) → ⊥
    no_name DayNumber is = day is
    no_name Weekday is = week is
    no_name Church is = church is
    no_name (Cells t) is = targets t is

-- names before others, of which the columns are these
pub columns_go_on : (before : List Text) (names : List Text) (first columns : List AskedColumn)
    → with_columns first before ≡ Ok columns
    → with_columns first (before ++ names) ≡ with_columns columns names
columns_go_on [] names first columns is =
    let same : first ≡ columns = cc in ap (λ (cs : List AskedColumn). with_columns cs names) same
columns_go_on (n ∷ before) names first columns is =
    goes_on (unknown_column n) (column_named n) _ _ columns _
    (λ c e. stays_new (is_among first c) (column_twice c) _ _ columns _
    (λ f. columns_go_on before names (first ++ c ∷ []) columns f) e) is

-- the split at commas gives the names of the list
pub names_of_split : (list : List ℕ) (s t : Split ℕ) → t ≡ s → split_text s ≡ list → split_has_more s ≡ true
    → split_pattern s ≡ 44
    → YieldsList (split_steps FindsChar (λ a b. b ≡ a)) (λ name. name.now) t (names_in list)
names_of_split list s t same text more pattern = YieldsList-at same
    (YieldsList-from_str_split 44 list (lit< tt) text more pattern)

-- ---- one word after the other

cut_at : {X : Type 0} (xs : List X) (i : ℕ) (d : X) → i < length xs → xs ≡ take i xs ++ get_or xs i d ∷ drop (suc i) xs
cut_at [] i d lt = absurd (omega arith)
cut_at (x ∷ xs) zero d lt = refl
cut_at (x ∷ xs) (suc i) d lt = ap (λ (ys : List _). x ∷ ys) (cut_at xs i d (omega arith))

module _ (before : List Text) (name : Text) (columns : List AskedColumn)
    (so_far : with_columns [] before ≡ Ok columns) where
  -- the next name names a column that was not named before
  pub column_more : (c : AskedColumn) → column_named name ≡ Some c → is_among columns c ≡ false
      → with_columns [] (before ++ name ∷ []) ≡ Ok (columns ++ c ∷ [])
  column_more c is new = columns_go_on before (name ∷ []) [] columns so_far ∙ rw (is, new) refl

  -- it names none, or one that was named
  pub column_fault : (after : List Text) → column_named name ≡ None
      → with_columns [] (before ++ name ∷ after) ≡ Err (unknown_column name)
  column_fault after is = columns_go_on before (name ∷ after) [] columns so_far ∙ rw is refl

  pub column_again : (after : List Text) (c : AskedColumn) → column_named name ≡ Some c → is_among columns c ≡ true
      → with_columns [] (before ++ name ∷ after) ≡ Err (column_twice c)
  column_again after c is among = columns_go_on before (name ∷ after) [] columns so_far ∙ rw (is, among) refl

-- ---- what a text is not called

pub not_called : (bare name spelled : List ℕ) (found : Bool) → bare ≡ trimmed name → found ≡ false
    → (str_to_ascii_lowercase bare ≡ spelled → IsTrue found) → ¬ IsNamed name spelled
not_called bare name spelled found same other is named =
    let so : found ≡ true = is (ap str_to_ascii_lowercase same ∙ named) in
    true≢false (sym so ∙ other)

pub never_called : (name : List ℕ) (found : Option Target) → found ≡ None
    → ((t : Target) → (found ≡ Some t) ↔ IsNamed name (target_name t)) → (t : Target) → ¬ IsNamed name (target_name t)
never_called name found none each t is = let bad : found ≡ Some t = (each t).1 is in no_target t (sym none ∙ bad)
  where
    no_target : (u : Target) → None ≡ Some u → ⊥
    no_target u e = cc

-- the name at place i of a list, before which these stand
pub cut_behind : (names before : List Text) (i : ℕ) (name : Text) → (i < length names) × (name ≡ get_or names i name)
    → before ≡ take i names → (after : List Text) × (names ≡ before ++ name ∷ after)
cut_behind names before i name place front = (
  drop (suc i) names,
  cut_at names i name place.0
      ∙ ap₂ (λ (xs : List Text) (x : Text). xs ++ x ∷ drop (suc i) names) (sym front) (sym place.1),
)
