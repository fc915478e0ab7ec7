-- Names of calendars in a field, one after the other, and the lines of a list.
use Rattle.std.proofs.Common.{◌≡◌, ◌∙◌, ◌+◌, ◌++◌, ◌||◌, ℕ, Bool, true, List, [], ◌∷◌, map, length, slice_set, ap, ap₂}
use Rattle.std.proofs.Common.{refl, subst, lit<, arith}
use Rattle.sheets.proofs.Common.{list_any, bytes_eq, all_calendars, calendar_name, IsNamed, Calendar}
use Rattle.sheets.proofs.Common.{Gregorian, Fields, named_by}
use Rattle.std.proofs.lemmas.List.Folds.{list_any-append}
use Rattle.std.proofs.lemmas.Slice.Zip.{AllZip-long}
use Rattle.std.proofs.lemmas.Iterator.{YieldsList}
use Rattle.std.proofs.lemmas.Iterator.Consumers.{YieldsList-at}
use Rattle.std.proofs.lemmas.Iterator.Splits.{YieldsList-from_str_split}
use Rattle.std.specs.Str.Iter.{split_has_more, split_pattern, split_steps, split_text}
use Rattle.std.specs.Str.Pattern.{FindsChar}
use Rattle.std.specs.declared.str.Split.{Split}
use Rattle.written_dates.specs.Calendars.{place}
use Rattle.sheets.specs.NameLists.{AreLines, IsFaultOf, IsLine, IsRefused, IsRefusedBehind, columns, is_named}
use Rattle.sheets.specs.NameLists.{names_in}
use Rattle.sheets.specs.Sheets.{chosen}
use Rattle.sheets.specs.declared.name_lists.NameListFault.{NameListFault}
use Rattle.sheets.specs.declared.name_lists.NameListFault.TheVariants as fault
use Rattle.sheets.specs.declared.name_lists.NameLine.{NameLine}

-- the split at spaces gives the names of the field
pub names_of_split : (field : List ℕ) (s t : Split ℕ) → t ≡ s → split_text s ≡ field → split_has_more s ≡ true
    → split_pattern s ≡ 32 → YieldsList (split_steps FindsChar (λ a b. b ≡ a)) (λ name. name.now) t (names_in field)
names_of_split field s t same text more pattern = YieldsList-at same
    (YieldsList-from_str_split 32 field (lit< tt) text more pattern)

-- one more calendar is marked
marked : (f : Calendar → Bool) (d : Calendar) → slice_set (map f all_calendars) (place d) true
    ≡ map (λ c. bytes_eq (calendar_name d) (calendar_name c) || f c) all_calendars
marked f Gregorian = refl
marked f d = refl

map_same : (f g : Calendar → Bool) (cs : List Calendar) → ((c : Calendar) → f c ≡ g c) → map f cs ≡ map g cs
map_same f g [] same = refl
map_same f g (c ∷ cs) same = ap₂ (λ (b : Bool) (bs : List Bool). b ∷ bs) (same c) (map_same f g cs same)

-- a name more is looked at last
one_more : (names : List (List ℕ)) (name : List ℕ) (d c : Calendar) → IsNamed name (calendar_name d)
    → (bytes_eq (calendar_name d) (calendar_name c) || list_any (λ n. is_named n c) names)
    ≡ list_any (λ n. is_named n c) (names ++ name ∷ [])
one_more names name d c is =
    rw (list_any-append (λ n. is_named n c) names (name ∷ []), is) (grind arith)

pub named_more : (names : List (List ℕ)) (name : List ℕ) (d : Calendar) → IsNamed name (calendar_name d)
    → slice_set (named_by names) (place d) true ≡ named_by (names ++ name ∷ [])
named_more names name d is =
    marked (λ c. list_any (λ n. is_named n c) names) d ∙ map_same _ _ all_calendars (λ c. one_more names name d c is)

refused_behind : (before : List Fields) (lines : List NameLine) (fields : Fields) (after : List Fields) (number : ℕ)
    (why : NameListFault) → AreLines before lines → number ≡ length lines + 1 → IsRefused fields number why
    → IsRefusedBehind (before ++ fields ∷ after) why
refused_behind before lines fields after number why are counted refused = record {
  before = before;
  after = after;
  fields = fields;
  lines = lines;
  cut = refl;
  are_lines = are;
  refused = subst (λ k. IsRefused fields k why) (counted ∙ ap (λ k. k + 1) (AllZip-long IsLine before lines are))
      refused;
}

-- a record that is refused behind lines is the first fault
pub first_fault : (header : Fields) (before : List Fields) (lines : List NameLine) (fields : Fields)
    (after : List Fields) (number : ℕ) (why : NameListFault) → chosen (0 ∷ 1 ∷ 2 ∷ []) header ≡ columns
    → AreLines before lines → number ≡ length lines + 1 → IsRefused fields number why
    → IsFaultOf (header ∷ before ++ fields ∷ after) why
first_fault header before lines fields after number fault.OutOfMemory is are counted refused = tt
first_fault header before lines fields after number fault.Header is are counted refused = absurd refused
first_fault header before lines fields after number (fault.Means n) is are counted refused =
    (is, refused_behind before lines fields after number (fault.Means n) are counted refused)
first_fault header before lines fields after number (fault.In n) is are counted refused =
    (is, refused_behind before lines fields after number (fault.In n) are counted refused)
first_fault header before lines fields after number (fault.Name n) is are counted refused =
    (is, refused_behind before lines fields after number (fault.Name n) are counted refused)
