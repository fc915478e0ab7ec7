-- The dates of a family tree, and what each is the date of.
use Rattle.std.specs.Prelude.{◌==◌, ◌&&◌, ◌+◌, ◌-◌, ℕ, Bool, List, [], ◌∷◌, ◌++◌, Option, None, Some, codes}
use Rattle.std.specs.Prelude.{if◌then◌else◌, nat_le, nat_lt, unwrap_or}
use Rattle.std.specs.List.{find}
use Rattle.std.specs.Str.{bytes_eq}
use Rattle.family_trees.specs.DateValues.{dated}
use Rattle.family_trees.specs.Lines.{TreeLine, tree_lines, unindented}

-- A line is looked at with the lines before it, the nearest first, and with those behind it.

abbrev pub is_wanted : ℕ → List ℕ → TreeLine → Bool
is_wanted level tag line = (line.level == level) && bytes_eq line.tag tag

-- the value of the first of these lines with this level and tag, of those before one of a lower level
abbrev pub value_in : ℕ → List ℕ → List TreeLine → List ℕ
value_in level tag [] = []
value_in level tag (line ∷ lines) =
    if nat_lt line.level level then []
    else if is_wanted level tag line then line.value
    else value_in level tag lines

abbrev pub or_else : List ℕ → List ℕ → List ℕ
or_else [] other = other
or_else text other = text

-- the value of a line with this level and tag under the same line
abbrev pub value_beside : ℕ → List ℕ → List TreeLine → List TreeLine → List ℕ
value_beside level tag before behind = or_else (value_in level tag before) (value_in level tag behind)

-- a line that goes on with the value of one of this level
abbrev pub is_joined : ℕ → TreeLine → Bool
is_joined level line = is_wanted (level + 1) (codes "CONC") line

-- what the first of these lines join to the value of a line of this level
abbrev pub joined_to : ℕ → List TreeLine → List ℕ
joined_to level [] = []
joined_to level (line ∷ lines) = if is_joined level line then line.value ++ joined_to level lines else []

-- the whole value of the first of these lines with this level and tag, of those before one of a lower level
abbrev pub whole_in : ℕ → List ℕ → List TreeLine → List ℕ
whole_in level tag [] = []
whole_in level tag (line ∷ lines) =
    if nat_lt line.level level then []
    else if is_wanted level tag line then line.value ++ joined_to level lines
    else whole_in level tag lines

-- the same of the lines before those behind, the nearest first
abbrev pub whole_before : ℕ → List ℕ → List TreeLine → List TreeLine → List ℕ
whole_before level tag [] behind = []
whole_before level tag (line ∷ before) behind =
    if nat_lt line.level level then []
    else if is_wanted level tag line then line.value ++ joined_to level behind
    else whole_before level tag before (line ∷ behind)

-- the whole value of a line with this level and tag under the same line as the first of those from it on
abbrev pub whole_beside : ℕ → List ℕ → List TreeLine → List TreeLine → List TreeLine → List ℕ
whole_beside level tag before from behind = or_else (whole_before level tag before from) (whole_in level tag behind)

-- the name of the first record with this number, its first one
abbrev pub name_of : List ℕ → List TreeLine → Option (List ℕ)
name_of number [] = None
name_of number (line ∷ lines) =
    if (line.level == 0) && bytes_eq line.number number then Some (value_in 1 (codes "NAME") lines)
    else name_of number lines

-- what a line stands under: the nearest before it that is of this level or of a lower one
abbrev pub line_over : ℕ → List TreeLine → Option TreeLine
line_over level before = find (λ line. nat_le line.level level) before

abbrev pub tag_in : Option TreeLine → List ℕ
tag_in None = []
tag_in (Some line) = line.tag

abbrev pub number_in : Option TreeLine → List ℕ
number_in None = []
number_in (Some line) = line.number

-- a date of a tree
pub record DateOfTree : Type 0 where
  -- the number of the record, as `@I1@`
  pub number : List ℕ
  -- the name of the person, or those of the two of a family
  pub name : List ℕ
  pub partner : List ℕ
  -- what it is the date of: the tag of what the record has, as `BIRT`, and that of the part of it that has the date
  pub event : List ℕ
  pub part : List ℕ
  -- the type and the place of that
  pub kind : List ℕ
  pub place : List ℕ
  pub calendar : List ℕ
  pub date : List ℕ

abbrev pub is_family : Option TreeLine → Bool
is_family tree_record = bytes_eq (tag_in tree_record) (codes "FAM")

-- the number of the person who has the first name: the husband of a family, or the record's own
abbrev pub first_person : Option TreeLine → List TreeLine → List TreeLine → List ℕ
first_person over before behind =
    if is_family over then value_beside 1 (codes "HUSB") before behind else number_in over

abbrev pub second_person : Option TreeLine → List TreeLine → List TreeLine → List ℕ
second_person over before behind =
    if is_family over then value_beside 1 (codes "WIFE") before behind else []

abbrev pub name_in : List TreeLine → List ℕ → List ℕ
name_in tree [] = []
name_in tree number = unwrap_or (name_of number tree) []

-- what stands at this level over a line that is deeper
abbrev pub tag_over : ℕ → ℕ → List TreeLine → List ℕ
tag_over over level before = if nat_lt over level then tag_in (line_over over before) else []

-- the part is named where it is not the event itself
abbrev pub part_over : ℕ → List TreeLine → List ℕ
part_over level before = if nat_lt 2 level then tag_in (line_over (level - 1) before) else []

abbrev pub date_with : List TreeLine → List TreeLine → TreeLine → List TreeLine → List ℕ → DateOfTree
date_with tree before line behind place =
    record {
      number = number_in (line_over 0 before);
      name = name_in tree (first_person (line_over 0 before) before behind);
      partner = name_in tree (second_person (line_over 0 before) before behind);
      event = tag_over 1 line.level before;
      part = part_over line.level before;
      kind = value_beside line.level (codes "TYPE") before behind;
      place = place;
      calendar = (dated (unindented line.value)).0;
      date = (dated (unindented line.value)).1;
    }

-- the date on a line, and its place
abbrev pub date_at : List TreeLine → List TreeLine → TreeLine → List TreeLine → DateOfTree
date_at tree before line behind =
    date_with tree before line behind (whole_beside line.level (codes "PLAC") before (line ∷ behind) behind)

-- a line is a date where its tag says so and it is in a record
abbrev pub is_date : TreeLine → Bool
is_date line = nat_lt 0 line.level && bytes_eq line.tag (codes "DATE")

-- the dates among these lines of a tree, behind those before them
abbrev pub dates_in : List TreeLine → List TreeLine → List TreeLine → List DateOfTree
dates_in tree before [] = []
dates_in tree before (line ∷ behind) =
    if is_date line then date_at tree before line behind ∷ dates_in tree (line ∷ before) behind
    else dates_in tree (line ∷ before) behind

-- all dates of a tree, in order
abbrev pub tree_dates : List ℕ → List DateOfTree
tree_dates text = dates_in (tree_lines text) [] (tree_lines text)
