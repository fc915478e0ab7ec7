-- Items of a list by their numbers, and lists of names.
use Rattle.std.specs.Prelude.{◌≡◌, ◌≤◌, ◌-◌, ◌==◌, ℕ, List, [], Some, get_or, slice_get}
use Rattle.std.specs.List.{slice_split}

-- x is the item of this number, where the first has number 1
abbrev pub IsNumbered : {A : Type 0} → List A → ℕ → A → Type 0
IsNumbered items number x = (1 ≤ number) × (slice_get items (number - 1) ≡ Some x)

-- the words of a text, which stand between its spaces
unfoldable pub words : List ℕ → List (List ℕ)
words text = slice_split (λ (b : ℕ). b == 32) text

-- the name of this number, where the first has number 1
abbrev pub name_of_number : List (List ℕ) → ℕ → List ℕ
name_of_number names number = get_or names (number - 1) []
