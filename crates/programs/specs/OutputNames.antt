-- The two names of an output: its own, and the one that its file has until its source has ended.
use Rattle.std.specs.Prelude.{◌++◌, ℕ, List, codes}

-- the name that its file has until then
abbrev pub part_of : List ℕ → List ℕ
part_of name = name ++ codes ".part"

-- a name was told apart from both names of an output
abbrev pub IsApartFrom : (List ℕ → List ℕ → Type 0) → List ℕ → List ℕ → Type 0
IsApartFrom AreApart other name = AreApart other name × AreApart other (part_of name)

-- both names of an output were told apart from both of another one
abbrev pub AreTwoOutputs : (List ℕ → List ℕ → Type 0) → List ℕ → List ℕ → Type 0
AreTwoOutputs AreApart name other = IsApartFrom AreApart name other × IsApartFrom AreApart (part_of name) other
