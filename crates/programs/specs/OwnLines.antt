-- The lines of a program's own: each begins with its name.
use Rattle.std.specs.Prelude.{◌++◌, ◌∷◌, ℕ, List, [], codes}

-- a line of the program of this name
abbrev pub program_line : List ℕ → List ℕ → List ℕ
program_line program text = program ++ (codes ": " ++ (text ++ 10 ∷ []))

-- that memory ran out
abbrev pub memory_line : List ℕ → List ℕ
memory_line program = program_line program (codes "out of memory")

-- that a page could not be printed
abbrev pub print_line : List ℕ → List ℕ
print_line program = program_line program (codes "cannot write to standard output")

-- the line on the version
abbrev pub version_line : List ℕ → List ℕ → List ℕ
version_line program version = program ++ (codes " " ++ (version ++ 10 ∷ []))
