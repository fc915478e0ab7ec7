-- The names that tables get once their sources have ended.
use Rattle.std.specs.Prelude.{◌≡◌, ◌⊎◌, ◌↔◌, ◌++◌, ℕ, All, Bool, Contains, List, [], Some, codes, false, slice_get, true}
use Rattle.std.specs.Io.KnownBytes.{Appends}
use Rattle.std.specs.List.{AllZip, flat_map}
use Rattle.register_records.specs.declared.outputs.Output as outputs
use Rattle.register_arguments.specs.Requests.{memory_line, program_line}

-- the line on a table that has not got its name: that, or that memory ran out for it
abbrev pub IsUnnamedLine : List ℕ → List ℕ → Type 0
IsUnnamedLine name line = (line ≡ program_line (codes "cannot name " ++ name)) ⊎ (line ≡ memory_line)

-- of the tables that were to get these names each has its own, but for some, and it is said whether these are none; standard
-- error has gained a line on each of them, unless it failed, and nothing else
pub record AreNamed {E : Type 0} (e : outputs.Ghosts E) (IsNamed : List ℕ → Type 0) (names : List (List ℕ)) (all : Bool)
    (before after : E) : Type 0 where
  pub unnamed : List (List ℕ)
  pub lines : List (List ℕ)
  pub named : (k : ℕ) (name : List ℕ) → slice_get names k ≡ Some name → Contains unnamed name ⊎ IsNamed name
  pub of_these : All (Contains names) unnamed
  pub none : (all ≡ true) ↔ (unnamed ≡ [])
  pub told : AllZip IsUnnamedLine unnamed lines
  pub gained : e.has_failed after ≡ false
      → (e.has_failed before ≡ false) × Appends (e.contents before) (e.contents after) (flat_map (λ line. line) lines)
  pub quiet : unnamed ≡ [] → after ≡ before
