use Rattle.std.proofs.Common.{List, ℕ, map, take}
use Rattle.programs.specs.FileLists.{IsNamedTwice}
use Rattle.programs.proofs.files.file_named_twice.Given as goal

-- none of the files so far is named twice
abbrev pub invariant-places : goal.invariant-places
invariant-places l = (file : List ℕ) → ¬ IsNamedTwice (take l.place (map (λ f. f.now) l.files)) file
