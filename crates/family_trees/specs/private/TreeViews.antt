-- What a clause sees of names, trees and dates.
use Rattle.std.specs.Prelude.{◌≡◌, Bool, ℕ, List, nat_eq, option_map}
use Rattle.std.specs.Borrow.{Bor}
use Rattle.std.specs.Cmp.Lexicographic.{pointwise}
use Rattle.std.specs.HashMap.{HashMap, get}
use Rattle.family_trees.specs.Lines.{TreeLine}
use Rattle.family_trees.specs.Trees.{name_of}

abbrev pub same_bytes : Bor (List ℕ) → Bor (List ℕ) → Bool
same_bytes x y = pointwise nat_eq x.now y.now

-- these are the names of the records among these lines
abbrev pub AreNames : {S : Type 0} → HashMap (Bor (List ℕ)) (Bor (List ℕ)) S → List TreeLine → Type 0
AreNames names lines = (number : Bor (List ℕ))
    → option_map (λ (name : Bor (List ℕ)). name.now) (get same_bytes names number) ≡ name_of number.now lines
