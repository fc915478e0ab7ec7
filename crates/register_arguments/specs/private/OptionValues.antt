-- What a list of targets means.
use Rattle.std.specs.Prelude.{◌≡◌, ◌↔◌, ℕ, List, Result, Ok, Err}
use Rattle.date_texts.specs.declared.target.Target.{Target}
use Rattle.programs.specs.Faults.{Fault}
use Rattle.register_arguments.specs.OptionValues.{AsksForTargets, IsListFault}

-- what a list means: the targets that it asks for, or what is wrong with it
abbrev pub ListMeans : List ℕ → Result (List Target) Fault → Type 0
ListMeans list (Ok targets) = AsksForTargets list targets
ListMeans list (Err fault) = IsListFault list fault

-- the list means this, and nothing else
abbrev pub ListMeansJust : List ℕ → Result (List Target) Fault → Type 0
ListMeansJust list meaning = (other : Result (List Target) Fault) → (other ≡ meaning) ↔ ListMeans list other
