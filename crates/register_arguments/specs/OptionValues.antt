-- What the values of the options mean.
use Rattle.std.specs.Prelude.{◌≡◌, ◌≢◌, ◌⊎◌, ◌==◌, ◌++◌, ℕ, List, [], ◌∷◌, codes, ⊤, Contains}
use Rattle.std.specs.List.{slice_split}
use Rattle.date_texts.specs.Calendars.{target_name}
use Rattle.date_texts.specs.Names.{IsNamed}
use Rattle.date_texts.specs.declared.target.Target.{Target}
use Rattle.register_records.specs.SetupRules.{NamesTwice}
use Rattle.programs.specs.Faults.{Fault, refused}

-- the names in a list: what stands between its commas (44)
abbrev pub names_in : List ℕ → List (List ℕ)
names_in list = slice_split (λ b. b == 44) list

-- the word that asks for no target
abbrev pub no_target : List ℕ
no_target = codes "none"

-- these names name these targets, place by place
abbrev pub AreNamesOf : List (List ℕ) → List Target → Type 0
AreNamesOf [] [] = ⊤
AreNamesOf [] (target ∷ targets) = ⊥
AreNamesOf (name ∷ names) [] = ⊥
AreNamesOf (name ∷ names) (target ∷ targets) = IsNamed name (target_name target) × AreNamesOf names targets

-- the list asks for these targets: it is the word for none, or it names them, each once
abbrev pub AsksForTargets : List ℕ → List Target → Type 0
AsksForTargets list targets =
    ((list ≡ no_target) × (targets ≡ [])) ⊎ ((list ≢ no_target) × AreNamesOf (names_in list) targets
    × (¬ NamesTwice targets))

-- the name stands in the list behind names of these targets, each of which is named once
pub record StandsBehind (list : List ℕ) (earlier : List Target) (name : List ℕ) : Type 0 where
  pub names_some : list ≢ no_target
  pub before : List (List ℕ)
  pub after : List (List ℕ)
  pub cut : names_in list ≡ before ++ name ∷ after
  pub named : AreNamesOf before earlier
  pub once : ¬ NamesTwice earlier

-- the first name at fault names no target
abbrev pub IsFirstUnknown : List ℕ → List ℕ → Type 0
IsFirstUnknown list name =
    (earlier : List Target) × StandsBehind list earlier name × ((target : Target) → ¬ IsNamed name (target_name target))

-- the first name at fault names this target, which was named before
abbrev pub IsFirstTargetTwice : List ℕ → Target → Type 0
IsFirstTargetTwice list target =
    (earlier : List Target) × (name : List ℕ) × StandsBehind list earlier name × IsNamed name (target_name target)
    × Contains earlier target

-- what is wrong with a list
abbrev pub IsListFault : List ℕ → Fault → Type 0
IsListFault list fault =
    ((name : List ℕ) × (fault ≡ refused (codes "unknown target: " ++ name)) × IsFirstUnknown list name)
    ⊎ ((target : Target) × (fault ≡ refused (codes "target named twice: " ++ target_name target))
    × IsFirstTargetTwice list target)
