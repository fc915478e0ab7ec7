-- The ranks of targets among all targets.
use Rattle.std.specs.Prelude.{◌+◌, Bool, ℕ, zero, suc, List, [], ◌∷◌}
use Rattle.std.specs.List.{position_or_len}
use Rattle.std.specs.Str.{bytes_eq}
use Rattle.date_texts.specs.Calendars.{all_targets, target_name}
use Rattle.date_texts.specs.declared.target.Target.{Target}

-- the targets have one name
abbrev pub have_one_name : Target → Target → Bool
have_one_name target other = bytes_eq (target_name other) (target_name target)

-- the rank of a target, from 1
abbrev pub rank_of : Target → ℕ
rank_of target = 1 + position_or_len (have_one_name target) all_targets

-- those of targets, in a list of so much room; behind the last stands 0
abbrev pub ranks_in : ℕ → List Target → List ℕ
ranks_in zero targets = []
ranks_in (suc room) [] = 0 ∷ ranks_in room []
ranks_in (suc room) (target ∷ targets) = rank_of target ∷ ranks_in room targets
