-- How it is reported that a program does nothing.
use Rattle.std.specs.Prelude.{◌≡◌, ◌⊎◌, ℕ, IfSome, List, Option, false}
use Rattle.std.specs.Io.KnownBytes.{Appends}
use Rattle.register_records.specs.declared.outputs.Output as outputs
use Rattle.programs.specs.OwnLines.{memory_line}

-- why nothing is done was said to standard error, which has gained the line on it, unless it failed, with the status of
-- that; or there was no memory for the line, and it has gained the line on that, with status 3
abbrev pub IsTold : {F E : Type 0} → (F → ℕ) → (F → Option (List ℕ)) → outputs.Ghosts E → List ℕ → F → ℕ → E → E
    → Type 0
IsTold status_of line_of e program why status before after =
    ((status ≡ status_of why)
    × (e.has_failed after ≡ false → IfSome (line_of why) (Appends (e.contents before) (e.contents after))))
    ⊎ ((status ≡ 3)
    × (e.has_failed after ≡ false → Appends (e.contents before) (e.contents after) (memory_line program)))

-- standard error has gained the line on why nothing is done, with this status, for a cause that holds
pub record IsReported {F : Type 0} (status_of : F → ℕ) (line_of : F → Option (List ℕ)) (IsCause : F → Type 0)
    (status : ℕ) (before after : Option (List ℕ)) : Type 0 where
  pub why : F
  pub is_its : status_of why ≡ status
  pub cause : IsCause why
  pub line : IfSome (line_of why) (Appends before after)
