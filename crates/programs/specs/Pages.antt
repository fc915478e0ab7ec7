-- The pages that a program prints.
use Rattle.std.specs.Prelude.{◌≡◌, ◌≢◌, ℕ, List, false, true}
use Rattle.std.specs.Io.KnownBytes.{Appends}
use Rattle.register_records.specs.declared.outputs.Output as outputs
use Rattle.programs.specs.OwnLines.{print_line}

-- a page of the program of this name was printed: with status 0 the output has gained it and handed it on, and standard
-- error has gained nothing; else the output has failed, and standard error has gained one line, unless that failed too
pub record IsPrinted {W E : Type 0} (o : outputs.Ghosts W) (e : outputs.Ghosts E) (program page : List ℕ) (status : ℕ)
    (given written : W) (before after : E) : Type 0 where
  pub printed : status ≡ 0 → Appends (o.contents given) (o.contents written) page × (o.is_flushed written ≡ true)
      × (after ≡ before)
  pub failed : status ≢ 0 → (o.has_failed written ≡ true)
      × (e.has_failed after ≡ false → Appends (e.contents before) (e.contents after) (print_line program))
