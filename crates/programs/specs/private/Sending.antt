-- Texts that an output is sent one after the other.
use Rattle.std.specs.Prelude.{◌≡◌, ℕ, List, OnErr, OnOk, Result, true}
use Rattle.std.specs.Io.KnownBytes.{Appends}
use Rattle.register_records.specs.declared.outputs.Output as outputs
use Rattle.clap.specs.Words.{Text}
use Rattle.programs.specs.HelpPages.{head_of, value_part}
use Rattle.programs.specs.declared.arguments.Argument.{Argument}

-- an output was sent this text: it has gained it, or else has failed
pub record IsSent {W T E : Type 0} (o : outputs.Ghosts W) (text : List ℕ) (result : Result T E) (before after : W) : Type 0
  where
    pub sent : OnOk result (Appends (o.contents before) (o.contents after) text)
    pub failed : OnErr result (o.has_failed after ≡ true)
    pub mark : o.own_mark after ≡ o.own_mark before

-- an option as it is given
abbrev pub head : Argument → Text
head argument = head_of argument.name.now (value_part argument.kind)
