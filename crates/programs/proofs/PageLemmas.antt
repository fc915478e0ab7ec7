-- Texts that are sent one after the other.
use Rattle.std.proofs.Common.{◌≡◌, ◌∙◌, ◌++◌, ℕ, List, Result, Ok, Err, subst}
use Rattle.std.proofs.KnownBytes.{Appends-trans}
use Rattle.std.specs.Io.KnownBytes.{Appends}
use Rattle.register_records.specs.declared.outputs.Output as outputs
use Rattle.programs.specs.private.Sending.{IsSent}

-- behind what was sent, another text was sent
pub sent_then : {W T E : Type 0} (o : outputs.Ghosts W) (one two : List ℕ) (result : Result T E) (before middle after : W)
    → Appends (o.contents before) (o.contents middle) one → o.own_mark middle ≡ o.own_mark before
    → IsSent o two result middle after → IsSent o (one ++ two) result before after
sent_then o one two (Ok value) before middle after first mark is = record {
  sent = Appends-trans _ _ _ one two first is.sent;
  failed = tt;
  mark = is.mark ∙ mark;
}
sent_then o one two (Err error) before middle after first mark is = record {
  sent = tt;
  failed = is.failed;
  mark = is.mark ∙ mark;
}

-- a text that is the same was sent
pub sent_as : {W T E : Type 0} (o : outputs.Ghosts W) (text other : List ℕ) (result : Result T E) (before after : W)
    → text ≡ other → IsSent o text result before after → IsSent o other result before after
sent_as o text other result before after same = subst (λ (t : List ℕ). IsSent o t result before after) same
