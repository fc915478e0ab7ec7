-- When arguments are refused, and what is reported then.
use Rattle.std.proofs.Common.{◌≡◌, ◌≢◌, ◌⊎◌, arith, inl, inr, List, Option, Some, None, ℕ, refl, sym, subst, IfSome, false}
use Rattle.std.specs.Option.{option_map_or}
use Rattle.std.specs.Io.KnownBytes.{Appends}
use Rattle.clap.specs.Words.{Text}
use Rattle.register_records.specs.declared.outputs.Output as outputs
use Rattle.programs.specs.Faults.{Fault}
use Rattle.programs.specs.Meanings.{AreWrong, CommandLine, IsFaultOf, MeanJust, Meaning, wrong}
use Rattle.programs.specs.OwnLines.{memory_line}
use Rattle.programs.specs.Refusals.{IsReported, IsTold}

module _ {T : Type 0} (line : CommandLine T) (arguments : List Text) where
  -- nothing is wrong with arguments that ask for something
  pub never_wrong : (meaning : Meaning T) → MeanJust line arguments meaning → ((fault : Fault) → wrong fault ≢ meaning)
      → AreWrong line arguments → ⊥
  never_wrong meaning just differs is = differs is.0 ((just (wrong is.0)).1 is.1)

  -- arguments that are refused are wrong
  pub are_wrong : (found : Option Fault) (status : ℕ) → IfSome found (λ fault. MeanJust line arguments (wrong fault))
      → (status ≡ 3) ⊎ (status ≡ option_map_or (λ fault. 2) found 3) → status ≡ 2 → AreWrong line arguments
  are_wrong found status just (inl three) two = absurd (omega (arith, three, two))
  are_wrong None status just (inr three) two = absurd (omega (arith, three, two))
  are_wrong (Some fault) status just (inr is) two = (fault, (just (wrong fault)).0 refl)

  -- and then they have the fault that is reported
  pub is_wrong : (found : Option Fault) → IfSome found (λ fault. MeanJust line arguments (wrong fault))
      → IfSome found (IsFaultOf line arguments)
  is_wrong None just = tt
  is_wrong (Some fault) just = (just (wrong fault)).0 refl

-- arguments with a fault are refused, unless there was no memory
pub is_refused : (found : Option Fault) (status : ℕ)
    → (status ≡ 3) ⊎ (status ≡ option_map_or (λ fault. 2) found 3) → status ≢ 3 → status ≡ 2
is_refused found status (inl three) had = absurd (had three)
is_refused None status (inr three) had = absurd (had three)
is_refused (Some fault) status (inr two) had = two

module _ {F E : Type 0} (status_of : F → ℕ) (line_of : F → Option (List ℕ)) (e : outputs.Ghosts E) (program : List ℕ)
    (why : F) (status : ℕ) (before after : E) (told : IsTold status_of line_of e program why status before after) where
  -- the status is that of the reason, or that of no memory
  pub status_told : (status ≡ 3) ⊎ (status ≡ status_of why)
  status_told = elim told [ inl is ↦ inr is.0 | inr is ↦ inl is.0 ]

  -- where the reason is a cause, and no memory is one, why nothing is done is reported
  pub cause_told : (IsCause : F → Type 0)
      → (Appends (e.contents before) (e.contents after) (memory_line program)
      → IsReported status_of line_of IsCause 3 (e.contents before) (e.contents after))
      → IsCause why → e.has_failed after ≡ false
      → IsReported status_of line_of IsCause status (e.contents before) (e.contents after)
  cause_told IsCause of_memory cause good = elim told [
    | inl is ↦ record { why = why; is_its = sym is.0; cause = cause; line = is.1 good }
    | inr is ↦
        subst (λ s. IsReported status_of line_of IsCause s (e.contents before) (e.contents after)) (sym is.0)
        (of_memory (is.1 good))
  ]
