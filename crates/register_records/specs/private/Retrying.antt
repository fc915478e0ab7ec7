-- What a clause sees of a `Retrying`.
use Rattle.std.specs.Prelude.{ℕ, List, Option}
use Rattle.register_records.specs.declared.retrying.Retrying.{Retrying}

-- what is known of the bytes that the reader in it will give
abbrev pub inner_remaining : {R : Type 0} → (R → Option (List ℕ)) → Retrying R → Option (List ℕ)
inner_remaining remaining r = remaining r.inner
