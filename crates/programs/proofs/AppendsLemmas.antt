-- Bytes that are gained one after the other.
use Rattle.std.proofs.Common.{Option, append_assoc, append-nil}
use Rattle.programs.proofs.Common.{◌∙◌, ℕ, List, [], ◌++◌, None, Some, ap, sym, Appends, Keeps}

-- what stays as it is has gained nothing
pub appends_none : (bytes : Option (List ℕ)) → Appends bytes bytes []
appends_none None = tt
appends_none (Some xs) = sym (append-nil xs)

-- what gains twice has gained both
pub appends_both : (a b c : Option (List ℕ)) (xs ys : List ℕ) → Appends a b xs → Appends b c ys → Appends a c (xs ++ ys)
appends_both None b c xs ys h k = tt
appends_both (Some us) None c xs ys h k = absurd h
appends_both (Some us) (Some vs) None xs ys h k = k
appends_both (Some us) (Some vs) (Some ws) xs ys h k = k ∙ ap (λ t. t ++ ys) h ∙ append_assoc us xs ys

-- what is kept has gained no more
pub appends_kept : (a b c : Option (List ℕ)) (xs : List ℕ) → Appends a b xs → Keeps b c → Appends a c xs
appends_kept None b c xs h k = tt
appends_kept (Some us) None c xs h k = absurd h
appends_kept (Some us) (Some vs) None xs h k = k
appends_kept (Some us) (Some vs) (Some ws) xs h k = k ∙ h
