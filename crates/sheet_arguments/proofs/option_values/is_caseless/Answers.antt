-- The texts are one in small letters, or not.
use Rattle.std.proofs.Common.{◌≡◌, Bool, true, false, refl, sym}
use Rattle.std.proofs.lemmas.Slice.Eq.{bytes_eq-Decides}
use Rattle.sheet_arguments.proofs.option_values.is_caseless.Goals as goal

agree : (a b : Bool) → (a ≡ true → b ≡ true) → (b ≡ true → a ≡ true) → a ≡ b
agree true b to from = sym (to refl)
agree false true to from = from refl
agree false false to from = refl

pub returns : goal.returns
returns c =
    agree _ _ (λ is. (bytes_eq-Decides _ _).1 (c.eq_ignore_ascii_case.ensures.test.0 is))
    (λ is. c.eq_ignore_ascii_case.ensures.test.1 ((bytes_eq-Decides _ _).0 is))
