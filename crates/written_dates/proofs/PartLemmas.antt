-- Parts can be read from the left.
use Rattle.std.proofs.Common.{◌≡◌, ℕ, zero, suc, ◌+◌, true, false, List, [], ◌∷◌}
use Rattle.std.proofs.Common.{refl, drop, arith}
use Rattle.written_dates.specs.Tokens.{Piece, tokens}
use Rattle.written_dates.specs.Parts.{is_part_kind, parts, stands}
use Rattle.written_dates.specs.Words.{same_word}

pub part_first : (text rest : List ℕ) (t : Piece) → tokens 0 text ≡ t ∷ tokens 0 rest → is_part_kind t.kind ≡ true
    → parts text ≡ t ∷ parts rest
unfolding parts
part_first text rest t e h = rw (e, h) refl

pub part_later : (text rest : List ℕ) (t : Piece) → tokens 0 text ≡ t ∷ tokens 0 rest → is_part_kind t.kind ≡ false
    → parts text ≡ parts rest
unfolding parts
part_later text rest t e h = rw (e, h) refl

pub no_part : (text : List ℕ) → tokens 0 text ≡ [] → parts text ≡ []
unfolding parts
no_part text e = rw e refl

pub stands_step : (n t : Piece) (ns ts xs ys : List Piece) → xs ≡ n ∷ ns → ys ≡ t ∷ ts
    → same_word n.text t.text ≡ true → stands ns ts ≡ stands xs ys
stands_step n t ns ts xs ys e f h = rw (e, f, h) refl

pub stands_short : (n : Piece) (ns xs ys : List Piece) → xs ≡ n ∷ ns → ys ≡ [] → stands xs ys ≡ false
stands_short n ns xs ys e f = rw (e, f) refl

pub stands_all : (xs ys : List Piece) → xs ≡ [] → stands xs ys ≡ true
stands_all xs ys e = rw e refl

pub drop_next : {A : Type 0} (xs : List A) (k : ℕ) (y : A) (ys : List A) → drop k xs ≡ y ∷ ys → drop (k + 1) xs ≡ ys
drop_next [] zero y ys h = cc
drop_next [] (suc k) y ys h = cc
drop_next (x ∷ xs) zero y ys h = cc
drop_next (x ∷ xs) (suc k) y ys h =
    let more : suc k + 1 ≡ suc (k + 1) = omega arith in rw more (drop_next xs k y ys h)
