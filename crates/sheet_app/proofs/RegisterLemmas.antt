-- The outputs of a sheet's registers, one after the other.
use Rattle.std.proofs.Common.{◌≡◌, ◌<◌, ◌++◌, ◌+◌, ℕ, List, [], ◌∷◌, get_or, length, map, take}
use Rattle.sheet_app.proofs.Common.{AllZip}
use Rattle.std.proofs.lemmas.List.{map-append, take_more}
use Rattle.std.proofs.lemmas.Slice.Zip.{all_zipped_more}

-- one more was made, for the next ending
pub made_more : {X W : Type 0} (Made : List ℕ → W → Type 0) (text : X → List ℕ) (xs : List X) (i : ℕ) (d : X)
    (outputs new : List W) (one : W) → i < length xs → new ≡ outputs ++ one ∷ []
    → AllZip Made (map text (take i xs)) outputs → Made (text (get_or xs i d)) one
    → AllZip Made (map text (take (i + 1) xs)) new
made_more Made text xs i d outputs new one within n so_far made =
    rw (n, take_more xs i d within, map-append)
    (all_zipped_more Made (map text (take i xs)) outputs (text (get_or xs i d)) one so_far made)
