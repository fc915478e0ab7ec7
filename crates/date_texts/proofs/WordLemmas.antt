-- Texts compared by words.
use Rattle.std.proofs.Common.{◌≡◌, ◌<◌, ◌≤◌, ℕ, List, sym, ap, ◌∙◌, drop, take, true}
use Rattle.std.specs.Prelude.{◌==◌, ◌++◌, ◌^◌, ◌↔◌}
use Rattle.std.specs.Int.{from_le_bytes, to_le_bytes, w64}
use Rattle.std.proofs.lemmas.Bool.{eq-eqb, eqb-true}
use Rattle.std.proofs.lemmas.List.{take-append-drop, take-take}
use Rattle.std.proofs.lemmas.Nat.{from_le_bytes-to_le_bytes_8}

-- a word is known by its bytes
pub one_word : (v w : ℕ) → v < 2 ^ 64 → w < 2 ^ 64 → to_le_bytes w64 v ≡ to_le_bytes w64 w → v ≡ w
one_word v w small other e =
    sym (from_le_bytes-to_le_bytes_8 v small) ∙ ap (from_le_bytes w64) e ∙ from_le_bytes-to_le_bytes_8 w other

-- two lists are one where their fronts are, and what lies behind places in these
pub one_by_ends : (a b : List ℕ) (n rest : ℕ) → rest ≤ n → take n a ≡ take n b → drop rest a ≡ drop rest b
    → a ≡ b
one_by_ends a b n rest le first last =
    let front : take rest a ≡ take rest b =
    sym (take-take rest n a le) ∙ ap (λ (l : List ℕ). take rest l) first ∙ take-take rest n b le in
    sym (take-append-drop rest a) ∙ ap (λ (l : List ℕ). l ++ drop rest a) front
    ∙ ap (λ (l : List ℕ). take rest b ++ l) last ∙ take-append-drop rest b

-- the last words of two lists with one first word are compared
pub last_compared : (a b : List ℕ) (n rest u v w x : ℕ) → rest ≤ n → w < 2 ^ 64 → x < 2 ^ 64
    → to_le_bytes w64 u ≡ take n a → to_le_bytes w64 v ≡ take n b → u ≡ v
    → to_le_bytes w64 w ≡ drop rest a → to_le_bytes w64 x ≡ drop rest b → ((w == x) ≡ true) ↔ (a ≡ b)
last_compared a b n rest u v w x le small other first second same third fourth =
    let front = sym first ∙ ap (to_le_bytes w64) same ∙ second in (
      λ e. one_by_ends a b n rest le front (sym third ∙ ap (to_le_bytes w64) (eqb-true w x e) ∙ fourth),
      λ e. eq-eqb w x (one_word w x small other (third ∙ ap (λ (l : List ℕ). drop rest l) e ∙ sym fourth)),
    )
