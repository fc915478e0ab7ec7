-- Where no byte of a text can begin a character of some kinds, no token is of these kinds.
use Rattle.std.proofs.Common.{◌≡◌, ℕ, zero, suc, Bool, true, false, List, [], ◌∷◌, ◌++◌, cond, refl, take}
use Rattle.std.specs.List.{list_any}
use Rattle.std.proofs.lemmas.Bool.{or_from, or_parts}
use Rattle.written_dates.specs.declared.tokens.Kind.{Kind}
use Rattle.written_dates.specs.declared.tokens.Kind.TheVariants.{Blank, Dash}
use Rattle.written_dates.specs.Tokens.{Piece, first, in_front, joins, tokens}

abbrev pub has_kind : (Kind → Bool) → List Piece → Bool
has_kind is ts = list_any (λ p. is p.kind) ts

in_front_by : (is : Kind → Bool) (j : Bool) (a b : Piece) (rest : List Piece) → is a.kind ≡ false
    → has_kind is (b ∷ rest) ≡ false
    → has_kind is (cond j (record { kind = a.kind; text = a.text ++ b.text } ∷ rest) (a ∷ b ∷ rest)) ≡ false
in_front_by is true a b rest h k = or_from _ _ h (or_parts (is b.kind) (has_kind is rest) k).1
in_front_by is false a b rest h k = or_from _ _ h k

one_more : (is : Kind → Bool) (a : Piece) (ts : List Piece) → is a.kind ≡ false → has_kind is ts ≡ false
    → has_kind is (in_front a ts) ≡ false
unfolding in_front
one_more is a [] h k = or_from _ _ h k
one_more is a (b ∷ rest) h k = in_front_by is (joins a.kind b.kind) a b rest h k

-- the kind of the first character, by its tests
abbrev pub picked : Kind → Bool → Bool → Bool → Bool → Kind × ℕ
picked l a b c d = cond a (Blank, 1) (cond b (Blank, 2) (cond c (Dash, 2) (cond d (Dash, 2) (l, 0))))

pub none_picked : (is : Kind → Bool) → is Blank ≡ false → is Dash ≡ false → (l : Kind) (a b c d : Bool)
    → is l ≡ false → is (picked l a b c d).0 ≡ false
none_picked is x y l true b c d h = x
none_picked is x y l false true c d h = x
none_picked is x y l false false true d h = y
none_picked is x y l false false false true h = y
none_picked is x y l false false false false h = h

pub none_of_kind : (is : Kind → Bool) (begins : ℕ → Bool)
    → ((c : ℕ) (cs : List ℕ) → begins c ≡ false → is (first c cs).0 ≡ false) → (more : ℕ) (text : List ℕ)
    → list_any begins text ≡ false → has_kind is (tokens more text) ≡ false
unfolding tokens
none_of_kind is begins by zero [] h = refl
none_of_kind is begins by (suc more) [] h = refl
none_of_kind is begins by zero (c ∷ cs) h =
    let both = or_parts (begins c) (list_any begins cs) h in
    one_more is (record { kind = (first c cs).0; text = c ∷ take (first c cs).1 cs }) (tokens (first c cs).1 cs)
    (by c cs both.0) (none_of_kind is begins by (first c cs).1 cs both.1)
none_of_kind is begins by (suc more) (c ∷ cs) h =
    none_of_kind is begins by more cs (or_parts (begins c) (list_any begins cs) h).1
