-- One line of a tree more.
use Rattle.std.proofs.Common.{◌≡◌, ◌<◌, ◌+◌, ◌++◌, [], ◌∷◌, ℕ, Bool, List, ap, append_assoc, arith, cond, drop, false, filter, get_or, length}
use Rattle.std.proofs.Common.{map, refl, reverse}
use Rattle.std.proofs.Common.{take, true}
use Rattle.family_trees.specs.private.LineViews.{line_seen}
use Rattle.family_trees.specs.Lines.{TreeLine}
use Rattle.family_trees.specs.Trees.{DateOfTree, date_at, dates_in, is_date}
use Rattle.family_trees.specs.declared.lines.Line.{Line}
use Rattle.family_trees.proofs.TreeLemmas.{first_behind, last_before}

-- the dates that are left at this place
abbrev pub dates_left : List TreeLine → List Line → ℕ → List DateOfTree
dates_left tree lines i = dates_in tree (reverse (map line_seen (take i lines))) (map line_seen (drop i lines))

pub one_date_more : (tree same : List TreeLine) (lines : List Line) (i : ℕ) (d : Line) (dates all : List DateOfTree)
    (date : DateOfTree) → i < length lines → is_date (line_seen (get_or lines i d)) ≡ true → tree ≡ same
    → date ≡ date_at same (reverse (map line_seen (take i lines))) (line_seen (get_or lines i d))
    (map line_seen (drop (i + 1) lines))
    → dates ++ dates_left tree lines i ≡ all → (dates ++ date ∷ []) ++ dates_left tree lines (i + 1) ≡ all
one_date_more tree same lines i d dates all date lt is one at so_far =
    grind (arith, append_assoc, first_behind lines i d lt, last_before lines i d lt)

pub no_date_more : (tree : List TreeLine) (lines : List Line) (i : ℕ) (d : Line) (dates all : List DateOfTree)
    → i < length lines → is_date (line_seen (get_or lines i d)) ≡ false → dates ++ dates_left tree lines i ≡ all
    → dates ++ dates_left tree lines (i + 1) ≡ all
no_date_more tree lines i d dates all lt is so_far =
    grind (arith, append_assoc, first_behind lines i d lt, last_before lines i d lt)

mapped : {X Y : Type 0} (f : X → Y) (passes : Bool) (x : X) (xs : List X) (ys : List Y) → map f xs ≡ ys
    → map f (cond passes (x ∷ xs) xs) ≡ cond passes (f x ∷ ys) ys
mapped f true x xs ys rest = ap (λ (zs : List _). f x ∷ zs) rest
mapped f false x xs ys rest = rest

-- what passes a test by what is seen of it
pub map_filter : {X Y : Type 0} (p : Y → Bool) (f : X → Y) (xs : List X)
    → map f (filter (λ x. p (f x)) xs) ≡ filter p (map f xs)
map_filter p f [] = refl
map_filter p f (x ∷ xs) = mapped f (p (f x)) x _ _ (map_filter p f xs)
