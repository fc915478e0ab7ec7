-- A list of lines, cut before one of them.
use Rattle.std.proofs.Common.{◌≡◌, ◌<◌, ◌+◌, ◌∷◌, ℕ, List, [], ap, arith, drop, le_refl, refl, get_or, length, map, reverse, take}
use Rattle.std.proofs.lemmas.List.{drop_more, map_push, reverse-append, take_all, take_more}
use Rattle.family_trees.specs.private.LineViews.{line_seen}
use Rattle.family_trees.specs.declared.lines.Line.{Line}

pub first_behind : (lines : List Line) (i : ℕ) (d : Line) → i < length lines
    → map line_seen (drop i lines) ≡ line_seen (get_or lines i d) ∷ map line_seen (drop (i + 1) lines)
first_behind lines i d lt = grind (arith, drop_more lines i d lt)

pub last_before : (lines : List Line) (i : ℕ) (d : Line) → i < length lines
    → reverse (map line_seen (take (i + 1) lines))
    ≡ line_seen (get_or lines i d) ∷ reverse (map line_seen (take i lines))
last_before lines i d lt =
    rw (
      take_more lines i d lt,
      map_push line_seen (take i lines) (get_or lines i d),
      reverse-append (map line_seen (take i lines)) (line_seen (get_or lines i d) ∷ []),
    ) refl

pub all_before : (lines : List Line) → map line_seen (take (length lines) lines) ≡ map line_seen lines
all_before lines = ap (map line_seen) (take_all (length lines) lines (le_refl (length lines)))
