use Rattle.std.proofs.Common.{◌≡◌, ◌-◌, ◌<◌, ◌∙◌, ap, refl, arith, get_or}
use Rattle.std.proofs.lemmas.Grind.{get_or_default_zero}
use Rattle.unicode_normalization.specs.Lookups.{canonical_combining_class as ccc}
use Rattle.unicode_normalization.proofs.OrderLemmas.{not_reorderable_rising, not_reorderable_starter}
use Rattle.written_dates.proofs.WordLemmas.{IsPlace-before, IsPlace-end, IsPlace-found}
use Rattle.written_dates.proofs.words.place_of.Goals as goal

pub places-init : goal.places-init
places-init c = IsPlace-end c.args.chars.now c.args.c _ refl

pub places-preserved : goal.places-preserved
places-preserved c =
    let chars = c.args.chars.now in
    let at : c.index-chars-place.result ≡ get_or chars (c.places.place - 1) 0
    = c.index-chars-place.is
    ∙ get_or_default_zero chars (c.places.place - 1) c.index-chars-place.result (omega (arith, c.places.invariant.within)) in
    let higher : ccc c.args.c < ccc (get_or chars (c.places.place - 1) 0) = omega (arith, ap ccc at) in
    IsPlace-before c.args.chars.now c.args.c c.places.place (c.places.place - 1) (omega arith) (omega arith) higher
    c.places.invariant

pub returns-else-class-canonical_combining_class-clause-ordered :
    goal.returns-else-class-canonical_combining_class-clause-ordered
returns-else-class-canonical_combining_class-clause-ordered c =
    let chars = c.args.chars.now in
    IsPlace-found chars c.args.c c.places.place c.places.invariant (λ q e.
    let at : c.index-chars-place.result ≡ get_or chars (c.places.place - 1) 0
    = c.index-chars-place.is
    ∙ get_or_default_zero chars (c.places.place - 1) c.index-chars-place.result (omega (arith, c.places.invariant.within)) in
    let same : c.places.place - 1 ≡ q = omega arith in
    not_reorderable_rising _ _ (omega (arith, ap ccc (at ∙ ap (λ n. get_or chars n 0) same))))

pub returns-else-class-gt0-clause-ordered : goal.returns-else-class-gt0-clause-ordered
returns-else-class-gt0-clause-ordered c =
    IsPlace-found c.args.chars.now c.args.c c.places.place c.places.invariant
    (λ q e. not_reorderable_starter _ _ (omega arith))

pub returns-after-places-clause-ordered : goal.returns-after-places-clause-ordered
returns-after-places-clause-ordered c =
    IsPlace-found c.args.chars.now c.args.c c.places.place c.places.invariant (λ q e. absurd (omega arith))
