-- Columns and their targets.
use Rattle.std.proofs.Common.{◌≡◌, ◌<◌, ◌≤◌, ◌+◌, ◌∙◌, ℕ, List, [], ◌∷◌, arith, ap, length, take, get_or}
use Rattle.std.proofs.Common.{Bool, false, set, refl, sym, subst, true, zero, suc}
use Rattle.std.specs.List.{slice_get, take-map}
use Rattle.std.proofs.lemmas.List.{length-map, length-take, map-append, take_all, take_more, take_more_set}
use Rattle.date_texts.specs.Calendars.{all_targets}
use Rattle.date_texts.specs.declared.target.Target.{Target}
use Rattle.date_texts.specs.declared.target.TheConstants.{MAX_TARGETS}
use Rattle.date_texts.specs.declared.target.Target.TheVariants.{Tzolkin}
use Rattle.date_texts.specs.Laws.{FewTargets}
use Rattle.register_records.specs.SetupRules.{NamesTwice}
use Rattle.register_records.specs.Records.{has_notes}
use Rattle.page_rules.specs.Requests.{form_by, targets_at}
use Rattle.page_rules.specs.declared.requests.TheConstants.{TOO_MANY}

pub one_more : (columns : List ℕ) (targets : List Target) (i : ℕ) (x : Target) → i < length columns
    → i < length targets → x ≡ get_or all_targets (get_or columns i 0) Tzolkin
    → take i targets ≡ targets_at (take i columns)
    → take (i + 1) (set targets i x) ≡ targets_at (take (i + 1) columns)
one_more columns targets i x lt room is before =
    take_more_set targets i x room
    ∙ rw (before, take_more columns i 0 lt, is) (sym (map-append _ (take i columns) (get_or columns i 0 ∷ [])))

-- a table has notes where its register has seals
pub notes_by : (sealed : Bool) → has_notes (form_by sealed) ≡ sealed
notes_by true = refl
notes_by false = refl

in_front : {T : Type 0} (n : ℕ) (xs : List T) (i : ℕ) → i < length (take n xs)
    → slice_get (take n xs) i ≡ slice_get xs i
in_front zero xs i lt = absurd (omega arith)
in_front (suc n) [] i lt = refl
in_front (suc n) (x ∷ xs) zero lt = refl
in_front (suc n) (x ∷ xs) (suc i) lt = in_front n xs i (omega arith)

-- what the first targets name twice, all name twice
twice_in_front : (n : ℕ) (targets : List Target) → NamesTwice (take n targets) → NamesTwice targets
twice_in_front n targets (i, j, lt, below, same) =
    let long = length-take n targets in (
      i,
      j,
      lt,
      omega (arith, below, long),
      sym (in_front n targets i (omega arith)) ∙ same ∙ in_front n targets j below,
    )

pub names_twice : (columns : List ℕ) (firsts : List Target) → firsts ≡ targets_at (take TOO_MANY columns)
    → NamesTwice firsts → NamesTwice (targets_at columns)
names_twice columns firsts is twice =
    twice_in_front TOO_MANY (targets_at columns) (subst NamesTwice (is ∙ sym (take-map _ TOO_MANY columns)) twice)

-- where the first, one more than there are targets, are all different, they are all
pub names_once : FewTargets → (columns : List ℕ) (firsts : List Target) → firsts ≡ targets_at (take TOO_MANY columns)
    → ¬ (NamesTwice firsts) → (firsts ≡ targets_at columns) × ¬ (NamesTwice (targets_at columns))
names_once few columns firsts is once =
    let low : length firsts ≤ MAX_TARGETS = few firsts (λ i j lt below same. once (i, j, lt, below, same)) in
    let long : length firsts ≡ length (take TOO_MANY columns) = ap length is ∙ length-map (take TOO_MANY columns) _ in
    let all : take TOO_MANY columns ≡ columns =
    take_all TOO_MANY columns (omega (arith, low, long, length-take TOO_MANY columns)) in
    let whole : firsts ≡ targets_at columns = is ∙ ap targets_at all in
    (whole, λ twice. once (subst NamesTwice (sym whole) twice))
