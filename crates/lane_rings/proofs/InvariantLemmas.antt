-- What every act keeps, and how far the entries have come. What follows from it for a state.
use Rattle.std.proofs.Common.{rules, ◌≡◌, ◌<◌, ◌≤◌, ◌+◌, ◌*◌, ◌++◌, ℕ, List, [], ◌∷◌, length, Some}
use Rattle.std.proofs.Common.{refl, ap, arith, ◌⊎◌, ◌≢◌, map, option_to_list, slice_get}
use Rattle.std.proofs.Common.{eq-eqb, ne_eqb, ◌∙◌, length-append, take_at}
use Rattle.std.proofs.lemmas.Bool.{cases_eq}
use Rattle.std.proofs.lemmas.List.{length-map, map-append}
use Rattle.lane_rings.specs.Machine.{World, Stripe, State, put}
use Rattle.lane_rings.specs.Schedules.{total, standing, standing_in}
use Rattle.lane_rings.specs.Places.{ArePoppedInOrder}
use Rattle.lane_rings.proofs.PartLemmas.{part, total_put, part_lengths, total_bound, total_le, total_same}
use Rattle.lane_rings.proofs.PartLemmas.{total_times}

-- a stripe in which just these entries stand: the first of them, which are converted, as their rows
pub record Holds {E R : Type 0} (w : World E R) (entries : List E) (t : Stripe E R) : Type 0 where
  pub converted : List E
  pub rows : t.row_lane ≡ map w.row_of converted
  pub all : converted ++ (option_to_list t.hand ++ t.entry_lane) ≡ entries
  pub room : length t.entry_lane ≤ w.ring
  pub row_room : length t.row_lane ≤ w.ring

-- the entries whose rows are popped, those that stand between the ends, and those that are not yet pushed
pub record Kept {E R : Type 0} (w : World E R) (s : State E R) : Type 0 where
  pub done : List E
  pub between : List E
  pub left : List E
  pub entries : w.entries ≡ done ++ (between ++ left)
  pub pushed : s.pushed ≡ length done + length between
  pub popped : s.popped ≡ map w.row_of done
  pub stripes : (i : ℕ) → Holds w (part w.converters i (length done) between) (s.stripes i)

-- how many places the entries of a stripe, and all entries, have come forward
abbrev pub weight : {E R : Type 0} → Stripe E R → ℕ
weight t = length t.entry_lane + 2 * length (option_to_list t.hand) + 3 * length t.row_lane

abbrev pub progress : {E R : Type 0} → World E R → State E R → ℕ
progress w s = 4 * length s.popped + total w.converters (λ i. weight (s.stripes i))

-- one entry has come one place forward
pub record Steps {E R : Type 0} (w : World E R) (s t : State E R) : Type 0 where
  pub kept : Kept w t
  pub further : progress w t ≡ progress w s + 1

-- so the state is another
pub steps_change : {E R : Type 0} (w : World E R) (s t : State E R) → Steps w s t → t ≢ s
steps_change w s t h e = let same = ap (progress w) e in omega (arith, h.further, same)

-- an act changes nothing, or takes an entry one place forward
abbrev pub StaysOrSteps : {E R : Type 0} → World E R → State E R → State E R → Type 0
StaysOrSteps w s t = (t ≡ s) ⊎ Steps w s t

pub put_holds : {E R : Type 0} (w : World E R) (entries : ℕ → List E) (old : ℕ → Stripe E R) (i : ℕ)
    (t : Stripe E R)
    → Holds w (entries i) t → ((j : ℕ) → (j ≡ i → ⊥) → Holds w (entries j) (old j))
    → (j : ℕ) → Holds w (entries j) (put old i t j)
put_holds w entries old i t own others j = search (rules, cases_eq, eq-eqb, ne_eqb)

pub put_further : {E R : Type 0} (w : World E R) (old : ℕ → Stripe E R) (i : ℕ) (t : Stripe E R) → i < w.converters
    → total w.converters (λ j. weight (put old i t j)) + weight (old i)
    ≡ total w.converters (λ j. weight (old j)) + weight t
put_further w old i t h = total_put w.converters weight old i t h

-- the first of the rest of a list
pub slice_get_rest : {X : Type 0} (xs ys : List X) → slice_get (xs ++ ys) (length xs) ≡ slice_get ys 0
slice_get_rest [] ys = refl
slice_get_rest (x ∷ xs) ys = slice_get_rest xs ys

pub first_is : {X : Type 0} (xs : List X) (x : X) → slice_get xs 0 ≡ Some x → (more : List X) × (xs ≡ x ∷ more)
first_is [] x e = cc
first_is (y ∷ xs) x e = let same : y ≡ x = cc in (xs, rw same refl)

pub map_first : {X Y : Type 0} (f : X → Y) (xs : List X) (y : Y) (ys : List Y) → y ∷ ys ≡ map f xs
    → (x : X) × (more : List X) × (xs ≡ x ∷ more) × (y ≡ f x) × (ys ≡ map f more)
map_first f [] y ys e = cc
map_first f (x ∷ xs) y ys e = let a : y ≡ f x = cc in let b : ys ≡ map f xs = cc in (x, xs, refl, a, b)

-- ---- what the invariant says of the rows that are popped, and of how many entries stand between the ends

module _ {E R : Type 0} (w : World E R) (some_converters : 0 < w.converters) (s : State E R) (v : Kept w s) where
  pub popped_count : length s.popped ≡ length v.done
  popped_count = ap length v.popped ∙ length-map v.done w.row_of

  pub all_count : length w.entries ≡ length v.done + (length v.between + length v.left)
  all_count = grind (arith, v.entries, length-append v.done (v.between ++ v.left), length-append v.between v.left)

  -- the rows that are popped
  pub popped_in_order : ArePoppedInOrder w s
  popped_in_order = search (rules, map-append, take_at)

  -- how many entries stand between the ends
  pub stripe_count : (i : ℕ) → standing_in (s.stripes i) ≡ length (part w.converters i (length v.done) v.between)
  stripe_count i = search (rules, length-map, length-append)

  all_standing : standing w s ≡ length v.between
  all_standing =
      let c = w.converters in
      let d = length v.done in
      total_same c (λ i. standing_in (s.stripes i)) (λ i. length (part c i d v.between)) (λ i l. stripe_count i)
      ∙ part_lengths c d v.between some_converters

  pub few_standing : standing w s ≤ w.converters * (2 * w.ring + 1)
  few_standing =
      total_bound w.converters (2 * w.ring + 1) _ (λ i. grind (arith, (v.stripes i).room, (v.stripes i).row_room))

  -- how far the entries can come
  pub progress_bound : progress w s ≤ 4 * length w.entries
  progress_bound =
      let most =
      total_le w.converters (λ i. weight (s.stripes i)) (λ i. 3 * standing_in (s.stripes i)) (λ i. omega arith) in
      let thrice = total_times w.converters 3 (λ i. standing_in (s.stripes i)) in
      omega (arith, most, thrice, all_standing, popped_count, all_count)
