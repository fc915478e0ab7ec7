-- Writers beside one another, each for the output at its place.
use Rattle.std.proofs.Common.{◌≡◌, ◌≢◌, ◌≤◌, ◌<◌, ◌∙◌, ◌++◌, ◌+◌, ℕ, List, [], ◌∷◌, Some, ap, arith, inl}
use Rattle.std.proofs.Common.{inr, length, refl, set, subst, sym, Err, Ok, Result, slice_get}
use Rattle.sheets.proofs.Common.{Fields, Gathers, first_fault, RecordRead, SheetCause, SheetChoice, LineWriter}
use Rattle.std.proofs.lemmas.Bool.Decides.{eqb_tells}
use Rattle.std.proofs.lemmas.List.{get_or-set_other, get_or-set_same, get_or_append_left, get_or_push, length-set}
use Rattle.std.proofs.lemmas.List.{length_push}
use Rattle.std.proofs.lemmas.Option.{gets, slice_get_cases, slice_get_within}
use Rattle.register_records.specs.declared.outputs.Output as outputs
use Rattle.sheets.specs.private.LineWriters.{Each, GathersEach}
use Rattle.sheets.proofs.CountLemmas.{one_found}
use Rattle.sheets.proofs.LineWriterLemmas.{gathers_more, gathers_none}

set_there : {X : Type 0} (xs : List X) (i : ℕ) (x : X) → i < length xs → slice_get (set xs i x) i ≡ Some x
set_there xs i x low = grind (arith, gets, get_or-set_same, length-set)

set_elsewhere : {X : Type 0} (xs : List X) (i j : ℕ) (x : X) → j ≢ i → slice_get (set xs i x) j ≡ slice_get xs j
set_elsewhere xs i j x other = grind (arith, gets, get_or-set_other, length-set)

pub found_at : {X : Type 0} (xs : List X) (i : ℕ) → i < length xs → (x : X) × (slice_get xs i ≡ Some x)
found_at xs i low = grind (arith, slice_get_cases xs i)

before_it : (place i : ℕ) → place < i + 1 → place ≢ i → place < i
before_it place i below other = omega arith

module _ {M W : Type 0} (Did : ℕ → M → M → W → W → Type 0) where
  -- the writers before a place did so, the others nothing yet
  pub record UpTo (count : ℕ) (old new : List M) (before after : List W) : Type 0 where
    pub writers : length new ≡ length old
    pub files : length after ≡ length before
    pub done : (place : ℕ) (w v : M) (b a : W) → slice_get old place ≡ Some w → slice_get new place ≡ Some v
        → slice_get before place ≡ Some b → slice_get after place ≡ Some a → place < count → Did place w v b a
    pub left : (place : ℕ) → count ≤ place → (slice_get new place ≡ slice_get old place)
        × (slice_get after place ≡ slice_get before place)

  pub up_to_none : (old : List M) (before : List W) → UpTo 0 old old before before
  up_to_none old before =
      record {
        writers = refl;
        files = refl;
        done = λ place w v b a e f g h low. absurd (omega arith);
        left = λ place low. (refl, refl);
      }

  pub up_to_more : (i : ℕ) (old mid : List M) (before middle : List W) (w v : M) (b a : W)
      → UpTo i old mid before middle → i < length mid → i < length middle → slice_get mid i ≡ Some w
      → slice_get middle i ≡ Some b → Did i w v b a → length (set mid i v) ≡ length mid
      → length (set middle i a) ≡ length middle → UpTo (i + 1) old (set mid i v) before (set middle i a)
  up_to_more i old mid before middle w v b a h low room is at did same_writers same_files =
      record {
        writers = same_writers ∙ h.writers;
        files = same_files ∙ h.files;
        done = λ place w0 v0 b0 a0 e f g k below.
            elim (eqb_tells place i) [
              | inl here ↦
                  let now = h.left place (omega (arith, here.1)) in
                  let same_w : w ≡ w0
                  = one_found (slice_get mid place) w w0 (ap (slice_get mid) here.1 ∙ is) (now.0 ∙ e) in
                  let same_b : b ≡ b0
                  = one_found (slice_get middle place) b b0 (ap (slice_get middle) here.1 ∙ at) (now.1 ∙ g) in
                  let same_v : v ≡ v0
                  = one_found (slice_get (set mid i v) place) v v0 (ap (slice_get (set mid i v)) here.1 ∙ set_there mid
                  i v low) f in
                  let same_a : a ≡ a0 = one_found (slice_get (set middle i a) place) a a0
                  (ap (slice_get (set middle i a)) here.1 ∙ set_there middle i a room) k in
                  subst (λ (n : ℕ). Did n w0 v0 b0 a0) (sym here.1) (subst (λ (x : M). Did i x v0 b0 a0) same_w
                  (subst (λ (x : M). Did i w x b0 a0) same_v (subst (λ (x : W). Did i w v x a0) same_b
                  (subst (λ (x : W). Did i w v b x) same_a did))))
              | inr other ↦
                  h.done place w0 v0 b0 a0 e (sym (set_elsewhere mid i place v other.1) ∙ f) g
                  (sym (set_elsewhere middle i place a other.1) ∙ k) (before_it place i below other.1)
            ];
        left = λ place above.
            let other : place ≢ i = λ e. absurd (omega (arith, e)) in
            let now = h.left place (omega arith) in
            (set_elsewhere mid i place v other ∙ now.0, set_elsewhere middle i place a other ∙ now.1);
      }

  pub up_to_all : (count : ℕ) (old new : List M) (before after : List W) → length new ≤ count
      → UpTo count old new before after → Each Did old new before after
  up_to_all count old new before after every h =
      record {
        writers = h.writers;
        files = h.files;
        each = λ place w v b a e f g k.
            let low = slice_get_within new place v f in h.done place w v b a e f g k (omega arith);
      }

-- what they did may be said otherwise
pub up_to_as : {M W : Type 0} (Did Does : ℕ → M → M → W → W → Type 0) (count : ℕ) (old new : List M) (before after :
    List W) → ((place : ℕ) (w v : M) (b a : W) → place < count → Did place w v b a → Does place w v b a)
    → UpTo Did count old new before after → UpTo Does count old new before after
up_to_as Did Does count old new before after f h =
    record {
      writers = h.writers;
      files = h.files;
      done = λ place w v b a e1 e2 e3 e4 low. f place w v b a low (h.done place w v b a e1 e2 e3 e4 low);
      left = h.left;
    }

-- of no record, and of one more
module _ {M W : Type 0} (o : outputs.Ghosts W) (line : M → SheetChoice → RecordRead → Fields) (choice : SheetChoice)
  where
    pub each_none : (reads : List RecordRead) (old : List (LineWriter M)) (before : List W) → reads ≡ []
        → GathersEach o line choice reads old old before before
    each_none reads old before none =
        record {
          writers = refl;
          files = refl;
          each = λ place w v b a e f g k.
              let same_w = one_found (slice_get old place) w v e f in
              let same_b = one_found (slice_get before place) b a g k in
              subst (λ (x : LineWriter M). Gathers o line choice reads w x b a) same_w
              (subst (λ (x : W). Gathers o line choice reads w w b x) same_b (gathers_none o line choice reads w b none));
        }

    pub each_more : (reads all : List RecordRead) (one : RecordRead) (old mid new : List (LineWriter M))
        (before middle after : List W) → all ≡ reads ++ one ∷ [] → GathersEach o line choice reads old mid before middle
        → GathersEach o line choice (one ∷ []) mid new middle after → GathersEach o line choice all old new before after
    each_more reads all one old mid new before middle after is p q =
        record {
          writers = q.writers ∙ p.writers;
          files = q.files ∙ p.files;
          each = λ place w v b a e f g k.
              let (m, there) = found_at mid place (omega (arith, slice_get_within old place w e, p.writers)) in
              let (c, here) = found_at middle place (omega (arith, slice_get_within before place b g, p.files)) in
              gathers_more o line choice reads all one w m v b c a is (p.each place w m b c e there g here)
              (q.each place m v c a there f here k);
        }

-- one answer more
pub answer_last : {X : Type 0} (answers : List X) (answer : X) (i : ℕ) → length answers ≡ i
    → slice_get (answers ++ answer ∷ []) i ≡ Some answer
answer_last answers answer i e = grind (arith, gets, get_or_push, length_push)

pub answer_kept : {X : Type 0} (answers : List X) (answer : X) (place : ℕ) (found : X) → slice_get answers place ≡ Some
    found → slice_get (answers ++ answer ∷ []) place ≡ Some found
answer_kept answers answer place found e = grind (arith, gets, get_or_append_left, length_push)

-- the first fault of one answer more
fault_more : (answers : List (Result (Unit {0}) SheetCause)) (answer : Result (Unit {0}) SheetCause)
    → first_fault (answers ++ answer ∷ []) ≡ first_fault (first_fault answers ∷ answer ∷ [])
fault_more [] answer = refl
fault_more ((Ok v) ∷ answers) answer = fault_more answers answer
fault_more ((Err c) ∷ answers) answer = refl

pub first_more : (answers : List (Result (Unit {0}) SheetCause)) (first answer both : Result (Unit {0}) SheetCause)
    → first ≡ first_fault answers → both ≡ first_fault (first ∷ answer ∷ [])
    → both ≡ first_fault (answers ++ answer ∷ [])
first_more answers first answer both is e =
    e ∙ ap (λ (x : Result (Unit {0}) SheetCause). first_fault (x ∷ answer ∷ [])) is ∙ sym (fault_more answers answer)
