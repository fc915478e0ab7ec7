-- Lists that match so far, with one more at the end of one of them, and what holds of all that stands before a place.
use Rattle.std.proofs.Common.{◌⊎◌, ap₂, get_or, suc, zero, inl, inr, length-append, option_map, ◌≤◌}
use Rattle.programs.proofs.Common.{rules, ◌≡◌, ◌∙◌, ◌+◌, ◌<◌, ℕ, List, [], ◌∷◌, ◌++◌, length, map, sym, ap, refl}
use Rattle.programs.proofs.Common.{arith, codes, Some, None, slice_get, subst, length-map, AreMatched}
use Rattle.std.proofs.lemmas.Option.{slice_get-get_or, slice_get-map, slice_get_cases, slice_get_within}
use Rattle.std.proofs.lemmas.Bool.{cases_lt}

-- the right list has n items, each of which matches the one at its place of the left list
abbrev pub AreMatchedSoFar : {A B : Type 0} → (ℕ → A → B → Type 0) → List A → List B → ℕ → Type 0
AreMatchedSoFar {A} {B} Match left right n =
    (length right ≡ n) × ((i : ℕ) (a : A) (b : B) → slice_get left i ≡ Some a → slice_get right i ≡ Some b
    → Match i a b)

none_some : {B : Type 0} (b : B) → None ≡ Some b → ⊥
none_some b e = cc

-- what stands at a place of a list with one more item
get_more : {B : Type 0} (xs : List B) (y : B) (k : ℕ) (b : B) → slice_get (xs ++ y ∷ []) k ≡ Some b
    → (slice_get xs k ≡ Some b) ⊎ ((k ≡ length xs) × (y ≡ b))
get_more [] y zero b is = inr (refl, cc)
get_more [] y (suc k) b is = absurd (none_some b is)
get_more (x ∷ xs) y zero b is = inl is
get_more (x ∷ xs) y (suc k) b is = elim (get_more xs y k b is) [ inl h ↦ inl h | inr h ↦ inr (ap suc h.0, h.1) ]

module _ {F A B : Type 0} (Match : ℕ → A → B → Type 0) (v : F → A) (files : List F) where
  pub so_far_none : (right : List B) → right ≡ [] → AreMatchedSoFar Match (map v files) right 0
  so_far_none right none = (ap length none, λ i a b p q. absurd (none_some b (sym (ap (λ l. slice_get l i) none) ∙ q)))

  pub so_far_more : (right new : List B) (n : ℕ) (d : F) (b : B) → AreMatchedSoFar Match (map v files) right n
      → n < length files → Match n (v (get_or files n d)) b
      → new ≡ right ++ b ∷ [] → AreMatchedSoFar Match (map v files) new (n + 1)
  so_far_more right new n d b so_far lt match more = (
    ap length more ∙ omega (arith, so_far.0, length-append right (b ∷ [])),
    λ i x y p q. step i x y p (get_more right b i y (sym (ap (λ l. slice_get l i) more) ∙ q)),
  )
    where
      at : slice_get (map v files) n ≡ Some (v (get_or files n d))
      at = slice_get-map v files n ∙ ap (option_map v) (slice_get-get_or files n d lt)

      step : (i : ℕ) (x : A) (y : B) → slice_get (map v files) i ≡ Some x
          → (slice_get right i ≡ Some y) ⊎ ((i ≡ length right) × (b ≡ y)) → Match i x y
      step i x y p (inl old) = so_far.1 i x y p old
      step i x y p (inr last) =
          let place : n ≡ i = sym (last.0 ∙ so_far.0) in
          let is : v (get_or files n d) ≡ x = cc (at, place, p) in
          rw (is, place, last.1) at match

  pub so_far_all : (right : List B) (n : ℕ) → AreMatchedSoFar Match (map v files) right n → n ≡ length files
      → AreMatched Match (map v files) right
  so_far_all right n so_far all = record { same_length = so_far.0 ∙ all ∙ sym (length-map files v); each = so_far.1 }

-- the values of lists that match in their values
pub matched_values : {A B C : Type 0} (f : A → C) (v : B → C) (left : List A) (right : List B)
    → AreMatched (λ i a b. v b ≡ f a) left right → map v right ≡ map f left
matched_values f v [] [] match = refl
matched_values f v [] (b ∷ right) match = absurd (let long = match.same_length in omega (arith, long))
matched_values f v (a ∷ left) [] match = absurd (let short = match.same_length in omega (arith, short))
matched_values f v (a ∷ left) (b ∷ right) match =
    ap₂ (λ x (xs : List _). x ∷ xs) (match.each 0 a b refl refl) (matched_values f v left right (record {
      same_length = (let same = match.same_length in omega (arith, same));
      each = λ i x y p q. match.each (suc i) x y p q;
    }))

-- what was made by a file's name with .out.csv at the end, and marked with the next mark
pub made_as : {W : Type 0} (IsMade : List ℕ → ℕ → W → Type 0) (text file : List ℕ) (mark i : ℕ) (output : W)
    → text ≡ file ++ codes ".out.csv" → mark ≡ i
    → IsMade text (mark + 1) output → IsMade (file ++ codes ".out.csv") (i + 1) output
made_as IsMade text file mark i output named marked made = search rules

-- ---- what holds of all that stands before a place of a list, with what stands there

-- this holds of each item before place n
abbrev pub HoldBefore : {X : Type 0} → (X → Type 0) → List X → ℕ → Type 0
HoldBefore {X} P xs n = (k : ℕ) (x : X) → k < n → slice_get xs k ≡ Some x → P x

pub none_before : {X : Type 0} (P : X → Type 0) (xs : List X) → HoldBefore P xs 0
none_before P xs = λ k x below is. absurd (omega (arith, below))

-- one of two, by place
before_or_at : (k n : ℕ) → k < n + 1 → (k < n) ⊎ (k ≡ n)
before_or_at k n below = elim (cases_lt k n) [ inl less ↦ inl less | inr more ↦ inr (omega (arith, below, more)) ]

pub one_before : {X : Type 0} (P : X → Type 0) (xs : List X) (n : ℕ) (here : X) → HoldBefore P xs n
    → slice_get xs n ≡ Some here → P here → HoldBefore P xs (n + 1)
one_before P xs n here before at holds = search (rules, before_or_at)

pub all_before : {X : Type 0} (P : X → Type 0) (xs : List X) (n : ℕ) → HoldBefore P xs n → length xs ≤ n
    → (k : ℕ) (x : X) → slice_get xs k ≡ Some x → P x
all_before P xs n before end k x is = search (rules, slice_get_within)

-- what stands at a place of a list of values, by the list that they are the values of
pub value_at : {F A : Type 0} (v : F → A) (files : List F) (n : ℕ) (d : F) → n < length files
    → slice_get (map v files) n ≡ Some (v (get_or files n d))
value_at v files n d lt = slice_get-map v files n ∙ ap (option_map v) (slice_get-get_or files n d lt)

-- a name that is apart from another one under which it is known
pub apart_by : {X : Type 0} (Apart : X → X → Type 0) (one name known : X) → name ≡ known → Apart one name
    → Apart one known
apart_by Apart one name known same apart = subst (λ n. Apart one n) same apart

-- this holds of any two items before place n, the earlier one first
abbrev pub HoldOfPairs : {X : Type 0} → (X → X → Type 0) → List X → ℕ → Type 0
HoldOfPairs {X} R xs n =
    (i j : ℕ) (x y : X) → i < j → j < n → slice_get xs i ≡ Some x → slice_get xs j ≡ Some y → R x y

pub no_pairs : {X : Type 0} (R : X → X → Type 0) (xs : List X) → HoldOfPairs R xs 0
no_pairs R xs = λ i j x y less below p q. absurd (omega (arith, below))

pub more_pairs : {X : Type 0} (R : X → X → Type 0) (xs : List X) (n : ℕ) (here : X) → HoldOfPairs R xs n
    → slice_get xs n ≡ Some here → HoldBefore (λ x. R x here) xs n → HoldOfPairs R xs (n + 1)
more_pairs R xs n here pairs at holds = search (rules, before_or_at)

pub all_pairs : {X : Type 0} (R : X → X → Type 0) (xs : List X) (n : ℕ) → HoldOfPairs R xs n → length xs ≤ n
    → (i j : ℕ) (x y : X) → i < j → slice_get xs i ≡ Some x → slice_get xs j ≡ Some y → R x y
all_pairs R xs n pairs end i j x y less p q = search (rules, slice_get_within)

-- a name that was told apart from the names so far, each of which is that of a file's output
pub apart_from_earlier : {S : Type 0} (Apart : List ℕ → List ℕ → Type 0) (text : S → List ℕ) (files : List (List ℕ))
    (names : List S) (name here : List ℕ) (n : ℕ)
    → AreMatchedSoFar (λ i file other. text other ≡ file ++ codes ".out.csv") files names n
    → name ≡ here ++ codes ".out.csv"
    → ((k : ℕ) (other : List ℕ) → slice_get (map text names) k ≡ Some other → Apart other name)
    → HoldBefore (λ file. Apart (file ++ codes ".out.csv") (here ++ codes ".out.csv")) files n
apart_from_earlier Apart text files names name here n matched named apart = λ k file below is.
    elim (slice_get_cases names k).1 [
      | inl some ↦
          let same : text some.0 ≡ file ++ codes ".out.csv" = matched.1 k file some.0 is some.2 in
          subst (λ t. Apart t (here ++ codes ".out.csv")) same
          (subst (λ t. Apart (text some.0) t) named
          (apart k (text some.0) (slice_get-map text names k ∙ ap (option_map text) some.2)))
      | inr none ↦ absurd (let len = matched.0 in let past = none.0 in omega (arith, below, past, len))
    ]
