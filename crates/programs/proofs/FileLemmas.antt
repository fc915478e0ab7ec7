-- A list of files has one fault at most.
use Rattle.std.proofs.Common.{rules, ◌≡◌, ◌∙◌, ◌⊎◌, ◌+◌, ℕ, zero, suc, true, false, true≢false, Bor, List, []}
use Rattle.std.proofs.Common.{◌∷◌, ◌++◌, length, map, take, drop, sym, ap, refl, arith, inl, inr, length-append, subst}
use Rattle.std.proofs.Common.{◌<◌, Contains, slice_index_or}
use Rattle.std.specs.List.{list_any}
use Rattle.std.specs.Str.{bytes_eq}
use Rattle.std.proofs.lemmas.List.{get_or-map, length-map, map_more, take-map}
use Rattle.std.proofs.lemmas.List.Folds.{Any-from_list_any, list_any_at}
use Rattle.std.proofs.lemmas.Slice.Eq.{bytes_eq-Decides}
use Rattle.clap.specs.Words.{Text}
use Rattle.programs.specs.Faults.{Fault}
use Rattle.programs.specs.FileLists.{AreFilesToConvert, IsFilesFault, IsFirstFileTwice, IsNamedTwice}

-- two places in one list are the same, or one of them comes first
abbrev pub Meet : List Text → List ℕ → List Text → List ℕ → Type 0
Meet before name front other =
    ((before ≡ front) × (name ≡ other)) ⊎ ((mid : List Text) × (front ≡ before ++ name ∷ mid))
    ⊎ ((mid : List Text) × (before ≡ front ++ other ∷ mid))

pub meet : (before : List Text) (name : Text) (after front : List Text) (other : Text)
    (back : List Text) → before ++ name ∷ after ≡ front ++ other ∷ back
    → Meet before name front other
meet [] name after [] other back e = inl (refl, cc)
meet [] name after (f ∷ fs) other back e = let same : f ≡ name = cc in inr (inl (fs, ap (λ x. x ∷ fs) same))
meet (b ∷ bs) name after [] other back e = let same : b ≡ other = cc in inr (inr (bs, ap (λ x. x ∷ bs) same))
meet (b ∷ bs) name after (f ∷ fs) other back e =
    let same : b ≡ f = cc in
    let rest : bs ++ name ∷ after ≡ fs ++ other ∷ back = cc in
    rw (← same) (elim (meet bs name after fs other back rest) [
      | inl at ↦ inl (ap (λ xs. b ∷ xs) at.0, at.1)
      | inr (inl (mid, is)) ↦ inr (inl (mid, ap (λ xs. b ∷ xs) is))
      | inr (inr (mid, is)) ↦ inr (inr (mid, ap (λ xs. b ∷ xs) is))
    ])

-- the first file that was named before is named twice
pub first_is_twice : (files : List Text) (file : Text) → IsFirstFileTwice files file → IsNamedTwice files file
first_is_twice files file first = search rules

-- no file comes before the first
pub one_first : (files : List Text) (file other : Text) → IsFirstFileTwice files file → IsFirstFileTwice files other
    → file ≡ other
one_first files file other x y = elim (meet x.before file x.after y.before other y.after (sym x.cut ∙ y.cut)) [
  | inl same ↦ same.1
  | inr (inl (mid, cut)) ↦ absurd (y.first file
      (record { before = x.before; after = mid; cut = cut; named = x.named }))
  | inr (inr (mid, cut)) ↦ absurd (x.first other
      (record { before = y.before; after = mid; cut = cut; named = y.named }))
]

module _ (files : List Text) where
  pub fit_no_fault : (fault : Fault) → AreFilesToConvert files → IsFilesFault files fault → ⊥
  fit_no_fault fault fit (inl many) = absurd (omega (arith, fit.0, many.1))
  fit_no_fault fault fit (inr twice) = fit.1 twice.0 (first_is_twice files twice.0 twice.3)

  pub one_file_fault : (fault other : Fault) → IsFilesFault files fault
      → IsFilesFault files other → fault ≡ other
  one_file_fault fault other (inl many) (inl same) = many.0 ∙ sym same.0
  one_file_fault fault other (inl many) (inr twice) = absurd (omega (arith, many.1, twice.2))
  one_file_fault fault other (inr twice) (inl many) = absurd (omega (arith, many.1, twice.2))
  one_file_fault fault other (inr twice) (inr same) = grind (arith, one_first files twice.0 same.0 twice.3 same.3)

-- one more file that was not named before
pub one_more : (files : List Text) (file : Text) → ((other : Text) → ¬ IsNamedTwice files other)
    → (¬ Contains files file) → (other : Text) → ¬ IsNamedTwice (files ++ file ∷ []) other
one_more files file once new other twice =
    elim (meet twice.before other twice.after files file [] (sym twice.cut)) [
      | inl same ↦ new (rw (same.0, same.1) at twice.named)
      | inr (inl (mid, cut)) ↦ once other
          (record { before = twice.before; after = mid; cut = cut; named = twice.named })
      | inr (inr (mid, cut)) ↦ omega (arith, ap length twice.cut, ap length cut, length-append {A = Text})
    ]

-- ---- the files as a slice holds them

any_named : (files : List (Bor Text)) (file : Text) → list_any (λ f. bytes_eq f.now file) files ≡ true
    → Contains (map (λ f. f.now) files) file
any_named files file e = grind (arith, Any-from_list_any, length-map, get_or-map, bytes_eq-Decides)

named_at : (files : List (Bor Text)) (file : Text) → Bor Text → Contains (map (λ f. f.now) files) file
    → list_any (λ f. bytes_eq f.now file) files ≡ true
named_at files file d (k, low, at) =
    let below : k < length files = omega (arith, low, length-map files (λ f. f.now)) in
    list_any_at (λ f. bytes_eq f.now file) files k d below
    ((bytes_eq-Decides _ file).1 (sym (get_or-map (λ f. f.now) files k d file below) ∙ at))

cut_at : (files : List (Bor Text)) (place : ℕ) (d : Bor Text) → place < length files
    → map (λ f. f.now) files ≡ take place (map (λ f. f.now) files) ++ (slice_index_or files place d).now ∷ drop
    (suc place) (map (λ f. f.now) files)
cut_at [] place d lt = absurd (omega arith)
cut_at (f ∷ fs) zero d lt = refl
cut_at (f ∷ fs) (suc place) d lt = ap (λ xs. f.now ∷ xs) (cut_at fs place d (omega arith))

module _ (files : List (Bor Text)) (place : ℕ) (d : Bor Text) (inside : place < length files)
    (once : (other : Text) → ¬ IsNamedTwice (take place (map (λ f. f.now) files)) other) where
  -- the first file that is among those before it
  pub first_at : list_any (λ f. bytes_eq f.now (slice_index_or files place d).now) (take place files) ≡ true
      → IsFirstFileTwice (map (λ f. f.now) files) (slice_index_or files place d).now
  first_at among =
      let file = (slice_index_or files place d).now in
      record {
        before = take place (map (λ f. f.now) files);
        after = drop (suc place) (map (λ f. f.now) files);
        cut = cut_at files place d inside;
        named = subst (λ (xs : List Text). Contains xs file) (sym (take-map (λ f. f.now) place files))
            (any_named (take place files) file among);
        first = once;
      }

  -- a file that is not
  pub still_once : list_any (λ f. bytes_eq f.now (slice_index_or files place d).now) (take place files) ≡ false
      → (other : Text)
      → ¬ IsNamedTwice (take (place + 1) (map (λ f. f.now) files)) other
  still_once new =
      let file = (slice_index_or files place d).now in
      let more = take-map (λ f. f.now) (place + 1) files ∙ map_more (λ f. f.now) files place d inside ∙ ap
      (λ (xs : List Text). xs ++ file ∷ []) (sym (take-map (λ f. f.now) place files)) in
      subst (λ (xs : List Text). (other : Text) → ¬ IsNamedTwice xs other) (sym more)
      (one_more (take place (map (λ f. f.now) files)) file once (λ named.
      let among = subst (λ (xs : List Text). Contains xs file) (take-map (λ f. f.now) place files) named in
      true≢false (sym (named_at (take place files) file d among) ∙ new)))
