-- Names are looked for one by one.
use Rattle.std.proofs.Common.{◌≡◌, ℕ, zero, suc, ◌+◌, ◌-◌, ◌<◌, Bool, true, false, ◌&&◌, ◌||◌, List, [], ◌∷◌, ◌++◌}
use Rattle.std.proofs.Common.{cond, ◌∙◌, refl, sym, ap, arith, drop, length, take, append_assoc}
use Rattle.std.specs.Str.{bytes_eq}
use Rattle.std.proofs.Math.Seq.{take-append_seam}
use Rattle.std.proofs.lemmas.List.{length-append, length-take-le}
use Rattle.written_dates.specs.declared.tokens.Kind.{Kind}
use Rattle.written_dates.specs.declared.tokens.Kind.TheVariants.{Hyphen}
use Rattle.written_dates.specs.Tokens.{Piece, tokens}
use Rattle.written_dates.specs.WholeNames.{has_word, is_hyphen, is_letter, joined_words, name_in_front, name_with, spelled}

-- what is skipped is left out
skipped : (word : List ℕ) (more : ℕ) (text : List Piece) → name_with word more text ≡ name_with word 0 (drop more text)
unfolding name_with
skipped word zero text = refl
skipped word (suc more) [] = refl
skipped word (suc more) (token ∷ rest) = skipped word more rest

by_word : (b : Bool) (x y : List ℕ) → b ≡ true → cond b x y ≡ x
by_word true x y h = refl
by_word false x y h = absurd (cc)

by_no_word : (b : Bool) (x y : List ℕ) → b ≡ false → cond b x y ≡ y
by_no_word false x y h = refl
by_no_word true x y h = absurd (cc)

-- the first name has the word
pub found_name : (word : List ℕ) (token : Piece) (rest text : List Piece) → text ≡ token ∷ rest
    → has_word word (name_in_front text) ≡ true → name_with word 0 text ≡ spelled (name_in_front text)
unfolding name_with
found_name word token rest text is has =
    rw is (by_word (has_word word (name_in_front (token ∷ rest))) _ _ (rw is at has))

-- it has not, and the next one is looked for
pub next_name : (word : List ℕ) (token : Piece) (rest text : List Piece) → text ≡ token ∷ rest
    → has_word word (name_in_front text) ≡ false → 0 < length (name_in_front text)
    → name_with word 0 text ≡ name_with word 0 (drop (length (name_in_front text)) text)
unfolding name_with
next_name word token rest text is has some =
    let none : name_with word 0 (token ∷ rest) ≡ name_with word (length (name_in_front (token ∷ rest)) - 1) rest
    = by_no_word (has_word word (name_in_front (token ∷ rest))) _ _ (rw is at has) in
    let some' : 0 < length (name_in_front (token ∷ rest)) = rw is at some in
    let more : length (name_in_front (token ∷ rest)) ≡ suc (length (name_in_front (token ∷ rest)) - 1)
    = omega (arith, some') in
    rw is (none ∙ skipped word (length (name_in_front (token ∷ rest)) - 1) rest
    ∙ sym (ap (λ (n : ℕ). name_with word 0 (drop n (token ∷ rest))) more))

-- no name is in front
pub no_name : (word : List ℕ) (token : Piece) (rest text : List Piece) → text ≡ token ∷ rest → name_in_front text ≡ []
    → name_with word 0 text ≡ name_with word 0 rest
unfolding name_with
no_name word token rest text is none =
    let none' : name_in_front (token ∷ rest) ≡ [] = rw is at none in
    rw (is, none') refl

pub nothing_left : (word : List ℕ) (text : List Piece) → text ≡ [] → name_with word 0 text ≡ word
unfolding name_with
nothing_left word text is = rw is refl

-- ---- the words of a name, one by one
-- what is found so far of a name, and what is joined to it
pub record IsSoFar (text word : List ℕ) (end : ℕ) (has : Bool) (rest : List ℕ) : Type 0 where
  pub whole : take end text ++ rest ≡ text
  pub size : end + length rest ≡ length text
  pub name : spelled (name_in_front (tokens 0 text)) ≡ take end text ++ spelled (joined_words (tokens 0 rest))
  pub found : has_word word (name_in_front (tokens 0 text)) ≡ (has || has_word word (joined_words (tokens 0 rest)))
  pub behind : drop (length (name_in_front (tokens 0 text))) (tokens 0 text)
      ≡ drop (length (joined_words (tokens 0 rest))) (tokens 0 rest)

no_word : (k : Kind) → is_hyphen k ≡ true → is_letter k ≡ false
no_word Hyphen h = refl
no_word _ h = absurd (cc)

joined_if : (a b : Bool) (xs : List Piece) → a ≡ true → b ≡ true → cond (a && b) xs [] ≡ xs
joined_if true true xs h k = refl
joined_if false b xs h k = absurd (cc)
joined_if true false xs h k = absurd (cc)

joined : (h w : Piece) (ts all : List Piece) → all ≡ h ∷ w ∷ ts → is_hyphen h.kind ≡ true → is_letter w.kind ≡ true
    → joined_words all ≡ h ∷ w ∷ joined_words ts
unfolding joined_words
joined h w ts all is hyphen word = rw is (joined_if (is_hyphen h.kind) (is_letter w.kind) _ hyphen word)

front_is : (front behind text : List ℕ) (n : ℕ) → front ++ behind ≡ text → length front ≡ n → take n text ≡ front
front_is front behind text n is len = rw (← is, ← len) (take-append_seam front behind)

either : (a b c d : Bool) → c ≡ (a || b) → (a || (b || d)) ≡ (c || d)
either a b c d h = grind arith

pub more_words : (text word : List ℕ) (end : ℕ) (has more : Bool) (rest behind : List ℕ) (h w : Piece)
    → IsSoFar text word end has rest → tokens 0 rest ≡ h ∷ w ∷ tokens 0 behind → is_hyphen h.kind ≡ true
    → is_letter w.kind ≡ true → rest ≡ h.text ++ (w.text ++ behind) → more ≡ (has || bytes_eq w.text word)
    → IsSoFar text word (end + (length h.text + length w.text)) more behind
more_words text word end has more rest behind h w s is hyphen letter parts same =
    let left = joined_words (tokens 0 behind) in
    let step : joined_words (tokens 0 rest) ≡ h ∷ w ∷ left = joined h w (tokens 0 behind) (tokens 0 rest) is hyphen letter in
    let front = take end text in
    let long : length front ≡ end = length-take-le end text (omega (arith, s.size)) in
    let now = front ++ (h.text ++ w.text) in
    let all : now ++ behind ≡ text
    = append_assoc front (h.text ++ w.text) behind ∙ ap (λ (x : List ℕ). front ++ x) (append_assoc h.text w.text behind)
    ∙ ap (λ (x : List ℕ). front ++ x) (sym parts) ∙ s.whole in
    let size : length now ≡ end + (length h.text + length w.text)
    = length-append front (h.text ++ w.text) ∙ omega (arith, long, length-append h.text w.text) in
    let taken : take (end + (length h.text + length w.text)) text ≡ now = front_is now behind text _ all size in
    let rest_size : length rest ≡ length h.text + (length w.text + length behind)
    = ap length parts ∙ length-append h.text (w.text ++ behind)
    ∙ ap (λ (n : ℕ). length h.text + n) (length-append w.text behind) in
    record {
      whole = rw taken all;
      size = omega (arith, s.size, rest_size);
      name =
          s.name ∙ ap (λ (x : List Piece). front ++ spelled x) step
          ∙ ap (λ (x : List ℕ). front ++ x) (sym (append_assoc h.text w.text (spelled left)))
          ∙ sym (append_assoc front (h.text ++ w.text) (spelled left))
          ∙ ap (λ (x : List ℕ). x ++ spelled left) (sym taken);
      found =
          s.found ∙ ap (λ (x : List Piece). has || has_word word x) step
          ∙ rw (no_word h.kind hyphen, letter) (either has (bytes_eq w.text word) more (has_word word left) same);
      behind = s.behind ∙ rw (step, is) refl;
    }
