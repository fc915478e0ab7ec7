-- What the texts of meanings have, and what they lack.
use Rattle.std.proofs.Common.{◌≡◌, ◌≢◌, ◌<◌, ◌≤◌, ◌^◌, ◌++◌, ◌∙◌, ℕ, suc, Bool, true, false, List, [], ◌∷◌}
use Rattle.std.proofs.Common.{ap, append-nil, arith, get_or, length, length-append, refl, sym, ℤ, pos, negsuc}
use Rattle.std.proofs.Common.{FitsSigned, w16, if◌then◌else◌, Bor, MatchOption, Option, drop}
use lib.Signed.{mag}
use Rattle.std.specs.Fmt.{decimal, signed_decimal}
use Rattle.std.specs.Ordering.{int_eq}
use Rattle.std.specs.Str.Pattern.{FindsTextPrefix, StripsPrefix}
use Rattle.std.proofs.Math.Seq.{drop-append_seam, get_or-append_seam}
use Rattle.std.proofs.lemmas.Fmt.{decimal_is_IsNumeral, signed_decimal_injective}
use Rattle.std.proofs.lemmas.Int.{ints}
use Rattle.std.proofs.lemmas.Str.Parse.{digit_at}
use Rattle.std.proofs.lemmas.Str.Pattern.{IsSplitOnceResult, split_after}
use Rattle.sheets.specs.NameMeanings.{IsFewDays, day_name}

-- a byte is at no place of a text
abbrev pub Lacks : ℕ → List ℕ → Type 0
Lacks c text = (i : ℕ) → i < length text → get_or text i 0 ≢ c

-- a number in decimal has digits alone
pub decimal_lacks : (n c : ℕ) → n < 2 ^ 64 → c < 48 → Lacks c (decimal n)
decimal_lacks n c few small i lt =
    let (low, high) = digit_at (decimal n) i (decimal_is_IsNumeral n few).0.1 lt in
    omega arith

-- what a field says behind a word: a number, and more behind the first character of a kind
pub parts_said : (c : ℕ) (word field rest : List ℕ) (number : ℕ) (behind : List ℕ)
    (parts : Option (Bor (List ℕ) × Bor (List ℕ))) → StripsPrefix (FindsTextPrefix word) field rest
    → IsSplitOnceResult c rest parts → number < 2 ^ 64 → c < 48 → field ≡ word ++ (decimal number ++ c ∷ behind)
    → MatchOption parts ⊥ (λ p. (p.0.now ≡ decimal number) × (p.1.now ≡ behind))
parts_said c word field rest number behind parts (n, finds, dropped, long) split few small is =
    split_after c rest (decimal number) behind parts split (omega arith)
    (dropped ∙ ap (λ (k : ℕ). drop k field) finds.0 ∙ ap (drop (length word)) is
    ∙ drop-append_seam word (decimal number ++ c ∷ behind)) (decimal_lacks number c few small)

-- where a text is cut at the first byte of a kind is one place
pub first_same : (c : ℕ) (a x b y : List ℕ) → Lacks c a → Lacks c x → a ++ c ∷ b ≡ x ++ c ∷ y → (a ≡ x) × (b ≡ y)
first_same c [] [] b y la lx e = (refl, cc)
first_same c [] (d ∷ x) b y la lx e = absurd (lx 0 (omega arith) (cc))
first_same c (d ∷ a) [] b y la lx e = absurd (la 0 (omega arith) (cc))
first_same c (d ∷ a) (k ∷ x) b y la lx e =
    let rest : a ++ c ∷ b ≡ x ++ c ∷ y = cc in
    let (front, behind) = first_same c a x b y (λ i lt. la (suc i) (omega arith)) (λ i lt. lx (suc i) (omega arith)) rest in
    (cc, behind)

pub stands : (c : ℕ) (a b text : List ℕ) → text ≡ a ++ c ∷ b → Lacks c text → ⊥
stands c a b text is none =
    none (length a) (omega (arith, ap length is, length-append a (c ∷ b)))
    (ap (λ (t : List ℕ). get_or t (length a) 0) is ∙ get_or-append_seam a c b 0)

-- a day with no blank has no days behind it
plain_by : (none : Bool) (text : List ℕ) (day : ℕ) (days : ℤ) → Lacks 32 text
    → text ≡ decimal day ++ (if none then [] else (32 ∷ signed_decimal days)) → text ≡ decimal day
plain_by true text day days lack is = is ∙ append-nil (decimal day)
plain_by false text day days lack is = absurd (stands 32 (decimal day) (signed_decimal days) text is lack)

pub plain_day : (text : List ℕ) (day : ℕ) (days : ℤ) → Lacks 32 text → text ≡ day_name day days → text ≡ decimal day
plain_day text day days = plain_by (int_eq days (pos 0)) text day days

-- a day with a blank has days behind it, which are not 0
parted_by : (none : Bool) (text a b : List ℕ) (day : ℕ) (days : ℤ) → day ≤ 31 → text ≡ a ++ 32 ∷ b → Lacks 32 a
    → text ≡ decimal day ++ (if none then [] else (32 ∷ signed_decimal days))
    → (a ≡ decimal day) × (b ≡ signed_decimal days) × (none ≡ false)
parted_by true text a b day days few cut lack is =
    absurd (stands 32 a b (decimal day) (sym (append-nil (decimal day)) ∙ sym is ∙ cut)
    (decimal_lacks day 32 (omega arith) (omega arith)))
parted_by false text a b day days few cut lack is =
    let (front, behind) = first_same 32 a (decimal day) b (signed_decimal days) lack
    (decimal_lacks day 32 (omega arith) (omega arith)) (sym cut ∙ is) in
    (front, behind, refl)

pub parted_day : (text a b : List ℕ) (day : ℕ) (days : ℤ) → day ≤ 31 → text ≡ a ++ 32 ∷ b → Lacks 32 a
    → text ≡ day_name day days → (a ≡ decimal day) × (b ≡ signed_decimal days) × (int_eq days (pos 0) ≡ false)
parted_day text a b day days = parted_by (int_eq days (pos 0)) text a b day days

pub few_mag : (number : ℤ) → IsFewDays number → mag number < 2 ^ 63
few_mag (pos n) (low, high) = omega (arith, ints)
few_mag (negsuc n) (low, high) = omega (arith, ints)

pub fits_mag : (number : ℤ) → FitsSigned w16 number → mag number < 2 ^ 63
fits_mag (pos n) fits = omega (arith, ints)
fits_mag (negsuc n) fits = omega (arith, ints)

-- a text says one number of days
pub same_days : (text : List ℕ) (a b : ℤ) → mag a < 2 ^ 63 → IsFewDays b → text ≡ signed_decimal a
    → text ≡ signed_decimal b → a ≡ b
same_days text a b small few one other = signed_decimal_injective a b small (few_mag b few) (sym one ∙ other)
