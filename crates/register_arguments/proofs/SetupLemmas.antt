-- What the arguments ask for fits a setup: numbers within their limits, and each target once, the default ones too,
-- since their names differ.
use Rattle.std.proofs.Common.{◌≡◌, ◌&&◌, ℕ, true, nat_le, refl, rules, ◌∙◌, ◌<◌, false, List, [], length, map}
use Rattle.std.proofs.Common.{sym, ap, arith, Some, None, Option, Result, Err, inl, inr, true≢false, get_or, Bool}
use Rattle.std.specs.Prelude.{if◌then◌else◌, option_and_then, unwrap_or}
use Rattle.std.specs.List.{IsDistinct}
use Rattle.std.specs.Option.{ForSome}
use Rattle.std.proofs.lemmas.List.{get_or-map}
use Rattle.std.proofs.lemmas.Map.Made.{AllPairs-from_IsDistinct}
use Rattle.std.proofs.lemmas.Option.{slice_get-get_or}
use Rattle.std.specs.Str.{bytes_eq}
use Rattle.std.proofs.lemmas.Slice.Eq.{bytes_eq-Decides}
use Rattle.clap.specs.Words.{Text}
use Rattle.programs.proofs.ValueLemmas.{none_some, number_within}
use Rattle.programs.specs.Values.{byte_of, number_of}
use Rattle.date_texts.specs.declared.target.Target.TheVariants.{Haab}
use Rattle.date_texts.specs.Calendars.{default_targets, target_name}
use Rattle.date_texts.specs.declared.target.Target.{Target}
use Rattle.register_records.specs.Records.{has_notes}
use Rattle.register_records.specs.declared.setups.Form.TheVariants.{Plain, Sealed}
use Rattle.register_records.specs.SetupRules.{NamesTwice, is_delimiter, is_ring_size, is_stripe_count}
use Rattle.register_records.specs.declared.setups.Setup.{Setup}
use Rattle.register_records.specs.declared.setups.SetupFault.{SetupFault}
use Rattle.register_records.specs.declared.setups.SetupFault.TheVariants.{TargetTwice, RingSize, Delimiter, Stripes}
use Rattle.programs.specs.declared.values.Delimiter.{Delimiter as DelimiterWord}
use Rattle.register_arguments.specs.Requests.{AreTargetsOf}
use Rattle.register_arguments.proofs.ListLemmas.{never_twice}

-- a number that a word names is from 1 to the most
pub number_fits : (most : ℕ) (word : Option Text) (number : Option ℕ) → number ≡ option_and_then (number_of most) word
    → ForSome number (λ n. (nat_le 1 n && nat_le n most) ≡ true)
number_fits most None number is n some = let bad : None ≡ Some n = cc in absurd (none_some n bad)
number_fits most (Some word) number is n some = number_within most word n (sym is ∙ some)

-- a table has notes where its register has seals
pub notes_by : (sealed : Bool) → has_notes (if sealed then Sealed else Plain) ≡ sealed
notes_by sealed = grind arith

names_distinct : IsDistinct bytes_eq (map target_name default_targets)
unfolding IsDistinct
names_distinct = search rules

default_once : ¬ NamesTwice default_targets
default_once (i, j, lt, high, same) =
    let low : i < length default_targets = omega arith in
    let is : get_or default_targets i Haab ≡ get_or default_targets j Haab =
    cc (slice_get-get_or default_targets i Haab low, slice_get-get_or default_targets j Haab high) in
    AllPairs-from_IsDistinct bytes_eq-Decides (map target_name default_targets) names_distinct i j [] lt high
    (get_or-map target_name default_targets i Haab [] low ∙ ap target_name is
    ∙ sym (get_or-map target_name default_targets j Haab [] high))

-- the targets asked for are each named once
pub asked_once : (value : Option (List ℕ)) (targets : List Target) → AreTargetsOf value targets → ¬ NamesTwice targets
asked_once None targets is = rw is default_once
asked_once (Some list) targets (inl none) = rw none.1 never_twice
asked_once (Some list) targets (inr named) = named.2

-- the byte of a delimiter separates fields
pub separates : (word : DelimiterWord) → is_delimiter (byte_of word) ≡ true
separates word = grind arith

-- so there is such a setup
pub no_fault : (made : Result Setup SetupFault) (fault : SetupFault) (targets : List Target) (ring byte stripes : ℕ)
    → made ≡ Err fault → (¬ NamesTwice targets)
    → is_ring_size ring ≡ true → is_delimiter byte ≡ true → (made ≡ Err TargetTwice → NamesTwice targets)
    → (made ≡ Err RingSize → is_ring_size ring ≡ false)
    → (made ≡ Err Delimiter → is_delimiter byte ≡ false) → is_stripe_count stripes ≡ true
    → (made ≡ Err Stripes → is_stripe_count stripes ≡ false) → ⊥
no_fault made TargetTwice targets ring byte stripes is once fits cuts twice size other few many = once (twice is)
no_fault made RingSize targets ring byte stripes is once fits cuts twice size other few many = grind (arith, true≢false)
no_fault made Delimiter targets ring byte stripes is once fits cuts twice size other few many = search rules
no_fault made Stripes targets ring byte stripes is once fits cuts twice size other few many = search (rules, true≢false)

-- a number that is written fits, and so does the one in its place
pub or_fits : (fits : ℕ → Bool) (written : Option ℕ) (other : ℕ) → ForSome written (λ n. fits n ≡ true)
    → fits other ≡ true → fits (unwrap_or written other) ≡ true
or_fits fits None other few is = is
or_fits fits (Some n) other few is = few n refl
