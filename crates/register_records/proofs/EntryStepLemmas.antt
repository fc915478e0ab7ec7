-- The records of a text, one after the other, and what a read of csv's reader does to those that are left.
use Rattle.std.proofs.Common.{◌≡◌, ℕ, suc, ◌+◌, ◌-◌, ◌<◌, ◌≤◌, Bool, true, List, [], ◌∷◌, ◌++◌, length, if◌then◌else◌}
use Rattle.std.proofs.Common.{Some, None, Option, option_map, refl, ◌∙◌, add-one, arith, rules}
use Rattle.register_records.proofs.Common.{rows-end, rows-more, records_from, strip_bom, Reader, Fields}
use Rattle.csv.specs.Machine.{Read, ends_at_end, fields_after, is_end, next_record, step}
use Rattle.csv.specs.Reading.{records_next, default_config, reader_config, ReadRecord, Reached, reader_state, source_of}
use Rattle.register_records.specs.ReadingState.{all_after, records_left}
use Rattle.register_records.specs.private.ReadingState.{Reads, TakesFirst}
use Rattle.csv.specs.declared.parser.State.TheVariants as st
use Rattle.csv.specs.declared.parser.Config.{Config}
use Rattle.csv.specs.declared.parser.State.{State}
use Rattle.register_records.specs.Entries.{text_records}

-- one of two ways to a record
either_way : (b : Bool) (first : Read) (more : Option Read) (p : Read) (n : ℕ)
    → (if b then Some first else more) ≡ Some p → length first.2 ≤ n
    → ((q : Read) → more ≡ Some q → length q.2 ≤ n) → length p.2 ≤ n
either_way b first more p n e h g = search rules

-- a record leaves no more than there was, and takes a byte where there is one
takes : (cfg : Config) (xs : List ℕ) (s : State) (fs : Fields) (f : List ℕ) (p : Read)
    → next_record cfg s fs f xs ≡ Some p → length p.2 ≤ length xs - 1
unfolding next_record
takes cfg [] s fs f p e =
    either_way (ends_at_end s) (fs ++ (f ∷ []), st.StartRecord, []) None p 0 e (omega arith) (λ q x. cc)
takes cfg (c ∷ rest) s fs f p e =
    let h =
    either_way (is_end (step cfg s c).1) (fields_after (step cfg s c).1 fs f, (step cfg s c).0, rest) _ p
    (length rest) e (omega arith) (λ q x. let few = takes cfg rest _ _ _ q x in omega (arith, few))
    in omega (arith, h)

-- nothing is left of no text
none_left : (cfg : Config) (n : ℕ) → records_from cfg n st.StartRecord [] ≡ []
unfolding records_from next_record
none_left cfg n = search rules

-- at the end of a text there is one record at most, and then none
end_state : (b : Bool) (first : Fields) (p : Read) → (if b then Some (first, st.StartRecord, []) else None) ≡ Some p
    → (p.1 ≡ st.StartRecord) × (p.2 ≡ [])
end_state b first p e = search rules

after_end : (cfg : Config) (s : State) (p : Read) (n : ℕ) → next_record cfg s [] [] [] ≡ Some p
    → records_from cfg n p.1 p.2 ≡ []
unfolding next_record
after_end cfg s p n e = let h = end_state (ends_at_end s) ([] ∷ []) p e in rw (h.0, h.1) (none_left cfg n)

-- what two counts of turns do alike
next_alike : (more other : State → List ℕ → List Fields) (o : Option Read)
    → ((p : Read) → o ≡ Some p → more p.1 p.2 ≡ other p.1 p.2) → records_next more o ≡ records_next other o
next_alike more other o h = search rules

-- turns enough are turns enough
stable : (cfg : Config) (n m : ℕ) (s : State) (xs : List ℕ) → length xs < n → length xs < m
    → records_from cfg n s xs ≡ records_from cfg m s xs
unfolding records_from
stable cfg (suc n) (suc m) s (c ∷ rest) a b =
    next_alike (records_from cfg n) (records_from cfg m) (next_record cfg s [] [] (c ∷ rest))
    (λ p e. let h = takes cfg (c ∷ rest) s [] [] p e in stable cfg n m p.1 p.2 (omega (arith, h)) (omega (arith, h)))
stable cfg n m s xs a b = search (rules, next_alike, after_end, takes)

-- the first turn
first_turn : (cfg : Config) (s : State) (xs : List ℕ)
    → all_after cfg s xs ≡ records_next (records_from cfg (length xs)) (next_record cfg s [] [] xs)
unfolding records_from
first_turn cfg s xs = rw add-one refl

-- the next record, and those after it
pub all_more : (cfg : Config) (s : State) (xs : List ℕ) (p : Read) → next_record cfg s [] [] xs ≡ Some p
    → all_after cfg s xs ≡ p.0 ∷ all_after cfg p.1 p.2
all_more cfg s [] p e = grind (arith, first_turn cfg s [], after_end cfg s p 0 e, after_end cfg s p (length p.2 + 1) e)
all_more cfg s (c ∷ rest) p e = grind (arith, takes cfg (c ∷ rest) s [] [] p e, first_turn, stable)

-- none
pub all_none : (cfg : Config) (s : State) (xs : List ℕ) → next_record cfg s [] [] xs ≡ None → all_after cfg s xs ≡ []
all_none cfg s xs e = first_turn cfg s xs ∙ rw e refl

one_record : (cfg cfg2 : Config) (s s2 : State) (y z : List ℕ) (f : Fields) → cfg2 ≡ cfg → Reached cfg s y (f ∷ []) s2 z
    → all_after cfg s y ≡ f ∷ all_after cfg2 s2 z
unfolding Reached
one_record cfg cfg2 s s2 y z f e h = search (rules, all_more)

nothing_yet : (cfg : Config) (s : State) (y : List ℕ) → Reached cfg s y [] s y
unfolding Reached
nothing_yet cfg s y = (refl, refl)

-- a read that found a record
pub read_more : {R : Type 0} (rem : R → Option (List ℕ)) (a b : Reader R) (f : Fields) → ReadRecord rem a b true f
    → TakesFirst (records_left rem a) (records_left rem b) f
read_more {R = R} rem a b f r = by (source_of rem a) refl
  where
    by : (o : Option (List ℕ)) → source_of rem a ≡ o
        → TakesFirst (option_map (all_after a.config a.state) o) (records_left rem b) f
    by None e = tt
    by (Some y) e =
        let m = rows-more rem a b f a.config a.state y y [] refl e (nothing_yet a.config a.state y) r in
        rw m.1 (one_record a.config b.config a.state b.state y m.0 f r.2 m.2)

-- a read of either kind
pub reads : {R : Type 0} (rem : R → Option (List ℕ)) (a b : Reader R) (found : Bool) (f : Fields)
    → ReadRecord rem a b found f → Reads (records_left rem a) (records_left rem b) found f
reads rem a b found f r = search (rules, read_more, all_none, rows-end)

-- the records of a text, at a reader that is at its start
pub at_start : {R : Type 0} (rem : R → Option (List ℕ)) (a : Reader R) (d : ℕ) (o : Option (List ℕ))
    → reader_config a ≡ record default_config { delimiter = d } → reader_state a ≡ st.StartRecord
    → source_of rem a ≡ option_map strip_bom o → records_left rem a ≡ option_map (text_records d) o
at_start rem a d o config state source = search rules
