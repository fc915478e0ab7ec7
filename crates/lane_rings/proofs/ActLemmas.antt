-- Each act changes nothing, or takes one entry one place forward and keeps the invariant.
use Rattle.std.proofs.Common.{rules, ◌≡◌, ◌<◌, ◌+◌, ◌++◌, ℕ, suc, List, [], ◌∷◌, length, Option, Some, None, refl, sym}
use Rattle.std.proofs.Common.{ap, ◌∙◌, arith, append_assoc, map, option_to_list, ◌%◌, slice_get, ltb-true}
use Rattle.std.proofs.Common.{lt-ltb, append-nil, length-append}
use Rattle.std.proofs.lemmas.List.{length-map, length_push, map-append}
use Rattle.std.proofs.lemmas.Nat.{mod_below}
use Rattle.lane_rings.specs.Machine.{World, Stripe, State, Actor, Reader, Converter, Writer}
use Rattle.lane_rings.specs.Machine.{act, turn, with_stripe}
use Rattle.lane_rings.proofs.InvariantLemmas.{Holds, Kept, Steps, StaysOrSteps, weight, put_holds, put_further}
use Rattle.lane_rings.proofs.InvariantLemmas.{slice_get_rest, first_is, map_first}
use Rattle.lane_rings.proofs.PartLemmas.{part, part_append, part_head, part_other, part_own, part_within}

-- the state that each act gives where it changes something
abbrev after_push : {E R : Type 0} → State E R → ℕ → E → State E R
after_push s i x =
    record (with_stripe s i (record (s.stripes i) { entry_lane = (s.stripes i).entry_lane ++ x ∷ [] })) {
      pushed = s.pushed + 1;
    }

abbrev after_pop : {E R : Type 0} → State E R → ℕ → R → List R → State E R
after_pop s i row lane =
    record (with_stripe s i (record (s.stripes i) { row_lane = lane })) { popped = s.popped ++ row ∷ [] }

module _ {E R : Type 0} (w : World E R) (some_converters : 0 < w.converters) (s : State E R) (v : Kept w s) where
  -- the reader
  push_steps : (i : ℕ) (x : E) → i ≡ turn w s.pushed → slice_get w.entries s.pushed ≡ Some x
      → length (s.stripes i).entry_lane < w.ring → Steps w s (after_push s i x)
  push_steps i x on_turn e room =
      let c = w.converters in
      let t = s.stripes i in
      let u : Stripe E R = record t { entry_lane = t.entry_lane ++ x ∷ [] } in
      let d = length v.done in
      let all : w.entries ≡ (v.done ++ v.between) ++ v.left =
      v.entries ∙ sym (append_assoc v.done v.between v.left) in
      let at : s.pushed ≡ length (v.done ++ v.between) = v.pushed ∙ sym (length-append v.done v.between) in
      let next : slice_get v.left 0 ≡ Some x =
      sym (slice_get_rest (v.done ++ v.between) v.left) ∙ (rw (all, at) at e) in
      let (more, left_is) = first_is v.left x next in
      let k = v.stripes i in
      let split : (j : ℕ) → part c j d (v.between ++ x ∷ []) ≡ part c j d v.between ++ part c j s.pushed (x ∷ []) =
      λ j. rw v.pushed (part_append c j d v.between (x ∷ [])) in
      let own : Holds w (part c i d (v.between ++ x ∷ [])) u =
      record {
        converted = k.converted;
        rows = k.rows;
        all = rw (split i, part_own c i s.pushed x [] (sym on_turn), ← k.all, append_assoc, append_assoc) refl;
        room = omega (arith, room, length_push t.entry_lane x);
        row_room = k.row_room;
      } in
      let others : (j : ℕ) → (j ≡ i → ⊥) → Holds w (part c j d (v.between ++ x ∷ [])) (s.stripes j) =
      λ j n.
      rw (split j, part_other c j s.pushed x [] (λ q. n (sym (on_turn ∙ q))), append-nil (part c j d v.between))
      (v.stripes j) in
      let grown = put_further w s.stripes i u (omega (arith, on_turn, mod_below s.pushed c some_converters)) in
      record {
        kept = record {
          done = v.done;
          between = v.between ++ x ∷ [];
          left = more;
          entries = rw (append_assoc v.between (x ∷ []) more, ← left_is) v.entries;
          pushed = omega (arith, v.pushed, length_push v.between x);
          popped = v.popped;
          stripes = put_holds w (λ j. part c j d (v.between ++ x ∷ [])) s.stripes i u own others;
        };
        further = omega (arith, grown, length_push t.entry_lane x);
      }

  -- a converter
  stripe_steps : (i : ℕ) (u : Stripe E R) → 0 < length (part w.converters i (length v.done) v.between)
      → Holds w (part w.converters i (length v.done) v.between) u → weight u ≡ weight (s.stripes i) + 1
      → Steps w s (with_stripe s i u)
  stripe_steps i u some k e =
      let c = w.converters in
      let d = length v.done in
      let stripes = put_holds w (λ j. part c j d v.between) s.stripes i u k (λ j n. v.stripes j) in
      let further = put_further w s.stripes i u (part_within c i d v.between some_converters some) in
      search (rules, stripes, further)

  pop_entry_steps : (i : ℕ) (x : E) (lane : List E) → (s.stripes i).entry_lane ≡ x ∷ lane
      → (s.stripes i).hand ≡ None
      → Steps w s (with_stripe s i (record (s.stripes i) { entry_lane = lane; hand = Some x }))
  pop_entry_steps i x lane lane_is hand_is =
      let t = s.stripes i in
      let k = v.stripes i in
      let all : k.converted ++ (x ∷ lane) ≡ part w.converters i (length v.done) v.between =
      rw (hand_is, lane_is) at k.all in
      let lane_long : length t.entry_lane ≡ suc (length lane) = ap length lane_is in
      let none : length (option_to_list t.hand) ≡ 0 =
      ap (λ (o : Option E). length (option_to_list o)) hand_is in
      stripe_steps i (record t { entry_lane = lane; hand = Some x })
      (omega (arith, ap length all, length-append k.converted (x ∷ lane)))
      (search rules)
      (omega (arith, lane_long, none))

  push_row_steps : (i : ℕ) (x : E) → (s.stripes i).hand ≡ Some x → length (s.stripes i).row_lane < w.ring
      → Steps w s
      (with_stripe s i (record (s.stripes i) { hand = None; row_lane = (s.stripes i).row_lane ++ w.row_of x ∷ [] }))
  push_row_steps i x hand_is room =
      let t = s.stripes i in
      let k = v.stripes i in
      let all : k.converted ++ (x ∷ t.entry_lane) ≡ part w.converters i (length v.done) v.between =
      rw hand_is at k.all in
      let one : length (option_to_list t.hand) ≡ 1 =
      ap (λ (o : Option E). length (option_to_list o)) hand_is in
      stripe_steps i (record t { hand = None; row_lane = t.row_lane ++ w.row_of x ∷ [] })
      (omega (arith, ap length all, length-append k.converted (x ∷ t.entry_lane)))
      (record {
        converted = k.converted ++ x ∷ [];
        rows = rw (map-append, k.rows) refl;
        all = append_assoc k.converted (x ∷ []) t.entry_lane ∙ all;
        room = k.room;
        row_room = omega (arith, room, length_push t.row_lane (w.row_of x));
      })
      (omega (arith, one, length_push t.row_lane (w.row_of x)))

  -- the writer
  pop_row_steps : (i : ℕ) (row : R) (lane : List R) → i ≡ turn w (length s.popped)
      → (s.stripes i).row_lane ≡ row ∷ lane → Steps w s (after_pop s i row lane)
  pop_row_steps i row lane on_turn e =
      let c = w.converters in
      let t = s.stripes i in
      let u : Stripe E R = record t { row_lane = lane } in
      let d = length v.done in
      let k = v.stripes i in
      let (x, out, out_is, row_is, lane_is) = map_first w.row_of k.converted row lane (sym e ∙ k.rows) in
      let popped_is : length s.popped ≡ d = ap length v.popped ∙ length-map v.done w.row_of in
      let own_turn : d % c ≡ i = rw (← popped_is) (sym on_turn) in
      let (more, between_is, rest_is) =
      part_head c i d v.between (out ++ (option_to_list t.hand ++ t.entry_lane)) x own_turn (rw out_is at k.all) in
      let count : length (v.done ++ x ∷ []) ≡ d + 1 = length_push v.done x in
      let long : length t.row_lane ≡ suc (length lane) = ap length e in
      let own : Holds w (part c i (length (v.done ++ x ∷ [])) more) u =
      record {
        converted = out;
        rows = lane_is;
        all = rw count rest_is;
        room = k.room;
        row_room = omega (arith, k.row_room, long);
      } in
      let others : (j : ℕ) → (j ≡ i → ⊥) → Holds w (part c j (length (v.done ++ x ∷ [])) more) (s.stripes j) =
      λ j n.
      let same : part c j d v.between ≡ part c j (d + 1) more =
      ap (λ (l : List E). part c j d l) between_is ∙ part_other c j d x more (λ q. n (sym q ∙ own_turn)) in
      rw count (rw same at (v.stripes j)) in
      let fewer = put_further w s.stripes i u (rw (← own_turn) (mod_below d c some_converters)) in
      record {
        kept = record {
          done = v.done ++ x ∷ [];
          between = more;
          left = v.left;
          entries = rw append_assoc (rw between_is at v.entries);
          pushed = omega (arith, v.pushed, count, ap length between_is);
          popped = rw (map-append, v.popped) (ap (λ (y : R). map w.row_of v.done ++ y ∷ []) row_is);
          stripes = put_holds w (λ j. part c j (length (v.done ++ x ∷ [])) more) s.stripes i u own others;
        };
        further = omega (arith, fewer, long, length_push s.popped row);
      }

  -- any actor
  pub act_stays_or_steps : (a : Actor) → StaysOrSteps w s (act w a s)
  act_stays_or_steps Reader = grind (arith, push_steps, ltb-true)
  act_stays_or_steps (Converter i) = grind (arith, pop_entry_steps, push_row_steps, ltb-true)
  act_stays_or_steps Writer = grind (arith, pop_row_steps)

  -- each act takes a step where it can
  pub reader_steps : (x : E) → slice_get w.entries s.pushed ≡ Some x
      → length (s.stripes (turn w s.pushed)).entry_lane < w.ring → Steps w s (act w Reader s)
  reader_steps x e room =
      rw (e, lt-ltb (length (s.stripes (turn w s.pushed)).entry_lane) w.ring room)
      (push_steps (turn w s.pushed) x refl e room)

  pub popping_converter_steps : (i : ℕ) (x : E) (lane : List E) → (s.stripes i).entry_lane ≡ x ∷ lane
      → (s.stripes i).hand ≡ None → Steps w s (act w (Converter i) s)
  popping_converter_steps i x lane lane_is hand_is = grind (arith, pop_entry_steps i x lane lane_is hand_is)

  pub pushing_converter_steps : (i : ℕ) (x : E) → (s.stripes i).hand ≡ Some x
      → length (s.stripes i).row_lane < w.ring → Steps w s (act w (Converter i) s)
  pushing_converter_steps i x hand_is room =
      rw (hand_is, lt-ltb (length (s.stripes i).row_lane) w.ring room) (push_row_steps i x hand_is room)

  pub writer_steps : (row : R) (lane : List R)
      → (s.stripes (turn w (length s.popped))).row_lane ≡ row ∷ lane → Steps w s (act w Writer s)
  writer_steps row lane e = rw e (pop_row_steps (turn w (length s.popped)) row lane refl e)
