-- The stripes of a source, one after the other: lists of them, what is dealt to them, and what was taken from them.
use Rattle.std.proofs.Common.{◌-◌, ◌==◌, eq-eqb, ne_eqb}
use Rattle.register_run.proofs.Common.{rules, ◌≡◌, ◌∙◌, ◌+◌, ◌++◌, ◌∷◌, [], ℕ, List, ap, append_assoc, arith, length}
use Rattle.register_run.proofs.Common.{map, refl, replicate, get_or, set, subst, sym, All, append-nil, ◌<◌, zero, suc}
use Rattle.register_run.proofs.Common.{Err, Ok, OnErr, OnOk, Result, false, is_err, true, inl, inr, Bool}
use Rattle.register_run.proofs.Common.{replicate-append-replicate, AreSameStripes, IsSameStripe, map-append, AllZip}
use Rattle.register_run.proofs.Common.{Contains, Closed, Sender, Item, sent, Numbered, entry_seen, Entry, AreDealt}
use Rattle.register_run.proofs.Common.{HasEnded, WereDealt, carried, dealt, turn, World, HasConfirmation, all_sent}
use Rattle.register_run.proofs.Common.{sender_lane, taken, Row, Stripe, AnyTook, HasPassedOn, HavePassedOn}
use Rattle.register_run.proofs.Common.{stripe_setup, feeding_lane, row_entries, rows_carried, AreOfLanes, IsOfGiven}
use Rattle.std.proofs.Math.Seq.{map-set_same}
use Rattle.std.proofs.lemmas.List.Elements.{All-push, All-filter, filter-append, All-contains, All-contains_itself}
use Rattle.std.proofs.lemmas.List.Elements.{All-head, All-tail}
use Rattle.lane_rings.specs.declared.item.Gone.{Gone}
use Rattle.lane_rings.specs.Items.{entries_in}
use Rattle.lane_rings.specs.declared.item.Item.TheVariants as item
use Rattle.date_texts.specs.declared.refusal.Refusal.TheVariants as refusal
use Rattle.register_run.specs.private.Stripes.{StripeTook}
use Rattle.register_run.proofs.CarriedLemmas.{one_more, entry_within, map_within, prefix_within}

-- one more, where each is made into another, which is the value that is seen
pub seen_more : {Y Z : Type 0} (h : Y → Z) (all done new : List Z) (one : Z) (left rest : List Y) (item : Y)
    → new ≡ done ++ one ∷ [] → one ≡ h item → left ≡ item ∷ rest → done ++ map h left ≡ all → new ++ map h rest ≡ all
seen_more h all done new one left rest item n s l e = rw (n, append_assoc, s) (rw l at e)

-- another one in the place of one, which is seen as the same value
pub set_same : {X Z : Type 0} (f : X → Z) (xs : List X) (i : ℕ) (new was : X) → f new ≡ f was → was ≡ get_or xs i was
    → map f (set xs i new) ≡ map f xs
set_same f xs i new was same here = map-set_same f xs i new was (same ∙ ap f here)

-- before the first, none is made
pub none_made : {Y Z : Type 0} (h : Y → Z) (all left : List Y) (done : List Z) → done ≡ [] → left ≡ all
    → done ++ map h left ≡ map h all
none_made h all left done none is = rw (none, is) refl

-- once none is left, all are made
pub all_made : {Y Z : Type 0} (h : Y → Z) (all done : List Z) (left : List Y) → length left ≡ 0
    → done ++ map h left ≡ all → done ≡ all
all_made h all done [] e p = sym (append-nil done) ∙ p
all_made h all done (item ∷ left) e p = absurd (omega arith)

-- one more at the end of each of two lists, which are seen as the same values
pub both_more : {X Y Z : Type 0} (f : X → Z) (h : Y → Z) (xs new : List X) (ys more : List Y) (x : X) (y : Y)
    → new ≡ xs ++ x ∷ [] → more ≡ ys ++ y ∷ [] → f x ≡ h y → map f xs ≡ map h ys → map f new ≡ map h more
both_more f h xs new ys more x y n m s e = search (rules, map-append)

-- what holds of each item of a list holds of each of one more
pub each_more : {X : Type 0} (P : X → Type 0) (xs new : List X) (x : X) → new ≡ xs ++ x ∷ [] → All P xs → P x
    → All P new
each_more P xs new x n each one = subst (All P) (sym n) (All-push P xs x each one)

-- one more at the end of a list of which all are seen as one value
pub all_more : {X Z : Type 0} (f : X → Z) (xs new : List X) (x : X) (z : Z) (n : ℕ) → new ≡ xs ++ x ∷ [] → f x ≡ z
    → map f xs ≡ replicate n z → map f new ≡ replicate (n + 1) z
all_more f xs new x z n more is all = rw (more, map-append, all, is) (replicate-append-replicate n 1 z)

-- ---- entries that the machine deals to the stripes

module _ (w : World) (given more : List Numbered) (e : Numbered) (is : more ≡ given ++ e ∷ []) where
  split : (i : ℕ) → dealt w i more ≡ dealt w i given ++ dealt w i (e ∷ [])
  split i = ap (λ (l : List Numbered). dealt w i l) is ∙ filter-append (λ n. turn w (n.number - 1) == i) given (e ∷ [])

  -- one more entry is dealt to the stripe that has the turn, and to no other
  pub dealt_own : (i : ℕ) → turn w (e.number - 1) ≡ i → dealt w i more ≡ dealt w i given ++ e ∷ []
  dealt_own i own = rw (eq-eqb (turn w (e.number - 1)) i own) at (split i)

  pub dealt_other : (i : ℕ) → (turn w (e.number - 1) ≡ i → ⊥) → dealt w i more ≡ dealt w i given
  dealt_other i other = (rw (ne_eqb (turn w (e.number - 1)) i other) at (split i)) ∙ append-nil (dealt w i given)

  later : (i : ℕ) (senders : List (Sender Entry)) → turn w (e.number - 1) < i → AreDealt w i given senders
      → AreDealt w i more senders
  later i [] past all = tt
  later i (s ∷ rest) past all = grind (arith, dealt_other, later (i + 1) rest (omega (arith, past)) all.1)

  -- and is sent there
  pub dealt_set : (i at : ℕ) (senders : List (Sender Entry)) (new d : Sender Entry) → turn w (e.number - 1) ≡ i + at
      → carried (sent new) ≡ carried (sent (get_or senders at d)) ++ e ∷ [] → AreDealt w i given senders
      → AreDealt w i more (set senders at new)
  dealt_set i at [] new d on gains all = tt
  dealt_set i zero (s ∷ rest) new d on gains all = grind (arith, dealt_own, later)
  dealt_set i (suc at) (s ∷ rest) new d on gains all = (
    all.0 ∙ sym (dealt_other i (λ same. omega (arith, on, same))),
    dealt_set (i + 1) at rest new d (omega (arith, on)) gains all.1,
  )

-- nothing was sent yet
pub dealt_none : (w : World) (i : ℕ) (senders : List (Sender Entry)) → All (λ s. sent s ≡ []) senders
    → AreDealt w i [] senders
dealt_none w i [] fresh = tt
dealt_none w i (s ∷ rest) fresh = (
  ap (λ (l : List (Item Entry)). carried l) (All-head (λ s. sent s ≡ []) s rest fresh),
  dealt_none w (i + 1) rest (All-tail (λ s. sent s ≡ []) s rest fresh),
)

-- a sender that sent nothing more
pub dealt_same : (w : World) (i at : ℕ) (given : List Numbered) (senders : List (Sender Entry)) (new d : Sender Entry)
    → sent new ≡ sent (get_or senders at d) → AreDealt w i given senders → AreDealt w i given (set senders at new)
dealt_same w i at given [] new d same all = tt
dealt_same w i zero given (s ∷ rest) new d same all = (ap (λ (l : List (Item Entry)). carried l) same ∙ all.0, all.1)
dealt_same w i (suc at) given (s ∷ rest) new d same all =
    (all.0, dealt_same w (i + 1) at given rest new d same all.1)

-- one more entry was given, and sent where it is dealt
pub dealt_send : (w : World) (at : ℕ) (given more : List Numbered) (senders : List (Sender Entry))
    (new old : Sender Entry)
    (e : Entry) (r : Result (Unit {0}) (Gone (Unit {0}))) → old ≡ get_or senders at old → is_err r ≡ false
    → more ≡ given ++ entry_seen e ∷ [] → turn w (e.number - 1) ≡ at
    → OnOk r (sent new ≡ sent old ++ item.Entry e ∷ []) → AreDealt w 0 given senders
    → AreDealt w 0 more (set senders at new)
dealt_send w at given more senders new old e (Ok u) is sure m on ok all =
    dealt_set w given more (entry_seen e) m 0 at senders new old (on ∙ omega arith)
    (ap (λ (l : List Entry). map entry_seen l) (one_more (sent old) (sent new) e ok)
    ∙ map-append entry_seen (entries_in (sent old)) (e ∷ [])
    ∙ ap (λ (s : Sender Entry). carried (sent s) ++ entry_seen e ∷ []) is) all
dealt_send w at given more senders new old e (Err g) is sure m on ok all = cc

-- an entry was not sent
pub dealt_unsent : (w : World) (at : ℕ) (given : List Numbered) (senders : List (Sender Entry)) (new old : Sender Entry)
    (r : Result (Unit {0}) (Gone (Unit {0}))) → old ≡ get_or senders at old → is_err r ≡ true
    → OnErr r (sent new ≡ sent old) → AreDealt w 0 given senders
    → AreDealt w 0 given (set senders at new)
dealt_unsent w at given senders new old r is sure gone all = grind (arith, dealt_same)

-- the lanes were ended
pub dealt_ended : (w : World) (i : ℕ) (given : List Numbered) (senders : List (Sender Entry))
    (closed : List (Closed Entry)) → AllZip HasEnded senders closed → AreDealt w i given senders
    → WereDealt w i given closed
dealt_ended w i given senders [] ends all = tt
dealt_ended w i given [] (c ∷ closed) ends all = absurd ends
dealt_ended w i given (s ∷ senders) (c ∷ closed) ends all =
    (λ sure. ends.0.sent sure ∙ all.0, dealt_ended w (i + 1) given senders closed ends.1 all.1)

-- what is dealt is of what is given
pub dealt_within : (w : World) (i : ℕ) (given : List Numbered) (e : Numbered) → Contains (dealt w i given) e
    → Contains given e
dealt_within w i given e h =
    All-contains (Contains given) (dealt w i given) e
    (All-filter (λ (n : Numbered). turn w (n.number - 1) == i) (Contains given) given (All-contains_itself given)) h

-- ---- rows that were taken from one of several stripes, and what is left of the senders of several lanes

pub any_set : (stripes : List Stripe) (i : ℕ) (new d : Stripe) (row : Row)
    → (StripeTook (get_or stripes i d) row → StripeTook new row) → AnyTook stripes row → AnyTook (set stripes i new) row
any_set [] i new d row kept h = h
any_set (stripe ∷ rest) zero new d row kept (inl a) = inl (kept a)
any_set (stripe ∷ rest) zero new d row kept (inr b) = inr b
any_set (stripe ∷ rest) (suc i) new d row kept (inl a) = inl a
any_set (stripe ∷ rest) (suc i) new d row kept (inr b) = inr (any_set rest i new d row kept b)

-- one stripe was called where it stands among others
pub same_stripes : (stripes : List Stripe) (at : ℕ) (new was : Stripe) → was ≡ get_or stripes at was
    → IsSameStripe was new → AreSameStripes stripes (set stripes at new)
same_stripes stripes at new was here same = record {
  lanes = set_same feeding_lane stripes at new was same.lane here;
  setups = set_same stripe_setup stripes at new was same.setup here;
  kept = λ row h. any_set stripes at new was row
      (λ a. same.kept row (subst (λ x. StripeTook x row) (sym here) a)) h;
}

pub any_here : (stripes : List Stripe) (i : ℕ) (d : Stripe) (row : Row) → i < length stripes
    → StripeTook (get_or stripes i d) row → AnyTook stripes row
any_here [] i d row below h = absurd (omega arith)
any_here (stripe ∷ rest) zero d row below h = inl h
any_here (stripe ∷ rest) (suc i) d row below h = inr (any_here rest i d row (omega arith) h)

-- the same of two lists, place by place
module _ {X Y : Type 0} (P : X → Y → Type 0) where
  none_left : (left : List X) → length left ≡ 0 → AllZip P left []
  none_left [] e = tt
  none_left (x ∷ rest) e = absurd (omega arith)

  pub zip_end : (all left : List X) (ys : List Y) → length left ≡ 0
      → ((more : List Y) → AllZip P left more → AllZip P all (ys ++ more)) → AllZip P all ys
  zip_end all left ys e k = subst (λ l. AllZip P all l) (append-nil ys) (k [] (none_left left e))

-- what is left of senders is that of their lanes
pub ended_lanes : (senders : List (Sender Entry)) (closed : List (Closed Entry)) → AllZip HasEnded senders closed
    → AreOfLanes (map sender_lane senders) closed
ended_lanes (s ∷ senders) (c ∷ closed) h = (h.0.lane, ended_lanes senders closed h.1)
ended_lanes senders closed h = h

-- stripes that are joined one after the other, with what is left of the senders that fed them
pub end_passed : (left : List Stripe) (left' : List (Closed Entry)) → length left ≡ 0
    → AreOfLanes (map feeding_lane left) left' → (b : Bool) → HavePassedOn b left left'
end_passed [] [] e from b = tt
end_passed [] (c ∷ closed) e from b = from
end_passed (stripe ∷ left) left' e from b = absurd (omega arith)

-- each row that was taken is of an entry that was given
took_one : (given : List Numbered) (w : World) (i : ℕ) (b : Bool) (stripe : Stripe) (closed : Closed Entry) (row : Row)
    → HasPassedOn b stripe closed → (HasConfirmation closed → carried (all_sent closed) ≡ dealt w i given)
    → StripeTook stripe row → IsOfGiven given row
unfolding StripeTook
took_one given w i b stripe closed row on deals took =
    let took' : Contains (taken stripe.rows) (item.Entry row) =
    subst (λ l. Contains l (item.Entry row)) (append-nil (taken stripe.rows))
    (subst (λ l. Contains (taken stripe.rows ++ l) (item.Entry row)) on.none_waits took) in
    let made : Contains (rows_carried (taken stripe.rows)) (entry_seen row.entry) =
    map_within entry_seen (row_entries (taken stripe.rows)) row.entry
    (map_within (λ (r : Row). r.entry) (entries_in (taken stripe.rows)) row
    (entry_within (taken stripe.rows) row took')) in
    let sent' = prefix_within (rows_carried (taken stripe.rows)) (carried (all_sent closed)) (entry_seen row.entry)
    on.first
    made in
    dealt_within w i given (entry_seen row.entry)
    (subst (λ l. Contains l (entry_seen row.entry)) (deals on.confirmed) sent')

pub took_given : (given : List Numbered) (w : World) (i : ℕ) (b : Bool) (stripes : List Stripe)
    (closed : List (Closed Entry)) (row : Row) → HavePassedOn b stripes closed → WereDealt w i given closed
    → AnyTook stripes row → IsOfGiven given row
took_given given w i b [] closed row on deals h = absurd h
took_given given w i b (stripe ∷ stripes) [] row on deals h = absurd on
took_given given w i b (stripe ∷ stripes) (c ∷ closed) row on deals (inl here) =
    took_one given w i b stripe c row on.0 deals.0 here
took_given given w i b (stripe ∷ stripes) (c ∷ closed) row on deals (inr there) =
    took_given given w (i + 1) b stripes closed row on.1 deals.1 there

pub took_dealt : (given : List Numbered) (b : Bool) (stripes : List Stripe) (closed : List (Closed Entry))
    → ((w : World) → w.converters ≡ length closed → WereDealt w 0 given closed) → HavePassedOn b stripes closed
    → (row : Row) → AnyTook stripes row → IsOfGiven given row
took_dealt given b stripes closed deals on row took =
    let w : World = record {
      entries = [];
      row_of = λ e. record { number = e.number; body = e.body; outcome = Err refusal.NotUtf8; cells = [] };
      converters = length closed;
      ring = 1;
    } in
    took_given given w 0 b stripes closed row on (deals w refl) took
