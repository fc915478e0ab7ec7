-- What lanes carry: items, as they are seen and taken, and the rows of a converter.
use Rattle.std.proofs.Common.{lit<, take, take_at, MatchOption, eqb}
use Rattle.register_run.proofs.Common.{◌≡◌, ◌∙◌, ap, sym, subst, refl, List, [], ◌∷◌, ◌++◌, append_assoc, arith, ◌+◌}
use Rattle.register_run.proofs.Common.{length, length-append, rules, zero, suc, append-nil, ℕ, map, false, true, Option}
use Rattle.register_run.proofs.Common.{Some, Bool, Err, Ok, OnErr, OnOk, Result, is_err, get_or-map, length_push}
use Rattle.register_run.proofs.Common.{IsWhole, waiting, StartWithRow, HasEnd, Contains, Item, length-map, map-append}
use Rattle.register_run.proofs.Common.{HasConfirmation, Lane, all_sent, closed_lane, sender_lane, sent, taken, Closed}
use Rattle.register_run.proofs.Common.{Sender, Entry, Row, HasPassedOn, AreOfAllTaken, AreOfTaken, HasEnded}
use Rattle.register_run.proofs.Common.{carried, row_entries, rows_carried, IsConverting, Stripe, receiver_lane}
use Rattle.std.proofs.lemmas.List.Elements.{Contains-append_right, Contains-append_left}
use Rattle.std.specs.Option.{option_eq}
use Rattle.lane_rings.proofs.EndLemmas.{last_mark_append, entries_in_append}
use Rattle.lane_rings.specs.Items.{last_mark, entries_in}
use Rattle.lane_rings.specs.declared.item.Mark.TheVariants.{Counted, Stopped}
use Rattle.lane_rings.specs.declared.receiver.Receiver.{Receiver}
use mathlib.Core.List.{IsPrefix}
use Rattle.lane_rings.specs.declared.item.Gone.{Gone}
use Rattle.lane_rings.specs.declared.item.Item.TheVariants as item
use Rattle.register_run.specs.declared.converting.ConverterResult.{ConverterResult}

module _ {T : Type 0} where
  -- a look takes nothing, and what it saw before it sees still
  pub seen_kept : (old new seen more : List (Item T)) → new ≡ old → IsPrefix seen more → (y : Item T)
      → Contains (old ++ seen) y → Contains (new ++ more) y
  seen_kept old new seen more is (rest, all) y h =
      grind (arith, append_assoc old seen rest, Contains-append_left (old ++ seen) rest y h)

  pub same_seen : (old new : List (Item T)) → new ≡ old → (y : Item T) → Contains old y → Contains new y
  same_seen old new is y h = subst (λ l. Contains l y) (sym is) h

  -- what is next was seen
  pub seen_next : (old seen : List (Item T)) (y : Item T) → IsPrefix (y ∷ []) seen → Contains (old ++ seen) y
  seen_next old seen y (rest, all) = grind (arith, Contains-append_right, Contains-append_left, lit<)

  -- after a wait that took nothing, the item that was next is the one that was taken
  pub took_next : (old waited seen new rest : List (Item T)) (y : Item T) → waited ≡ old → IsPrefix (y ∷ []) seen
      → new ++ rest ≡ waited ++ seen → length new ≡ length waited + 1 → new ≡ old ++ y ∷ []
  took_next old waited seen new rest y same (more, all) is one =
      let parts : new ++ rest ≡ (waited ++ y ∷ []) ++ more =
      is ∙ ap (λ (l : List (Item T)). waited ++ l) (sym all) ∙ sym (append_assoc waited (y ∷ []) more) in
      let long : length (waited ++ y ∷ []) ≡ length new = omega (arith, length-append waited (y ∷ []), one) in
      sym (take_at new rest (length new) refl) ∙ ap (λ (l : List (Item T)). take (length new) l) parts
      ∙ take_at (waited ++ y ∷ []) more (length new) long ∙ ap (λ (l : List (Item T)). l ++ y ∷ []) same

-- ---- what lanes carry: the rows of a converter by the entries that it took

module _ {T : Type 0} where
  -- one more item is an entry
  pub one_more : (items all : List (Item T)) (x : T) → all ≡ items ++ item.Entry x ∷ []
      → entries_in all ≡ entries_in items ++ x ∷ []
  one_more items all x is = rw (is, entries_in_append)

  -- one more item is no entry
  pub no_more : (items all : List (Item T)) (last : Item T) → entries_in (last ∷ []) ≡ [] → all ≡ items ++ last ∷ []
      → entries_in all ≡ entries_in items
  no_more items all last none is = rw (is, entries_in_append, none, append-nil)

  -- nor were they where a mark that was next was passed
  pub mark_passed : (old new seen rest : List (Item T)) (mark : Item T) → entries_in (mark ∷ []) ≡ []
      → IsPrefix (mark ∷ []) seen → new ++ rest ≡ old ++ seen → length new ≡ length old + 1
      → length (entries_in new) ≡ length (entries_in old)
  mark_passed old new seen rest mark none next is one =
      ap (λ l. length l) (no_more old new mark none (took_next old old seen new rest mark refl next is one))

  -- an item that is an entry is one of the entries
  pub entry_within : (items : List (Item T)) (x : T) → Contains items (item.Entry x) → Contains (entries_in items) x
  entry_within [] x (k, below, is) = absurd (omega arith)
  entry_within (item.Entry y ∷ items) x (zero, below, is) = (0, omega arith, cc)
  entry_within (item.Entry y ∷ items) x (suc k, below, is) =
      let more = entry_within items x (k, omega arith, is) in (suc more.0, omega (arith, more.1), more.2)
  entry_within (other ∷ items) x (zero, below, is) = cc
  entry_within (other ∷ items) x (suc k, below, is) = entry_within items x (k, omega arith, is)

-- what ended a lane is no entry
pub ended_by : (s : Sender Entry) (c : Closed Entry) (last : Item Entry) → entries_in (last ∷ []) ≡ []
    → (HasConfirmation c → closed_lane c ≡ Some (sender_lane s))
    → (HasConfirmation c → all_sent c ≡ sent s ++ last ∷ []) → HasEnded s c
ended_by s c last none lane is = search (rules, no_more)

module _ {X Y : Type 0} (f : X → Y) where
  -- f of an element is one of those of all
  pub map_within : (xs : List X) (x : X) → Contains xs x → Contains (map f xs) (f x)
  map_within xs x (k, below, is) = (k, omega (arith, length-map xs f), get_or-map f xs k x (f x) below ∙ ap f is)

  pub map_prefix : (xs ys : List X) → IsPrefix xs ys → IsPrefix (map f xs) (map f ys)
  map_prefix xs ys (rest, is) = (map f rest, sym (map-append f xs rest) ∙ ap (λ (l : List X). map f l) is)

pub prefix_within : {X : Type 0} (xs ys : List X) (x : X) → IsPrefix xs ys → Contains xs x → Contains ys x
prefix_within xs ys x (rest, is) h = subst (λ l. Contains l x) is (Contains-append_left xs rest x h)

-- one more item is a row
rows_more : (items all : List (Item Row)) (made : Row) (e : Entry) → all ≡ items ++ item.Entry made ∷ []
    → made.entry ≡ e → row_entries all ≡ row_entries items ++ e ∷ []
rows_more items all made e is of = rw (one_more items all made is, map-append, of)

rows_none : (items all : List (Item Row)) (last : Item Row) → entries_in (last ∷ []) ≡ [] → all ≡ items ++ last ∷ []
    → row_entries all ≡ row_entries items
rows_none items all last none is = rw (no_more items all last none is)

-- nothing was sent, and nothing taken
pub none_taken : (entries : List (Item Entry)) (rows : List (Item Row)) → entries ≡ [] → rows ≡ []
    → AreOfAllTaken entries rows
none_taken entries rows none none' = rw (none, none')

-- the rows of all entries are those of the first of them
pub first_of_all : (entries : List (Item Entry)) (rows : List (Item Row)) → AreOfAllTaken entries rows
    → AreOfTaken entries rows
first_of_all entries rows all = ([], append-nil (row_entries rows) ∙ all)

-- one more entry was taken, and its row was sent if the writer was there
pub row_sent : (entries all : List (Item Entry)) (rows more : List (Item Row)) (made : Row) (e : Entry)
    (r : Result (Unit {0}) (Gone (Unit {0}))) → all ≡ entries ++ item.Entry e ∷ []
    → OnOk r (more ≡ rows ++ item.Entry made ∷ []) → OnErr r (more ≡ rows) → made.entry ≡ e → AreOfAllTaken entries rows
    → AreOfTaken all more × (is_err r ≡ false → AreOfAllTaken all more)
row_sent entries all rows more made e (Ok u) is ok gone of before =
    let same : AreOfAllTaken all more = rw (rows_more rows more made e ok of, before, one_more entries all e is) in
    (first_of_all all more same, λ sure. same)
row_sent entries all rows more made e (Err g) is ok gone of before =
    ((e ∷ [], rw (gone, before, one_more entries all e is)), λ sure. cc)

-- one more entry was taken, and no row sent
pub row_left : (entries all : List (Item Entry)) (rows : List (Item Row)) (e : Entry)
    → all ≡ entries ++ item.Entry e ∷ [] → AreOfTaken entries rows → AreOfTaken all rows
row_left entries all rows e is (rest, before) =
    (rest ++ e ∷ [], rw (one_more entries all e is, ← before, append_assoc))

-- the rows were ended, and no more entries taken
module _ (entries all : List (Item Entry)) (rows more : List (Item Row)) (last : Item Row)
    (same : entries_in all ≡ entries_in entries) (none : entries_in (last ∷ []) ≡ []) (is : more ≡ rows ++ last ∷ [])
  where
    pub first_ended : AreOfTaken entries rows → AreOfTaken all more
    first_ended (rest, before) = (rest, rw (rows_none rows more last none is, same) before)

    pub all_ended : AreOfAllTaken entries rows → AreOfAllTaken all more
    all_ended before = rows_none rows more last none is ∙ before ∙ sym same

-- items that end with a stop do not end with an end
pub stop_is_no_end : (entries : List (Item Entry)) (rows all : List (Item Row)) → all ≡ rows ++ item.Stop ∷ []
    → HasEnd all → AreOfAllTaken entries all
stop_is_no_end entries rows all is (n, ends) = grind (arith, last_mark_append rows item.Stop)

-- an item that was next was taken, and it is a row
pub row_taken : (old new seen rest : List (Item Row)) → StartWithRow seen → new ++ rest ≡ old ++ seen
    → length new ≡ length old + 1 → length (entries_in new) ≡ length (entries_in old) + 1
row_taken old new (item.Entry row ∷ seen) rest starts is one =
    ap length (one_more old new row
    (took_next old old (item.Entry row ∷ seen) new rest (item.Entry row) refl (seen, refl) is one))
    ∙ length_push (entries_in old) row
row_taken old new seen rest starts is one = absurd starts

pub ruleset passing = (same_seen, row_taken)

-- with both lanes of a converter confirmed, its rows are those of the first entries that were sent, and of all of them
-- where they end with an end
module _ (from into : Lane) (stripe : Stripe) (fed : Closed Entry) (converting : ConverterResult)
    (keeps : IsConverting from into converting) (first : IsWhole fed converting.entries)
    (second : IsWhole converting.closed stripe.rows) (none : waiting stripe.rows ≡ []) where
  all_passed : HasEnd (taken stripe.rows) → rows_carried (taken stripe.rows) ≡ carried (all_sent fed)
  all_passed ends = grind (arith, second.equal, first.equal, keeps.all second.confirmed (rw second.equal ends))

  first_passed : IsPrefix (rows_carried (taken stripe.rows)) (carried (all_sent fed))
  first_passed = grind (arith, map_prefix)

  ends_so : (items : List (Item Row)) (ended : Option ℕ) (count : ℕ) → items ≡ taken stripe.rows
      → MatchOption ended (last_mark items ≡ Some Stopped) (λ n. last_mark items ≡ Some (Counted n))
      → option_eq eqb ended (Some count) ≡ true → HasEnd (taken stripe.rows)
  ends_so items ended count same mark is = grind arith

  pub passed_on : (items : List (Item Row)) (ended : Option ℕ) (count : ℕ) (b : Bool) → items ≡ taken stripe.rows
      → MatchOption ended (last_mark items ≡ Some Stopped) (λ n. last_mark items ≡ Some (Counted n))
      → b ≡ option_eq eqb ended (Some count) → HasPassedOn b stripe fed
  passed_on items ended count b same mark is = search (rules, first_passed, all_passed, ends_so)

-- ---- how a converter ends the lane of its rows

-- one more item was passed: the rows that were sent are still those of the first entries that were taken
pub first_still : (old new seen rest : List (Item Entry)) (rows : List (Item Row)) → new ++ rest ≡ old ++ seen
    → length new ≡ length old + 1 → AreOfTaken old rows → AreOfTaken new rows
first_still old new [] rest rows next one first =
    absurd (grind (arith, length-append new rest, length-append old [], next, one))
first_still old new (x ∷ seen) rest rows next one (more, before) =
    let is = took_next old old (x ∷ seen) new rest x refl (seen, refl) next one in
    (more ++ entries_in (x ∷ []), rw (is, entries_in_append, ← before, append_assoc))

-- and where it is no entry, of all of them
pub all_still : (old new seen rest : List (Item Entry)) (rows : List (Item Row)) (mark : Item Entry)
    → entries_in (mark ∷ []) ≡ [] → IsPrefix (mark ∷ []) seen → new ++ rest ≡ old ++ seen
    → length new ≡ length old + 1 → AreOfAllTaken old rows → AreOfAllTaken new rows
all_still old new seen rest rows mark none here next one all = grind (arith, no_more, took_next)

-- it ended the lane of its rows, with an end or with a stop
module _ (from : Lane) (entries : Receiver Entry) (rows : Sender Row) (closed : Closed Row)
    (handed : receiver_lane entries ≡ from)
    (lane : HasConfirmation closed → closed_lane closed ≡ Some (sender_lane rows))
    (first : AreOfTaken (taken entries) (sent rows)) where
  abbrev Ends : Type 0
  Ends = IsConverting from (sender_lane rows) (record { entries = entries; closed = closed })

  pub ends : (n : ℕ) → AreOfAllTaken (taken entries) (sent rows)
      → (HasConfirmation closed → all_sent closed ≡ sent rows ++ item.End n ∷ []) → Ends
  ends n of_all all = grind (arith, first_ended, all_ended)

  pub stops : (HasConfirmation closed → all_sent closed ≡ sent rows ++ item.Stop ∷ []) → Ends
  stops all = record {
    handed = handed;
    closed = lane;
    rows = λ sure. first_ended (taken entries) (taken entries) (sent rows) _ item.Stop refl refl (all sure) first;
    all = λ sure. stop_is_no_end (taken entries) (sent rows) (all_sent closed) (all sure);
  }
