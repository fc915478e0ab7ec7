-- What a contract sees of the two ends of a lane, and of what is left of its sender.
--
-- A lane has two lists of items, sent and taken. Making it leaves both empty. A push into its ring that succeeds
-- appends an item to those sent, and a pop that succeeds appends the one that it returns to those taken. A push that
-- finds the ring full, a pop that finds it empty and a look change neither. Once the sender has finished, what was sent
-- is fixed.
use Rattle.std.specs.Prelude.{◌≡◌, ℕ, List, [], Option, Some, option_map, IsSome}
use Rattle.std.specs.Option.{option_map_or}
use Rattle.std.specs.declared.alloc.Global.{Global}
use denote.RawPtr.{Ptr}
use Rattle.rtrb.specs.Shared.{Names}
use Rattle.rtrb.specs.Ring as ring
use Rattle.rtrb.specs.declared.AnyItems.{AnyItems}
use Rattle.rtrb.specs.declared.end.End.{End}
use Rattle.lane_rings.specs.Items.{last_mark}
use Rattle.lane_rings.specs.declared.item.Item.{Item}
use Rattle.lane_rings.specs.declared.sender.Sender.{Sender}
use Rattle.lane_rings.specs.declared.sender.Closed.{Closed}
use Rattle.lane_rings.specs.declared.receiver.Receiver.{Receiver}
use Rattle.lane_rings.specs.declared.receiver.Confirmed.{Confirmed}

-- which lane it is: what the two ends of its ring have in common
abbrev pub Lane : Type 0
Lane = Ptr × Ptr × Names × Global

-- how many items the lane has room for
abbrev pub lane_capacity : Lane → ℕ
lane_capacity (words, slots, names, heap) = names.0

module _ {T : Type 0} where
  abbrev pub lane_of_end : End (Item T) Global AnyItems → Lane
  lane_of_end e = (e.words, e.slots, e.names, e.heap)

  abbrev pub sender_lane : Sender T → Lane
  sender_lane s = lane_of_end s.producer.end

  -- every item sent so far, oldest first
  abbrev pub sent : Sender T → List (Item T)
  sent s = ring.sent s.producer

  abbrev pub receiver_lane : Receiver T → Lane
  receiver_lane r = lane_of_end r.consumer.end

  -- every item taken so far, oldest first
  abbrev pub taken : Receiver T → List (Item T)
  taken r = ring.received r.consumer

  -- the items that were seen in the lane and not yet taken, oldest first
  abbrev pub waiting : Receiver T → List (Item T)
  waiting r = ring.known_items r.consumer

  -- the ring confirms what was sent
  abbrev pub HasConfirmation : Closed T → Type 0
  HasConfirmation c = IsSome c.finished

  -- which lane was closed, where it has the confirmation
  abbrev pub closed_lane : Closed T → Option Lane
  closed_lane c = option_map (λ f. lane_of_end f.end) c.finished

  -- every item that was ever sent, where the lane has the confirmation
  abbrev pub all_sent : Closed T → List (Item T)
  all_sent c = option_map_or (λ f. ring.all_sent f) c.finished []

  -- what is left of the sender is that of this receiver's lane
  abbrev pub IsClosedOf : Closed T → Receiver T → Type 0
  IsClosedOf c r = HasConfirmation c → closed_lane c ≡ Some (receiver_lane r)

  -- the ring confirms what was sent, all of it was taken, and it ends with an `End` or a `Stop`
  pub record IsWhole (c : Closed T) (r : Receiver T) : Type 0 where
    pub confirmed : HasConfirmation c
    pub equal : all_sent c ≡ taken r
    pub ended : IsSome (last_mark (taken r))

  -- every item of a confirmed lane, sent and taken
  abbrev pub items : Confirmed T → List (Item T)
  items c = taken c.receiver
