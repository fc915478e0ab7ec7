-- What the threads of a source owe, by the lanes that they were given.
use Rattle.std.specs.Prelude.{◌≡◌, ⊤, List, [], ◌∷◌, Some}
use Rattle.lane_rings.specs.declared.sender.Closed.{Closed}
use Rattle.lane_rings.specs.Lane.{Lane, HasConfirmation, closed_lane}
use Rattle.register_records.specs.declared.entries.Entry.{Entry}

-- what is left of a sender is that of this lane
abbrev pub IsOfLane : {T : Type 0} → Lane → Closed T → Type 0
IsOfLane lane c = HasConfirmation c → closed_lane c ≡ Some lane

-- what is left of these senders is that of these lanes, in order
abbrev pub AreOfLanes : List Lane → List (Closed Entry) → Type 0
AreOfLanes [] [] = ⊤
AreOfLanes [] (c ∷ closed) = ⊥
AreOfLanes (lane ∷ lanes) [] = ⊥
AreOfLanes (lane ∷ lanes) (c ∷ closed) = IsOfLane lane c × AreOfLanes lanes closed
