-- What the lanes of a source carried, by what the machine of striped lanes deals to them.
use Rattle.std.specs.Prelude.{◌≡◌, ◌+◌, ◌-◌, ◌==◌, ⊤, ℕ, List, [], ◌∷◌, Some}
use Rattle.std.specs.List.{filter}
use mathlib.Core.List.{IsPrefix}
use Rattle.lane_rings.specs.Items.{entries_in, last_mark}
use Rattle.lane_rings.specs.declared.item.Item.{Item}
use Rattle.lane_rings.specs.declared.item.Mark.TheVariants.{Counted}
use Rattle.lane_rings.specs.declared.sender.Sender.{Sender}
use Rattle.lane_rings.specs.declared.sender.Closed.{Closed}
use Rattle.lane_rings.specs.Lane.{HasConfirmation, all_sent, closed_lane, sender_lane, sent}
use Rattle.register_records.specs.Entries.{Numbered}
use Rattle.register_records.specs.declared.entries.Entry.{Entry}
use Rattle.register_records.specs.declared.rows.Row.{Row}
use Rattle.lane_rings.specs.Machine.{turn}
use Rattle.register_run.specs.Worlds.{World}
use Rattle.register_run.specs.Carried.{carried, row_entries}

-- the rows that were sent are those of the first entries that were taken, in order
abbrev pub AreOfTaken : List (Item Entry) → List (Item Row) → Type 0
AreOfTaken entries rows = IsPrefix (row_entries rows) (entries_in entries)

-- the same of all entries that were taken
abbrev pub AreOfAllTaken : List (Item Entry) → List (Item Row) → Type 0
AreOfAllTaken entries rows = row_entries rows ≡ entries_in entries

-- the items end with an `End`
abbrev pub HasEnd : {T : Type 0} → List (Item T) → Type 0
HasEnd items = (n : ℕ) × (last_mark items ≡ Some (Counted n))

-- the entries that the machine deals to stripe i: the entry with number n goes where it has its turn after n - 1
-- entries
abbrev pub dealt : World → ℕ → List Numbered → List Numbered
dealt w i entries = filter (λ (entry : Numbered). turn w (entry.number - 1) == i) entries

-- each of these senders, the first of which feeds stripe i, was sent what the machine deals to its stripe
abbrev pub AreDealt : World → ℕ → List Numbered → List (Sender Entry) → Type 0
AreDealt w i given [] = ⊤
AreDealt w i given (s ∷ rest) = (carried (sent s) ≡ dealt w i given) × AreDealt w (i + 1) given rest

-- the same of what is left of them, where the ring confirms what was sent
abbrev pub WereDealt : World → ℕ → List Numbered → List (Closed Entry) → Type 0
WereDealt w i given [] = ⊤
WereDealt w i given (c ∷ rest) =
    (HasConfirmation c → carried (all_sent c) ≡ dealt w i given) × WereDealt w (i + 1) given rest

-- what is left of a sender that ended its lane: the ring may confirm all that was sent, and no entry was sent then
pub record HasEnded (s : Sender Entry) (c : Closed Entry) : Type 0 where
  pub lane : HasConfirmation c → closed_lane c ≡ Some (sender_lane s)
  pub sent : HasConfirmation c → carried (all_sent c) ≡ carried (sent s)
