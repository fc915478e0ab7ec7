-- What a reader, a converter and the threads of a source may return.
use Rattle.std.specs.Prelude.{◌≡◌, ◌⊎◌, ℕ, List, [], length, Option, IfSome, Result, Ok}
use Rattle.std.specs.Prelude.{Err, IfOk, IfErr, Bool, map, true, false}
use Rattle.std.specs.List.{Contains}
use Rattle.lane_rings.specs.declared.sender.Sender.{Sender}
use Rattle.lane_rings.specs.declared.sender.Closed.{Closed}
use Rattle.lane_rings.specs.Lane.{Lane, HasConfirmation, all_sent, receiver_lane, sender_lane, taken}
use Rattle.register_records.specs.Entries.{AreNumberedFrom, HasAllEntries, HasEntries, HasFirstEntries}
use Rattle.register_records.specs.Entries.{HasNoHeader, HasTooMany, IsNotSealed, Numbered, Reading, record_limit}
use Rattle.register_records.specs.Seen.{entry_seen}
use Rattle.register_records.specs.declared.entries.Entry.{Entry}
use Rattle.register_records.specs.declared.rows.Row.{Row}
use Rattle.register_records.specs.declared.setups.Form.TheVariants.{Sealed}
use Rattle.register_records.specs.declared.ends.Cause.{Cause}
use Rattle.register_records.specs.declared.ends.Cause.TheVariants as cause
use Rattle.register_run.specs.private.Carried.{AreDealt, AreOfAllTaken, AreOfTaken, HasEnd, WereDealt}
use Rattle.register_run.specs.Worlds.{World}
use Rattle.register_run.specs.declared.reading.ReaderResult.{ReaderResult}
use Rattle.register_run.specs.declared.reading.Sent.{Sent}
use Rattle.register_run.specs.declared.converting.ConverterResult.{ConverterResult}
use Rattle.register_run.specs.JoinedThreads.{AreOfLanes, IsOfLane}

-- the reader alone gives this cause
abbrev pub is_of_reading : Cause → Bool
is_of_reading cause.ReadFault = true
is_of_reading cause.BadHeader = true
is_of_reading cause.TooManyRecords = true
is_of_reading cause.NotSealed = true
is_of_reading cause = false

-- the outcome of a source's threads speaks of its text
abbrev pub speaks_of_text : Result ℕ Cause → Bool
speaks_of_text (Ok count) = true
speaks_of_text (Err c) = is_of_reading c

-- the entries that a reader gave of a text, by what it has sent: their count, and that it is that of all, or a cause
pub record IsGiven (text : Option (List ℕ)) (reading : Reading) (sent : Sent) (given : List Numbered) : Type 0 where
  pub counted : speaks_of_text sent.outcome ≡ true → length given ≡ sent.count
  pub numbered : AreNumberedFrom 1 given
  pub first : (given ≡ []) ⊎ HasFirstEntries reading text given
  pub all : IfOk sent.outcome (λ n. (n ≡ length given) × HasEntries reading text given)
  pub bad_header : IfErr sent.outcome (λ c. c ≡ cause.BadHeader → (given ≡ [])
      × IfSome text (λ t. HasNoHeader reading t))
  pub too_many : IfErr sent.outcome (λ c. c ≡ cause.TooManyRecords
      → (length given ≡ record_limit) × IfSome text (λ t. HasTooMany reading t))
  pub not_sealed : IfErr sent.outcome (λ c. c ≡ cause.NotSealed
      → (reading.form ≡ Sealed) × IfSome text (λ t. IsNotSealed reading t) × HasAllEntries reading text given)

-- the cause, if there is one, is no fault of the output
abbrev pub IsNotOfOutput : Result ℕ Cause → Type 0
IsNotOfOutput outcome = IfErr outcome (λ c. c ≡ cause.SinkFault → ⊥)

-- nor a thread that did not start
abbrev pub HasStarted : Result ℕ Cause → Type 0
HasStarted outcome = IfErr outcome (λ c. c ≡ cause.NoThread → ⊥)

-- a reader gave entries of the text, and the machine of as many stripes as there are senders deals them so
abbrev pub Sends : Option (List ℕ) → Reading → Sent → List (Sender Entry) → Type 0
Sends text reading sent senders =
    (given : List Numbered) × IsGiven text reading sent given
    × ((w : World) → w.converters ≡ length senders → AreDealt w 0 given senders)

-- a reader of this text, which was given senders of these lanes, may have sent this with them
pub record MaySend (text : Option (List ℕ)) (reading : Reading) (given_lanes : List Lane) (sent : Sent)
    (senders : List (Sender Entry)) : Type 0 where
  pub lanes : map sender_lane senders ≡ given_lanes
  pub not_of_output : IsNotOfOutput sent.outcome
  pub started : HasStarted sent.outcome
  pub sends : ∥ Sends text reading sent senders ∥₁

-- the same, of lanes that were ended
abbrev pub HasSent : Option (List ℕ) → Reading → Sent → List (Closed Entry) → Type 0
HasSent text reading sent closed =
    (given : List Numbered) × IsGiven text reading sent given
    × ((w : World) → w.converters ≡ length closed → WereDealt w 0 given closed)

-- a reader of this text, which was given the senders of these lanes, may return this
pub record IsReading (text : Option (List ℕ)) (reading : Reading) (lanes : List Lane) (r : ReaderResult)
    : Type 0 where
  pub from : AreOfLanes lanes r.closed.items
  pub entries : ∥ HasSent text reading r.sent r.closed.items ∥₁
  pub not_of_output : IsNotOfOutput r.sent.outcome
  pub started : HasStarted r.sent.outcome

-- a converter which was given these two lanes may return this: its rows are those of the first entries that it took,
-- and of all of them where it ended their lane with an `End`
pub record IsConverting (from into : Lane) (r : ConverterResult) : Type 0 where
  pub handed : receiver_lane r.entries ≡ from
  pub closed : IsOfLane into r.closed
  pub rows : HasConfirmation r.closed → AreOfTaken (taken r.entries) (all_sent r.closed)
  pub all : HasConfirmation r.closed → HasEnd (all_sent r.closed) → AreOfAllTaken (taken r.entries) (all_sent r.closed)

-- neither the reader nor the output gives this cause
abbrev pub IsOfThreads : Cause → Type 0
IsOfThreads c = (is_of_reading c ≡ false) × (c ≡ cause.SinkFault → ⊥)

-- the row is of one of these entries
abbrev pub IsOfGiven : List Numbered → Row → Type 0
IsOfGiven given row = Contains given (entry_seen row.entry)

-- each row that was taken is of an entry that the reader gave
abbrev pub Passes : Option (List ℕ) → Reading → Sent → (Row → Type 0) → Type 0
Passes text reading sent took =
    (given : List Numbered) × IsGiven text reading sent given × ((row : Row) → took row → IsOfGiven given row)

-- the threads of a source have ended with this outcome: where it speaks of the text, all that the reader
-- sent has passed on
pub record HasPassed (text : Option (List ℕ)) (reading : Reading) (sent : Sent) (took : Row → Type 0) : Type 0 where
  pub not_of_output : IsNotOfOutput sent.outcome
  pub rows : speaks_of_text sent.outcome ≡ true → ∥ Passes text reading sent took ∥₁
