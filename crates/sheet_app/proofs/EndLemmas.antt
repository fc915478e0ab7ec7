-- How sheets end.
use Rattle.std.proofs.Common.{◌≡◌, ℕ, List, [], Option, false, inl, inr, map, refl, true, Err, IsErrAnd, Ok, Result}
use Rattle.sheet_app.proofs.Common.{NameLine, Task, bare_name, SheetDone}
use Rattle.register_records.specs.Sources.{Gains}
use Rattle.register_records.specs.declared.outputs.Output as outputs
use Rattle.sheets.specs.Converted.{records_by}
use Rattle.sheets.specs.AskedOfSheets.{IsChoiceBy, IsListedChoice, SheetAsked}
use Rattle.sheets.specs.declared.asked_of_sheets.AskedByNames.{AskedByNames}
use Rattle.sheets.specs.declared.choices.SheetChoice.{SheetChoice}
use Rattle.sheets.specs.Produced.{Produced}
use Rattle.sheets.specs.SheetOutputs.{IsMadeSheet, sheet_ending}
use Rattle.sheets.specs.declared.sheet_ends.SheetCause.{SheetCause}
use Rattle.sheets.specs.declared.sheet_ends.SheetCause.TheVariants as cause
use Rattle.sheets.specs.declared.sheet_ends.SheetEnd.TheVariants as end
use Rattle.sheet_app.specs.SheetFaults.{fault_by}
use Rattle.sheet_app.specs.private.SheetViews.{AsksFor, IsBrokenBehind, IsDoneBy, IsEndedBy, IsTask}
use Rattle.sheet_app.specs.Sheets.{HasMark, IsAskedOf, IsBroken, IsBrokenBy, IsChoiceFor, IsEnded, IsMarked, IsSheetBy}
use Rattle.sheet_app.specs.Sheets.{names_of}
use Rattle.sheet_app.specs.declared.sheet_faults.SheetFault.TheVariants as fault
use Rattle.sheet_app.specs.declared.sheet_faults.SheetFault.{SheetFault}
use Rattle.sheet_app.specs.declared.conversions.SheetDone.TheVariants as done
use Rattle.sheet_app.specs.declared.conversions.WholeSheet.{WholeSheet}
use Rattle.sheet_app.proofs.MarkLemmas.{behind_mark, nothing}
use Rattle.sheet_app.proofs.TaskLemmas.{is_choice}

-- what is known was made of what a task asks
pub asks_for : (task : Task) (lines : List NameLine) (sheet : List ℕ) (known : AskedByNames) (asked : SheetAsked)
    → IsTask task → IsAskedOf task lines (names_of task sheet) asked
    → ((choice : SheetChoice) → IsChoiceBy known choice → IsListedChoice asked lines sheet choice)
    → AsksFor task lines sheet known
asks_for task lines sheet known asked task_is is listed = λ choice by.
    let list = listed choice by in
    record {
      asked = asked;
      is_asked = is;
      listed = list;
      is_choice = is_choice task lines (names_of task sheet) list.headings asked sheet list.in_dates
          (map bare_name list.of_calendars) choice task_is is list.headed list.chosen;
    }

-- a fault that was handed on
pub ended_fault : {W : Type 0} (o : outputs.Ghosts W) (task : Task) (lines : List NameLine) (most : ℕ) (sheet : List ℕ)
    (given written : W) (new : List W) (r : Result SheetDone SheetFault) (fault : SheetFault)
    → IsErrAnd r (λ why. why ≡ fault) → IsBroken o task lines sheet given written fault
    → IsEndedBy o task lines most sheet given written new new r
ended_fault o task lines most sheet given written new (Ok done) fault handed broken = absurd handed
ended_fault o task lines most sheet given written new (Err why) fault handed broken = (rw handed broken, refl)

-- what was made by a choice, behind the mark, is what a task asks
pub asked_behind : (task : Task) (lines : List NameLine) (sheet : List ℕ) (choice : SheetChoice)
    (Made : SheetChoice → List ℕ → Type 0) (old marked new : Option (List ℕ)) → IsChoiceFor task lines sheet choice
    → Gains old marked (HasMark sheet) → Gains marked new (Made choice)
    → Gains old new (λ bytes. (found : SheetChoice) × IsChoiceFor task lines sheet found
    × IsMarked sheet (Made found) bytes)
asked_behind task lines sheet choice Made old marked new chosen mark made =
    let all = behind_mark sheet (Made choice) old marked new mark made in (all.0, (choice, chosen, all.1), all.2)

module _ {W : Type 0} (o : outputs.Ghosts W) where
  -- a sheet that broke off behind its mark
  pub broken_marked : (choice : SheetChoice) (sheet : List ℕ) (given marked written : W) (why : SheetFault)
      → Gains (o.contents given) (o.contents marked) (HasMark sheet)
      → IsBrokenBehind o choice sheet marked written why → IsBrokenBy o choice sheet given written why
  broken_marked choice sheet given marked written fault.OutOfMemory mark (inl same) =
      behind_mark sheet _ _ _ _ mark ([], inl refl, nothing o marked written same)
  broken_marked choice sheet given marked written fault.OutOfMemory mark (inr gained) =
      behind_mark sheet _ _ _ _ mark gained
  broken_marked choice sheet given marked written fault.Unwritten mark h = h
  broken_marked choice sheet given marked written fault.NoNames mark h =
      (behind_mark sheet _ _ _ _ mark ([], refl, nothing o marked written h.0), h.1)
  broken_marked choice sheet given marked written fault.TooManyRecords mark (more, inl same) =
      (more, behind_mark sheet _ _ _ _ mark ([], inl refl, nothing o marked written same))
  broken_marked choice sheet given marked written fault.TooManyRecords mark (more, inr gained) =
      (more, behind_mark sheet _ _ _ _ mark (gained.0, inr gained.1, gained.2))
  broken_marked choice sheet given marked written other mark h = absurd h

  -- what was converted by a choice, behind the mark, is what a task asks
  pub asked_done : (task : Task) (lines : List NameLine) (most : ℕ) (sheet : List ℕ) (choice : SheetChoice)
      (given marked written : W) (new registers : List W) (done : SheetDone) → task.unknown ≡ false
      → IsChoiceFor task lines sheet choice → Gains (o.contents given) (o.contents marked) (HasMark sheet)
      → IsDoneBy o choice sheet marked written new registers done
      → IsEnded o task lines most sheet given written new registers done
  asked_done task lines most sheet choice given marked written new registers (done.Whole whole) known chosen mark h = (
    asked_behind task lines sheet choice (λ c. IsSheetBy c sheet whole) _ _ _ chosen mark h.0,
    h.1,
    known,
    choice,
    chosen,
    h.2,
  )
  asked_done task lines most sheet choice given marked written new registers (done.WholeBut fault) known chosen mark h = (
    h.0,
    asked_behind task lines sheet choice (λ c. IsSheetBy c sheet h.0) _ _ _ chosen mark h.1,
    h.2,
    known,
    choice,
    chosen,
    h.3,
    h.4,
    h.5,
  )
  asked_done task lines most sheet choice given marked written new registers (done.Listed listed) known chosen mark h =
      absurd h
  asked_done task lines most sheet choice given marked written new registers (done.Broken why) known chosen mark h =
      (inr (choice, chosen, broken_marked choice sheet given marked written why mark h.0), inr (choice, chosen, h.1, h.2))

-- a sheet that broke off, by what its output has come to
pub broken_by : {W : Type 0} (o : outputs.Ghosts W) (choice : SheetChoice) (sheet : List ℕ) (given written : W)
    (c : SheetCause)
    → Produced o given written (sheet_ending (end.Broken c)) (IsMadeSheet choice (records_by choice sheet) (end.Broken
    c)) → IsBrokenBehind o choice sheet given written (fault_by c)
broken_by o choice sheet given written cause.NoMemory h = inr h.0
broken_by o choice sheet given written cause.SinkFault h = h.0
broken_by o choice sheet given written cause.NoNames h = (h.0, h.1.1)
broken_by o choice sheet given written cause.TooManyRecords h = (h.0.1.more, inr h.0)

-- a sheet that is whole
pub whole_by : {W : Type 0} (o : outputs.Ghosts W) (choice : SheetChoice) (sheet : List ℕ) (given written : W)
    (whole : WholeSheet) → Produced o given written (sheet_ending (end.Whole whole.records whole.counts whole.unread))
    (IsMadeSheet choice (records_by choice sheet) (end.Whole whole.records whole.counts whole.unread))
    → Gains (o.contents given) (o.contents written) (IsSheetBy choice sheet whole) × (o.is_flushed written ≡ true)
whole_by o choice sheet given written whole h = ((h.0.0, record { whole = h.0.1.0; unread = h.0.1.1 }, h.0.2), h.1)
