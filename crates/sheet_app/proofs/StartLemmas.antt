-- Why a task is not begun.
use Rattle.std.proofs.Common.{◌≡◌, ◌≤◌, ◌⊎◌, ◌∷◌, [], ℕ, List, arith, subst, Contains}
use Rattle.sheet_app.proofs.Common.{Text, NameLine, Task, calendar_words, IsOfWords}
use Rattle.std.proofs.lemmas.List.Elements.{Contains-get_or}
use Rattle.std.specs.declared.io.traits.Read as reads
use Rattle.programs.specs.Meanings.{work}
use Rattle.sheet_arguments.specs.Requests.{MeanJust}
use Rattle.sheet_app.specs.Answers.{AreNamesOf, IsUnknown}
use Rattle.sheet_app.specs.private.Answers.{IsFaultOfStart}
use Rattle.sheet_app.specs.ProgramFaults.{IsFaultOfAsked, IsFaultOfTask, fault_status}
use Rattle.sheet_app.specs.declared.program_faults.ProgramFault.{ProgramFault}
use Rattle.sheet_app.specs.declared.program_faults.ProgramFault.TheVariants as program_fault
use Rattle.sheet_app.proofs.FaultLemmas.{is_only}

pub word_alone : (word : Text) → Contains (word ∷ []) word
word_alone word = Contains-get_or (word ∷ []) 0 [] (omega arith)

-- a word with which something is wrong is one of these, where it is the one at a place of them
pub of_one : (lines : List NameLine) (words : List Text) (word : Text) (why : ProgramFault) → Contains words word
    → IsOfWords lines (word ∷ []) why → IsOfWords lines words why
of_one lines words word (program_fault.UnknownCalendar w) within is =
    (subst (Contains words) (is_only word w.now is.0) within, is.1)
of_one lines words word program_fault.OutOfMemory within is = tt
of_one lines words word other within is = absurd is

module _ {R : Type 0} (r : reads.Ghosts R) (IsOpened : Text → R → Type 0) (task : Task) (built : List ℕ) where
  -- a task that is not begun for one of its files
  pub of_task : (why : ProgramFault) → IsFaultOfTask task why → IsFaultOfStart r IsOpened task built why
  of_task (program_fault.UnknownCalendar word) is = absurd is
  of_task program_fault.OutOfMemory is = tt
  of_task (program_fault.Arguments error) is = absurd is
  of_task why is = is

  -- and for one of its words
  pub of_words : (lines : List NameLine) (why : ProgramFault) → AreNamesOf r IsOpened task built lines
      → IsOfWords lines (calendar_words task.calendars) why → IsFaultOfStart r IsOpened task built why
  of_words lines (program_fault.UnknownCalendar word) named is =
      record { lines = lines; named = named; among = is.0; unknown = is.1 }
  of_words lines program_fault.OutOfMemory named is = tt
  of_words lines other named is = absurd is

  three : {A : Type 0} (status : ℕ) → (status ≡ 3) ⊎ (status ≡ 3)
      → (2 ≤ status) × (status ≤ 3) × (status ≡ 2 → A)
  three status either =
      let is : status ≡ 3 = grind (arith, either) in
      (omega (arith, is), omega (arith, is), λ two. absurd (omega (arith, is, two)))

  -- a task that is not begun gives status 3, or 2 for such a word
  pub gives_three : (why : ProgramFault) (status : ℕ) → IsFaultOfStart r IsOpened task built why
      → (status ≡ 3) ⊎ (status ≡ fault_status why)
      → (2 ≤ status) × (status ≤ 3) × (status ≡ 2 → (word : Text) × IsUnknown r IsOpened task built word)
  gives_three (program_fault.UnknownCalendar word) status is either =
      (grind (arith, either), grind (arith, either), λ two. (word.now, is))
  gives_three (program_fault.Arguments error) status is either = absurd is
  gives_three why status is either = three status either

  -- and it is the one that arguments ask for
  pub of_asked : (arguments : List Text) (why : ProgramFault) → MeanJust arguments (work task)
      → IsFaultOfStart r IsOpened task built why → IsFaultOfAsked arguments why
  of_asked arguments (program_fault.UnknownCalendar word) just is = (task, just, is.among)
  of_asked arguments (program_fault.Arguments error) just is = absurd is
  of_asked arguments program_fault.OutOfMemory just is = tt
  of_asked arguments why just is = (task, just, is)
