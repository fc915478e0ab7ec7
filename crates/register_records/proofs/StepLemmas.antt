-- What the reads of one entry, or of the end, say of the records that were left.
use Rattle.std.proofs.Common.{◌≡◌, ℕ, Bool, true, false, List, [], ◌∷◌, IfSome, IsErrAnd, IfErr, Ok, Err, Option}
use Rattle.std.proofs.Common.{Result, sym, refl, ◌∙◌, arith, rules}
use Rattle.register_records.proofs.Common.{Reader, Fields, Agrees, is_seal, Entry, EntryFault, Form, Sealed}
use Rattle.register_records.specs.ReadingState.{records_left}
use Rattle.register_records.specs.private.ReadingState.{Ends, HasEntry, IsNoSeal, LacksSeal, Reads, TakesFirst}
use Rattle.register_records.specs.private.ReadingState.{EndsBehind, ReadsEntry}
use Rattle.register_records.proofs.GivenLemmas.{before_none, if_some, no_seal_first, seal_first}

-- of a read that found a record, or none
pub found : (left after : Option (List Fields)) (b : Bool) (f : Fields) → Reads left after b f → b ≡ true
    → TakesFirst left after f
found left after b f h e = rw e at h

pub found_none : (left after : Option (List Fields)) (b : Bool) (f : Fields) → Reads left after b f → b ≡ false
    → IfSome left (λ records. records ≡ [])
found_none left after b f h e = rw e at h

-- a fault that was handed on
pub passed_on : {T E : Type 0} (r : Result T E) (e : E) (P : E → Type 0) → IsErrAnd r (λ x. x ≡ e) → P e → IfErr r P
passed_on r e P h p = search rules

-- what holds of a list whose first record was taken
of_first : (left mid : Option (List Fields)) (f : Fields) (P : List Fields → Type 0) → TakesFirst left mid f
    → ((rest : List Fields) → P (f ∷ rest)) → IfSome left P
of_first left mid f P t h = search rules

lacks_none : (count : ℕ) (records : List Fields) → records ≡ [] → LacksSeal Sealed count records
lacks_none count records e = (rw e before_none, λ ends. let clash : ends.0 ∷ [] ≡ [] = sym ends.1 ∙ e in absurd (cc))

pub no_seal_left : (left : Option (List Fields)) (form : Form) (count : ℕ) → form ≡ Sealed
    → IfSome left (λ records. records ≡ []) → IfSome left (LacksSeal form count)
no_seal_left left form count e h = if_some left _ _ (λ records none. rw e (lacks_none count records none)) h

-- what holds of every list holds of the one that is left
pub always : (left : Option (List Fields)) (P : List Fields → Type 0) → ((records : List Fields) → P records)
    → IfSome left P
always left P h = search rules

-- a list whose first record was taken is not empty
pub not_empty : (left after : Option (List Fields)) (f : Fields) (P : Type 0) → TakesFirst left after f
    → IfSome left (λ records. records ≡ [] → P)
not_empty left after f P t = of_first left after f (λ records. records ≡ [] → P) t (λ rest e. absurd (cc (e)))

-- a seal is left that does not agree, or stands before another record
pub seal_lacks : (left mid : Option (List Fields)) (form : Form) (count : ℕ) (f : Fields) → form ≡ Sealed
    → TakesFirst left mid f → is_seal f ≡ true → IfSome mid (λ records. records ≡ [] → ¬ (Agrees f count))
    → IfSome left (LacksSeal form count)
seal_lacks left mid form count f e t is last = search (rules, seal_first)

-- a text of a sealed form ends where a seal is left alone that agrees
pub seal_ends : (left mid : Option (List Fields)) (form : Form) (count : ℕ) (f : Fields) → form ≡ Sealed
    → TakesFirst left mid f → is_seal f ≡ true → Agrees f count → IfSome mid (λ records. records ≡ [])
    → Ends form count left
seal_ends left mid form count f e t is agrees last = rw e (f ∷ [], (f, refl, is, agrees), taken_last left mid t last)
  where
    taken_last : (left mid : Option (List Fields)) → TakesFirst left mid f → IfSome mid (λ records. records ≡ [])
        → IfSome left (λ records. records ≡ f ∷ [])
    taken_last left mid t last = search rules

-- what was found behind a seal, where there is no entry
no_entry : {P : Type 0} → ◌≡◌ {A = Result Bool EntryFault} (Ok false) (Ok true) → P
no_entry e = absurd (cc)

no_date : {P Q : Type 0} → ◌≡◌ {A = Result Bool EntryFault} (Ok false) (Ok true) → Q → P
no_date e same = no_entry e

pub behind_seal : {S : Type 0} (remaining : S → Option (List ℕ)) (form : Form) (count : ℕ) (old mid new : Reader S)
    (f : Fields) (entry : Entry) (is_same : Bool) (result : Result Bool EntryFault) → form ≡ Sealed
    → TakesFirst (records_left remaining old) (records_left remaining mid) f → is_seal f ≡ true
    → EndsBehind remaining count f mid new result → ReadsEntry remaining form count old new entry entry is_same result
behind_seal remaining form count old mid new f entry is_same (Ok true) e t is ends = absurd (ends.none refl)
behind_seal remaining form count old mid new f entry is_same (Ok false) e t is ends =
    search (rules, seal_ends, no_entry, no_date)
behind_seal remaining form count old mid new f entry is_same (Err fault) e t is ends = search (rules, seal_lacks)

-- an entry's record is left
pub entry_left : (left mid : Option (List Fields)) (form : Form) (f : Fields) → TakesFirst left mid f → IsNoSeal form f
    → IfSome left (HasEntry form)
entry_left left mid form f t other =
    of_first left mid f (HasEntry form) t (λ rest. rw (no_seal_first form f rest other) (omega arith))

-- a record that is no seal, or whose form has none
pub plain_no_seal : (form : Form) (f : Fields) → (form ≡ Sealed → ⊥) → IsNoSeal form f
plain_no_seal form f h = search rules

pub other_no_seal : (form : Form) (f : Fields) → is_seal f ≡ false → IsNoSeal form f
other_no_seal form f h = search rules

-- the steps of reading a record, and of what stands behind a seal
pub ruleset read_steps = (always, entry_left, found, found_none, no_seal_left, not_empty, other_no_seal, plain_no_seal)
