-- What a reader gave of a text, by how it ended, and that the rows that were taken are of what it gave.
use Rattle.register_run.proofs.Common.{rules, ◌≡◌, refl, ℕ, List, [], length, Option, map, Err, IfSome, Ok, ◌∙◌, ap}
use Rattle.register_run.proofs.Common.{sym, zero, suc, ◌+◌, ◌≤◌, ◌∷◌, ◌++◌, arith, append_assoc, length-append, inl}
use Rattle.register_run.proofs.Common.{inr, ◌⊎◌, append-nil, HasNoHeader, HasTooMany, IsNotSealed, IsOfThreads, MaySend}
use Rattle.register_run.proofs.Common.{Sends, ∥∥₁_elim, ∥∥₁_map, ∥∥₁_prop, AreNumberedFrom, Reading, HasAllEntries}
use Rattle.register_run.proofs.Common.{HasEntries, HasFirstEntries, Numbered, record_limit, Cause, Lane, Sender}
use Rattle.register_run.proofs.Common.{sender_lane, Entry, Row, AreDealt, World, HasPassed, IsGiven, Sent, Contains}
use Rattle.register_run.proofs.Common.{entry_seen, IsOfGiven}
use Rattle.std.proofs.lemmas.List.Elements.{All-map, All-weaker, All-contains, All-contains_itself}
use Rattle.register_records.specs.Causes.{entry_fault_cause}
use Rattle.register_records.specs.declared.reading.EntryFault.{EntryFault}
use Rattle.register_records.specs.declared.setups.Form.TheVariants.{Sealed}
use Rattle.register_records.specs.TablesWritten.{entries_seen}
use Rattle.register_records.specs.declared.reading.EntryFault.TheVariants as fault
use Rattle.register_records.specs.declared.ends.Cause.TheVariants as cause

-- a fault of reading is the one that its cause names; it is none of the output, and no thread that did not start
fault_of_cause : (f : EntryFault) (c : Cause) → c ≡ entry_fault_cause f
    → (c ≡ cause.BadHeader → f ≡ fault.BadHeader) × (c ≡ cause.TooManyRecords → f ≡ fault.TooManyRecords)
    × (c ≡ cause.NotSealed → f ≡ fault.NotSealed) × (c ≡ cause.SinkFault → ⊥) × (c ≡ cause.NoThread → ⊥)
fault_of_cause f c is = grind arith

module _ (text : Option (List ℕ)) (reading : Reading) where
  -- the reading stopped after these entries
  stopped_so : (f : EntryFault) (c : Cause) (given : List Numbered) → c ≡ entry_fault_cause f
      → (f ≡ fault.BadHeader → (given ≡ []) × IfSome text (λ t. HasNoHeader reading t)) → AreNumberedFrom 1 given
      → (given ≡ []) ⊎ HasFirstEntries reading text given
      → (f ≡ fault.TooManyRecords → (length given ≡ record_limit) × IfSome text (λ t. HasTooMany reading t))
      → (f ≡ fault.NotSealed → (reading.form ≡ Sealed) × IfSome text (λ t. IsNotSealed reading t)
      × HasAllEntries reading text given)
      → (sent : Sent) → sent.count ≡ length given → sent.outcome ≡ Err c → IsGiven text reading sent given
  stopped_so f c given is bad numbered first many unsealed sent counted why = search (rules, fault_of_cause)

  -- the text was not opened
  pub sends_none : (f : EntryFault) (c : Cause) → c ≡ entry_fault_cause f
      → (f ≡ fault.BadHeader → IfSome text (λ t. HasNoHeader reading t)) → (f ≡ fault.TooManyRecords → ⊥)
      → (f ≡ fault.NotSealed → ⊥) → (sent : Sent) → (sent.count ≡ 0) × (sent.outcome ≡ Err c)
      → (senders : List (Sender Entry)) → ((w : World) → AreDealt w 0 [] senders)
      → MaySend text reading (map sender_lane senders) sent senders
  sends_none f c is bad many unsealed sent why senders deals =
      let others = fault_of_cause f c is in
      let none =
      stopped_so f c [] is (λ e. (refl, bad e)) tt (inl refl) (λ e. absurd (many e)) (λ e. absurd (unsealed e)) sent
      why.0 why.1 in
      let sends : ∥ Sends text reading sent senders ∥₁ = ∣ ([], none, λ w _. deals w) ∣₁ in
      search (rules, others, sends)

module _ (text text' : Option (List ℕ)) (d d' : Reading) (same : text' ≡ text) (by : d' ≡ d) (given old : List Numbered)
    (kept : given ≡ old) (numbered : AreNumberedFrom 1 old)
    (first : ∥ HasFirstEntries d' text' given ∥₁) (senders : List (Sender Entry)) (given_lanes : List Lane)
    (lanes : map sender_lane senders ≡ given_lanes)
    (deals : (w : World) → w.converters ≡ length senders → AreDealt w 0 old senders) where
  first' : ∥ HasFirstEntries d text old ∥₁
  first' = rw (same, by, kept) at first

  -- these are all
  pub sends_all : ∥ HasEntries d' text' given ∥₁ → (sent : Sent) (n : ℕ) → n ≡ length old → sent.count ≡ n
      → sent.outcome ≡ Ok n → MaySend text d given_lanes sent senders
  sends_all all sent n count counted is =
      let sends : ∥ Sends text d sent senders ∥₁
      = ∥∥₁_elim first' ∥∥₁_prop (λ f. ∥∥₁_map (rw (same, by, kept) at all) (λ a.
      let is' : IsGiven text d sent old = search rules in (old, is', deals))) in search (rules, sends)

  -- the reading stopped after these
  given_stopped : (f : EntryFault) (c : Cause) → c ≡ entry_fault_cause f → (f ≡ fault.BadHeader → ⊥)
      → (f ≡ fault.TooManyRecords → (length old ≡ record_limit) × ∥ IfSome text (λ t. HasTooMany d t) ∥₁)
      → (f ≡ fault.NotSealed → (d.form ≡ Sealed) × ∥ IfSome text (λ t. IsNotSealed d t) ∥₁)
      → (f ≡ fault.NotSealed → ∥ HasAllEntries d text old ∥₁) → (sent : Sent) → sent.count ≡ length old
      → sent.outcome ≡ Err c → ∥ IsGiven text d sent old ∥₁
  given_stopped fault.TooManyRecords c is bad many unsealed above sent counted why =
      ∥∥₁_elim first' ∥∥₁_prop (λ s. ∥∥₁_map (many refl).1 (λ m.
      stopped_so text d fault.TooManyRecords c old is (λ e. cc) numbered (inr s) (λ e. ((many refl).0, m)) (λ e. cc)
      sent counted why))
  given_stopped fault.NotSealed c is bad many unsealed above sent counted why =
      ∥∥₁_elim first' ∥∥₁_prop (λ s. ∥∥₁_elim (above refl) ∥∥₁_prop (λ a. ∥∥₁_map (unsealed refl).1 (λ u.
      stopped_so text d fault.NotSealed c old is (λ e. cc) numbered (inr s) (λ e. cc) (λ e. ((unsealed refl).0, u, a))
      sent counted why)))
  given_stopped f c is bad many unsealed above sent counted why =
      ∥∥₁_map first' (λ s. stopped_so text d f c old is (λ e. absurd (bad e)) numbered (inr s) (λ e. cc) (λ e. cc) sent
      counted why)

  pub sends_stopped : (f : EntryFault) (c : Cause) → c ≡ entry_fault_cause f → (f ≡ fault.BadHeader → ⊥)
      → (f ≡ fault.TooManyRecords → (length old ≡ record_limit) × ∥ IfSome text' (λ t. HasTooMany d' t) ∥₁)
      → (f ≡ fault.NotSealed → (d'.form ≡ Sealed) × ∥ IfSome text' (λ t. IsNotSealed d' t) ∥₁)
      → (f ≡ fault.NotSealed → ∥ HasAllEntries d' text' given ∥₁) → (sent : Sent)
      → sent.count ≡ length old → sent.outcome ≡ Err c → MaySend text d given_lanes sent senders
  sends_stopped f c is bad many unsealed above sent counted why =
      let others = fault_of_cause f c is in
      let sends : ∥ Sends text d sent senders ∥₁
      = ∥∥₁_map (given_stopped f c is bad (rw (same, by) at many) (rw (same, by) at unsealed)
      (rw (same, by, kept) at above) sent counted why) (λ is'. (old, is', deals)) in search (rules, others, sends)

  -- a converter was gone after these
  pub sends_gone : (sent : Sent) → sent.outcome ≡ Err cause.Unconfirmed → MaySend text d given_lanes sent senders
  sends_gone sent why =
      let sends : ∥ Sends text d sent senders ∥₁
      = ∥∥₁_map first' (λ f. let is : IsGiven text d sent old = search rules in (old, is, deals)) in
      search (rules, sends)

-- an outcome that does not speak of the text says nothing
pub passed_not : (text : Option (List ℕ)) (d : Reading) (sent : Sent) (c : Cause) (took : Row → Type 0)
    → sent.outcome ≡ Err c → IsOfThreads c → HasPassed text d sent took
passed_not text d sent c took why is = search rules

-- ---- entries that are numbered in order are the first of those among which they stand

later : (k : ℕ) (ys : List Numbered) (z : Numbered) → AreNumberedFrom k ys → Contains ys z → k ≤ z.number
later k [] z h c = absurd (omega (arith, c.1))
later k (y ∷ ys) z h (zero, below, is) = grind (arith, h.0)
later k (y ∷ ys) z h (suc i, below, is) = let m = later (k + 1) ys z h.1 (i, omega arith, is) in omega arith

in_rest : (k : ℕ) (y : Numbered) (ys : List Numbered) (z : Numbered) → y.number ≡ k → k + 1 ≤ z.number
    → Contains (y ∷ ys) z → Contains ys z
in_rest k y ys z e f c = grind arith

is_first : (k : ℕ) (y : Numbered) (ys : List Numbered) (z : Numbered) → AreNumberedFrom (k + 1) ys → z.number ≡ k
    → Contains (y ∷ ys) z → y ≡ z
is_first k y ys z h e (zero, below, is) = is
is_first k y ys z h e (suc i, below, is) = absurd (let m = later (k + 1) ys z h (i, omega arith, is) in omega arith)

pub front : (given xs : List Numbered) (k : ℕ) → AreNumberedFrom k given → AreNumberedFrom k xs
    → ((n : Numbered) → Contains xs n → Contains given n) → (rest : List Numbered) × (given ≡ xs ++ rest)
front given [] k g n all = (given, refl)
front [] (x ∷ xs) k g n all = absurd (let c = all x (0, omega arith, refl) in omega (arith, c.1))
front (y ∷ ys) (x ∷ xs) k g n all =
    let same : y ≡ x = is_first k y ys x g.1 n.0 (all x (0, omega arith, refl)) in
    let more =
    front ys xs (k + 1) g.1 n.1 (λ z c.
    in_rest k y ys z g.0 (later (k + 1) xs z n.1 c) (all z (suc c.0, omega (arith, c.1), c.2))) in
    (more.0, ap (λ l. y ∷ l) more.1 ∙ ap (λ e. e ∷ (xs ++ more.0)) same)

-- what holds of the entry of each row holds of each of the entries
pub each_entry : (P : Numbered → Type 0) (rows : List Row)
    → ((row : Row) → Contains rows row → P (entry_seen row.entry)) → (n : Numbered)
    → Contains (entries_seen rows) n → P n
each_entry P rows all n c =
    let entry : Row → Numbered = λ row. entry_seen row.entry in
    All-contains P (entries_seen rows) n
    (All-map P entry rows (All-weaker (Contains rows) (λ row. P (entry row)) all rows (All-contains_itself rows))) c

-- the entries of rows that were taken, as a front of those given
pub rows_front : (given : List Numbered) (rows : List Row) → AreNumberedFrom 1 given
    → AreNumberedFrom 1 (entries_seen rows) → ((row : Row) → Contains rows row → IsOfGiven given row)
    → (rest : List Numbered) × (given ≡ entries_seen rows ++ rest)
rows_front given rows g n all = front given (entries_seen rows) 1 g n (each_entry (λ e. Contains given e) rows all)

none_more : (xs rest : List Numbered) → length (xs ++ rest) ≡ length xs → xs ++ rest ≡ xs
none_more xs [] e = append-nil xs
none_more xs (y ∷ rest) e = absurd (omega (arith, length-append xs (y ∷ rest)))

pub front_all : (given xs rest : List Numbered) → given ≡ xs ++ rest → length given ≡ length xs → given ≡ xs
front_all given xs rest e len = e ∙ none_more xs rest (sym (ap length e) ∙ len)

pub first_of_first : (reading : Reading) (text : Option (List ℕ)) (given xs rest : List Numbered) → given ≡ xs ++ rest
    → HasFirstEntries reading text given → HasFirstEntries reading text xs
first_of_first reading text given xs rest e (more, (after, has, is)) = search (rules, append_assoc)
