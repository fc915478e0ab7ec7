-- The outcome of a record: that it has one, and one only, so that every accepted text has one table; and what the calls
-- that read its texts say of it.
use Rattle.std.proofs.Common.{◌≡◌, ℕ, ◌+◌, Bool, ◌↔◌, List, [], ◌∷◌, map, length, ℤ, IfOk, if◌then◌else◌, IsOk, nat_lt}
use Rattle.std.proofs.Common.{Some, None, Ok, Err, Option, Result, sym, refl, ◌∙◌, subst, inl, inr, arith, rules}
use Rattle.register_records.proofs.Common.{calendar_name, IsDateText, OneCalendar, OneCell, OneDateText, IsNamed}
use Rattle.register_records.proofs.Common.{Refusal, Target, IsDayNumber, Day, HaveOneDate, Numbered, entries_from}
use Rattle.register_records.proofs.Common.{record_limit, AreCells, IsOutcome, IsRowOf, Says, TableRow, accepted}
use Rattle.register_records.proofs.Common.{no_date_text, no_such_date, out_of_range, refused, unknown_calendar, Fields}
use Rattle.register_records.proofs.Common.{Texts, outcome_seen, Form, ∥∥₁_elim, props, ints, AllZip, range_with_len}
use Rattle.date_texts.proofs.DateDecisionLemmas.{has_cell, is_date_of_calendar, names_calendar, says_date}
use Rattle.date_texts.proofs.DecisionLemmas.{is_between}
use Rattle.date_texts.specs.declared.refusal.Refusal.TheVariants as refusal
use Rattle.register_records.specs.Outcomes as outcome
use Rattle.date_texts.specs.Dates.{day_number_of_date, IsDateOfCalendar}
use Rattle.date_texts.specs.declared.calendar.Calendar.{Calendar}
use Rattle.date_texts.specs.declared.date.Date.{Date}
use Rattle.date_texts.specs.Cells.{IsCell}

-- the outcome of a body
abbrev pub HasOutcome : Result Texts Refusal → Type 0
HasOutcome body = (outcome : Result ℤ Refusal) × IsOutcome body outcome

dated : (t : Texts) (calendar : Calendar) (date : Date) → Says t.calendar t.date calendar date → HasOutcome (Ok t)
dated t calendar date says = elim (is_date_of_calendar date) [
  | inr none ↦ (Err refusal.NoSuchDate, no_such_date calendar date says none)
  | inl is ↦ elim (is_between _ _ (day_number_of_date date)) [
    | inl day ↦ (Ok (day_number_of_date date), accepted calendar date says is day)
    | inr other ↦ (Err refusal.OutOfRange, out_of_range calendar date says is other)
  ]
]

named : (t : Texts) (calendar : Calendar) → IsNamed t.calendar (calendar_name calendar) → HasOutcome (Ok t)
named t calendar is = elim (says_date calendar t.date) [
  | inl text ↦ dated t calendar text.0 (record { named = is; dated = text.1 })
  | inr none ↦ (Err refusal.DateText, no_date_text calendar is (λ date text. none (date, text)))
]

pub has_outcome : (body : Result Texts Refusal) → HasOutcome body
has_outcome (Err r) = (Err r, refused)
has_outcome (Ok t) = elim (names_calendar t.calendar) [
  | inl is ↦ named t is.0 is.1
  | inr none ↦ (Err refusal.UnknownCalendar, unknown_calendar (λ calendar is. none (calendar, is)))
]

-- where something stands beside each item of a list, a list stands beside it
pub all_beside : {A B : Type 0} (R : A → B → Type 0) → ((x : A) → (y : B) × R x y) → (xs : List A)
    → (ys : List B) × AllZip R xs ys
all_beside R has [] = ([], tt)
all_beside R has (x ∷ xs) =
    let y = has x in let ys = all_beside R has xs in (y.0 ∷ ys.0, (y.1, ys.1))

-- the cells of an outcome
pub has_cells : (ts : List Target) (outcome : Result ℤ Refusal) → (cells : List (List ℕ)) × AreCells ts outcome cells
has_cells ts (Err r) = ([], refl)
has_cells ts (Ok n) = all_beside (λ t cell. IsCell t n cell) (λ t. has_cell t n) ts

-- the row of an entry
pub has_row : (ts : List Target) (entry : Numbered) → (row : TableRow) × IsRowOf ts entry row
has_row ts entry =
    let o = has_outcome entry.body in let cells = has_cells ts o.0 in (
      record { number = entry.number; body = entry.body; outcome = o.0; cells = cells.0 },
      record { number = refl; body = refl; outcome = o.1; cells = cells.1 },
    )

-- the entries of records are numbered in order
abbrev pub AreInOrder : ℕ → List Numbered → Type 0
AreInOrder k entries = map (λ (entry : Numbered). entry.number) entries ≡ range_with_len k (length entries)

numbered_if : (b : Bool) (k : ℕ) (entry : Numbered) (entries : List Numbered) → entry.number ≡ k
    → AreInOrder (k + 1) entries → AreInOrder k (if b then entry ∷ entries else [])
numbered_if b k entry entries is rest = grind arith

pub numbered : (form : Form) (k : ℕ) (records : List Fields) → AreInOrder (k + 1) (entries_from form k records)
unfolding entries_from
numbered form k [] = refl
numbered form k (r ∷ rest) = numbered_if (nat_lt k record_limit) (k + 1) _ _ refl (numbered form (k + 1) rest)

-- where one thing can stand beside each item of a list, one list can stand beside it
pub one_beside : {A B : Type 0} (R : A → B → Type 0) → ((x : A) (y z : B) → R x y → R x z → y ≡ z)
    → (xs : List A) (ys zs : List B) → AllZip R xs ys → AllZip R xs zs → ys ≡ zs
one_beside R one (x ∷ xs) (y ∷ ys) (z ∷ zs) a b =
    grind (arith, ints, one x y z a.0 b.0, one_beside R one xs ys zs a.1 b.1)
one_beside R one xs ys zs a b = search (rules, ints)

-- a row has one list of cells
pub one_cells : OneCell → (o : Result ℤ Refusal) (ts : List Target) (xs ys : List (List ℕ)) → AreCells ts o xs
    → AreCells ts o ys → xs ≡ ys
one_cells law o ts xs ys a b = search (rules, one_beside)

module _ (one_calendar : OneCalendar) (one_date_text : OneDateText) (one_cell : OneCell) where
  -- a text says one date at most
  one_date : {name text : List ℕ} {c e : Calendar} {d f : Date} → Says name text c d → Says name text e f → d ≡ f
  one_date h k = search rules

  -- a text says no date, or it says one
  text_clash : {name text : List ℕ} {c e : Calendar} {d : Date} → IsNamed name (calendar_name c)
      → ((f : Date) → ¬ (IsDateText c text f)) → Says name text e d → ⊥
  text_clash {name = name} {c = c} {e = e} {d = d} n none s =
      let same = one_calendar name e c s.named n in none d (rw (← same) s.dated)

  -- its date is one of its calendar, or it is not; and its day is in range, or it is not
  date_clash : {name text : List ℕ} {c e : Calendar} {d f : Date} → Says name text c d → Says name text e f
      → ¬ (IsDateOfCalendar d) → IsDateOfCalendar f → ⊥
  date_clash s k none is = none (rw (one_date s k) is)

  day_clash : {name text : List ℕ} {c e : Calendar} {d f : Date} → Says name text c d → Says name text e f
      → ¬ (IsDayNumber (day_number_of_date d)) → IsDayNumber (day_number_of_date f) → ⊥
  day_clash s k out within = out (rw (one_date s k) within)

  -- a body has one outcome at most
  one_outcome : (b : Result Texts Refusal) (o p : Result ℤ Refusal) → IsOutcome b o → IsOutcome b p → o ≡ p
  one_outcome b o p refused refused = refl
  one_outcome b o p (unknown_calendar x) (unknown_calendar y) = refl
  one_outcome b o p (unknown_calendar x) (no_date_text c n y) = absurd (x c n)
  one_outcome b o p (unknown_calendar x) (no_such_date c d s y) = absurd (x c s.named)
  one_outcome b o p (unknown_calendar x) (out_of_range c d s is y) = absurd (x c s.named)
  one_outcome b o p (unknown_calendar x) (accepted c d s is y) = absurd (x c s.named)
  one_outcome b o p (no_date_text c n x) (unknown_calendar y) = absurd (y c n)
  one_outcome b o p (no_date_text c n x) (no_date_text e m y) = refl
  one_outcome b o p (no_date_text c n x) (no_such_date e f s y) = absurd (text_clash n x s)
  one_outcome b o p (no_date_text c n x) (out_of_range e f s is y) = absurd (text_clash n x s)
  one_outcome b o p (no_date_text c n x) (accepted e f s is y) = absurd (text_clash n x s)
  one_outcome b o p (no_such_date c d s x) (unknown_calendar y) = absurd (y c s.named)
  one_outcome b o p (no_such_date c d s x) (no_date_text e m y) = absurd (text_clash m y s)
  one_outcome b o p (no_such_date c d s x) (no_such_date e f k y) = refl
  one_outcome b o p (no_such_date c d s x) (out_of_range e f k is y) = absurd (date_clash s k x is)
  one_outcome b o p (no_such_date c d s x) (accepted e f k is y) = absurd (date_clash s k x is)
  one_outcome b o p (out_of_range c d s is x) (unknown_calendar y) = absurd (y c s.named)
  one_outcome b o p (out_of_range c d s is x) (no_date_text e m y) = absurd (text_clash m y s)
  one_outcome b o p (out_of_range c d s is x) (no_such_date e f k y) = absurd (date_clash k s y is)
  one_outcome b o p (out_of_range c d s is x) (out_of_range e f k was y) = refl
  one_outcome b o p (out_of_range c d s is x) (accepted e f k was y) = absurd (day_clash s k x y)
  one_outcome b o p (accepted c d s is x) (unknown_calendar y) = absurd (y c s.named)
  one_outcome b o p (accepted c d s is x) (no_date_text e m y) = absurd (text_clash m y s)
  one_outcome b o p (accepted c d s is x) (no_such_date e f k y) = absurd (date_clash k s y is)
  one_outcome b o p (accepted c d s is x) (out_of_range e f k was y) = absurd (day_clash k s y x)
  one_outcome b o p (accepted c d s is x) (accepted e f k was y) = rw (one_date s k) refl

  -- what is only said of its outcome is known of it, since it is the only one
  pub known_outcome : (b : Result Texts Refusal) (o : Result ℤ Refusal) → ∥ IsOutcome b o ∥₁ → IsOutcome b o
  known_outcome b o said =
      let (known, is) = has_outcome b in
      let same : known ≡ o = ∥∥₁_elim said (Prim.hlevel props) (λ other. one_outcome b known o is other) in
      subst (λ (x : Result ℤ Refusal). IsOutcome b x) same is

  made_row : (n m : ℕ) (b c : Result Texts Refusal) (o p : Result ℤ Refusal) (xs ys : List (List ℕ)) → n ≡ m → b ≡ c
      → o ≡ p → xs ≡ ys
      → ◌≡◌ {A = TableRow} (record { number = n; body = b; outcome = o; cells = xs })
      (record { number = m; body = c; outcome = p; cells = ys })
  made_row n m b c o p xs ys e f g h = rw (e, f, g, h) refl

  pub one_row : (targets : List Target) (entry : Numbered) (r s : TableRow) → IsRowOf targets entry r
      → IsRowOf targets entry s → r ≡ s
  one_row targets entry r s a b =
      let same = one_outcome entry.body r.outcome s.outcome a.outcome b.outcome in
      made_row _ _ _ _ _ _ _ _ (a.number ∙ sym b.number) (a.body ∙ sym b.body) same
      (one_cells one_cell s.outcome targets r.cells s.cells (rw same at a.cells) b.cells)

-- a name that was not found names no calendar
pub no_calendar : (name : List ℕ) (found : Option Calendar) → found ≡ None
    → ((calendar : Calendar) → (found ≡ Some calendar) ↔ IsNamed name (calendar_name calendar))
    → (calendar : Calendar) → ¬ (IsNamed name (calendar_name calendar))
no_calendar name found e h calendar named = let some = (h calendar).1 named in cc

-- one of the three holds of a date: it is none, or its day is in the range, or it is not
one_of_three : {A B : Type 0} → ¬ (A × B) → ¬ (¬ A) → ¬ (A × ¬ B) → ⊥
one_of_three both some out = some (λ a. out (a, λ b. both (a, b)))

module _ (t : Texts) (c : Calendar) (d : Date) where
  -- what the day of a date says
  abbrev SaysDay : Result Day Refusal → Type 0
  SaysDay r =
      (IsOk r ↔ (IsDateOfCalendar d × IsDayNumber (day_number_of_date d)))
      × IfOk r (λ day. day.number ≡ day_number_of_date d)
      × ((r ≡ Err refusal.NoSuchDate) ↔ ¬ (IsDateOfCalendar d))
      × ((r ≡ Err refusal.OutOfRange) ↔ (IsDateOfCalendar d × ¬ (IsDayNumber (day_number_of_date d))))

  other_refusal : (r : Refusal) → ¬ (r ≡ refusal.NoSuchDate) → ¬ (r ≡ refusal.OutOfRange) → SaysDay (Err r) → ⊥
  other_refusal r n o h =
      one_of_three (λ both. not_ok r (h.0.1 both)) (λ none. n (same r _ (h.2.1 none))) (λ out. o (same r _ (h.3.1 out)))
    where
      not_ok : (r : Refusal) → IsOk {T = Day} {E = Refusal} (Err r) → ⊥
      not_ok r e = cc

      same : (a b : Refusal) → ◌≡◌ {A = Result Day Refusal} (Err a) (Err b) → a ≡ b
      same a b e = cc

  pub day_outcome : Says t.calendar t.date c d → (r : Result Day Refusal) → SaysDay r
      → IsOutcome (Ok t) (outcome_seen r)
  day_outcome s (Ok day) h = rw h.1 (outcome.accepted c d s (h.0.0 refl).0 (h.0.0 refl).1)
  day_outcome s (Err refusal.NoSuchDate) h = outcome.no_such_date c d s (h.2.0 refl)
  day_outcome s (Err refusal.OutOfRange) h = outcome.out_of_range c d s (h.3.0 refl).0 (h.3.0 refl).1
  day_outcome s (Err r) h = absurd (other_refusal r (λ e. cc) (λ e. cc) h)

-- a body has the outcome of another with the same calendar and date
pub outcome_of_same : (b c : Result Texts Refusal) (o : Result ℤ Refusal) → HaveOneDate b c → IsOutcome b o
    → IsOutcome c o
outcome_of_same (Ok t) (Ok u) o same (outcome.unknown_calendar none) = outcome.unknown_calendar (rw same.0 at none)
outcome_of_same (Ok t) (Ok u) o same (outcome.no_date_text c named none) =
    outcome.no_date_text c (rw same.0 at named) (rw same.1 at none)
outcome_of_same (Ok t) (Ok u) o same (outcome.no_such_date c date says none) =
    outcome.no_such_date c date (rw (same.0, same.1) at says) none
outcome_of_same (Ok t) (Ok u) o same (outcome.out_of_range c date says is out) =
    outcome.out_of_range c date (rw (same.0, same.1) at says) is out
outcome_of_same (Ok t) (Ok u) o same (outcome.accepted c date says is within) =
    outcome.accepted c date (rw (same.0, same.1) at says) is within
outcome_of_same b c o same is = absurd same
