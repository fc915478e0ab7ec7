-- What a step of a reader of entries does to those that it gave.
use Rattle.register_records.proofs.Common.{◌≡◌, ℕ, ◌+◌, ◌<◌, ◌≤◌, true, List, [], ◌∷◌, ◌++◌, length, IfSome, nat_lt}
use Rattle.register_records.proofs.Common.{Some, None, Option, option_map, sym, refl, ap, ◌∙◌, append_assoc, append-nil}
use Rattle.register_records.proofs.Common.{arith, length-append, rules, HasAllEntries, HasEntries, HasFirstEntries}
use Rattle.register_records.proofs.Common.{HasTooMany, IsNotSealed, Numbered, Reading, body_of, entries_from}
use Rattle.register_records.proofs.Common.{record_limit, Fields, AreClosed, before_seal, entry_records, is_seal}
use Rattle.register_records.proofs.Common.{entry_seen, Entry, Form, ∥∥₁_map, nat_tests, append_cancel_left}
use Rattle.register_records.specs.ReadingState.{reading_by}
use Rattle.register_records.specs.private.ReadingState.{Ends, HasEntry, IsNoSeal, LacksSeal, TakesFirst, EndsAt}
use Rattle.register_records.specs.private.ReadingState.{Gives, HasRead}
use Rattle.register_records.specs.declared.reading.ReaderState.{ReaderState}
use Rattle.register_records.specs.declared.reading.ReaderState.TheVariants as states
use Rattle.register_records.specs.Entries.{HasRecords, entries_of, text_records}
use Rattle.register_records.specs.Headers.{IsHeader}

pub if_some : {X : Type 0} (o : Option X) (P Q : X → Type 0) → ((x : X) → P x → Q x) → IfSome o P → IfSome o Q
if_some o P Q f h = search rules

-- a record that is no seal comes before the first seal
pub no_seal_first : (form : Form) (r : Fields) (rest : List Fields) → IsNoSeal form r
    → entry_records form (r ∷ rest) ≡ r ∷ entry_records form rest
unfolding before_seal
no_seal_first form r rest h = search rules

-- no record is before a seal that stands first
pub seal_first : (r : Fields) (rest : List Fields) → is_seal r ≡ true → before_seal (r ∷ rest) ≡ []
unfolding before_seal
seal_first r rest h = rw h refl

pub before_none : before_seal [] ≡ []
unfolding before_seal
before_none = refl

-- the first of the entries that are left
first_entry : (form : Form) (k : ℕ) (r : Fields) (rest : List Fields) → k < record_limit
    → entries_from form k (r ∷ rest) ≡ record { number = k + 1; body = body_of form r } ∷ entries_from form (k + 1) rest
unfolding entries_from
first_entry form k r rest h = let e : nat_lt k record_limit ≡ true = grind (arith, nat_tests) in rw e refl

entries_none : (form : Form) (k : ℕ) → entries_from form k [] ≡ []
unfolding entries_from
entries_none form k = refl

-- no record is an entry
no_entries : (form : Form) → entry_records form [] ≡ []
no_entries form = search (rules, before_none)

module _ (reading : Reading) where
  abbrev form : Form
  form = reading.form

  -- these records are the text's, and where it is known, these are left of them
  abbrev Has : Option (List ℕ) → List Fields → Type 0
  Has text after = IfSome text (λ t. HasRecords reading t after)

  abbrev AreLeft : Option (List ℕ) → Option (List Fields) → List Fields → Type 0
  AreLeft text left rest = IfSome text (λ t. left ≡ Some rest)

  -- a first record that is a header
  header_read : {text : Option (List ℕ)} {left : Option (List Fields)} (rest : List Fields)
      → Has text rest → AreLeft text left rest → HasRead reading text states.Open left []
  header_read rest has is =
      record {
        past = [];
        rest = rest;
        accepted = has;
        counted = refl;
        no_seal = λ more. refl;
        followed = λ more. refl;
        left_is = λ _. is;
        ended = λ e. absurd (cc);
      }

  has_read_first : (text : Option (List ℕ)) (left : Option (List Fields)) (f : Fields)
      → TakesFirst (option_map (text_records reading.delimiter) text) left f → IsHeader form f
      → HasRead reading text states.Open left []
  has_read_first None left f t h = header_read [] tt tt
  has_read_first (Some text) None f t h = absurd t
  has_read_first (Some text) (Some rest) f t h = header_read rest (f, t, h) refl

  -- one more record
  record_more : (text : Option (List ℕ)) (left left2 : Option (List Fields)) (past rest : List Fields) (f : Fields)
      → Has text (past ++ rest) → AreLeft text left rest → TakesFirst left left2 f
      → (rest2 : List Fields) × Has text ((past ++ f ∷ []) ++ rest2) × AreLeft text left2 rest2
  record_more None left left2 past rest f has is t = ([], tt, tt)
  record_more (Some text) left None past rest f has is t = absurd (rw is at t)
  record_more (Some text) left (Some rest2) past rest f has is t =
      let same : rest ≡ f ∷ rest2 = rw is at t in
      (rest2, rw (append_assoc past (f ∷ []) rest2, ← same) has, refl)

  has_read_more : {text : Option (List ℕ)} {left left2 : Option (List Fields)} {given : List Numbered} {x : Entry}
      → HasRead reading text states.Open left given → Gives form (length given) left left2 x
      → length given < record_limit → HasRead reading text states.Open left2 (given ++ entry_seen x ∷ [])
  has_read_more {given = given} {x = x} s g few =
      let more = record_more _ _ _ s.past s.rest g.fields s.accepted (s.left_is refl) g.first in
      let longer : length (given ++ entry_seen x ∷ []) ≡ length given + 1 = length-append given (entry_seen x ∷ []) in
      record {
        past = s.past ++ g.fields ∷ [];
        rest = more.0;
        accepted = more.1;
        counted = length-append s.past (g.fields ∷ []) ∙ omega (arith, s.counted, longer);
        no_seal = λ more.
            simp append_assoc (s.no_seal (g.fields ∷ more)
            ∙ ap (λ (t : List Fields). s.past ++ t) (no_seal_first form g.fields more g.no_seal));
        followed = λ more.
            simp append_assoc (rw (longer, g.number, g.body, ← first_entry form (length given) g.fields more few)
            (s.followed (g.fields ∷ more)));
        left_is = λ _. more.2;
        ended = λ e. absurd (cc);
      }

  -- of those that were given, and of records behind them
  module _ {text : Option (List ℕ)} {state : ReaderState} {left : Option (List Fields)} {given : List Numbered}
      (s : HasRead reading text state left given) where
    first_given : HasFirstEntries reading text given
    first_given =
        let all = sym (ap (entries_from form 0) (s.no_seal s.rest) ∙ s.followed (entry_records form s.rest)) in
        (entries_from form (length given) (entry_records form s.rest), (s.past ++ s.rest, s.accepted, all))

    past_records : (rest : List Fields) → entry_records form rest ≡ [] → entry_records form (s.past ++ rest) ≡ s.past
    past_records rest e = s.no_seal rest ∙ rw e (append-nil s.past)

    past_given : (rest : List Fields) → entry_records form rest ≡ [] → given ≡ entries_of form (s.past ++ rest)
    past_given rest e =
        cc (past_records rest e, append-nil s.past, s.followed [], entries_none form (length given), append-nil given)

    -- the reader gives no more
    stopped : {state2 : ReaderState} {left2 : Option (List Fields)} → ¬ (state2 ≡ states.Open)
        → (state2 ≡ states.Ended → HasEntries reading text given) → HasRead reading text state2 left2 given
    stopped shut all = search rules

  ends_none : (k : Form) (count : ℕ) (records : List Fields) → EndsAt k count records → entry_records k records ≡ []
  ends_none k count records e = search (rules, seal_first)

  closed_so : (k : Form) (past rest : List Fields) → entry_records k (past ++ rest) ≡ past → EndsAt k (length past) rest
      → AreClosed k (past ++ rest)
  closed_so k past rest e h = search rules

  -- what a text of these records that is closed says of the rest
  ends_so : (k : Form) (past rest : List Fields) → entry_records k rest ≡ [] → entry_records k (past ++ rest) ≡ past
      → AreClosed k (past ++ rest) → EndsAt k (length past) rest
  ends_so k past rest n e c = search (rules, append_cancel_left)

  -- the records behind those past that end the text
  last_records : (text : Option (List ℕ)) (left : Option (List Fields)) (past rest last : List Fields)
      → Has text (past ++ rest) → AreLeft text left rest → IfSome left (λ l. l ≡ last) → Has text (past ++ last)
  last_records text left past rest last has is e = search rules

  -- the text ends after the entries given
  all_given : {text : Option (List ℕ)} {left : Option (List Fields)} {given : List Numbered}
      → HasRead reading text states.Open left given → Ends form (length given) left → length given ≤ record_limit
      → HasEntries reading text given
  all_given s e few =
      let none = ends_none form _ e.0 e.1 in
      let before = past_records s e.0 none in (
        s.past ++ e.0,
        last_records _ _ s.past s.rest e.0 s.accepted (s.left_is refl) e.2,
        (rw before (omega (arith, s.counted, few)), closed_so form s.past e.0 before (rw s.counted e.1)),
        past_given s e.0 none,
      )

  -- no entry is left after those given
  all_above : (text : Option (List ℕ)) {left : Option (List Fields)} {given : List Numbered}
      → HasRead reading text states.Open left given → IfSome left (LacksSeal form (length given))
      → HasAllEntries reading text given
  all_above None s lacks = (s.past ++ [], tt, past_given s [] (no_entries form))
  all_above (Some text) s lacks = (s.past ++ s.rest, s.accepted, past_given s s.rest (rw (s.left_is refl) at lacks).0)

  too_many : (text : Option (List ℕ)) {left : Option (List Fields)} {given : List Numbered}
      → HasRead reading text states.Open left given → IfSome left (HasEntry form) → length given ≡ record_limit
      → IfSome text (λ t. HasTooMany reading t)
  too_many text s some e = search (rules, length-append)

  not_sealed : (text : Option (List ℕ)) {left : Option (List Fields)} {given : List Numbered}
      → HasRead reading text states.Open left given → IfSome left (LacksSeal form (length given))
      → length given ≤ record_limit → IfSome text (λ t. IsNotSealed reading t)
  not_sealed None s lacks h = tt
  not_sealed (Some text) {given = given} s lacks h = search (rules, past_records, ends_so)

abbrev pub MayHaveRead : Option (List ℕ) → Reading → ReaderState → Option (List Fields) → List Numbered → Type 0
MayHaveRead o reading state left given = ∥ HasRead reading o state left given ∥₁

pub first_step : {o p : Option (List ℕ)} {d e : ℕ} {j k : Form} {given : List Numbered} (left : Option (List Fields))
    (f : Fields) → p ≡ o → e ≡ d → k ≡ j → given ≡ []
    → TakesFirst (option_map (text_records d) o) left f → IsHeader j f
    → MayHaveRead p (reading_by e k) states.Open left given
first_step left f a b c h t i = rw (a, b, c, h) (∣ has_read_first (reading_by _ _) _ left f t i ∣₁)

module _ {o : Option (List ℕ)} {reading : Reading} {state : ReaderState} {left : Option (List Fields)}
    {given : List Numbered} (has_read : MayHaveRead o reading state left given) where
  pub may_first : ∥ HasFirstEntries reading o given ∥₁
  may_first = ∥∥₁_map has_read (λ s. first_given reading s)

  pub may_fail : {left2 : Option (List Fields)} {given2 : List Numbered} → given2 ≡ given
      → MayHaveRead o reading states.Failed left2 given2
  may_fail e = rw e (∥∥₁_map has_read (λ s. stopped reading s (λ o. absurd (cc)) (λ e. absurd (cc))))

  pub may_ended : state ≡ states.Ended → ∥ HasEntries reading o given ∥₁
  may_ended e = ∥∥₁_map has_read (λ s. s.ended e)

  module _ (goes : state ≡ states.Open) {count : ℕ} (counted : count ≡ length given) where
    opened : ∥ HasRead reading o states.Open left given ∥₁
    opened = rw goes at has_read

    pub may_more : {left2 : Option (List Fields)} {given2 : List Numbered} {x : Entry}
        → Gives reading.form count left left2 x → count < record_limit
        → given2 ≡ given ++ entry_seen x ∷ [] → MayHaveRead o reading state left2 given2
    may_more g few e =
        rw (goes, e) (∥∥₁_map opened (λ s. has_read_more reading s (rw counted at g) (rw counted at few)))

    module _ (few : length given ≤ record_limit) where
      pub may_all : Ends reading.form count left → ∥ HasEntries reading o given ∥₁
      may_all e = ∥∥₁_map opened (λ s. all_given reading s (rw counted at e) few)

      pub may_end : {left2 : Option (List Fields)} → Ends reading.form count left
          → MayHaveRead o reading states.Ended left2 given
      may_end e =
          ∥∥₁_map opened (λ s. stopped reading s (λ o. absurd (cc)) (λ _. all_given reading s (rw counted at e) few))

      pub may_lack : IfSome left (LacksSeal reading.form count) → ∥ IfSome o (λ text. IsNotSealed reading text) ∥₁
      may_lack e = ∥∥₁_map opened (λ s. not_sealed reading o s (rw counted at e) few)

    pub may_above : IfSome left (LacksSeal reading.form count) → ∥ HasAllEntries reading o given ∥₁
    may_above e = ∥∥₁_map opened (λ s. all_above reading o s (rw counted at e))

    pub may_many : IfSome left (HasEntry reading.form) → count ≡ record_limit
        → ∥ IfSome o (λ text. HasTooMany reading text) ∥₁
    may_many e full = ∥∥₁_map opened (λ s. too_many reading o s e (sym counted ∙ full))

-- the steps of reading the next entry
pub ruleset given_steps = (may_ended, may_end, may_fail, may_all, may_many, may_lack, may_above)
