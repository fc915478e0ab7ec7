-- What the grammar and the canonical text say of dates.
use Rattle.std.proofs.Common.{◌≡◌, ◌↔◌, ℕ, List, Option, Some, None, Err, ℤ, refl, sym, subst, ap, ◌∙◌}
use Rattle.std.specs.Option.{ok_or}
use Rattle.date_texts.specs.private.CivilReading.{civil_at}
use Rattle.date_texts.specs.private.LongReading.{long_at}
use Rattle.date_texts.specs.private.Reading.{◌>>=◌}
use Rattle.date_texts.specs.private.RomanReading.{roman_at}
use Rattle.date_texts.proofs.Common.{Calendar, calendar_of_date, canonical_text, Civil, CivilDate, Date, Grammar}
use Rattle.date_texts.proofs.Common.{grammar, IsCivil, IsDateText, Long, Longcount, props, Roman, roman_same}
use Rattle.date_texts.proofs.Common.{RomanCalendar, RomanName, same_made, same_places, SaysDate, trimmed, Ymd, ymd_same}
use Rattle.date_texts.proofs.CanonicalTextLemmas.{canonical_says, canonical_trimmed}
use Rattle.date_texts.proofs.DateReadingLemmas.{civil_said, civil_says, long_said, long_says}
use Rattle.date_texts.proofs.RomanReadingLemmas.{roman_said, roman_says}
use Rattle.date_texts.proofs.ReadingLemmas.{bind_some, none_some, some_inside}

-- what a date text spells
pub data Parts : Type 0 where
  civil : ℤ × ℕ × ℕ → Parts
  long : ℕ × ℕ × ℕ × ℕ × ℕ → Parts
  roman : ℤ × ℕ × RomanName → Parts

abbrev pub parts_of : Date → Parts
parts_of (Civil d) = civil (d.ymd.year, d.ymd.month, d.ymd.day)
parts_of (Long n) = long (n.baktun, n.katun, n.tun, n.uinal, n.kin)
parts_of (Roman d) = roman (d.year, d.month, d.name)

-- what reading finds
abbrev pub parts_at : Calendar → List ℕ → Option Parts
parts_at Longcount text = long_at text >>= λ x. Some (long x)
parts_at RomanCalendar text = roman_at text >>= λ x. Some (roman x)
parts_at calendar text = civil_at (grammar calendar) text >>= λ x. Some (civil x)

civil_parts_at : (calendar : Calendar) (text : List ℕ) → IsCivil calendar
    → parts_at calendar text ≡ (civil_at (grammar calendar) text >>= λ x. Some (civil x))
civil_parts_at Longcount text h = absurd (h.0 refl)
civil_parts_at RomanCalendar text h = absurd (h.1 refl)
civil_parts_at calendar text h = refl

pub civil_parts : (calendar : Calendar) (g : Grammar) (text : List ℕ) (o : Option (ℤ × ℕ × ℕ)) → IsCivil calendar
    → g ≡ grammar calendar → o ≡ civil_at g text → parts_at calendar text ≡ (o >>= λ x. Some (civil x))
civil_parts calendar g text o h own read = rw (read, own) (civil_parts_at calendar text h)

-- ---- reading finds what the grammar says
says_parts : (calendar : Calendar) (text : List ℕ) (date : Date) → SaysDate calendar text date
    → (calendar_of_date date ≡ calendar) × (parts_at calendar text ≡ Some (parts_of date))
says_parts calendar text (Civil d) (of, is) =
    (of, rw (civil_parts_at calendar text (subst IsCivil of d.civil), civil_said (grammar calendar) text _ is))
says_parts calendar text (Long n) (of, is) = (of, rw (sym of, long_said text _ is))
says_parts calendar text (Roman d) (of, is) = (of, rw (sym of, roman_said text _ is))

parts_say : (calendar : Calendar) (text : List ℕ) (date : Date) → calendar_of_date date ≡ calendar
    → parts_at calendar text ≡ Some (parts_of date) → SaysDate calendar text date
parts_say calendar text (Civil d) of e =
    let at = civil_parts_at calendar text (subst IsCivil of d.civil) in
    let x = bind_some (civil_at (grammar calendar) text) _ _ (sym at ∙ e) in
    (of, civil_says (grammar calendar) text (d.ymd.year, d.ymd.month, d.ymd.day) (cc))
parts_say calendar text (Long n) of e =
    let x = bind_some (long_at text) _ _ (rw (sym of) at e) in
    (of, long_says text (n.baktun, n.katun, n.tun, n.uinal, n.kin) (cc))
parts_say calendar text (Roman d) of e =
    let x = bind_some (roman_at text) _ _ (rw (sym of) at e) in
    (of, roman_says text (d.year, d.month, d.name) (cc))

-- civil dates with the same parts are one value
pub civil_same : (d e : CivilDate) → d.calendar ≡ e.calendar → d.ymd ≡ e.ymd → d ≡ e
civil_same d e p q =
    same_made (λ (x : Calendar × Ymd). IsCivil x.0) (λ x h. record { calendar = x.0; ymd = x.1; civil = h })
    (λ x. hlevel props) (d.calendar, d.ymd) (e.calendar, e.ymd) (cc) d.civil e.civil

date_same : (d e : Date) → calendar_of_date d ≡ calendar_of_date e → parts_of d ≡ parts_of e → d ≡ e
date_same (Civil d) (Civil e) of p =
    let same : ◌≡◌ {A = ℤ × ℕ × ℕ} (d.ymd.year, d.ymd.month, d.ymd.day) (e.ymd.year, e.ymd.month, e.ymd.day) = cc in
    let ymd = ymd_same d.ymd e.ymd (ap (λ x. x.0) same) (ap (λ x. x.1) same) (ap (λ x. x.2) same) in
    ap Civil (civil_same d e of ymd)
date_same (Long n) (Long m) of p = ap Long (same_places n m (cc))
date_same (Roman d) (Roman e) of p =
    let same : ◌≡◌ {A = ℤ × ℕ × RomanName} (d.year, d.month, d.name) (e.year, e.month, e.name) = cc in
    ap Roman (roman_same d e (ap (λ (x : ℤ × ℕ × RomanName). record { year = x.0; month = x.1; name = x.2 }) same))
date_same d e of p = absurd (cc)

pub none_says : (calendar : Calendar) (text : List ℕ) (o : Option Date) → o ≡ None → parts_at calendar text ≡ None
    → (date : Date) → (o ≡ Some date) ↔ SaysDate calendar text date
none_says calendar text o n e date = (
  λ some. absurd (none_some (sym n ∙ some)),
  λ says. absurd (none_some (sym e ∙ (says_parts calendar text date says).1)),
)

pub some_says : (calendar : Calendar) (text : List ℕ) (d : Date) → calendar_of_date d ≡ calendar
    → parts_at calendar text ≡ Some (parts_of d) → (date : Date) → (Some d ≡ Some date) ↔ SaysDate calendar text date
some_says calendar text d of e date = (
  λ same. subst (SaysDate calendar text) (some_inside same) (parts_say calendar text d of e),
  λ says. let (of', e') = says_parts calendar text date says in
      ap Some (date_same d date (of ∙ sym of') (some_inside (sym e ∙ e'))),
)

-- a text says at most one date
pub one_date_text : (calendar : Calendar) (text : List ℕ) (d e : Date) → IsDateText calendar text d
    → IsDateText calendar text e → d ≡ e
one_date_text calendar text d e h g =
    let (of, p) = says_parts calendar (trimmed text) d h in
    some_inside ((some_says calendar (trimmed text) d of p e).1 g)

-- the refusal is returned exactly where there is no value
pub refused_where_none : {A F : Type 0} (o : Option A) (refusal : F) (P : A → Type 0) → ((x : A) → (o ≡ Some x) ↔ P x)
    → (ok_or o refusal ≡ Err refusal) ↔ ((x : A) → ¬ (P x))
refused_where_none None refusal P h = (λ e x p. none_some ((h x).1 p), λ never. refl)
refused_where_none (Some x) refusal P h = (λ e. absurd (cc), λ never. absurd (never x ((h x).0 refl)))

-- the canonical text of a date is a date text that says it
pub canonical_text_is : (date : Date) → IsDateText (calendar_of_date date) (canonical_text date) date
canonical_text_is date = rw (canonical_trimmed date) (canonical_says date)
