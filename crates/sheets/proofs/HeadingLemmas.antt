-- Headings are named one after the other.
use Rattle.std.proofs.Common.{◌≡◌, ◌<◌, ◌≤◌, ◌+◌, ◌∙◌, ◌++◌, ℕ, zero, suc, Bool, true, false, List, [], ◌∷◌, refl, sym}
use Rattle.std.proofs.Common.{ap, subst, arith, append_assoc, append-nil, drop, get_or, length, ◌||◌, Vec}
use Rattle.sheets.proofs.Common.{bytes_eq, fields_of, Fields, NamesMore, taken_by, wanted_all, DateColumn}
use Rattle.sheets.proofs.Common.{is_taken, items_of}
use Rattle.std.specs.Fmt.{decimal}
use Rattle.std.specs.declared.alloc.Global.{Global}
use Rattle.std.proofs.lemmas.Cmp.{nat_list_eq_equiv}
use Rattle.std.proofs.lemmas.List.{at_drop_more, map-append, map_push}
use Rattle.sheets.specs.Headings.{AreHeadings, IsHeading, numbered, wanted_heading}
use Rattle.sheets.specs.declared.new_headings.NewNames.{NewNames}

-- the name with this number is free, and those before it are not
pub first_free : (taken : Fields) (wanted name : List ℕ) (n : ℕ) → 2 ≤ n → name ≡ wanted ++ 32 ∷ decimal n
    → is_taken taken name ≡ false → ((fewer : ℕ) → fewer + 1 < n → is_taken taken (numbered wanted fewer) ≡ true)
    → IsHeading taken wanted name
first_free taken wanted name zero low e free least = absurd (omega arith)
first_free taken wanted name (suc zero) low e free least = absurd (omega arith)
first_free taken wanted name (suc (suc k)) low e free least =
    let is : suc (suc k) ≡ k + 2 = omega arith in
    record {
      count = suc k;
      is = e ∙ ap (λ (m : ℕ). wanted ++ 32 ∷ decimal m) is;
      free = free;
      least = λ fewer lt. least fewer (omega arith);
    }

-- behind headings come more
pub more_headings : (taken wanted more headings others : Fields) → AreHeadings taken wanted headings
    → AreHeadings (taken ++ headings) more others → AreHeadings taken (wanted ++ more) (headings ++ others)
more_headings taken [] more [] others h both = rw append-nil at both
more_headings taken (w ∷ wanted) more (x ∷ headings) others h both = (
  h.0,
  more_headings (taken ++ x ∷ []) wanted more headings others h.1
      (subst (λ (all : Fields). AreHeadings all more others) (sym (append_assoc taken (x ∷ []) headings)) both),
)
more_headings taken wanted more headings others h both = absurd h

pub both_named : (wanted more : Fields) (old mid new : NewNames) → NamesMore wanted old mid → NamesMore more mid new
    → NamesMore (wanted ++ more) old new
both_named wanted more old mid new h i =
    let taken : taken_by mid ≡ taken_by old ++ h.more
    = rw (h.own, h.made) (sym (append_assoc _ (items_of old.made.items) h.more)) in
    record {
      more = h.more ++ i.more;
      own = i.own ∙ h.own;
      made = i.made ∙ ap (λ (xs : Fields). xs ++ i.more) h.made ∙ append_assoc (items_of old.made.items) h.more i.more;
      named = more_headings (taken_by old) wanted more h.more i.more h.named
          (subst (λ (all : Fields). AreHeadings all more i.more) taken i.named);
    }

-- the same where what is wanted next depends on the sheet's names
pub then_named : (wanted : Fields) (next : Fields → Fields) (old mid new : NewNames) → NamesMore wanted old mid
    → NamesMore (next (fields_of mid.own)) mid new → NamesMore (wanted ++ next (fields_of old.own)) old new
then_named wanted next old mid new h i =
    both_named wanted (next (fields_of old.own)) old mid new h
    (subst (λ (own : Fields). NamesMore (next own) mid new) (ap fields_of h.own) i)

-- and where names come for a column of dates
pub then_all : (several : Bool) (date : DateColumn) (xs ys all : Fields) (old mid new : NewNames) → all ≡ xs ++ ys
    → NamesMore (wanted_all several date xs (fields_of old.own)) old mid
    → NamesMore (wanted_all several date ys (fields_of mid.own)) mid new
    → NamesMore (wanted_all several date all (fields_of old.own)) old new
then_all several date xs ys all old mid new e h i =
    subst (λ (names : Fields). NamesMore names old new)
    (sym (ap (λ (names : Fields). wanted_all several date names (fields_of old.own)) e
    ∙ map-append (wanted_heading several (get_or (fields_of old.own) date.date [])) xs ys))
    (then_named _ (wanted_all several date ys) old mid new h i)

-- a name is that at this place, or stands behind it
pub taken_next : (xs : Fields) (k : ℕ) (name : List ℕ) → k < length xs
    → is_taken (drop k xs) name ≡ (bytes_eq name (get_or xs k []) || is_taken (drop (k + 1) xs) name)
taken_next xs k name lt = at_drop_more (λ (ys : Fields). is_taken ys name) xs k [] lt

-- a new name is that at this place, or stands behind it
pub made_next : (made : List (Vec ℕ Global)) (k : ℕ) (text : Vec ℕ Global) (name : List ℕ) → k < length made
    → text ≡ get_or made k text → is_taken (items_of (drop k made)) name
    ≡ (bytes_eq name text.items || is_taken (items_of (drop (k + 1) made)) name)
made_next made k text name lt is =
    at_drop_more (λ (xs : List (Vec ℕ Global)). is_taken (items_of xs) name) made k text lt
    ∙ ap (λ (it : Vec ℕ Global). bytes_eq name it.items || is_taken (items_of (drop (k + 1) made)) name) (sym is)

pub bytes_alike : (name : List ℕ) → bytes_eq name name ≡ true
bytes_alike name = nat_list_eq_equiv.refl name

-- the new names, each by its bytes
pub made_named : (made : List (Vec ℕ Global)) (text : Vec ℕ Global)
    → items_of (made ++ text ∷ []) ≡ items_of made ++ text.items ∷ []
made_named made text = map_push (λ (it : Vec ℕ Global). it.items) made text

pub one_named : (wanted : List ℕ) (old new : NewNames) (name : List ℕ) → new.own ≡ old.own
    → items_of new.made.items ≡ items_of old.made.items ++ name ∷ [] → IsHeading (taken_by old) wanted name
    → NamesMore (wanted ∷ []) old new
one_named wanted old new name own made heading =
    record { more = name ∷ []; own = own; made = made; named = (heading, tt) }
