-- Each number and each month among the items is used.
use Rattle.std.proofs.Common.{◌≡◌, ◌⊎◌, inl, inr, ℕ, Bool, true, false, not, ◌&&◌, ◌||◌, cond, refl, sym, ap, arith}
use Rattle.std.proofs.Common.{List, [], ◌∷◌, ◌++◌, Option, Some, None, append-nil, ◌∙◌, subst, nat_le, pos}
use Rattle.std.specs.List.Sorted.{IsPermutation}
use Rattle.std.proofs.lemmas.List.Elements.{filter-append}
use Rattle.std.proofs.lemmas.List.Sorted.{IsPermutation-refl}
use Rattle.day_numbers.specs.declared.day.Weekday.{Weekday as NamedWeekday}
use Rattle.church_year.specs.declared.feasts.Feast.{Feast as Festival}
use Rattle.church_year.specs.declared.feasts.Feast.TheVariants as feasts
use Rattle.church_year.specs.declared.feasts.Season.{Season}
use Rattle.church_year.specs.declared.feasts.Place.{Place}
use Rattle.church_year.specs.declared.feasts.Place.TheVariants as places
use Rattle.written_dates.specs.declared.feast_rules.Naming.{Naming}
use Rattle.written_dates.specs.declared.items.Number.{Number as Numeral}
use Rattle.written_dates.specs.declared.items.Item.{Item}
use Rattle.written_dates.specs.declared.items.Item.TheVariants.{Number, Month, Weekday, DecadeDay, Relation, Feast, Sundays}
use Rattle.written_dates.specs.declared.meanings.Relation.{Relation as Related}
use Rattle.written_dates.specs.declared.meanings.Relation.TheVariants.{After, Before, Eve, Morrow, Octave}
use Rattle.written_dates.specs.declared.rules.InYear.{InYear}
use Rattle.written_dates.specs.declared.rules.InYear.TheVariants as days
use Rattle.written_dates.specs.declared.rules.Order.{Order}
use Rattle.written_dates.specs.declared.rules.Order.TheVariants.{YearFirst, DayFirst, MonthFirst}
use Rattle.written_dates.specs.declared.rules.Reading.{Reading}
use Rattle.written_dates.specs.declared.rules.Reading.TheVariants.{Civil}
use Rattle.written_dates.specs.Tokens.{Piece}
use Rattle.written_dates.specs.Items.{is_long}
use Rattle.written_dates.specs.Signs.{has_bar_between, has_mixed_signs, has_two_dashes}
use Rattle.written_dates.specs.FeastRules.{weekday_first, number_first, relation_first, ending, behind_front, season_after}
use Rattle.written_dates.specs.FeastRules.{behind_number, behind_weekday, feast_naming, numbered, related, feasted, in_season, named}
use Rattle.written_dates.specs.Rules.{civil, in_order, is_year_first, in_digits, month_between}
use Rattle.written_dates.specs.Rules.{is_month_between, three_numbers, plain_reading, beside_weekday, weekday_in_month}
use Rattle.written_dates.specs.Rules.{named_reading, or_reading, civil_reading}
use Rattle.written_dates.specs.ReadLaws.{is_no_weekday, without_weekdays, IsMonthItem, IsDayItem}
use Rattle.written_dates.specs.ReadLaws.{numerals, UsesAll}

-- ---- three items in some order
ends_swapped : (a b c : Item) → IsPermutation (a ∷ b ∷ c ∷ []) (c ∷ b ∷ a ∷ [])
ends_swapped a b c = record { moves = (0, 2) ∷ []; below = (omega arith, omega arith, tt); is = refl }

first_swapped : (a b c : Item) → IsPermutation (a ∷ b ∷ c ∷ []) (b ∷ a ∷ c ∷ [])
first_swapped a b c = record { moves = (0, 1) ∷ []; below = (omega arith, omega arith, tt); is = refl }

turned : (a b c : Item) → IsPermutation (a ∷ b ∷ c ∷ []) (c ∷ a ∷ b ∷ [])
turned a b c =
    record { moves = (1, 2) ∷ (0, 2) ∷ []; below = (omega arith, omega arith, (omega arith, omega arith, tt)); is = refl }

-- three items, none of them a weekday, are a year, a month and a day that are read
record AreRead (xs : List Item) (reading : Reading) : Type 0 where
  year : Numeral
  month : ℕ
  day : ℕ
  same : Civil year (days.Day month day) ≡ reading
  month_item : Item
  day_item : Item
  order : IsPermutation xs (Number year ∷ month_item ∷ day_item ∷ [])
  is_month : IsMonthItem month_item month
  is_day : IsDayItem day_item day

read_as : (xs : List Item) (year : Numeral) (mi : Item) (d : Numeral) (month : ℕ) (reading : Reading)
    → IsPermutation xs (Number year ∷ mi ∷ Number d ∷ []) → IsMonthItem mi month → is_long d ≡ false
    → civil year month d.value ≡ Some reading → AreRead xs reading
read_as xs year mi d month reading order is_month short e = record {
  year = year;
  month = month;
  day = d.value;
  same = cc;
  month_item = mi;
  day_item = Number d;
  order = order;
  is_month = is_month;
  is_day = (refl, short);
}

between_by : (la lc yf : Bool) (a c : Numeral) (mi : Item) (month : ℕ) (reading : Reading) → IsMonthItem mi month
    → is_long a ≡ la → is_long c ≡ lc
    → cond (la && lc) None (cond (la || (not lc && yf)) (civil a month c.value) (civil c month a.value)) ≡ Some reading
    → AreRead (Number a ∷ mi ∷ Number c ∷ []) reading
between_by true true yf a c mi month reading m ea ec e = absurd (cc)
between_by true false yf a c mi month reading m ea ec e =
    read_as _ a mi c month reading (IsPermutation-refl (Number a ∷ mi ∷ Number c ∷ [])) m ec e
between_by false true yf a c mi month reading m ea ec e =
    read_as _ c mi a month reading (ends_swapped (Number a) mi (Number c)) m ea e
between_by false false true a c mi month reading m ea ec e =
    read_as _ a mi c month reading (IsPermutation-refl (Number a ∷ mi ∷ Number c ∷ [])) m ec e
between_by false false false a c mi month reading m ea ec e =
    read_as _ c mi a month reading (ends_swapped (Number a) mi (Number c)) m ea e

between_read : (order : Order) (a c : Numeral) (mi : Item) (month : ℕ) (reading : Reading) → IsMonthItem mi month
    → month_between order a month c ≡ Some reading → AreRead (Number a ∷ mi ∷ Number c ∷ []) reading
between_read order a c mi month reading m e =
    between_by (is_long a) (is_long c) (is_year_first order) a c mi month reading m refl refl e

front_by : (la to : Bool) (m : ℕ) (a c : Numeral) (mi : Item) (reading : Reading) → IsMonthItem mi m → is_long a ≡ la
    → cond (la || to) None (civil c m a.value) ≡ Some reading → AreRead (mi ∷ Number a ∷ Number c ∷ []) reading
front_by true to m a c mi reading im ea e = absurd (cc)
front_by false true m a c mi reading im ea e = absurd (cc)
front_by false false m a c mi reading im ea e = read_as _ c mi a m reading (turned mi (Number a) (Number c)) im ea e

-- what is left of three numbers: one that is not long is in the middle, and another at an end
in_order_read : (order : Order) (a b c : Numeral) (reading : Reading) → is_long a ≡ false → is_long b ≡ false
    → is_long c ≡ false ⊎ (is_year_first order ≡ false)
    → in_order order a b c ≡ Some reading → AreRead (Number a ∷ Number b ∷ Number c ∷ []) reading
in_order_read YearFirst a b c reading sa sb (inl sc) e =
    read_as _ a (Number b) c b.value reading (IsPermutation-refl (Number a ∷ Number b ∷ Number c ∷ [])) (refl, sb) sc e
in_order_read YearFirst a b c reading sa sb (inr other) e = absurd (cc)
in_order_read DayFirst a b c reading sa sb sc e =
    read_as _ c (Number b) a b.value reading (ends_swapped (Number a) (Number b) (Number c)) (refl, sb) sa e
in_order_read MonthFirst a b c reading sa sb sc e =
    read_as _ c (Number a) b a.value reading (turned (Number a) (Number b) (Number c)) (refl, sa) sb e

year_read : (a b c : Numeral) (reading : Reading) → is_long b ≡ false → is_long c ≡ false
    → in_order YearFirst a b c ≡ Some reading → AreRead (Number a ∷ Number b ∷ Number c ∷ []) reading
year_read a b c reading sb sc e =
    read_as _ a (Number b) c b.value reading (IsPermutation-refl (Number a ∷ Number b ∷ Number c ∷ [])) (refl, sb) sc e

three_by : (lb la lc mid yf dash mixed : Bool) (order : Order) (a b c : Numeral) (reading : Reading) → is_long b ≡ lb
    → is_long a ≡ la → is_long c ≡ lc → is_year_first order ≡ yf
    → cond (lb || (la && lc) || mixed) None (cond mid (month_between order a b.value c) (cond la (in_order YearFirst a b c)
    (cond lc (cond yf None (in_order order a b c)) (cond dash (in_order YearFirst a b c) (in_order order a b c)))))
    ≡ Some reading
    → AreRead (Number a ∷ Number b ∷ Number c ∷ []) reading
three_by true la lc mid yf dash mixed order a b c reading eb ea ec ey e = absurd (cc)
three_by false true true mid yf dash mixed order a b c reading eb ea ec ey e = absurd (cc)
three_by false true false mid yf dash true order a b c reading eb ea ec ey e = absurd (cc)
three_by false false lc mid yf dash true order a b c reading eb ea ec ey e = absurd (cc)
three_by false true false true yf dash false order a b c reading eb ea ec ey e =
    between_read order a c (Number b) b.value reading (refl, eb) e
three_by false true false false yf dash false order a b c reading eb ea ec ey e = year_read a b c reading eb ec e
three_by false false lc true yf dash false order a b c reading eb ea ec ey e =
    between_read order a c (Number b) b.value reading (refl, eb) e
three_by false false true false true dash false order a b c reading eb ea ec ey e = absurd (cc)
three_by false false true false false dash false order a b c reading eb ea ec ey e =
    in_order_read order a b c reading ea eb (inr ey) e
three_by false false false false yf true false order a b c reading eb ea ec ey e = year_read a b c reading eb ec e
three_by false false false false yf false false order a b c reading eb ea ec ey e =
    in_order_read order a b c reading ea eb (inl ec) e

three_read : (pieces : List Piece) (order : Order) (a b c : Numeral) (reading : Reading)
    → three_numbers pieces order a b c ≡ Some reading → AreRead (Number a ∷ Number b ∷ Number c ∷ []) reading
three_read pieces order a b c reading e =
    three_by (is_long b) (is_long a) (is_long c) (is_month_between a b c) (is_year_first order)
    (in_digits a && in_digits b && in_digits c && has_two_dashes pieces) (has_mixed_signs pieces) order a b c reading
    refl refl refl refl e

-- as the items are, none of them is a weekday
record ArePlain (xs : List Item) (reading : Reading) : Type 0 where
  read : AreRead xs reading
  plain : without_weekdays xs ≡ xs

plain_read : (pieces : List Piece) (order : Order) (xs : List Item) (reading : Reading)
    → plain_reading pieces order xs ≡ Some reading → ArePlain xs reading
plain_read pieces order (Number a ∷ Month m ∷ Number c ∷ []) reading e =
    record { read = between_read order a c (Month m) m reading refl e; plain = refl }
plain_read pieces order (Month m ∷ Number a ∷ Number c ∷ []) reading e =
    record {
      read = front_by (is_long a) (not (is_long c) && has_bar_between pieces) m a c (Month m) reading refl refl e;
      plain = refl;
    }
plain_read pieces order (Number a ∷ Number b ∷ Number c ∷ []) reading e =
    record { read = three_read pieces order a b c reading e; plain = refl }
plain_read pieces order _ reading e = absurd (cc)

-- a weekday in front or at the end is no other item
beside_same : (xs : List Item) → without_weekdays (beside_weekday xs) ≡ without_weekdays xs
beside_same (Weekday w ∷ rest) = refl
beside_same (DecadeDay n ∷ rest) = refl
beside_same (a ∷ b ∷ c ∷ Weekday w ∷ []) =
    sym (filter-append is_no_weekday (a ∷ b ∷ c ∷ []) (Weekday w ∷ [])
    ∙ append-nil (without_weekdays (a ∷ b ∷ c ∷ [])))
beside_same (a ∷ b ∷ c ∷ DecadeDay n ∷ []) =
    sym (filter-append is_no_weekday (a ∷ b ∷ c ∷ []) (DecadeDay n ∷ [])
    ∙ append-nil (without_weekdays (a ∷ b ∷ c ∷ [])))
beside_same _ = refl

-- ---- the numbers beside a feast
-- a number that stood in front
abbrev in_front : Option Numeral → List Item
in_front None = []
in_front (Some n) = Number n ∷ []

-- the year; or a number and the year, of the Sunday of this number
record AreNumbered (xs : List Item) (naming : Naming) : Type 0 where
  number : Numeral
  season : Season
  order : xs ≡ Number number ∷ Number naming.year ∷ []
  short : is_long number ≡ false
  no_day : number.day ≡ false
  is_sunday : naming.feast ≡ feasts.Sunday season number.value

abbrev AreNamed : List Item → Naming → Type 0
AreNamed xs naming = (xs ≡ Number naming.year ∷ []) ⊎ AreNumbered xs naming

named_by : (year : Numeral) (feast : Festival) (place : Place) (naming : Naming)
    → named year feast place ≡ Some naming → AreNamed (Number year ∷ []) naming
named_by year feast place naming e =
    let same : record { year = year; feast = feast; place = place } ≡ naming = cc in
    inl (ap (λ (g : Naming). Number g.year ∷ []) same)

sunday_by : (long day few : Bool) (n year : Numeral) (season : Season) (naming : Naming) → is_long n ≡ long → n.day ≡ day
    → cond (not long && not day && few) (named year (feasts.Sunday season n.value) (places.Days (pos 0))) None ≡ Some naming
    → AreNamed (Number n ∷ Number year ∷ []) naming
sunday_by true day few n year season naming en ed e = absurd (cc)
sunday_by false true few n year season naming en ed e = absurd (cc)
sunday_by false false false n year season naming en ed e = absurd (cc)
sunday_by false false true n year season naming en ed e =
    let same : record { year = year; feast = feasts.Sunday season n.value; place = places.Days (pos 0) } ≡ naming = cc in
    inr (record {
      number = n;
      season = season;
      order = ap (λ (g : Naming). Number n ∷ Number g.year ∷ []) same;
      short = en;
      no_day = ed;
      is_sunday = ap (λ (g : Naming). g.feast) (sym same);
    })

numbered_by : (n year : Numeral) (season : Option Season) (naming : Naming) → numbered n year season ≡ Some naming
    → AreNamed (Number n ∷ Number year ∷ []) naming
numbered_by n year None naming e = absurd (cc)
numbered_by n year (Some season) naming e =
    sunday_by (is_long n) n.day (nat_le n.value 255) n year season naming refl refl e

related_by : (w : Option NamedWeekday) (n : Option Numeral) (r : Related) (f : Festival) (year : Numeral) (naming : Naming)
    → related w n r f year ≡ Some naming → AreNamed (in_front n ++ (Number year ∷ [])) naming
related_by None None Eve f year naming e = named_by year f _ naming e
related_by None None Morrow f year naming e = named_by year f _ naming e
related_by None None Octave f year naming e = named_by year f _ naming e
related_by (Some w) None After f year naming e = named_by year f _ naming e
related_by (Some w) None Before f year naming e = named_by year f _ naming e
related_by None (Some n) After f year naming e = numbered_by n year (season_after f) naming e
related_by (Some w) (Some n) After f year naming e = numbered_by n year (season_after f) naming e
related_by _ _ _ f year naming e = absurd (cc)

feasted_by : (w : Option NamedWeekday) (n : Option Numeral) (r : Option Related) (f : Festival) (year : Numeral)
    (naming : Naming) → feasted w n r f year ≡ Some naming → AreNamed (in_front n ++ (Number year ∷ [])) naming
feasted_by w None None f year naming e = named_by year f _ naming e
feasted_by w (Some n) None f year naming e = absurd (cc)
feasted_by w n (Some r) f year naming e = related_by w n r f year naming e

in_season_by : (n : Option Numeral) (r : Option Related) (s : Season) (year : Numeral) (naming : Naming)
    → in_season n r s year ≡ Some naming → AreNamed (in_front n ++ (Number year ∷ [])) naming
in_season_by (Some n) None s year naming e = numbered_by n year (Some s) naming e
in_season_by (Some n) (Some r) s year naming e = absurd (cc)
in_season_by None r s year naming e = absurd (cc)

ending_by : (w : Option NamedWeekday) (n : Option Numeral) (r : Option Related) (xs : List Item) (naming : Naming)
    → ending w n r xs ≡ Some naming → AreNamed (in_front n ++ numerals xs) naming
ending_by w n r (Feast f ∷ Number y ∷ []) naming e = feasted_by w n r f y naming e
ending_by w n r (Sundays s ∷ Number y ∷ []) naming e = in_season_by n r s y naming e
ending_by w n r _ naming e = absurd (cc)

weekday_numerals : (xs : List Item) → numerals (weekday_first xs).1 ≡ numerals xs
weekday_numerals (Weekday w ∷ rest) = refl
weekday_numerals _ = refl

relation_numerals : (xs : List Item) → numerals (relation_first xs).1 ≡ numerals xs
relation_numerals (Relation r ∷ rest) = refl
relation_numerals _ = refl

number_numerals : (xs : List Item) → in_front (number_first xs).0 ++ numerals (number_first xs).1 ≡ numerals xs
number_numerals (Number n ∷ rest) = refl
number_numerals _ = refl

front_named : (w : Option NamedWeekday) (n : Option Numeral) (xs : List Item) (naming : Naming)
    → behind_front w n xs ≡ Some naming → AreNamed (in_front n ++ numerals xs) naming
front_named w n xs naming e =
    subst (λ (zs : List Item). AreNamed (in_front n ++ zs) naming) (relation_numerals xs)
    (ending_by w n (relation_first xs).0 (relation_first xs).1 naming e)

number_named : (w : Option NamedWeekday) (n : Option Numeral) (xs : List Item) (naming : Naming)
    → behind_number w n xs ≡ Some naming → AreNamed (in_front n ++ numerals xs) naming
number_named None n xs naming e =
    subst (λ (zs : List Item). AreNamed (in_front n ++ zs) naming) (weekday_numerals xs)
    (front_named (weekday_first xs).0 n (weekday_first xs).1 naming e)
number_named (Some w) n xs naming e = front_named (Some w) n xs naming e

weekday_named : (w : Option NamedWeekday) (xs : List Item) (naming : Naming)
    → behind_weekday w xs ≡ Some naming → AreNamed (numerals xs) naming
weekday_named w xs naming e =
    subst (λ (zs : List Item). AreNamed zs naming) (number_numerals xs)
    (number_named w (number_first xs).0 (number_first xs).1 naming e)

feast_named : (xs : List Item) (naming : Naming) → feast_naming xs ≡ Some naming → AreNamed (numerals xs) naming
feast_named xs naming e =
    subst (λ (zs : List Item). AreNamed zs naming) (weekday_numerals xs)
    (weekday_named (weekday_first xs).0 (weekday_first xs).1 naming e)

-- ---- what items say uses each number and each month
abbrev pub Uses : List Item → Reading → Type 0
Uses found reading =
    (year : Numeral) × (day : InYear) × (reading ≡ Civil year day) × UsesAll found year day

from_plain : (found xs : List Item) (reading : Reading) → without_weekdays xs ≡ without_weekdays found
    → ArePlain xs reading → Uses found reading
from_plain found xs reading same plain =
    let read = plain.read in (
      read.year,
      days.Day read.month read.day,
      sym read.same,
      record {
        month_item = read.month_item;
        day_item = read.day_item;
        order = subst (λ (zs : List Item). IsPermutation zs (Number read.year ∷ read.month_item ∷ read.day_item ∷ []))
            (sym plain.plain ∙ same) read.order;
        is_month = read.is_month;
        is_day = read.is_day;
      },
    )

in_month_by : (long : Bool) (n y : Numeral) (w : NamedWeekday) (m : ℕ) (reading : Reading) → is_long n ≡ long
    → cond long None (Some (Civil y (days.NumberedWeekday n.value w m))) ≡ Some reading
    → Uses (Number n ∷ Weekday w ∷ Month m ∷ Number y ∷ []) reading
in_month_by true n y w m reading en e = absurd (cc)
in_month_by false n y w m reading en e = (
  y,
  days.NumberedWeekday n.value w m,
  cc,
  (
    record {
      month_item = Month m;
      day_item = Number n;
      order = ends_swapped (Number n) (Month m) (Number y);
      is_month = refl;
      is_day = (refl, en);
    },
    (1, omega arith, refl),
  ),
)

in_month_uses : (found : List Item) (reading : Reading) → weekday_in_month found ≡ Some reading → Uses found reading
in_month_uses (Number n ∷ Weekday w ∷ Month m ∷ Number y ∷ []) reading e =
    in_month_by (is_long n) n y w m reading refl e
in_month_uses _ reading e = absurd (cc)

named_uses_by : (found : List Item) (naming : Naming) → AreNamed (numerals found) naming
    → UsesAll found naming.year (days.Feast naming.feast naming.place)
named_uses_by found naming (inl year) = inl year
named_uses_by found naming (inr sunday) =
    inr (record {
      number = sunday.number;
      season = sunday.season;
      order = sunday.order;
      short = sunday.short;
      no_day = sunday.no_day;
      place = naming.place;
      is_sunday = ap (λ (f : Festival). days.Feast f naming.place) sunday.is_sunday;
    })

named_uses : (found : List Item) (naming : Option Naming) (reading : Reading)
    → ((g : Naming) → naming ≡ Some g → AreNamed (numerals found) g) → named_reading naming ≡ Some reading
    → Uses found reading
named_uses found None reading named e = absurd (cc)
named_uses found (Some g) reading named e =
    (g.year, days.Feast g.feast g.place, cc, named_uses_by found g (named g refl))

or_uses : (found : List Item) (first second : Option Reading) (reading : Reading)
    → ((r : Reading) → first ≡ Some r → Uses found r) → ((r : Reading) → second ≡ Some r → Uses found r)
    → or_reading first second ≡ Some reading → Uses found reading
or_uses found None second reading one other e = other reading e
or_uses found (Some r) second reading one other e = one reading e

pub civil_uses : (pieces : List Piece) (order : Order) (found : List Item) (reading : Reading)
    → civil_reading pieces order found ≡ Some reading → Uses found reading
civil_uses pieces order found reading e =
    or_uses found (plain_reading pieces order (beside_weekday found)) _ reading
    (λ r h. from_plain found (beside_weekday found) r (beside_same found) (plain_read pieces order (beside_weekday found) r h))
    (λ r h. or_uses found (weekday_in_month found) (named_reading (feast_naming found)) r (in_month_uses found)
    (λ q k. named_uses found (feast_naming found) q (feast_named found) k) h) e
