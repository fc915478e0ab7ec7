-- Texts that say the name of a day and its year.
use Rattle.std.proofs.Common.{◌≡◌, ◌∙◌, ℕ, true, false, ◌||◌, refl, sym, ap, subst, arith}
use Rattle.std.proofs.Common.{List, Option, Some, None}
use Rattle.std.specs.List.{list_all}
use Rattle.day_numbers.proofs.SignedArithmeticLemmas.{signed_arith}
use Rattle.day_numbers.specs.declared.ymd.Ymd.{Ymd}
use Rattle.church_year.specs.declared.churches.Church.{Church}
use Rattle.church_year.specs.declared.churches.Church.TheVariants.{Julian, Gregorian}
use Rattle.church_year.specs.declared.feasts.Feast.{Feast as Festival}
use Rattle.church_year.specs.declared.feasts.Place.{Place}
use Rattle.church_year.specs.FeastDates.{feast_date_in}
use Rattle.church_year.specs.Feasts.{IsFeastDate, feast_day, placed}
use Rattle.church_year.proofs.FeastDateLemmas.{date_found, in_years, named_is}
use Rattle.date_texts.specs.declared.calendar.Calendar.{Calendar}
use Rattle.written_dates.specs.declared.items.Item.{Item}
use Rattle.written_dates.specs.declared.items.Number.{Number as Numeral}
use Rattle.written_dates.specs.declared.meanings.Name.{Name}
use Rattle.written_dates.specs.declared.rules.InYear.TheVariants.{Feast}
use Rattle.written_dates.specs.declared.rules.Reading.{Reading}
use Rattle.written_dates.specs.declared.rules.Reading.TheVariants.{Civil}
use Rattle.written_dates.specs.declared.written.Answer.{Answer}
use Rattle.written_dates.specs.declared.written.Answer.TheVariants.{Date}
use Rattle.written_dates.specs.declared.written.Choice.{Choice}
use Rattle.written_dates.specs.declared.written.Short.TheVariants.{Keep}
use Rattle.written_dates.specs.Rules.{civil_reading}
use Rattle.written_dates.specs.Signs.{bare, begins_with_dash, has_minus, has_other}
use Rattle.written_dates.specs.Sums.{found_items}
use Rattle.written_dates.specs.Tokens.{Piece, tokens}
use Rattle.written_dates.specs.Written.{agrees, answer, date_of, dated, if_agreed, is_half_year, items_answer}
use Rattle.written_dates.specs.Written.{counted_by, dated_text, lacks_month, short_rule, written}
use Rattle.written_dates.specs.Items.{is_of_calendar}
use Rattle.written_dates.specs.declared.meanings.Era.{Era}
use Rattle.written_dates.specs.declared.meanings.Era.TheVariants as eras
use Rattle.written_dates.proofs.TimeLemmas.{dated_whole, read_dated}
use Rattle.church_days.specs.Texts.{calendar_of, IsInWords, NamesReadBack}

-- the month and the day of a feast's date
feast_found : (church : Church) (year : ℕ) (feast : Festival) (place : Place) (date : Ymd)
    → IsFeastDate church year feast place date → feast_date_in church year feast place ≡ Some (date.month, date.day)
feast_found church year feast place date is =
    let n = placed place (feast_day church year feast) in
    let is_named = named_is church year feast place (Some (placed place (feast_day church year feast))) is.some_year
    (λ some. is.has_feast, λ has. refl) refl in
    in_years church year feast place (Some (placed place (feast_day church year feast))) is.some_year is.early is_named
    ∙ sym (date_found church year (placed place (feast_day church year feast)) date is.is_dated.is_date
    is.is_dated.of_day is.is_dated.of_year is.is_dated.in_range)

-- a year of the calendar is counted as it stands, and has a feast
has_feasts : (era : Option Era) (feast : Festival) (place : Place) → is_of_calendar era ≡ true
    → lacks_month era (Feast feast place) ≡ false
has_feasts None feast place e = refl
has_feasts (Some eras.Calendar) feast place e = refl
has_feasts (Some eras.Spanish) feast place e = absurd (cc)
has_feasts (Some eras.Creation) feast place e = absurd (cc)

as_it_stands : (era : Option Era) (year : ℕ) (feast : Festival) (place : Place) → is_of_calendar era ≡ true
    → counted_by era year (Feast feast place) ≡ year
as_it_stands None year feast place e = refl
as_it_stands (Some eras.Calendar) year feast place e = refl
as_it_stands (Some eras.Spanish) year feast place e = absurd (cc)
as_it_stands (Some eras.Creation) year feast place e = absurd (cc)

-- the date of a year that is kept
kept_date : (choice : Choice) (church : Church) (year : Numeral) (feast : Festival) (place : Place) (m d : ℕ)
    → short_rule choice (calendar_of church) year ≡ Keep → is_half_year (calendar_of church) year ≡ false
    → is_of_calendar year.year ≡ true → feast_date_in church year.value feast place ≡ Some (m, d)
    → date_of choice (calendar_of church) (Some (Civil year (Feast feast place))) ≡ Date year.value m d
kept_date choice Julian year feast place m d kept whole plain found =
    rw (kept, whole, has_feasts year.year feast place plain, as_it_stands year.year year.value feast place plain, found) refl
kept_date choice Gregorian year feast place m d kept whole plain found =
    rw (kept, whole, has_feasts year.year feast place plain, as_it_stands year.year year.value feast place plain, found) refl

agreed_date : (calendar : Calendar) (found : List Item) (a : Answer) (y m d : ℕ) → a ≡ Date y m d
    → list_all (agrees calendar y m d) found ≡ true → if_agreed calendar found a ≡ Date y m d
agreed_date calendar found a y m d is agreed = rw (is, agreed) refl

civil_answer : (choice : Choice) (church : Church) (pieces : List Piece) (found : List Item) (reading : Option Reading)
    → civil_reading pieces choice.order found ≡ reading
    → items_answer choice (calendar_of church) pieces found
    ≡ if_agreed (calendar_of church) found (date_of choice (calendar_of church) reading)
civil_answer choice Julian pieces found reading is = rw is refl
civil_answer choice Gregorian pieces found reading is = rw is refl

plain_answer : (choice : Choice) (calendar : Calendar) (names : List Name) (text : List ℕ) (found : List Item)
    → (has_other (tokens 0 text) || has_minus (tokens 0 text) || begins_with_dash (bare (tokens 0 text))) ≡ false
    → found_items calendar names text ≡ Some found
    → answer choice calendar names text ≡ items_answer choice calendar (tokens 0 text) found
unfolding answer
plain_answer choice calendar names text found plain has = rw (plain, has) refl

read_whole : (choice : Choice) (church : Church) (names : List Name) (text : List ℕ) (y m d : ℕ)
    → answer choice (calendar_of church) names text ≡ Date y m d
    → dated_text choice (calendar_of church) names text ≡ text
read_whole choice church names text y m d is =
    dated_whole choice (calendar_of church) names text (read_dated choice (calendar_of church) names text (rw is refl))

in_words : (choice : Choice) (church : Church) (names : List Name) (text : List ℕ) (y m d : ℕ) → IsInWords choice text
    → answer choice (calendar_of church) names text ≡ Date y m d
    → written choice (Some (calendar_of church)) names text ≡ dated y m d
in_words choice Julian names text y m d words is =
    rw (read_whole choice Julian names text y m d is, words.no_minus, words.no_runs, is) refl
in_words choice Gregorian names text y m d words is =
    rw (read_whole choice Gregorian names text y m d is, words.no_minus, words.no_runs, is) refl

pub names_read_back : NamesReadBack
names_read_back choice church names text name date year falls own words says =
    let same : says.year.value ≡ year = omega (arith, signed_arith, says.of_year, own) in
    let of_feast : falls.0 ≡ says.year.value =
    omega (arith, signed_arith, says.of_year, falls.1.is_dated.of_year) in
    let found = feast_found church says.year.value name.feast name.place date
    (subst (λ (y : ℕ). IsFeastDate church y name.feast name.place date) of_feast falls.1) in
    let day = kept_date choice church says.year name.feast name.place date.month date.day says.kept says.whole
    says.of_calendar found in
    let said = plain_answer choice (calendar_of church) names text says.found words.plain says.has
    ∙ civil_answer choice church (tokens 0 text) says.found _ says.says
    ∙ agreed_date (calendar_of church) says.found _ says.year.value date.month date.day day says.agreed in
    in_words choice church names text says.year.value date.month date.day words said
    ∙ ap (λ (y : ℕ). dated y date.month date.day) same
