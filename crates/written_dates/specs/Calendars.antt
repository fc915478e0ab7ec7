-- How the dates of the calendars are written, and the calendars' places.
use Rattle.std.specs.Prelude.{ℕ}
use Rattle.std.specs.List.{position_or_len}
use Rattle.std.specs.Str.{bytes_eq}
use Rattle.date_texts.specs.Calendars.{all_calendars, calendar_name, grammar}
use Rattle.date_texts.specs.declared.calendar.Calendar.{Calendar}
use Rattle.date_texts.specs.declared.grammar.Grammar.{Grammar}
use Rattle.date_texts.specs.declared.grammar.Grammar.TheVariants as grammars
use Rattle.written_dates.specs.declared.calendars.Form.{Form}
use Rattle.written_dates.specs.declared.calendars.Form.TheVariants as forms

-- whose dates are years, months and days, or Roman
abbrev pub form_by : Grammar → Form
form_by grammars.Civil = forms.Civil
form_by grammars.Roman = forms.Roman
form_by other = forms.Other

abbrev pub form : Calendar → Form
form calendar = form_by (grammar calendar)

-- a calendar's place among all of them
abbrev pub place : Calendar → ℕ
place calendar = position_or_len (λ other. bytes_eq (calendar_name other) (calendar_name calendar)) all_calendars
