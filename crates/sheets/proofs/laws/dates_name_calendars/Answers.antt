use Rattle.sheets.proofs.LawLemmas.{digits_name_none, names_are_columns}
use Rattle.sheets.proofs.laws.dates_name_calendars.Goals as goal

pub returns-clause-digits : goal.returns-clause-digits
returns-clause-digits c = digits_name_none

pub returns-clause-named : goal.returns-clause-named
returns-clause-named c = names_are_columns
