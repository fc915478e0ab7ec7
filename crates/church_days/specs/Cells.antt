-- What a column for names of days has.
use Rattle.std.specs.Prelude.{◌≡◌, ℤ, ℕ, List, [], Option, Some, None}
use Rattle.church_year.specs.declared.churches.Church.{Church}
use Rattle.date_texts.specs.declared.calendar.Calendar.{Calendar}
use Rattle.written_dates.specs.Written.{church_of}
use Rattle.church_days.specs.Computed.{church_name}
use Rattle.church_days.specs.Names.{IsNameOn}

abbrev pub if_named : Option (List ℕ) → List ℕ
if_named None = []
if_named (Some name) = name

-- the text is the name of day n in a church, or nothing where the day has none; nothing where no church reckons
abbrev pub IsNameIn : Option Church → ℤ → List ℕ → Type 0
IsNameIn None n text = text ≡ []
IsNameIn (Some church) n text = (found : Option (List ℕ)) × IsNameOn church n found × (text ≡ if_named found)

-- what stands there for day n of a record in a calendar
abbrev pub IsChurchCell : Calendar → ℤ → List ℕ → Type 0
IsChurchCell calendar n text = IsNameIn (church_of calendar) n text

-- the same as a function
abbrev pub name_in : Option Church → ℤ → List ℕ
name_in None n = []
name_in (Some church) n = if_named (church_name church n)

abbrev pub church_text : Calendar → ℤ → List ℕ
church_text calendar n = name_in (church_of calendar) n
