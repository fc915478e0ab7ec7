-- What the numbers of a sheet's reports say.
use Rattle.std.specs.Prelude.{◌≡◌, ◌⊎◌, ℕ, List, map, length}
use Rattle.std.specs.List.{concat}
use Rattle.register_records.specs.Entries.{Fields}
use Rattle.page_rules.specs.Rooms.{with_front}
use Rattle.date_parts.specs.declared.places.DatePlaces.{DatePlaces}
use Rattle.sheets.specs.Sheets.{widest}
use Rattle.page_rules.specs.Picks.{all_chosen}
use Rattle.page_module.specs.declared.sheet_texts.PickReport.{PickReport}

-- this text was put to the front of the room, and its length is reported
abbrev pub PutsText : {T : Type 0} → List T → List T → List T → ℕ → Type 0
PutsText text old new reported = (reported ≡ length text) × (new ≡ with_front text old)

-- the places of the columns with years, months and days
abbrev pub places_of : ℕ → ℕ → ℕ → DatePlaces
places_of year month day = record { year = year; month = month; day = day }

-- the fields at these places of these records were put to the front of the rooms, and their numbers are reported
pub record PutsFields (places : List ℕ) (records : List Fields) (bytes_old bytes_new : List ℕ)
    (lengths_old lengths_new : List ℕ) (report : PickReport)
    : Type 0 where
  pub bytes : bytes_new ≡ with_front (concat (all_chosen places records)) bytes_old
  pub lengths : lengths_new ≡ with_front (map length (all_chosen places records)) lengths_old
  pub length_is : report.length ≡ length (concat (all_chosen places records))
  pub fields_are : report.fields ≡ length (map length (all_chosen places records))
  pub records_are : report.records ≡ length records
  pub widest_is : report.widest ≡ widest records

-- nothing was put, and only the reason is reported
pub record PutsNothing (bytes_old bytes_new : List ℕ) (lengths_old lengths_new : List ℕ) (report : PickReport)
    : Type 0 where
  pub why : (report.ending ≡ 1) ⊎ (report.ending ≡ 2)
  pub bytes : bytes_new ≡ bytes_old
  pub lengths : lengths_new ≡ lengths_old
  pub length_is : report.length ≡ 0
  pub fields_are : report.fields ≡ 0
  pub records_are : report.records ≡ 0
  pub widest_is : report.widest ≡ 0
