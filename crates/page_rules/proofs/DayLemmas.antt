-- The days of the entries that a reader gave.
use Rattle.std.proofs.Common.{◌≡◌, ◌∙◌, ℕ, List, [], ◌∷◌, ◌++◌, Option, Some, inr, length, rules}
use Rattle.std.proofs.Math.Logic.{∥∥₁_map}
use Rattle.std.proofs.lemmas.Slice.Zip.{AllZip-long, all_zipped_more}
use Rattle.date_texts.specs.declared.target.Target.{Target}
use Rattle.register_records.specs.Causes.{entry_fault_cause}
use Rattle.register_records.specs.Entries.{HasFirstEntries, Numbered, Reading}
use Rattle.register_records.specs.Outcomes.{IsRowOf, TableRow}
use Rattle.register_records.specs.declared.ends.Cause.{Cause}
use Rattle.register_records.specs.declared.ends.Cause.TheVariants as cause
use Rattle.register_records.specs.declared.reading.EntryFault.{EntryFault}
use Rattle.register_records.specs.declared.reading.EntryFault.TheVariants as entry
use Rattle.page_rules.specs.EntryDays.{AreDaysOf, ArePartOf, HasDays, IsEntryDay}
use Rattle.page_rules.specs.declared.entry_days.EntryDay.{EntryDay}

-- one more entry
pub one_more : (targets : List Target) (entries : List Numbered) (days : List EntryDay) (entry : Numbered)
    (row : TableRow) (it : EntryDay) → AreDaysOf targets entries days → IsRowOf targets entry row → IsEntryDay row it
    → AreDaysOf targets (entries ++ entry ∷ []) (days ++ it ∷ [])
one_more targets entries days entry row it are is told =
    record {
      rows = are.rows ++ row ∷ [];
      converted = all_zipped_more (IsRowOf targets) entries are.rows entry row are.converted is;
      told = all_zipped_more IsEntryDay are.rows days row it are.told told;
    }

pub as_many : (targets : List Target) (entries : List Numbered) (days : List EntryDay)
    → AreDaysOf targets entries days → length days ≡ length entries
as_many targets entries days are =
    AllZip-long IsEntryDay are.rows days are.told ∙ AllZip-long (IsRowOf targets) entries are.rows are.converted

-- those of entries of which something holds
pub days_given : (Is : Reading → Option (List ℕ) → List Numbered → Type 0) (d e : Reading)
    (text known : Option (List ℕ)) (targets : List Target) (entries given : List Numbered) (days : List EntryDay)
    → known ≡ text → e ≡ d → given ≡ entries → ∥ Is e known given ∥₁ → AreDaysOf targets entries days
    → ∥ HasDays (Is d text) targets days ∥₁
days_given Is d e text known targets entries given days a b c is are =
    ∥∥₁_map (rw (a, b, c) at is) (λ h. (entries, h, are))

pub part_given : (d e : Reading) (text : List ℕ) (known : Option (List ℕ)) (targets : List Target)
    (given : List Numbered) (days : List EntryDay) → known ≡ Some text → e ≡ d → ∥ HasFirstEntries e known given ∥₁
    → AreDaysOf targets given days → ∥ ArePartOf d targets text days ∥₁
part_given d e text known targets given days a b is are =
    ∥∥₁_map (rw (a, b) at is) (λ h. inr (given, h, are))

-- the header is the cause only where it is the fault
pub only_header : (f : EntryFault) (c : Cause) → c ≡ entry_fault_cause f → c ≡ cause.BadHeader → f ≡ entry.BadHeader
only_header f c a is = search rules
