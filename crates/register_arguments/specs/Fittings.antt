-- The ring and the converters of a run for which none are written: what fits the machine and the number of registers.
use Rattle.std.specs.Prelude.{ℕ, List, [], ◌∷◌, ◌&&◌, nat_le, if◌then◌else◌}

-- how many items a ring holds, and how many converters a source has
pub record Fitting : Type 0 where
  pub ring : ℕ
  pub stripes : ℕ

-- a row of the table: what fits a machine of so many processors or more, and so many registers or fewer
pub record FittingRow : Type 0 where
  pub processors : ℕ
  pub registers : ℕ
  pub fits : Fitting

-- the table, as speed was measured: for one register, where there are two processors; for a few; and for many
abbrev pub fitting_rows : List FittingRow
fitting_rows =
    record { processors = 2; registers = 1; fits = record { ring = 256; stripes = 2 } }
    ∷ record { processors = 0; registers = 4; fits = record { ring = 256; stripes = 1 } }
    ∷ []

abbrev pub fitting_many : Fitting
fitting_many = record { ring = 64; stripes = 1 }

-- what fits is in the first row that takes so many processors and registers, or else it is that for many
abbrev pub fitting_in : List FittingRow → ℕ → ℕ → Fitting
fitting_in [] processors registers = fitting_many
fitting_in (row ∷ rows) processors registers =
    if nat_le row.processors processors && nat_le registers row.registers then row.fits
    else fitting_in rows processors registers

abbrev pub fitting_for : ℕ → ℕ → Fitting
fitting_for = fitting_in fitting_rows
