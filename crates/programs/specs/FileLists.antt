-- The files that arguments name.
use Rattle.std.specs.Prelude.{◌≡◌, ◌≤◌, ◌<◌, ◌⊎◌, ◌++◌, ◌∷◌, ℕ, List, codes, length, Contains}
use Rattle.clap.specs.Words.{Text}
use Rattle.programs.specs.Faults.{Fault, refused}

-- the file stands at a place of the list, and at an earlier place too
pub record IsNamedTwice (files : List Text) (file : Text) : Type 0 where
  pub before : List Text
  pub after : List Text
  pub cut : files ≡ before ++ file ∷ after
  pub named : Contains before file

-- the first file from the left that was named before
pub record IsFirstFileTwice (files : List Text) (file : Text) : Type 0 where
  pub before : List Text
  pub after : List Text
  pub cut : files ≡ before ++ file ∷ after
  pub named : Contains before file
  pub first : (other : Text) → ¬ IsNamedTwice before other

-- the most files of a command line
abbrev pub most_files : ℕ
most_files = 32

-- no more files than that, each named once
abbrev pub AreFilesToConvert : List Text → Type 0
AreFilesToConvert files = (length files ≤ most_files) × ((file : Text) → ¬ IsNamedTwice files file)

-- what is wrong with files: there are too many, or else one is named twice
abbrev pub IsFilesFault : List Text → Fault → Type 0
IsFilesFault files fault =
    ((fault ≡ refused (codes "more than 32 files")) × (most_files < length files))
    ⊎ ((file : Text) × (fault ≡ refused (codes "file named twice: " ++ file)) × (length files ≤ most_files)
    × IsFirstFileTwice files file)
