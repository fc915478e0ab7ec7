-- What arguments mean.
use Rattle.std.specs.Prelude.{◌≡◌, ◌≢◌, ◌↔◌, ◌⊎◌, ◌++◌, ⊤, List, [], ◌∷◌, Option, Some, None, IfSome, IsSome}
use Rattle.clap.specs.Words.{App, IsAmong, Row, Text, fault_of, matches_of}
use Rattle.clap.specs.declared.error.kind.ErrorKind.{ErrorKind}
use Rattle.clap.specs.declared.error.kind.ErrorKind.TheVariants.{DisplayHelp, DisplayVersion}
use Rattle.programs.specs.Faults.{Fault, refused, usage}
use Rattle.programs.specs.FileLists.{AreFilesToConvert, IsFilesFault}

-- a check: what is wrong where it fails, and that it passes
pub record Check : Type 1 where
  pub fails : Fault → Type 0
  pub passes : Type 0

-- the first of these checks that fails finds this fault
abbrev pub FailFirst : List Check → Fault → Type 0
FailFirst [] fault = ⊥
FailFirst (check ∷ later) fault = check.fails fault ⊎ (check.passes × FailFirst later fault)

-- each of these checks passes
abbrev pub AllPass : List Check → Type 0
AllPass [] = ⊤
AllPass (check ∷ later) = check.passes × AllPass later

-- the check of an option's word: where it names nothing, this is said, and the word
abbrev pub option_check : {A : Type 0} → (Text → Option A) → Text → Option Text → Check
option_check value_of what value = record {
  fails = λ fault. (word : Text) × (fault ≡ refused (what ++ word)) × (value ≡ Some word) × (value_of word ≡ None);
  passes = IfSome value (λ word. IsSome (value_of word));
}

-- the check of the files
abbrev pub file_check : List Text → Check
file_check files = record { fails = IsFilesFault files; passes = AreFilesToConvert files }

-- a command line of which something is asked: the command as clap takes it, the checks of the values that clap finds, in
-- order, and what values that pass them ask for
pub record CommandLine (T : Type 0) : Type 1 where
  pub command : App
  pub checks : List Row → List Check
  pub asks : List Row → T → Type 0

-- what arguments can mean: they ask for help, for the version, or for something to be done, or something is wrong
pub data Meaning (T : Type 0) : Type 0 where
  help : Meaning T
  version : Meaning T
  work : T → Meaning T
  wrong : Fault → Meaning T

module _ {T : Type 0} (line : CommandLine T) where
  -- the arguments are as they are taken
  abbrev pub AreTaken : List Text → Type 0
  AreTaken arguments = fault_of line.command arguments ≡ []

  -- what is wrong with arguments that are not taken
  abbrev pub IsUsageFault : List Text → Fault → Type 0
  IsUsageFault arguments fault =
      (kind : ErrorKind) × (fault ≡ usage kind) × IsAmong kind (fault_of line.command arguments)
      × (kind ≢ DisplayHelp) × (kind ≢ DisplayVersion)

  abbrev pub usage_check : List Text → Check
  usage_check arguments = record { fails = IsUsageFault arguments; passes = AreTaken arguments }

  -- what is wrong with the arguments
  abbrev pub IsFaultOf : List Text → Fault → Type 0
  IsFaultOf arguments = FailFirst (usage_check arguments ∷ line.checks (matches_of line.command arguments))

  -- something is wrong with the arguments
  abbrev pub AreWrong : List Text → Type 0
  AreWrong arguments = (fault : Fault) × IsFaultOf arguments fault

  abbrev pub Mean : List Text → Meaning T → Type 0
  Mean arguments help = IsAmong DisplayHelp (fault_of line.command arguments)
  Mean arguments version = IsAmong DisplayVersion (fault_of line.command arguments)
  Mean arguments (work task) =
      AreTaken arguments × AllPass (line.checks (matches_of line.command arguments))
      × line.asks (matches_of line.command arguments) task
  Mean arguments (wrong fault) = IsFaultOf arguments fault

  -- the arguments mean this, and nothing else
  abbrev pub MeanJust : List Text → Meaning T → Type 0
  MeanJust arguments meaning = (other : Meaning T) → (other ≡ meaning) ↔ Mean arguments other
