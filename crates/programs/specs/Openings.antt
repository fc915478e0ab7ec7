-- What the files of a command line are opened as.
use Rattle.std.specs.Prelude.{◌≡◌, ◌<◌, ◌+◌, ◌++◌, ℕ, List, [], false, codes, length, Option, IfSome, None, Some}
use Rattle.std.specs.Prelude.{map, slice_get}
use Rattle.register_records.specs.declared.outputs.Output as outputs
use Rattle.programs.specs.OutputNames.{AreTwoOutputs, IsApartFrom}
use Rattle.programs.specs.declared.opening.FileFault.{FileFault}
use Rattle.programs.specs.declared.opening.FileFault.TheVariants as file_fault

-- the lists are of one length, and this holds of what stands at each place of both, the place being counted from 0
pub record AreMatched {A B : Type 0} (Match : ℕ → A → B → Type 0) (left : List A) (right : List B) : Type 0 where
  pub same_length : length right ≡ length left
  pub each : (i : ℕ) (a : A) (b : B) → slice_get left i ≡ Some a → slice_get right i ≡ Some b → Match i a b

-- each source is the file of the name at its place
abbrev pub AreOpened : {R : Type 0} → (List ℕ → R → Type 0) → List (List ℕ) → List R → Type 0
AreOpened IsOpened files sources = AreMatched (λ i file source. IsOpened file source) files sources

-- the bytes of the output are known, there are none yet, and it has not failed
abbrev pub IsFresh : {W : Type 0} → outputs.Ghosts W → W → Type 0
IsFresh o output = (o.contents output ≡ Some []) × (o.has_failed output ≡ false)

-- the output was made by this name, has this mark, and is fresh
abbrev pub IsNewlyMade : {W : Type 0} → outputs.Ghosts W → (List ℕ → ℕ → W → Type 0) → List ℕ → ℕ → W
    → Type 0
IsNewlyMade o IsMade name mark output = IsMade name mark output × (o.own_mark output ≡ mark) × IsFresh o output

-- each output goes to the file named like its source's with .out.csv at the end, and is marked by its place, from 1
abbrev pub AreMade : {W : Type 0} → (List ℕ → ℕ → W → Type 0) → List (List ℕ) → List W → Type 0
AreMade IsMade files outputs = AreMatched (λ i file output. IsMade (file ++ codes ".out.csv") (i + 1) output) files
    outputs

-- the names of the outputs of files
abbrev pub output_names : List (List ℕ) → List (List ℕ)
output_names files = map (λ file. file ++ codes ".out.csv") files

-- the names of all files were told apart from both names of an output
abbrev pub IsNoSource : (List ℕ → List ℕ → Type 0) → List (List ℕ) → List ℕ → Type 0
IsNoSource AreApart files name =
    (k : ℕ) (other : List ℕ) → slice_get files k ≡ Some other → IsApartFrom AreApart other name

-- the names of all files were told apart from both names of each file's output
abbrev pub AreNotSources : (List ℕ → List ℕ → Type 0) → List (List ℕ) → Type 0
AreNotSources AreApart files =
    (i : ℕ) (file : List ℕ) → slice_get files i ≡ Some file → IsNoSource AreApart files (file ++ codes ".out.csv")

-- the names of any two outputs, two of each, were told apart
abbrev pub AreTwoFiles : (List ℕ → List ℕ → Type 0) → List (List ℕ) → Type 0
AreTwoFiles AreApart files =
    (i j : ℕ) (file later : List ℕ) → i < j → slice_get files i ≡ Some file → slice_get files j ≡ Some later
    → AreTwoOutputs AreApart (file ++ codes ".out.csv") (later ++ codes ".out.csv")

-- the file that cannot be opened or made, where the fault is that
abbrev pub missing_file : FileFault → Option (List ℕ)
missing_file (file_fault.CannotOpen file) = Some file.now
missing_file (file_fault.CannotMake file) = Some file.now
missing_file file_fault.OutOfMemory = None

-- it is one of these
abbrev pub IsOfFiles : List (List ℕ) → FileFault → Type 0
IsOfFiles files fault = IfSome (missing_file fault) (λ file. (i : ℕ) × (slice_get files i ≡ Some file))
