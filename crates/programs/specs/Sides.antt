-- What is known of streams that are one of two kinds: what is known of the one in them.
use Rattle.std.specs.Prelude.{ℕ, List, Option, None}
use Rattle.programs.specs.declared.disk.Destination.{Destination}
use Rattle.programs.specs.declared.disk.Destination.TheVariants as destination
use Rattle.programs.specs.declared.disk.Source.{Source}
use Rattle.programs.specs.declared.disk.Source.TheVariants as source
use Rattle.programs.specs.declared.terminal.Lines.{Lines}
use Rattle.programs.specs.declared.terminal.Lines.TheVariants as lines

-- the bytes that a source will give
abbrev pub source_remaining : {I F : Type 0} → (I → Option (List ℕ)) → (F → Option (List ℕ)) → Source I F
    → Option (List ℕ)
source_remaining of_input of_file (source.Input input) = of_input input
source_remaining of_input of_file (source.File file) = of_file file

-- the bytes that a destination holds
abbrev pub destination_contents : {O F : Type 0} → (O → Option (List ℕ)) → (F → Option (List ℕ)) → Destination O F
    → Option (List ℕ)
destination_contents of_output of_file (destination.Output output) = of_output output
destination_contents of_output of_file (destination.File file) = of_file file

-- the bytes that the stream of lines holds, where they go there as they are; nothing is known of a terminal
abbrev pub lines_contents : {E : Type 0} → (E → Option (List ℕ)) → Lines E → Option (List ℕ)
lines_contents of_stream (lines.ToTerminal terminal program) = None
lines_contents of_stream (lines.AsTheyAre stream) = of_stream stream
