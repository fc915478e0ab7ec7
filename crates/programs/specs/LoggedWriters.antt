-- What a clause sees of a `LoggedWriter`.
use Rattle.std.specs.Prelude.{ℕ, List}
use Rattle.std.specs.declared.io.traits.Write.{Ghosts}
use Rattle.programs.specs.declared.logged_writer.LoggedWriter.{LoggedWriter}

-- the bytes that it has taken
abbrev pub logged_bytes : {W : Type 0} {g : Ghosts W} → LoggedWriter W g → List ℕ
logged_bytes writer = writer.log.bytes

-- the writer in it
abbrev pub inner_of : {W : Type 0} {g : Ghosts W} → LoggedWriter W g → W
inner_of writer = writer.inner
