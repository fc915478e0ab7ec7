-- What a clause sees of two parts of a text.
use Rattle.std.specs.Borrow.{Bor}
use Rattle.clap.specs.Words.{Text}

abbrev pub parts_seen : Bor Text × Bor Text → Text × Text
parts_seen parts = (parts.0.now, parts.1.now)
