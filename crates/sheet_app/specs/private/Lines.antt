-- A text of a list, with what stands before it.
use Rattle.std.specs.Prelude.{◌++◌, ◌==◌, ℕ, codes, if◌then◌else◌}
use Rattle.clap.specs.Words.{Text}

-- the text at an index of such a list, with what stands before it
abbrev pub listed_at : ℕ → Text → Text
listed_at index text = if index == 0 then text else (codes ", " ++ text)
