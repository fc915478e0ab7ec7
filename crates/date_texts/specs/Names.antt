-- Names as registers write them, by a rule of this project.
use Rattle.std.specs.Prelude.{◌≡◌, ℕ, List}
use Rattle.std.specs.Str.{str_to_ascii_lowercase}
use Rattle.date_texts.specs.Trimmed.{trimmed}

-- the text is the name, which stands in small letters: spaces and tabs at both ends taken off, ASCII letter case aside
abbrev pub IsNamed : List ℕ → List ℕ → Type 0
IsNamed text name = str_to_ascii_lowercase (trimmed text) ≡ name
