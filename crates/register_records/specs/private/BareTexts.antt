-- Texts that a table shows without quotes, whatever its delimiter.
use Rattle.std.specs.Prelude.{◌≡◌, ◌==◌, ◌&&◌, Bool, true, nat_le, not, ℕ, List, Result, Ok, Err}
use Rattle.std.specs.List.{list_all}
use Rattle.register_records.specs.Records.{Texts}
use Rattle.date_texts.specs.declared.refusal.Refusal.{Refusal}

-- a space or a visible character of ASCII that is no delimiter and no quote
abbrev pub is_plain_byte : ℕ → Bool
is_plain_byte b = nat_le 32 b && nat_le b 126 && not (b == 44) && not (b == 59) && not (b == 34)

-- a text of such bytes
abbrev pub IsPlain : List ℕ → Type 0
IsPlain text = list_all is_plain_byte text ≡ true

-- each of the texts is one
abbrev pub has_plain_texts : Result Texts Refusal → Bool
has_plain_texts (Ok t) =
    list_all is_plain_byte t.id && (list_all is_plain_byte t.calendar
    && (list_all is_plain_byte t.date && list_all is_plain_byte t.note))
has_plain_texts (Err r) = true
