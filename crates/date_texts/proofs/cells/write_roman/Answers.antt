use Rattle.std.proofs.Common.{refl}
use Rattle.date_texts.proofs.Common.{on_date, Roman}
use Rattle.date_texts.proofs.cells.write_roman.Goals as goal

pub returns-clause-value : goal.returns-clause-value
returns-clause-value c =
    on_date (Roman c.roman_on.result) refl c.roman_on.ensures.valid c.roman_on.ensures.value
    c.put_roman.ensures.value.value
