-- What the reader of csv finds is the next record.
use Rattle.sheets.proofs.ReadingLemmas.{not_found}
use Rattle.sheets.proofs.sheet_reader.read_record.Goals as goal

pub returns-in_err-read_next-clause-found : goal.returns-in_err-read_next-clause-found
returns-in_err-read_next-clause-found c = not_found _ _ _ _ _ c.from_residual.result c.from_residual.ensures.1
