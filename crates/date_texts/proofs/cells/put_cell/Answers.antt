use Rattle.date_texts.proofs.cells.put_cell.Goals as goal

pub returns-in-Date-clause-value : goal.returns-in-Date-clause-value
returns-in-Date-clause-value c = rw c.in-Date.is c.write_date_cell.ensures.value
