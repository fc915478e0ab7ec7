use Rattle.register_records.proofs.TableLemmas.{journal_last, table_last}
use Rattle.register_records.proofs.laws.tables_grow.Goals as goal

pub returns : goal.returns
returns c layout rows row = (table_last layout rows row, journal_last rows row)
