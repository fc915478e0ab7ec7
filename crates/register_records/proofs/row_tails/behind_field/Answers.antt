use Rattle.std.proofs.Common.{◌-◌, length, take, drop, refl}
use Rattle.register_records.proofs.RowTailLemmas.{behind_first}
use Rattle.register_records.proofs.row_tails.behind_field.Goals as goal

pub returns-clause-value : goal.returns-clause-value
returns-clause-value c field more h whole =
    let bytes = c.args.bytes.now in
    let start = c.min-start.result in
    behind_first c.args.delimiter bytes (take (length bytes - start) (drop start bytes)) start c.place_of.result field more
    c.min-start.ensures refl c.place_of.ensures.value h whole
