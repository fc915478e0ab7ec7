use Rattle.std.proofs.Common.{◌∙◌}
use Rattle.register_records.proofs.FieldLemmas.{known_text}
use Rattle.register_records.proofs.record_fields.is_text.Goals as goal

pub returns : goal.returns
returns c = c.is_ok.ensures.value ∙ known_text c.from_utf8.result c.args.field.now _ _ c.from_utf8.ensures.cases
