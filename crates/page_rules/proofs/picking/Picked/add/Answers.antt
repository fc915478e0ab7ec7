use Rattle.std.proofs.Common.{◌∙◌, [], ◌∷◌, length, length-append, refl, sym}
use Rattle.std.proofs.lemmas.List.{map-append}
use Rattle.std.proofs.lemmas.List.Folds.{concat-append}
use Rattle.csv.specs.Records.{fields_of}
use Rattle.sheets.specs.Sheets.{chosen}
use Rattle.sheets.proofs.SheetLemmas.{widest_more}
use Rattle.page_rules.specs.Picks.{all_chosen}
use Rattle.page_rules.proofs.PickLemmas.{all_more_chosen}
use Rattle.page_rules.proofs.picking.Picked.add.Goals as goal

pub returns-clause-picked : goal.returns-clause-picked
returns-clause-picked c records picked =
    let fields = fields_of c.args.record.now in
    let places = c.args.places.now in
    let more = all_more_chosen places records fields in
    record {
      bytes = c.in_ok-push_chosen.ensures.bytes
          ∙ rw (picked.bytes, more) (sym (concat-append (all_chosen places records) (chosen places fields)));
      lengths = c.in_ok-push_chosen.ensures.lengths
          ∙ rw (picked.lengths, more) (sym (map-append length (all_chosen places records) (chosen places fields)));
      counted = rw (length-append records (fields ∷ []), c.push_chosen.ensures.kept.0, picked.counted) refl;
      wide = c.max-self.ensures
          ∙ rw (widest_more records fields, c.push_chosen.ensures.kept.1, picked.wide, c.len.ensures) refl;
    }
