use Rattle.std.proofs.Common.{rules}
use Rattle.sheets.proofs.AskedOfSheetLemmas.{chosen_by}
use Rattle.sheets.proofs.asked_of_sheets.AskedByNames.setup.Goals as goal

pub returns : goal.returns
returns c =
    let setup = c.new.ensures in
    let made = chosen_by c.args.self.now _ c.new.result setup.value setup.good setup.fault (record {
      delimiter = search rules;
      above = search rules;
      id = search rules;
      dates = search rules;
      columns = search rules;
      headings_are = search rules;
      reading = search rules;
      spans = search rules;
      names_are = search rules;
      calendars_are = search rules;
    }) in
    record { choice = made.0; none = made.1 }
