-- An output that is missing is one of the file's.
use Rattle.std.proofs.Common.{◌≡◌, ◌++◌, ◌∷◌, [], ap, Global, map, String}
use Rattle.sheet_app.proofs.Common.{string_bytes, place_name, task_of, ending_of, names_ending, source_name}
use Rattle.sheet_app.proofs.Common.{IsOfOutputs}
use Rattle.sheet_app.proofs.FaultLemmas.{behind, handed, of_more}
use Rattle.sheet_app.proofs.NameLemmas.{all_placed}
use Rattle.sheet_app.proofs.file_sheets.make_sheet.Goals as goal

pub returns-in_err-registers-clause-missing : goal.returns-in_err-registers-clause-missing
returns-in_err-registers-clause-missing g c =
    let file = source_name c.args.opened in
    let own = ending_of (task_of c.args.job.now) in
    let endings = c.args.endings.now in
    let others = map (λ (ending : String Global). file ++ string_bytes ending) endings in
    let fault = c.in_err-registers.field-0.0 in
    handed (IsOfOutputs (names_ending own string_bytes endings file)) c.from_residual-in_err-registers.result fault
    c.from_residual-in_err-registers.ensures.1
    (of_more others (names_ending own string_bytes endings file) fault (behind (file ++ own) others)
    c.in_err-registers.ensures.missing)

pub returns-clause-apart : goal.returns-clause-apart
returns-clause-apart g c = λ before. c.in_ok-registers.ensures.apart (c.in_ok-output.ensures.apart before)

-- the places of a sheet are those of its outputs, one after the other
pub returns-clause-made : goal.returns-clause-made
returns-clause-made g c = λ opened.
    let file = source_name c.args.opened in
    let own = ending_of (task_of c.args.job.now) in
    let first : map place_name c.make_output.new.places.items
    ≡ map place_name c.new-places.result.items ++ (file ++ own) ∷ [] = rw c.ending.ensures at c.in_ok-output.ensures.placed in
    record {
      opened = opened;
      output = rw c.ending.ensures at c.in_ok-output.ensures.made;
      registers = c.in_ok-registers.ensures.made;
      places = all_placed (map place_name c.new-places.result.items) (map place_name c.make_output.new.places.items)
          (map place_name c.make_registers.new.places.items) file own c.args.endings.now
          (ap (map place_name) c.new-places.ensures.items) first c.in_ok-registers.ensures.placed;
    }
