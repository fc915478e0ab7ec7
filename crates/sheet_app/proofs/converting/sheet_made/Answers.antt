-- With three columns to be joined, and without.
use Rattle.std.proofs.Common.{IfErr, IfOk, Option, ap, option_map, subst, sym}
use Rattle.sheet_app.proofs.Common.{task_of}
use Rattle.sheet_arguments.specs.ThreeColumns.{ThreeWords, words_seen}
use Rattle.sheet_app.specs.JoinedTexts.{IsSheetMade, LacksSheet}
use Rattle.sheet_app.proofs.converting.sheet_made.Goals as goal

pub returns-in-Some : goal.returns-in-Some
returns-in-Some c =
    let task = task_of c.args.job.now in
    let text = c.args.text.items in
    let words = sym (ap (option_map words_seen) c.in-Some.is) in
    record {
      sheet = subst (λ (three : Option ThreeWords). IfOk c.joined_of.result (λ sheet. IsSheetMade three task text
          sheet.items)) words c.joined_of.ensures.sheet;
      fault = subst (λ (three : Option ThreeWords). IfErr c.joined_of.result (LacksSheet three task text)) words
          c.joined_of.ensures.fault;
    }

pub returns-in-None : goal.returns-in-None
returns-in-None c =
    let task = task_of c.args.job.now in
    let text = c.args.text.items in
    let words = sym (ap (option_map words_seen) c.in-None.is) in
    record {
      sheet = subst (λ (three : Option ThreeWords). IfOk c.sheet_of.result (λ sheet. IsSheetMade three task text
          sheet.items)) words c.sheet_of.ensures.sheet;
      fault = subst (λ (three : Option ThreeWords). IfErr c.sheet_of.result (LacksSheet three task text)) words
          c.sheet_of.ensures.fault;
    }
