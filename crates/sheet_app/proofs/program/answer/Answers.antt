-- Arguments that ask for something have no fault beside it, and arguments that are refused have one.
use Rattle.std.proofs.Common.{◌≡◌, ◌≤◌, ◌⊎◌, ◌++◌, ℕ, Option, None, Some, rules, arith, inl, inr, map, refl, subst}
use Rattle.std.specs.Option.{option_map_or}
use Rattle.std.specs.String.{string_bytes}
use Rattle.clap.specs.Words.{matches_of}
use Rattle.programs.specs.Meanings.{help, version, work}
use Rattle.sheet_arguments.specs.Requests.{command_line, values_of, MeanJust, meaning_of, sheet_line, task_of}
use Rattle.sheet_arguments.specs.Requests.{date_checks, output_checks, word_checks}
use Rattle.programs.proofs.CheckLemmas.{each_pass}
use Rattle.programs.specs.declared.requests.Request.{Request}
use Rattle.sheet_arguments.specs.declared.requests.Job.{Job}
use Rattle.programs.specs.Faults.{fault_of_error}
use Rattle.sheet_app.specs.Answers.{version_line}
use Rattle.programs.proofs.RefusedLemmas.{are_wrong, is_refused, is_wrong, never_wrong}
use Rattle.sheet_app.proofs.TaskLemmas.{is_task}
use Rattle.sheet_app.proofs.program.answer.Goals as goal

-- what arguments ask for is a task
pub run_job-requires : goal.run_job-requires
run_job-requires g c =
    let arguments = map string_bytes c.args.arguments.now in
    let task = task_of c.in-Ok-Convert.job in
    let just : MeanJust arguments (work task)
    = subst (λ (r : Request Job). MeanJust arguments (meaning_of r)) c.in-Ok-Convert.field-0-is c.in-Ok-Convert.ensures.asked in
    let asked = (just (work task)).0 refl in
    let values = values_of (matches_of command_line arguments) in
    let rest = word_checks values ++ output_checks values in
    is_task values task (each_pass (date_checks values) rest asked.1.1).0 asked.2

-- a page of help
pub returns-in-Ok-Help : goal.returns-in-Ok-Help
returns-in-Ok-Help g c =
    let arguments = map string_bytes c.args.arguments.now in
    let just : MeanJust arguments help
    = subst (λ (r : Request Job). MeanJust arguments (meaning_of r)) c.in-Ok-Help.field-0-is c.in-Ok-Help.ensures.asked in
    let page = c.answer_page.ensures in
    record {
      answered = λ low. inl (_, inl (just, c.page_of_help.ensures), page.printed, page.none);
      refused = λ had is. absurd (never_wrong sheet_line arguments help just (λ fault e. cc) is);
      only = λ two. absurd (omega (arith, two, page.statuses));
      reported = λ high. absurd (omega (arith, high, page.statuses));
      untouched = λ high. absurd (omega (arith, high, page.statuses));
      statuses = omega (arith, page.statuses);
      errors_mark = page.errors_mark;
    }

-- the line on the version
pub returns-in-Ok-Version : goal.returns-in-Ok-Version
returns-in-Ok-Version g c =
    let arguments = map string_bytes c.args.arguments.now in
    let just : MeanJust arguments version
    = subst (λ (r : Request Job). MeanJust arguments (meaning_of r)) c.in-Ok-Version.field-0-is c.in-Ok-Version.ensures.asked
    in
    let is : c.as_str.result.now ≡ version_line = search rules in
    let page = c.answer_page-in-Ok-Version.ensures in
    record {
      answered = λ low. inl (c.as_str.result.now, inr (just, is), page.printed, page.none);
      refused = λ had is. absurd (never_wrong sheet_line arguments version just (λ fault e. cc) is);
      only = λ two. absurd (omega (arith, two, page.statuses));
      reported = λ high. absurd (omega (arith, high, page.statuses));
      untouched = λ high. absurd (omega (arith, high, page.statuses));
      statuses = omega (arith, page.statuses);
      errors_mark = page.errors_mark;
    }

-- sheets
pub returns-in-Ok-Convert : goal.returns-in-Ok-Convert
returns-in-Ok-Convert g c =
    let arguments = map string_bytes c.args.arguments.now in
    let task = task_of c.in-Ok-Convert.job in
    let just : MeanJust arguments (work task)
    = subst (λ (r : Request Job). MeanJust arguments (meaning_of r)) c.in-Ok-Convert.field-0-is c.in-Ok-Convert.ensures.asked in
    let run = c.run_job.ensures in
    record {
      answered = λ low. inr (run.done arguments just low);
      refused = λ had is. absurd (never_wrong sheet_line arguments (work task) just (λ fault e. cc) is);
      only = λ two. let (word, unknown) = run.unknown two in inr (task, just, word, unknown);
      reported = λ high good. run.reported arguments just high good;
      untouched = run.untouched;
      statuses = run.statuses;
      errors_mark = run.marked;
    }

-- arguments that are refused
two_or_three : {F : Type 0} (found : Option F) (status : ℕ)
    → (status ≡ 3) ⊎ (status ≡ option_map_or (λ fault. 2) found 3) → (2 ≤ status) × (status ≤ 3)
two_or_three found status (inl three) = (omega (arith, three), omega (arith, three))
two_or_three None status (inr three) = (omega (arith, three), omega (arith, three))
two_or_three (Some fault) status (inr two) = (omega (arith, two), omega (arith, two))

pub returns-in-Err : goal.returns-in-Err
returns-in-Err g c =
    let arguments = map string_bytes c.args.arguments.now in
    let found = fault_of_error c.in-Err.fault in
    let refused = c.refuse.ensures in
    let high = two_or_three found c.refuse.result.status refused.status in
    record {
      answered = λ low. absurd (omega (arith, low, high.0));
      refused = λ had is. is_refused found c.refuse.result.status refused.status had;
      only = λ two. inl (are_wrong sheet_line arguments found c.refuse.result.status c.in-Err.ensures.refused refused.status
          two);
      reported = λ high good. refused.reported arguments (is_wrong sheet_line arguments found c.in-Err.ensures.refused) good;
      untouched = λ high. refused.untouched;
      statuses = high.1;
      errors_mark = refused.marked;
    }
