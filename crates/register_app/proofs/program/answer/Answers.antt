-- Arguments that ask for something have no fault beside it, and arguments that are refused have one.
use Rattle.std.proofs.Common.{◌≤◌, ◌⊎◌, ◌≡◌, ◌≢◌, ◌∷◌, ℕ, rules, arith, inl, inr, map, ap, length, refl, []}
use Rattle.std.proofs.lemmas.List.{length-map, nil_from_length}
use Rattle.std.specs.String.{string_bytes}
use Rattle.clap.specs.Words.{matches_of}
use Rattle.programs.proofs.CheckLemmas.{each_pass}
use Rattle.programs.specs.Meanings.{file_check, help, version, work}
use Rattle.register_arguments.specs.Requests.{MeanJust, Task, command_line, register_line, task_of, values_of}
use Rattle.register_arguments.specs.Requests.{word_checks}
use Rattle.programs.specs.Faults.{fault_of_error}
use Rattle.register_app.specs.Answers.{version_line}
use Rattle.programs.proofs.RefusedLemmas.{is_wrong}
use Rattle.register_app.proofs.RefusedLemmas.{is_refused, never_refused}
use Rattle.register_app.proofs.program.answer.Goals as goal

pub returns-in-Ok-Help-clause-answered : goal.returns-in-Ok-Help-clause-answered
returns-in-Ok-Help-clause-answered g c = λ low.
    let just : MeanJust (map string_bytes c.args.arguments.now) help = search (rules, c.in-Ok-Help.ensures.asked) in
    inl (_, inl (just, c.page_of_help.ensures), c.answer_page.ensures.printed, c.answer_page.ensures.none)

pub returns-in-Ok-Help-clause-refused : goal.returns-in-Ok-Help-clause-refused
returns-in-Ok-Help-clause-refused g c = λ had.
    let just : MeanJust (map string_bytes c.args.arguments.now) help = search (rules, c.in-Ok-Help.ensures.asked) in
    never_refused _ help _ just (λ fault e. cc) (λ two. grind (arith, c.answer_page.ensures.statuses))

pub returns-in-Ok-Version-clause-answered : goal.returns-in-Ok-Version-clause-answered
returns-in-Ok-Version-clause-answered g c = λ low.
    let just : MeanJust (map string_bytes c.args.arguments.now) version
    = search (rules, c.in-Ok-Version.ensures.asked) in
    let is : c.as_str.result.now ≡ version_line = search rules in
    inl (
      c.as_str.result.now,
      inr (just, is),
      c.answer_page-in-Ok-Version.ensures.printed,
      c.answer_page-in-Ok-Version.ensures.none,
    )

pub returns-in-Ok-Version-clause-refused : goal.returns-in-Ok-Version-clause-refused
returns-in-Ok-Version-clause-refused g c = λ had.
    let just : MeanJust (map string_bytes c.args.arguments.now) version
    = search (rules, c.in-Ok-Version.ensures.asked) in
    never_refused _ version _ just (λ fault e. cc) (λ two. grind (arith, c.answer_page-in-Ok-Version.ensures.statuses))

pub convert_files-requires-clause-few : goal.convert_files-requires-clause-few
convert_files-requires-clause-few g c =
    let arguments = map string_bytes c.args.arguments.now in
    let job = c.in-Ok-Convert.job in
    let just : MeanJust arguments (work (task_of job)) = search (rules, c.in-Ok-Convert.ensures.asked) in
    let asks = (just (work (task_of job))).0 refl in
    let values = values_of (matches_of command_line arguments) in
    let fit = (each_pass (word_checks values) (file_check values.files ∷ []) asks.1.1).1.0 in
    omega (arith, fit.0, ap (λ (task : Task). length task.files) asks.2.1, length-map job.files.items (λ f. f.now))

at_most_three : (status : ℕ) → 2 ≤ status → (status ≡ 0) ⊎ (status ≡ 1) ⊎ (status ≡ 3) → status ≡ 3
at_most_three status high among = grind arith

pub returns-then-is_empty-clause-answered : goal.returns-then-is_empty-clause-answered
returns-then-is_empty-clause-answered g c = λ low.
    let arguments = map string_bytes c.args.arguments.now in
    let job = c.in-Ok-Convert.job in
    let just : MeanJust arguments (work (task_of job)) = search (rules, c.in-Ok-Convert.ensures.asked) in
    let zero : length job.files.items ≡ 0 = search rules in
    let none : job.files.items ≡ [] = nil_from_length job.files.items zero in
    inr (inl (
      task_of job,
      just,
      ap (λ l. map (λ f. f.now) l) none,
      c.convert_input.ensures.none,
      c.convert_input.ensures.converted (λ three. absurd (omega (arith, low, three))),
    ))

pub returns-then-is_empty-clause-refused : goal.returns-then-is_empty-clause-refused
returns-then-is_empty-clause-refused g c =
    let just : MeanJust (map string_bytes c.args.arguments.now) (work (task_of c.in-Ok-Convert.job))
    = search (rules, c.in-Ok-Convert.ensures.asked) in
    λ had. never_refused _ _ _ just (λ fault e. cc) (λ two. grind (arith, c.convert_input.ensures.statuses))

pub returns-else-is_empty-clause-answered : goal.returns-else-is_empty-clause-answered
returns-else-is_empty-clause-answered g c = λ low.
    let arguments = map string_bytes c.args.arguments.now in
    let job = c.in-Ok-Convert.job in
    let just : MeanJust arguments (work (task_of job)) = search (rules, c.in-Ok-Convert.ensures.asked) in
    let some : job.files.items ≢ [] = search rules in
    inr (inr (
      task_of job,
      just,
      λ e. some (nil_from_length job.files.items (omega (arith, length-map job.files.items (λ f. f.now), ap length e))),
      c.convert_files.ensures.untouched,
      c.convert_files.ensures.converted (λ three. absurd (omega (arith, low, three))),
    ))

pub returns-else-is_empty-clause-refused : goal.returns-else-is_empty-clause-refused
returns-else-is_empty-clause-refused g c =
    let just : MeanJust (map string_bytes c.args.arguments.now) (work (task_of c.in-Ok-Convert.job))
    = search (rules, c.in-Ok-Convert.ensures.asked) in
    λ had. never_refused _ _ _ just (λ fault e. cc) (λ two. grind (arith, c.convert_files.ensures.statuses))

pub returns-in-Err-clause-refused : goal.returns-in-Err-clause-refused
returns-in-Err-clause-refused g c =
    λ had. is_refused (map string_bytes c.args.arguments.now) (fault_of_error c.in-Err.fault) c.refuse.result.status
    c.in-Err.ensures.refused c.refuse.ensures.status had

-- standard error: nothing of a page; that memory ran out or a file was missing; and else what is wrong
pub returns-in-Ok-Help-clause-reported : goal.returns-in-Ok-Help-clause-reported
returns-in-Ok-Help-clause-reported g c = search rules

pub returns-in-Ok-Version-clause-reported : goal.returns-in-Ok-Version-clause-reported
returns-in-Ok-Version-clause-reported g c = search rules

pub returns-then-is_empty-clause-reported : goal.returns-then-is_empty-clause-reported
returns-then-is_empty-clause-reported g c = search (rules, at_most_three)

pub returns-else-is_empty-clause-reported : goal.returns-else-is_empty-clause-reported
returns-else-is_empty-clause-reported g c = λ high good.
    let arguments = map string_bytes c.args.arguments.now in
    let just : MeanJust arguments (work (task_of c.in-Ok-Convert.job))
    = search (rules, c.in-Ok-Convert.ensures.asked) in
    let three = at_most_three c.convert_files.result.status high c.convert_files.ensures.statuses in
    c.convert_files.ensures.reported three good arguments just

pub returns-in-Err-clause-reported : goal.returns-in-Err-clause-reported
returns-in-Err-clause-reported g c = λ high good.
    let arguments = map string_bytes c.args.arguments.now in
    c.refuse.ensures.reported arguments
    (is_wrong register_line arguments (fault_of_error c.in-Err.fault) c.in-Err.ensures.refused, tt) good

pub returns-else-is_empty-clause-unwritten : goal.returns-else-is_empty-clause-unwritten
returns-else-is_empty-clause-unwritten g c = λ three.
    let arguments = map string_bytes c.args.arguments.now in
    let task = task_of c.in-Ok-Convert.job in
    let just : MeanJust arguments (work task) = search (rules, c.in-Ok-Convert.ensures.asked) in
    elim (c.convert_files.ensures.unwritten three) [ inl none ↦ inl none | inr made ↦ inr (task, just, made) ]

pub returns-else-is_empty-clause-none : goal.returns-else-is_empty-clause-none
returns-else-is_empty-clause-none g c = search rules
