-- Standard input is converted where no file is asked for, and else the files.
use Rattle.std.proofs.Common.{rules, ◌≡◌, ◌↔◌, ◌∙◌, All, arith, inl, inr, length, refl, true, vec_len}
use Rattle.sheet_arguments.specs.Requests.{task_of}
use Rattle.sheet_app.specs.EndedSheets.{is_complete}
use Rattle.sheet_app.specs.declared.converting.EndedSheet.{EndedSheet}
use Rattle.sheet_app.proofs.StartLemmas.{gives_three, of_asked}
use Rattle.sheet_app.proofs.ListLemmas.{ends_all, ends_named, no_names, some_names}
use Rattle.sheet_app.proofs.program.run_job.Goals as goal

-- nothing is done where the job is not begun
pub returns-in-Err : goal.returns-in-Err
returns-in-Err g c =
    let IsOpened = g.P.FileStore.is_opened c.args.store.now in
    let task = task_of c.args.job.now in
    let refused = c.refuse.ensures in
    let fault = c.in-Err.ensures.fault in
    let (high, statuses, unknown) = gives_three g.R.Read IsOpened task c.args.built.now c.in-Err.why _ fault refused.status
    in
    record {
      done = λ arguments just low. absurd (omega (arith, high, low));
      unknown = unknown;
      reported = λ arguments just more good. refused.reported arguments
          (of_asked g.R.Read IsOpened task c.args.built.now arguments c.in-Err.why just fault) good;
      untouched = λ more. refused.untouched;
      statuses = statuses;
      marked = refused.marked;
    }

pub returns-then-is_empty : goal.returns-then-is_empty
returns-then-is_empty g c =
    let files = c.args.job.now.files in
    let length_is : vec_len files ≡ length files.items = omega (arith, files.ok.0) in
    let done = c.run_input.ensures in
    record {
      done = λ arguments just low. inl (record {
        task = task_of c.args.job.now;
        lines = c.in-Ok.prepared.list.lines.items;
        asked = just;
        no_files = no_names files.items (vec_len files) c.is_empty.result length_is c.is_empty.ensures
            c.if-is_empty.true;
        named = c.in-Ok.ensures.prepared.names;
        no_sheets = done.none;
        converted = done.converted;
      });
      unknown = λ two. absurd (omega (arith, done.low, two));
      reported = λ arguments just high. absurd (omega (arith, done.low, high));
      untouched = λ high. absurd (omega (arith, done.low, high));
      statuses = omega (arith, done.low);
      marked = done.marked;
    }

pub returns : goal.returns
returns g c =
    let store = g.P.FileStore in
    let files = c.args.job.now.files.items in
    let prepared = c.in-Ok.prepared in
    let list = prepared.list.lines.items in
    let sheets = prepared.files.sheets.items in
    let ended = c.convert_all-sheets.result.items in
    let task = task_of c.args.job.now in
    let is = c.in-Ok.ensures.prepared in
    let told = c.convert_all-sheets.ensures in
    let low = c.status_of.ensures.statuses in
    let all : (c.are_complete.result ≡ true) ↔ All (λ (sheet : EndedSheet g.row.W.Denot). is_complete sheet ≡ true) ended
    = rw c.as_slice.ensures.value at c.are_complete.ensures in
    record {
      done = λ arguments just low. inr (record {
        task = task;
        lines = list;
        asked = just;
        some_files = λ none. let short : length files ≡ 0 = some_names files none in absurd (search rules);
        named = is.names;
        untouched = refl;
        outputs = is.apart;
        of_files = ends_named g.R.Read g.W.Output (store.is_named c.args.store.now) task list sheets ended told.ended
            ∙ is.named;
        ended = ends_all g.R.Read g.W.Output (store.is_opened c.args.store.now) (store.is_made c.args.store.now)
            (store.is_named c.args.store.now) task list sheets ended is.made told.ended;
        complete = (λ zero. all.0 (c.status_of.ensures.complete.0 zero), λ each. c.status_of.ensures.complete.1 (all.1 each));
        reported = told.lines;
      });
      unknown = λ two. absurd (omega (arith, low, two));
      reported = λ arguments just high. absurd (omega (arith, low, high));
      untouched = λ high. refl;
      statuses = omega (arith, low);
      marked = told.errors_mark;
    }
