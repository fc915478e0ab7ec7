-- A run that did not begin hands the outputs back as they were made.
use Rattle.std.proofs.Common.{rules, ◌≢◌, ℕ, List, map, subst}
use Rattle.programs.specs.Meanings.{work}
use Rattle.register_arguments.specs.Requests.{MeanJust, Task, task_of}
use Rattle.programs.specs.Openings.{IsOfFiles}
use Rattle.programs.specs.declared.opening.FileFault.{FileFault}
use Rattle.programs.specs.declared.opening.FileFault.TheVariants.{OutOfMemory}
use Rattle.register_app.specs.ProgramFaults.{IsOfAsked}
use Rattle.register_app.specs.declared.program_faults.ProgramFault.TheVariants as program_fault
use Rattle.register_app.proofs.program.convert_files.Goals as goal

-- a file that cannot be opened or made is one of those that the arguments ask for
asked_by : (arguments : List (List ℕ)) (task : Task) → MeanJust arguments (work task) → (fault : FileFault)
    → IsOfFiles task.files fault → IsOfAsked arguments (program_fault.Files fault)
asked_by arguments task just OutOfMemory is = tt
asked_by arguments task just fault is = (task, just, is.0, is.1)

-- the run began, and then the tables got their names
pub returns-clause-converted : goal.returns-clause-converted
returns-clause-converted g c = λ begun.
    let run : c.run_job-ended.result.status ≢ 3 = λ three. begun (c.name_tables-status.ensures.unbegun three).0 in
    let (all, named, status) = c.name_tables-status.ensures.named run in
    record {
      sources = c.in-Ok.opened.sources.items;
      given = c.in-Ok.opened.outputs.items;
      opened = rw c.as_slice.ensures.value at c.in-Ok.ensures.opened;
      made = rw c.as_slice.ensures.value at c.in-Ok.ensures.made;
      kept = rw c.as_slice.ensures.value at c.in-Ok.ensures.kept;
      apart = rw c.as_slice.ensures.value at c.in-Ok.ensures.apart;
      ended = c.run_job-ended.result.status;
      reported = c.run_job-ended.new.errors;
      converted = c.run_job-ended.ensures.converted run;
      all = all;
      named = rw (c.as_slice-2.ensures.value, c.in-Ok.ensures.placed, c.as_slice.ensures.value) at named;
      status_of = status;
    }

pub returns-clause-unwritten : goal.returns-clause-unwritten
returns-clause-unwritten g c = search rules

pub returns-in-Err-clause-reported : goal.returns-in-Err-clause-reported
returns-in-Err-clause-reported g c = λ three good arguments just.
    let fault = c.in-Err.fault in
    c.refuse.ensures.reported arguments (
      tt,
      asked_by arguments (task_of c.args.job.now) just fault
          (subst (λ files. IsOfFiles (map (λ f. f.now) files) fault) c.as_slice.ensures.value c.in-Err.ensures.named),
    ) good
