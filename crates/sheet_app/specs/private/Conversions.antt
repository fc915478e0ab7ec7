-- What sheets are converted by.
use Rattle.std.specs.Prelude.{List}
use Rattle.sheets.specs.declared.name_lists.NameLine.{NameLine}
use Rattle.sheet_arguments.specs.Requests.{Task, task_of}
use Rattle.sheet_app.specs.declared.prepared.Conversion.{Conversion}

abbrev pub task_by : Conversion → Task
task_by conversion = task_of conversion.job.now

abbrev pub lines_by : Conversion → List NameLine
lines_by conversion = conversion.list.now.lines.items
