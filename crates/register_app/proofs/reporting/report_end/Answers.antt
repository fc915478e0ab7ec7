-- A line that was written while standard error had not failed.
use Rattle.std.proofs.Common.{◌≡◌, rules, true, is_ok, Result, Ok, Err, OnOk}
use Rattle.programs.proofs.AppendsLemmas.{appends_none}
use Rattle.register_app.proofs.reporting.report_end.Goals as goal

on_ok : {A B : Type 0} (r : Result A B) (P : Type 0) → OnOk r P → is_ok r ≡ true → P
on_ok (Ok a) P h is = h
on_ok (Err b) P h is = absurd (cc)

pub returns-in-Some-clause-line : goal.returns-in-Some-clause-line
returns-in-Some-clause-line g c = search (rules, is_ok, on_ok)

-- a source that has no line adds none
pub returns-in_default-clause-line : goal.returns-in_default-clause-line
returns-in_default-clause-line g c = search (rules, appends_none)
