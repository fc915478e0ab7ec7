-- What the arguments of this program mean is one thing: what `MeaningLemmas` of `programs` wants to be shown.
use Rattle.std.proofs.Common.{◌≡◌, ◌∙◌, Bool, true≢false, List, ap₂, sym, rules, Result, Ok, Err}
use Rattle.clap.specs.Words.{IsAmong, Text, fault_of}
use Rattle.clap.specs.declared.error.kind.ErrorKind.{ErrorKind}
use Rattle.programs.specs.Faults.{Fault}
use Rattle.programs.proofs.KindLemmas.{lone_app, one_of}
use Rattle.programs.proofs.MeaningLemmas.{AreSound, IsClear, IsSound, sound_files, sound_option}
use Rattle.sheet_arguments.specs.Requests.{Ask, Task, Values, command_line, false_check, result_check, sheet_line}
use Rattle.sheet_arguments.specs.Requests.{task_with, value_checks, values_of}
use Rattle.sheet_arguments.specs.ThreeColumns.{three_asked}
use Rattle.sheet_arguments.specs.WordLists.{columns_asked}

-- arguments have one kind of fault at most
one_kind : (arguments : List Text) (k l : ErrorKind) → IsAmong k (fault_of command_line arguments)
    → IsAmong l (fault_of command_line arguments) → k ≡ l
one_kind arguments k l = search (rules, one_of, lone_app)

sound_false : (holds : Bool) (what : Text) → IsSound (false_check holds what)
sound_false holds what = record {
  one = λ f g is same. is.0 ∙ sym same.0;
  none = λ f no is. true≢false (sym is.1 ∙ no);
}

same_fault : {A : Type 0} (result : Result A Fault) (f g : Fault) → result ≡ Err f → result ≡ Err g → f ≡ g
same_fault result f g is same = cc

no_both : {A : Type 0} (result : Result A Fault) (a : A) (f : Fault) → result ≡ Ok a → result ≡ Err f → ⊥
no_both result a f is same = cc

same_value : {A : Type 0} (result : Result A Fault) (a b : A) → result ≡ Ok a → result ≡ Ok b → a ≡ b
same_value result a b is same = cc

sound_result : {A : Type 0} (result : Result A Fault) → IsSound (result_check result)
sound_result result = record { one = same_fault result; none = λ f passes is. no_both result passes.0 f passes.1 is }

sound_checks : (values : Values) → AreSound (value_checks values)
sound_checks values = search (rules, sound_false, sound_result, sound_option, sound_files)

-- values ask for one task at most
one_task : (values : Values) (a b : Task) → Ask values a → Ask values b → a ≡ b
one_task values a b asked same =
    let three : a.three ≡ b.three = same_value (three_asked values.three) _ _ asked.0 same.0 in
    let columns : a.columns ≡ b.columns = same_value (columns_asked values.to) _ _ asked.1 same.1 in
    asked.2 ∙ ap₂ (task_with values) three columns ∙ sym same.2

-- so arguments mean one thing
pub is_clear : IsClear sheet_line
is_clear = record {
  kinds = one_kind;
  sound = λ found. sound_checks (values_of found);
  one = λ found. one_task (values_of found);
}
