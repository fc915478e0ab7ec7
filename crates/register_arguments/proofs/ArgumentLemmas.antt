-- What the arguments of this program mean is one thing: what `MeaningLemmas` of `programs` wants to be shown.
use Rattle.std.proofs.Common.{◌≡◌, ◌∙◌, List, sym, ap, rules, Option, Some, None}
use Rattle.clap.specs.Words.{Text}
use Rattle.date_texts.specs.Laws.{OneTarget}
use Rattle.date_texts.specs.declared.target.Target.{Target}
use Rattle.programs.proofs.KindLemmas.{lone_app, one_of}
use Rattle.programs.proofs.MeaningLemmas.{IsClear, IsSound, sound_files, sound_option}
use Rattle.register_arguments.specs.Requests.{AreTargetsOf, Ask, Task, Values, register_line, target_check, task_with}
use Rattle.register_arguments.specs.Requests.{values_of}
use Rattle.register_arguments.proofs.ListLemmas.{asks_no_fault, asks_one, one_fault}

module _ (one : OneTarget) where
  one_list : (value : Option Text) (targets others : List Target) → AreTargetsOf value targets
      → AreTargetsOf value others → targets ≡ others
  one_list None targets others is same = is ∙ sym same
  one_list (Some list) targets others is same = asks_one one list targets others is same

  sound_targets : (value : Option Text) → IsSound (target_check value)
  sound_targets None = record { one = λ fault other is. absurd is; none = λ fault asked is. is }
  sound_targets (Some list) = record {
    one = one_fault one list;
    none = λ fault asked. asks_no_fault one list asked.0 fault asked.1;
  }

  -- values ask for one task at most
  one_task : (values : Values) (a b : Task) → Ask values a → Ask values b → a ≡ b
  one_task values a b asked same =
      asked.1 ∙ ap (task_with values) (one_list values.to _ _ asked.0 same.0) ∙ sym same.1

-- so arguments mean one thing
pub is_clear : OneTarget → IsClear register_line
is_clear one = record {
  kinds = λ arguments k l. search (rules, one_of, lone_app);
  sound = λ found. search (rules, sound_targets, sound_option, sound_files);
  one = λ found. one_task one (values_of found);
}
