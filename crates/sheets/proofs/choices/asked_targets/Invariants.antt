use Rattle.std.proofs.Common.{◌≡◌, ◌≤◌, length, take}
use Rattle.sheets.proofs.Common.{asked_targets}
use Rattle.sheets.specs.declared.choices.TheConstants.{MAX_COLUMNS}
use Rattle.sheets.proofs.choices.asked_targets.Given as goal

abbrev pub invariant-columns : goal.invariant-columns
invariant-columns l =
    record {
      value : take l.count l.targets ≡ asked_targets (take l.column-index l.columns);
      few : l.count ≤ l.column-index;
      room : length l.targets ≡ MAX_COLUMNS;
    }
