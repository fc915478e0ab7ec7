use Rattle.std.proofs.Common.{◌≡◌, length, take}
use Rattle.page_rules.specs.Requests.{targets_at}
use Rattle.page_rules.specs.declared.requests.TheConstants.{TOO_MANY}
use Rattle.page_rules.proofs.requests.set_targets.Given as goal

abbrev pub invariant-columns : goal.invariant-columns
invariant-columns l =
    record {
      long : length l.targets ≡ TOO_MANY;
      placed : take l.i l.targets ≡ targets_at (take l.i l.columns);
    }
