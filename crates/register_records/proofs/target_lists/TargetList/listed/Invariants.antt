use Rattle.register_records.proofs.Common.{◌≡◌, take, items_in, ranks_in, RANK_ROOM}
use Rattle.register_records.proofs.target_lists.TargetList.listed.Given as goal

abbrev pub invariant-targets : goal.invariant-targets
invariant-targets l =
    record {
      items : items_in l.items ≡ take l.i l.targets;
      ranks : l.ranks ≡ ranks_in RANK_ROOM (take l.i l.targets);
    }
