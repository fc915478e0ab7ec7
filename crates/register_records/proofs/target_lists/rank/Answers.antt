use Rattle.register_records.proofs.Common.{◌≡◌, false, get_or, arith, all_targets, Haab, have_one_name, cases_lt}
use Rattle.register_records.proofs.TargetRankLemmas.{stands_first}
use Rattle.register_records.proofs.target_lists.rank.Goals as goal
use Rattle.std.proofs.lemmas.Grind.{common_steps}

pub ranks-preserved : goal.ranks-preserved
ranks-preserved c k lt =
    let here : have_one_name c.args.target (get_or all_targets c.ranks.i Haab) ≡ false =
    grind (arith, common_steps) in
    grind (arith, cases_lt k c.ranks.i, c.ranks.invariant k)

pub unreachable-requires : goal.unreachable-requires
unreachable-requires c =
    let (rank, below, stands) = stands_first c.args.target in
    let other = c.ranks.invariant rank (omega (arith, below, c.ranks-test.false)) in
    cc (stands, other)
