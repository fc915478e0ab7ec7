use Rattle.std.proofs.Common.{◌≡◌, ℕ, Bool, ◌&&◌, ◌||◌, ◌≢◌, ◌==◌, length-drop, take-add, rules}
use Rattle.register_records.proofs.Common.{slice-end, nat_tests}
use Rattle.std.proofs.KnownBytes.{Appends-trans}
use Rattle.register_records.proofs.outputs.send.Goals as goal

-- an offer that took some did not fail
took_some : (a : Bool) (n : ℕ) (b : Bool) → n ≢ 0 → (a || ((n == 0) && b)) ≡ a
took_some a n b h = search (rules, nat_tests)

pub offers-preserved : goal.offers-preserved
offers-preserved g c =
    let all = c.args.bytes.now in
    let more = rw (slice-end all c.offers.sent) at c.in_ok-n.ensures.bytes in
    let bound = rw (slice-end all c.offers.sent) at c.in_ok-n.ensures.bound in
    let some : c.in_ok-n.n ≢ 0 = search rules in
    search (rules, more, bound, some, take-add, Appends-trans, took_some, length-drop)
