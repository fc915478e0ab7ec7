use Rattle.std.proofs.Common.{◌≡◌, take}
use Rattle.register_records.proofs.entries.have_same_bytes.Given as goal

abbrev pub invariant-bytes : goal.invariant-bytes
invariant-bytes l = record { same : take l.i l.text ≡ take l.i l.other }
