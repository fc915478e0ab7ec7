use Rattle.register_records.proofs.Common.{◌≡◌, None, Keeps}
use Rattle.register_records.proofs.outputs.PlainOutputOutput.offer.Given as goal

abbrev pub invariant-tries : goal.invariant-tries
invariant-tries g l =
    record {
      kept : Keeps (g.W.Write.contents l.fn.self.inner) (g.W.Write.contents l.self.inner);
      failed : l.self.failed ≡ l.fn.self.failed;
      none : l.self.token ≡ None;
      mark : l.self.mark ≡ l.fn.self.mark;
    }
