-- The log gains what the write took, and with a fault nothing.
use Rattle.std.proofs.Common.{take}
use Rattle.programs.proofs.Common.{rules, ◌≡◌, ◌++◌, subst, sym, Appends}
use Rattle.std.proofs.Math.Logic.{∥∥₁_map}
use Rattle.programs.proofs.AppendsLemmas.{appends_both, appends_kept}
use Rattle.programs.proofs.logged_writer.LoggedWriterWrite.write.Goals as goal

pub invariant_of-self : goal.invariant_of-self
invariant_of-self g c =
    let was = g.W.Write.contents c.args.self.now.was.value in
    let old = g.W.Write.contents c.args.self.now.inner in
    let new = g.W.Write.contents c.write-taken.new.self in
    let gained = take c.in-Ok.n c.args.buf.now in
    let grown : c.add.new.self.bytes ≡ c.args.self.now.log.bytes ++ gained = search rules in
    record {
      logged = ∥∥₁_map c.args.self.now.logged (λ logged. subst (λ bytes. Appends was new bytes) (sym grown)
          (appends_both was old new c.args.self.now.log.bytes gained logged c.in-Ok.ensures.bytes));
    }

pub invariant_of-self-in_default : goal.invariant_of-self-in_default
invariant_of-self-in_default g c = record {
  logged = ∥∥₁_map c.args.self.now.logged (λ logged. appends_kept (g.W.Write.contents c.args.self.now.was.value)
      (g.W.Write.contents c.args.self.now.inner) (g.W.Write.contents c.write-taken.new.self)
      c.args.self.now.log.bytes logged c.in_default.ensures.bytes);
}
