use Rattle.register_records.proofs.Common.{rules, ∥∥₁_map}
use Rattle.register_records.proofs.rows.Row.renew.Goals as goal

pub next_outcome-next-requires-clause-known : goal.next_outcome-next-requires-clause-known
next_outcome-next-requires-clause-known c =
    let known = ∥∥₁_map c.args.self.now.is_row (λ is. is.outcome) in
    search (rules, known)

pub reconvert-requires-clause-cells : goal.reconvert-requires-clause-cells
reconvert-requires-clause-cells c = ∥∥₁_map c.args.self.now.is_row (λ is. is.cells)
