use Rattle.std.proofs.Common.{inr, rules}
use Rattle.page_module.proofs.sheet_tables.by_setup.Goals as goal

pub returns-in-Ok : goal.returns-in-Ok
returns-in-Ok g c =
    let chosen = c.in-Ok.ensures.choice in inr (c.in-Ok.setup, chosen.0, chosen.1, search rules)
