-- The registers are written where they stand.
use Rattle.std.proofs.Common.{◌≡◌, refl, rules}
use Rattle.std.specs.Vec.{with_items}
use Rattle.std.proofs.lemmas.List.{places, with_items_is}
use Rattle.sheet_app.proofs.converting.convert_one.Goals as goal

pub returns-clause-ended : goal.returns-clause-ended
returns-clause-ended g c =
    let new = c.convert_source-done.new.registers in
    let there : (with_items c.args.sheet.registers new).items ≡ new
    = with_items_is c.args.sheet.registers new (search (rules, places)) in
    record {
      named = refl;
      converted = rw there (rw c.as_mut_slice-files.ensures.value at c.convert_source-done.ensures);
      names = rw c.as_slice.ensures.value at c.give_names-are_named.ensures;
    }
