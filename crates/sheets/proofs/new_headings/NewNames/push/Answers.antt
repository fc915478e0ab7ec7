use Rattle.std.proofs.Common.{◌∙◌, ap, refl}
use Rattle.sheets.proofs.Common.{items_of}
use Rattle.sheets.proofs.HeadingLemmas.{made_named, one_named}
use Rattle.sheets.proofs.new_headings.NewNames.push.Goals as goal

pub returns : goal.returns
returns c =
    one_named c.args.wanted.now c.args.self.now _ c.in_ok-name.name.items refl
    (ap items_of c.in_ok-push.ensures.items ∙ made_named c.args.self.now.made.items c.in_ok-name.name) c.in_ok-name.ensures
