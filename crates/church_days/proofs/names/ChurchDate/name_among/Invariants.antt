use Rattle.std.proofs.Common.{◌≡◌, ℕ, List, Option, drop, map}
use Rattle.church_days.specs.Computed.{first_name}
use Rattle.church_days.specs.Names.{IsFirst}
use Rattle.church_days.specs.private.NameViews.{seen}
use Rattle.church_days.proofs.names.ChurchDate.name_among.Given as goal

-- what is first among the rest is first among all
abbrev pub invariant-names : goal.invariant-names
invariant-names l = record {
  first : (found : Option (List ℕ)) → IsFirst l.self.church l.self.date (map seen (drop l.name-index l.names)) found
      → IsFirst l.self.church l.self.date (map seen l.names) found;
  computed : first_name l.self.church l.self.year (l.self.date.month, l.self.date.day) (map seen (drop l.name-index l.names))
      ≡ first_name l.self.church l.self.year (l.self.date.month, l.self.date.day) (map seen l.names);
}
