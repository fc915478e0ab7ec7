-- What a clause sees of the dates of a tree.
use Rattle.family_trees.specs.TextViews.{text_seen}
use Rattle.family_trees.specs.Trees.{DateOfTree}
use Rattle.family_trees.specs.declared.dates.TreeDate.{TreeDate}

abbrev pub date_seen : TreeDate → DateOfTree
date_seen it =
    record {
      number = it.number.now;
      name = it.name.now;
      partner = it.partner.now;
      event = it.event.now;
      part = it.part.now;
      kind = it.kind.now;
      place = text_seen it.place;
      calendar = it.calendar.now;
      date = text_seen it.date;
    }
