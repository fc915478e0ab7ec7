use Rattle.std.proofs.Common.{◌≡◌, ◌<◌, ◌≤◌, ◌∙◌, ◌++◌, ◌∷◌, [], List, ap, arith, false, length, map, rules, set, subst}
use Rattle.std.proofs.Common.{sym}
use Rattle.sheets.proofs.Common.{NameStop, NameCount}
use Rattle.std.proofs.lemmas.List.{get_or-map, length-map, map-set}
use Rattle.std.proofs.lemmas.Option.{slice_get_within}
use Rattle.std.proofs.lemmas.Result.{on_ok_weaker}
use Rattle.sheets.specs.UnknownNames.{AreNames, name_seen as count_seen}
use Rattle.sheets.specs.UnknownViews.{name_seen}
use Rattle.sheets.specs.private.UnknownViews.{named}
use Rattle.sheets.proofs.StopLemmas.{has, name_counted, named_are, names_full, names_new, one_more}
use Rattle.sheets.proofs.stopped_names.StoppedNames.count.Goals as goal

pub returns-in-Some : goal.returns-in-Some
returns-in-Some c = λ stops are.
    let items = c.args.self.now.listed.items in
    let x = c.index_mut.result.now in
    let k = c.in-Some.place in
    let (name, found, alike) = c.in-Some.ensures.some in
    let lt : k < length items = omega (arith, slice_get_within _ k name found, length-map items named) in
    let at = get_or-map count_seen items k x (count_seen x) lt ∙ ap count_seen (sym c.index_mut.ensures.value) in
    name_counted c.args.most stops (name_seen c.args.stop) items _ c.args.self.now.more k name (count_seen x) are found alike
    (map-set count_seen items k _ ∙ ap (λ (n : NameCount). set (map count_seen items) k (one_more n)) (sym at))

pub returns-then-len-most : goal.returns-then-len-most
returns-then-len-most c = λ stops are.
    let items = c.args.self.now.listed.items in
    let stop = name_seen c.args.stop in
    let none : has (map named items) stop ≡ false = search rules in
    let full : c.args.most ≤ length (map count_seen items) = omega (arith, length-map items count_seen) in
    names_full c.args.most stops stop (map count_seen items) c.args.self.now.more are full
    (ap (λ (names : List NameStop). has names stop) (sym (named_are stops items _ are.names_are)) ∙ none)

pub returns : goal.returns
returns c =
    let items = c.args.self.now.listed.items in
    let stop = name_seen c.args.stop in
    let none : has (map named items) stop ≡ false = search rules in
    let few : length (map count_seen items) < c.args.most = omega (arith, length-map items count_seen) in
    on_ok_weaker c.list.result (λ made stops are.
    subst (AreNames c.args.most (stops ++ stop ∷ []) (map count_seen c.list.new.self.listed.items)) (sym c.list.ensures.more)
    (names_new c.args.most stops stop (map count_seen items) _ c.args.self.now.more are few
    (ap (λ (names : List NameStop). has names stop) (sym (named_are stops items _ are.names_are)) ∙ none) made))
    c.list.ensures.listed
