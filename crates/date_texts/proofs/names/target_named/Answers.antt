use Rattle.std.proofs.Common.{◌∙◌, ap, rules, tests}
use Rattle.std.proofs.lemmas.Iterator.{YieldsList-from_slice}
use Rattle.std.proofs.lemmas.Iterator.Search.{find_from_yields_List}
use Rattle.date_texts.proofs.Common.{all_targets, str_to_ascii_lowercase, trimmed}
use Rattle.date_texts.proofs.TargetNameLemmas.{has_name, named_as_spelled, named_by_search, compared}
use Rattle.date_texts.proofs.names.target_named.Goals as goal

pub returns-in-Some : goal.returns-in-Some
returns-in-Some c =
    λ target. named_as_spelled c.in-Some.target c.trimmed-name.result.now c.args.text.now target
    (c.target_spelled.ensures c.in-Some.target c.in-Some.is)
    (c.trimmed-name.ensures ∙ ap trimmed c.as_bytes.ensures.value)

pub returns : goal.returns
returns c =
    let found = find_from_yields_List (has_name (str_to_ascii_lowercase c.trimmed-name.result.now)) _ _ _
    c.find.ensures.ran (YieldsList-from_slice all_targets cc)
    (λ x b q k. (search (rules, k), compared b x.now c.trimmed-name.result.now (search (rules, tests, k)))) in
    λ target. named_by_search c.copied.result c.trimmed-name.result.now c.args.text.now target
    (c.copied.ensures ∙ found) (c.trimmed-name.ensures ∙ ap trimmed c.as_bytes.ensures.value)
