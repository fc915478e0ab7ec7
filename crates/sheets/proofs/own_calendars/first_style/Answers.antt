use Rattle.std.proofs.Common.{◌∙◌, rules, sym}
use Rattle.sheets.proofs.OwnCalendarLemmas.{found_behind, found_here, none_found}
use Rattle.sheets.proofs.own_calendars.first_style.Goals as goal

pub returns-in-Some-clause-value : goal.returns-in-Some-clause-value
returns-in-Some-clause-value c =
    sym (c.ends.invariant.same ∙ found_here c.args.calendars.now c.args.names.now.listed.now c.ends.rest.now
    c.in-Some.style c.in-len1-up.len_at_least (search rules))

pub ends-preserved : goal.ends-preserved
ends-preserved c = record {
  same = c.ends.invariant.same ∙ found_behind c.args.calendars.now c.args.names.now.listed.now c.ends.rest.now
      c.in-len1-up.len_at_least (search rules);
  within = search rules;
}

pub returns-clause-value : goal.returns-clause-value
returns-clause-value c =
    sym (c.ends.invariant.same ∙ none_found c.args.calendars.now c.args.names.now.listed.now c.ends.rest.now
    c.in_default.len_below)
