use Rattle.std.proofs.Common.{ap}
use Rattle.std.specs.Prelude.{option_map}
use Rattle.date_spans.proofs.EdtfLemmas.{both_ends, first_alone, last_alone}
use Rattle.date_spans.proofs.edtf.write_edtf.Goals as goal

pub returns-in-Some-Some : goal.returns-in-Some-Some
returns-in-Some-Some c =
    both_ends c.args.sense _ _ c.in-Some-Some.a.number c.in-Some-Some.b.number c.date_on.result
    c.date_on-in-Some-Some.result c.clear.new.self.items c.push_closed.new.out.items
    (ap (option_map (λ day. day.number)) c.in-Some-Some.is-0) (ap (option_map (λ day. day.number)) c.in-Some-Some.is-1)
    c.date_on.ensures c.date_on-in-Some-Some.ensures c.clear.ensures.items c.push_closed.result c.push_closed.ensures

pub returns-in-Some-None : goal.returns-in-Some-None
returns-in-Some-None c =
    first_alone c.args.sense _ _ c.in-Some-None.a.number c.date_on-in-Some-None.result c.clear.new.self.items
    c.push_from.new.out.items (ap (option_map (λ day. day.number)) c.in-Some-None.is-0)
    (ap (option_map (λ day. day.number)) c.in-Some-None.is-1) c.date_on-in-Some-None.ensures c.clear.ensures.items
    c.push_from.result c.push_from.ensures

pub returns-in-None-Some : goal.returns-in-None-Some
returns-in-None-Some c =
    last_alone c.args.sense _ _ c.in-None-Some.b.number c.date_on-in-None-Some.result c.clear.new.self.items
    c.push_until.new.out.items (ap (option_map (λ day. day.number)) c.in-None-Some.is-0)
    (ap (option_map (λ day. day.number)) c.in-None-Some.is-1) c.date_on-in-None-Some.ensures c.clear.ensures.items
    c.push_until.result c.push_until.ensures
