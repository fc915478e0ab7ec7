use Rattle.std.proofs.Common.{◌∙◌, ap, length}
use Rattle.page_rules.specs.EntryDays.{PutsDays}
use Rattle.register_records.specs.Views.{reading_of}
use Rattle.page_module.proofs.DayReportLemmas.{gone_over}
use Rattle.page_module.proofs.days.go_over.Goals as goal

pub returns : goal.returns
returns c =
    let gone = c.register_days-gone.ensures in
    let found = c.register_days-gone.new.days.items in
    let put : PutsDays found c.args.days.now c.put_days.new.days c.args.calendars.now c.put_days.new.calendars =
    rw c.as_slice.ensures.value at c.put_days.ensures.rooms in
    gone_over (reading_of c.args.setup.now) c.args.text.now (c.args.days.now, c.args.calendars.now)
    (c.put_days.new.days, c.put_days.new.calendars) _ c.register_days-gone.result found put
    (c.put_days.ensures.count ∙ ap length c.as_slice.ensures.value) c.ending_of.ensures (record {
      whole = rw c.requires at gone.whole;
      part = rw c.requires at gone.part;
      bad_header = gone.bad_header;
      too_many = gone.too_many;
      not_sealed = rw c.requires at gone.not_sealed;
      never = gone.never;
    })
