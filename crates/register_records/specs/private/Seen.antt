-- What a clause sees of the fields of a record.
use Rattle.register_records.specs.Records.{Texts}
use Rattle.register_records.specs.declared.record_fields.RecordFields.{RecordFields}

-- the texts in the fields of a record
abbrev pub fields_seen : RecordFields → Texts
fields_seen c = record { id = c.id.now; calendar = c.calendar.now; date = c.date.now; note = c.note.now }
