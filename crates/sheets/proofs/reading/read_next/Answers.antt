use Rattle.std.proofs.Common.{◌≡◌, ℕ, List, Bor, true, false, Some}
use Rattle.sheets.proofs.Common.{fields_of}
use Rattle.register_records.proofs.EntryStepLemmas.{reads}
use Rattle.sheets.proofs.SheetLemmas.{first_left, none_left}
use Rattle.sheets.proofs.reading.read_next.Goals as goal
use Rattle.sheets.proofs.reading.read_next.Goals.{in-Ok, in-Err}

pub returns-clause-found : goal.returns-clause-found
returns-clause-found c e = elim c.match-read_byte_record.branch [
  | in-Ok w ↦
      let found : w.in-Ok.found ≡ true = cc (e, w.result-is) in
      first_left _ _ _ c.requires.1
      (rw found at (reads (λ (sheet : Bor (List ℕ)). Some sheet.now) c.args.records.now c.read_byte_record.new.self
      w.in-Ok.found (fields_of c.read_byte_record.new.row) (w.in-Ok.ensures.reads c.requires.0.0 c.requires.0.1)))
  | in-Err w ↦ cc (e, w.result-is)
]

pub returns-clause-none : goal.returns-clause-none
returns-clause-none c e = elim c.match-read_byte_record.branch [
  | in-Ok w ↦
      let found : w.in-Ok.found ≡ false = cc (e, w.result-is) in
      none_left _
      (rw found at (reads (λ (sheet : Bor (List ℕ)). Some sheet.now) c.args.records.now c.read_byte_record.new.self
      w.in-Ok.found (fields_of c.read_byte_record.new.row) (w.in-Ok.ensures.reads c.requires.0.0 c.requires.0.1)))
  | in-Err w ↦ cc (e, w.result-is)
]
