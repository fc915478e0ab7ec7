use Rattle.register_records.proofs.Common.{◌≡◌, ◌+◌, ◌*◌, ◌∷◌, ◌++◌, take, escaped, writing, GrowsBy, line_bytes}
use Rattle.register_records.proofs.lines.LineBuffer.put_quotable.Given as goal

abbrev pub invariant-bytes : goal.invariant-bytes
invariant-bytes l =
    record {
      escaped : line_bytes l.self
          ≡ line_bytes l.fn.self ++ (34 ∷ escaped (writing l.fn.self.delimiter) (take l.b-index l.field));
      grows : GrowsBy (1 + 2 * l.b-index) l.fn.self l.self;
    }
