use Rattle.std.proofs.Common.{arith}
use Rattle.date_texts.proofs.BufferLemmas.{put_same, put_then}
use Rattle.date_texts.proofs.WritingLemmas.{put_front, row_text}
use Rattle.date_texts.proofs.long_text.put_place.Goals as goal

pub returns-then-place-lt20 : goal.returns-then-place-lt20
returns-then-place-lt20 c =
    let (rest, bytes, count) = row_text c.args.place c.if-place-lt20.true in
    let row = put_then c.put_byte-second.ensures (put_then c.put_byte-third.ensures
    (put_then c.put_byte-fourth.ensures c.put_byte.ensures)) in
    rw (c.place_row-row.ensures, count) (put_front _ rest (omega arith)
    (put_same bytes (rw c.place_row-row.ensures at row)))
