use Rattle.std.proofs.Common.{◌≡◌, ◌∙◌, ◌<◌, ◌≤◌, ap, arith, length, sym, take, take_all}
use Rattle.std.specs.Char.{to_ascii_lowercase}
use Rattle.std.specs.Str.{str_to_ascii_lowercase}
use Rattle.std.proofs.lemmas.List.{length-map, length-take-le}
use Rattle.written_dates.proofs.WordLemmas.{key-ascii, long-ascii, short-ascii}
use Rattle.written_dates.proofs.words.folded_ascii.Goals as goal

pub bytes-init : goal.bytes-init
bytes-init c = record {
  same = c.new-out.ensures;
  short = omega (arith, ap length c.new-out.ensures);
}

pub returns-then-not-push_last-clause-none : goal.returns-then-not-push_last-clause-none
returns-then-not-push_last-clause-none c =
    let many : 64 < length c.args.word.now
    = omega (
      arith,
      c.push_last.ensures.full c.if-not-push_last.true,
      ap length c.bytes.invariant.same,
      length-map (take c.bytes.byte-index c.args.word.now) to_ascii_lowercase,
      length-take-le c.bytes.byte-index c.args.word.now (omega arith),
      c.bytes-test.true,
    ) in
    long-ascii c.args.word.now c.requires many

pub returns-clause-some : goal.returns-clause-some
returns-clause-some c =
    let all : take c.bytes.byte-index c.args.word.now ≡ c.args.word.now = take_all _ _ (omega arith) in
    let is : c.bytes.out.items ≡ str_to_ascii_lowercase c.args.word.now
    = c.bytes.invariant.same ∙ ap str_to_ascii_lowercase all in
    let few : length c.args.word.now ≤ 64
    = omega (arith, c.bytes.invariant.short, ap length is, length-map c.args.word.now to_ascii_lowercase) in
    (short-ascii c.args.word.now c.requires few, is ∙ sym (key-ascii c.args.word.now c.requires))
