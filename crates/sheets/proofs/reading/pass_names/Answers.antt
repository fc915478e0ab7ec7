use Rattle.std.proofs.Common.{◌≡◌, ◌∙◌, [], ap, arith, refl, rules, sym, true, false, Bool, Ok, Result}
use Rattle.sheets.proofs.Common.{fields_of, left_of}
use Rattle.sheets.proofs.ListLemmas.{none_below, one_taken, stands_below}
use Rattle.sheets.proofs.ReadingLemmas.{reads_begun}
use Rattle.sheets.proofs.reading.pass_names.Goals as goal

pub records-preserved : goal.records-preserved
records-preserved c =
    let inv = c.records.invariant in
    let all = left_of c.args.records.now in
    let yes : c.in_ok-read_next.field-0 ≡ true = search rules in
    let found = c.read_next.ensures.found (c.in_ok-read_next.was ∙ ap Ok yes) in
    let (taken, left) = one_taken all c.records.counter (fields_of c.read_next.new.record) _ (sym inv.left ∙ found) in
    record { reading = c.read_next.ensures.reading (c.in_ok-read_next.was ∙ ap Ok yes); left = sym left }

pub returns-in_err-read_next : goal.returns-in_err-read_next
returns-in_err-read_next c =
    let is = c.from_residual.ensures.1 in
    record {
      reading = λ there. absurd (rw there at is);
      named = λ there. absurd (rw there at is);
      left = λ there. absurd (rw there at is);
      found = λ there. absurd (rw there at is);
      none = λ end. absurd (rw end at is);
    }

not_both : {E : Type 0} (read : Result Bool E) → read ≡ Ok false → read ≡ Ok true → ⊥
not_both read one other = cc

pub returns-then-not-branch : goal.returns-then-not-branch
returns-then-not-branch c =
    let no : c.in_ok-read_next.field-0 ≡ false = search rules in
    let none = c.read_next.ensures.none (c.in_ok-read_next.was ∙ ap Ok no) in
    record {
      reading = λ there. absurd (not_both _ refl there);
      named = λ there. absurd (not_both _ refl there);
      left = λ there. absurd (not_both _ refl there);
      found = λ there. absurd (not_both _ refl there);
      none = λ end. none_below (left_of c.args.records.now) c.records.counter c.args.above (omega arith)
          (sym c.records.invariant.left ∙ none);
    }

pub returns : goal.returns
returns c =
    let inv = c.records.invariant in
    let read = c.read_next-2.ensures in
    let all = left_of c.args.records.now in
    let stands = λ (there : c.read_next-2.result ≡ Ok true).
    stands_below all c.records.counter c.args.above (fields_of c.read_next-2.new.record) [] _ (omega arith)
    (sym inv.left ∙ read.found there) in
    record {
      reading = λ there. reads_begun c.read_next-2.new.records (read.reading there) (read.begun there);
      named = λ there. (stands there).0;
      left = λ there. sym (stands there).1;
      found = λ there. sym (stands there).2;
      none = λ end. none_below all c.records.counter c.args.above (omega arith) (sym inv.left ∙ read.none end);
    }
