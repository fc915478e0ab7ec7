use Rattle.std.proofs.Common.{◌≡◌, ℕ, ◌<◌, ◌≤◌, true, false, List, length, get_or, ◌==◌, sym, arith, eq-eqb, ne_eqb}
use Rattle.register_records.proofs.Common.{position_or_len_is, position_or_len}
use borrow.Author.Count.{below_more}
use Rattle.register_records.proofs.row_tails.place_of.Goals as goal

found : (bytes : List ℕ) (d i : ℕ) → i ≤ length bytes → ((k : ℕ) → k < i → (get_or bytes k 0 == d) ≡ false)
    → (i < length bytes → (get_or bytes i 0 == d) ≡ true) → i ≡ position_or_len (λ (b : ℕ). b == d) bytes
found bytes d i within before at = sym (position_or_len_is (λ (b : ℕ). b == d) bytes i 0 within before at)

pub bytes-preserved : goal.bytes-preserved
bytes-preserved c =
    below_more (λ k. (get_or c.args.bytes.now k 0 == c.args.delimiter) ≡ false) c.bytes.i c.bytes.invariant
    (ne_eqb (get_or c.args.bytes.now c.bytes.i 0) c.args.delimiter c.if-bytes-i.false)

pub returns-then-bytes-i-clause-value : goal.returns-then-bytes-i-clause-value
returns-then-bytes-i-clause-value c =
    found c.args.bytes.now c.args.delimiter c.bytes.i (omega arith) c.bytes.invariant
    (λ _. eq-eqb (get_or c.args.bytes.now c.bytes.i 0) c.args.delimiter c.if-bytes-i.true)

pub returns-clause-value : goal.returns-clause-value
returns-clause-value c =
    let bytes = c.args.bytes.now in
    found bytes c.args.delimiter (length bytes) (omega arith)
    (λ k lt. c.bytes.invariant k (omega arith)) (λ lt. absurd (omega arith))
