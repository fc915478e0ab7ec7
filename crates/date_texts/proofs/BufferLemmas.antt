-- What is put into a buffer, piece by piece.
use Rattle.std.proofs.Common.{◌≡◌, ℕ, ◌+◌, ◌<◌, ◌%◌, ◌/◌, List, [], ◌∷◌, ◌++◌, length, take, slice_set}
use Rattle.std.proofs.Common.{◌≤◌, sym, ap, ◌∙◌, rules, arith, append_assoc, length-append, length-take-le, take_all}
use Rattle.std.specs.Fmt.{decimal}
use Rattle.std.proofs.Math.Seq.{lt-length-set, take-append-add}
use Rattle.std.proofs.lemmas.Fmt.{decimal_digit}
use Rattle.std.proofs.lemmas.List.{take-append-le, take-set, take_more_set}
use borrow.Rule.Slice.PartMut.{put_mid}
use Rattle.itoa.proofs.Decimal.{pair}
use Rattle.date_texts.specs.Buffers.{IsPut}

-- one piece behind another
pub put_then : {a b c : List ℕ} {at i j : ℕ} {x y : List ℕ} → IsPut a b at i x → IsPut b c i j y
    → IsPut a c at j (x ++ y)
put_then {a = a} {at = at} {x = x} {y = y} h g = grind (arith, length-append, append_assoc)

-- the same piece, said in another way
pub put_same : {a b : List ℕ} {at i : ℕ} {x y : List ℕ} → x ≡ y → IsPut a b at i x → IsPut a b at i y
put_same e h = rw (sym e) h

-- a byte
pub put_one : (buffer : List ℕ) (at c : ℕ) → at < length buffer
    → IsPut buffer (slice_set buffer at c) at (at + 1) (c ∷ [])
put_one buffer at c room = record { follows = omega arith; value = take_more_set buffer at c room }

-- tens and ones
pub put_pair : (buffer : List ℕ) (at n : ℕ) → at + 1 < length buffer
    → IsPut buffer (slice_set (slice_set buffer at (48 + n / 10)) (at + 1) (48 + n % 10)) at (at + 1 + 1) (pair n)
put_pair buffer at n room =
    put_then (put_one buffer at (48 + n / 10) (omega (arith, room)))
    (put_one (slice_set buffer at (48 + n / 10)) (at + 1) (48 + n % 10) (lt-length-set buffer at (48 + n / 10) room))

-- the ones of a number below ten, written over the zero of its tens
pub put_ones : (buffer : List ℕ) (at n : ℕ) → at < length buffer → n < 10
    → IsPut buffer (slice_set (slice_set buffer at (48 + n / 10)) at (48 + n % 10)) at (at + 1) (decimal n)
put_ones buffer at n room small =
    let ones : 48 + n % 10 ≡ 48 + n = omega arith in
    record {
      follows = omega (arith, ap length (decimal_digit n small));
      value = take_more_set (slice_set buffer at (48 + n / 10)) at (48 + n % 10)
          (lt-length-set buffer at (48 + n / 10) room)
          ∙ ap (λ (front : List ℕ). front ++ (48 + n % 10) ∷ []) (take-set buffer at (48 + n / 10))
          ∙ ap (λ k. take at buffer ++ k ∷ []) ones
          ∙ ap (λ (ds : List ℕ). take at buffer ++ ds) (sym (decimal_digit n small));
    }

-- bytes that are put at a place: what lies before, and they
pub put_there : (room bytes : List ℕ) (at k : ℕ) → at ≤ length room
    → take (at + length bytes) (put_mid at k room bytes) ≡ take at room ++ bytes
put_there room bytes at k le = search (rules, length-take-le, put_mid, take-append-add, take-append-le, take_all)
