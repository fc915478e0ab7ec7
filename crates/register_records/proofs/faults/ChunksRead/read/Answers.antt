use Rattle.std.proofs.Common.{◌≡◌, ℕ, suc, ◌+◌, ◌-◌, ◌<◌, ◌≤◌, min, List, ◌++◌, length, get_or, take, drop, Vec, Global}
use Rattle.std.proofs.Common.{sym, ap, ◌∙◌, append_assoc, arith, length-append, length-drop, take-append-drop}
use Rattle.std.proofs.Common.{length-take, length-take-le, drop-cons, drop-drop, take_at}
use Rattle.register_records.specs.Faults.{bytes_left, chunk_bytes}
use Rattle.register_records.proofs.faults.ChunksRead.read.Goals as goal

-- what is left where a chunk d of the bytes b stands at the place p
left_at : (s : List (Vec ℕ Global)) (p given : ℕ) (d : Vec ℕ Global) (b : List ℕ) → p < length s → d ≡ get_or s p d
    → b ≡ d.items → bytes_left given (drop p s) ≡ drop given b ++ chunk_bytes (drop (suc p) s)
left_at s p given d b h is e = grind (arith, chunk_bytes (drop (suc p) s), drop-cons s p d)

-- n bytes more of a chunk are given: a copy of them, and what is left
given_more : (b more copy rest : List ℕ) (given n : ℕ) → n ≤ length b - given
    → copy ≡ take ((given + n) - given) (drop given b)
    → drop given b ++ more ≡ take n (copy ++ rest) ++ (drop (given + n) b ++ more)
given_more b more copy rest given n few cp =
    let halves = take-append-drop n (drop given b) in
    grind (arith, halves, length-take-le, take_at, drop-drop n given b, append_assoc, length-drop)

-- where there is room and a chunk is not spent, some bytes are given
gives_some : (b copy buf : List ℕ) (given n : ℕ) → length copy ≡ length (take n buf)
    → n ≡ min (length buf) (length b - given)
    → given < length b → n ≡ 0 → 0 < length (copy ++ drop n buf) → ⊥
gives_some b copy buf given n same few left none some =
    omega (arith, length-append copy (drop n buf), length-drop n buf, length-take n buf)

pub returns-then-self-chunk-clause-bytes : goal.returns-then-self-chunk-clause-bytes
returns-then-self-chunk-clause-bytes c =
    let s = c.spent.self.chunks.items in
    let p = c.spent.self.next in
    let given = c.spent.self.given in
    let d = c.index.result.now in
    let b = c.as_slice-chunk.result.now in
    let n = c.min-count.result in
    let copy = c.copy_from_slice.new.self in
    let rest = drop n c.spent.buf in
    let here : p < length s = omega (arith, c.spent-test.true, c.len.ensures, c.spent.self.chunks.ok.0) in
    let few : n ≤ length b - given = omega (arith, c.min-count.ensures) in
    let is = c.index.ensures in
    let e = c.as_slice-chunk.ensures.value in
    let split = given_more b (chunk_bytes (drop (suc p) s)) copy rest given n few c.copy_from_slice.ensures.after in
    let next = ap (λ (x : List ℕ). take n (copy ++ rest) ++ x) (sym (left_at s p (given + n) d b here is e)) in (
      sym c.spent.invariant ∙ (left_at s p given d b here is e ∙ (split ∙ next)),
      (λ none some. absurd (gives_some b copy c.spent.buf given n c.copy_from_slice.ensures.len c.min-count.ensures
          c.if-self-chunk.true none some)),
    )
