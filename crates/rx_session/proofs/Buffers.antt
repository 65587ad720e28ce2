-- A buffer after bytes are put into it
use Rattle.std.proofs.Common.{◌≡◌, ℕ, ◌+◌, ◌-◌, ◌≤◌, List, [], ◌++◌, length, take, drop, sym, ap, ◌∙◌, inl, inr, length-append, length-drop, length-take, arith}
use Rattle.std.proofs.lemmas.Bool.{cases_lt}
use Rattle.std.proofs.lemmas.List.{drop_all, take-append-le}
use Rattle.cy_bits.specs.Put.{put_at}

pub length_put : (buffer : List ℕ) (n : ℕ) (bytes : List ℕ) → length (put_at buffer n bytes) ≡ length buffer
length_put buffer n bytes =
    omega (arith, length-append (take n buffer ++ take (length buffer - n) bytes) (drop (n + length bytes) buffer), length-append (take n buffer) (take (length buffer - n) bytes), length-take n buffer, length-take (length buffer - n) bytes, length-drop (n + length bytes) buffer)

-- the front up to the end of what is put depends on the front up to its place alone
pub front_put : (a b : List ℕ) (n count : ℕ) (bytes : List ℕ) → length a ≡ length b → take n a ≡ take n b → count ≤ n + length bytes
    → take count (put_at a n bytes) ≡ take count (put_at b n bytes)
front_put a b n count bytes size front le =
    let heads : take n a ++ take (length a - n) bytes ≡ take n b ++ take (length b - n) bytes =
    ap (λ x. x ++ take (length a - n) bytes) front ∙ ap (λ k. take n b ++ take (k - n) bytes) size in
    elim (cases_lt (length a) (n + length bytes)) [
      | inl l ↦
          let none_a : drop (n + length bytes) a ≡ [] = drop_all (n + length bytes) a (omega arith) in
          let none_b : drop (n + length bytes) b ≡ [] = drop_all (n + length bytes) b (omega (arith, size)) in
          ap (λ rest. take count ((take n a ++ take (length a - n) bytes) ++ rest)) (none_a ∙ sym none_b)
          ∙ ap (λ head. take count (head ++ drop (n + length bytes) b)) heads
      | inr g ↦
          let long_a : n + length bytes ≤ length (take n a ++ take (length a - n) bytes) =
          omega (arith, length-append (take n a) (take (length a - n) bytes), length-take n a, length-take (length a - n) bytes) in
          let long_b : n + length bytes ≤ length (take n b ++ take (length b - n) bytes) =
          omega (arith, ap length heads) in
          take-append-le count (take n a ++ take (length a - n) bytes) (drop (n + length bytes) a) (omega arith)
          ∙ (ap (take count) heads
          ∙ sym (take-append-le count (take n b ++ take (length b - n) bytes) (drop (n + length bytes) b) (omega arith)))
    ]
