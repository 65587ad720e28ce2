-- A text that goes on.
use Rattle.std.specs.declared.vec.Vec.{Vec}
use Rattle.std.specs.Vec.{with_items}
use borrow.Rule.Slice.PartMut.{put_mid}
use Rattle.std.proofs.Common.{◌≡◌, ◌∙◌, ℕ, zero, suc, ◌+◌, ◌-◌, ◌*◌, ◌/◌, ◌%◌, ◌≤◌, List, [], ◌∷◌, ◌++◌, length, take, drop, slice_index, refl, sym, ap, arith}
use Rattle.std.proofs.lemmas.List.{length-take-le, take-take, length-append, length-drop, with_items_is, take-append-le}
use Rattle.std.proofs.Math.Seq.{take-append-add, take-add}
use Rattle.hex.specs.Hex.{encode_with, encode_upper, upper_digits}

-- a block is copied behind a text, and n bytes of it count
pub take_part : {X : Type 0} (a n : ℕ) (xs ys zs : List X) → a ≤ length xs → n ≤ length ys
    → take (a + n) (take a xs ++ (ys ++ zs)) ≡ take a xs ++ take n ys
take_part a n xs ys zs h k =
    let e : length (take a xs) ≡ a = length-take-le a xs h in
    ap (λ m. take (m + n) (take a xs ++ (ys ++ zs))) (sym e)
    ∙ (take-append-add (take a xs) (ys ++ zs) n ∙ ap (λ t. take a xs ++ t) (take-append-le n ys zs k))

-- hex of bytes behind bytes
pub encode_append : (t xs ys : List ℕ) → encode_with t (xs ++ ys) ≡ encode_with t xs ++ encode_with t ys
unfolding encode_with
encode_append t [] ys = refl
encode_append t (x ∷ xs) ys = ap (λ (s : List ℕ). slice_index t (x / 16) ∷ slice_index t (x % 16) ∷ s) (encode_append t xs ys)

-- the digits of the first n bytes
pub encode_take : (t : List ℕ) (n : ℕ) (xs : List ℕ) → take (2 * n) (encode_with t xs) ≡ encode_with t (take n xs)
unfolding encode_with
encode_take t zero xs = refl
encode_take t (suc n) [] = let two : 2 * suc n ≡ suc (suc (2 * n)) = omega arith in rw two refl
encode_take t (suc n) (x ∷ xs) =
    let two : 2 * suc n ≡ suc (suc (2 * n)) = omega arith in
    rw two (ap (λ (s : List ℕ). slice_index t (x / 16) ∷ slice_index t (x % 16) ∷ s) (encode_take t n xs))

-- the digits of the first n of a block of eight bytes
pub encode_block : (n : ℕ) (xs : List ℕ) → n ≤ 8 → take (2 * n) (encode_upper (take 8 xs)) ≡ encode_upper (take n xs)
encode_block n xs h = encode_take upper_digits n (take 8 xs) ∙ ap encode_upper (take-take n 8 xs h)

-- the digits of n bytes more
pub encode_more : (i n : ℕ) (xs : List ℕ) → encode_upper (take i xs) ++ encode_upper (take n (drop i xs)) ≡ encode_upper (take (i + n) xs)
encode_more i n xs = sym (ap encode_upper (take-add i n xs) ∙ encode_append upper_digits (take i xs) (take n (drop i xs)))

-- the same, with the block written into a buffer
pub put_part : {X Z : Type 0} (v : Vec X Z) (a n k : ℕ) (ws xs ys : List X) → xs ≡ v.items → length v.items ≡ v.len
    → ws ≡ put_mid a (a + k - a) xs ys → a + k ≤ length xs → n ≤ k → length ys ≡ k
    → take (a + n) (with_items v ws).items ≡ take a v.items ++ take n ys
put_part v a n k ws xs ys e whole made h i long =
    let count : a + k - a ≡ k = omega arith in
    let front : length (take a xs) ≡ a = length-take-le a xs (omega arith) in
    let rest = drop (a + k - a) (drop a xs) in
    let size : length ws ≡ v.len =
    ap length made ∙ omega (arith, front, length-append (take a xs) (ys ++ rest), length-append ys rest, length-drop (a + k - a) (drop a xs), length-drop a xs, ap length e) in
    ap (λ t. take (a + n) t) (with_items_is v ws size ∙ made)
    ∙ (take_part a n xs ys _ (omega arith) (omega arith) ∙ ap (λ t. take a t ++ take n ys) e)
