-- A part of a buffer.
use Rattle.std.proofs.Common.{◌≡◌, ◌∙◌, ◌≤◌, ℕ, ◌+◌, ◌-◌, List, ◌++◌, sym, ap, length, take, drop, arith}
use Rattle.std.proofs.lemmas.List.{drop-append-le, drop-drop, drop-take, take-append-le}
use Rattle.std.proofs.lemmas.Grind.{common_steps}
use Rattle.std.proofs.Math.Seq.{take-append-add, take-append_seam}
use borrow.Rule.Slice.PartMut.{post_of, put_mid}

pub skip_part : (s : List ℕ) (from to n : ℕ) → n ≤ to - from → take (to - (from + n)) (drop (from + n) s) ≡ drop n (take (to - from) (drop from s))
skip_part s from to n h =
    let e : to - from ≡ n + (to - (from + n)) = omega arith in
    sym (ap (λ k. drop n (take k (drop from s))) e ∙ drop-take n (to - (from + n)) (drop from s) ∙ ap (λ t. take (to - (from + n)) t) (drop-drop n from s))

-- a part that ends at e, with other bytes behind it
part_behind : (xs zs : List ℕ) (s e : ℕ) → s ≤ e → e ≤ length xs → drop s (take e xs ++ zs) ≡ take (e - s) (drop s xs) ++ zs
part_behind xs zs s e h le =
    let size : s ≤ length (take e xs) = grind (arith, common_steps) in
    let sum : e ≡ s + (e - s) = omega arith in
    drop-append-le s (take e xs) zs size ∙ ap (λ (t : List ℕ). t ++ zs) (ap (λ n. drop s (take n xs)) sum ∙ drop-take s (e - s) xs)

part_length : (xs : List ℕ) (s e : ℕ) → s ≤ e → e ≤ length xs → length (take (e - s) (drop s xs)) ≡ e - s
part_length xs s e h le = grind (arith, common_steps)

-- n bytes were read behind a part
pub read_part : (xs ys : List ℕ) (s e k n : ℕ) → s ≤ e → e ≤ length xs → n ≤ length ys → take ((e + n) - s) (drop s (put_mid e k xs ys)) ≡ take (e - s) (drop s xs) ++ take n ys
read_part xs ys s e k n h le few =
    let part = take (e - s) (drop s xs) in
    let zs = ys ++ post_of e k xs in
    let size : length part ≡ e - s = part_length xs s e h le in
    let sum : (e + n) - s ≡ length part + n = omega arith in
    ap (λ (t : List ℕ). take ((e + n) - s) t) (part_behind xs zs s e h le)
    ∙ (ap (λ m. take m (part ++ zs)) sum ∙ (take-append-add part zs n ∙ ap (λ (t : List ℕ). part ++ t) (take-append-le n ys (post_of e k xs) few)))

-- bytes behind a part don't change it
pub kept_part : (xs ys : List ℕ) (s e k : ℕ) → s ≤ e → e ≤ length xs → take (e - s) (drop s (put_mid e k xs ys)) ≡ take (e - s) (drop s xs)
kept_part xs ys s e k h le =
    let part = take (e - s) (drop s xs) in
    let zs = ys ++ post_of e k xs in
    let size : e - s ≡ length part = sym (part_length xs s e h le) in
    ap (λ (t : List ℕ). take (e - s) t) (part_behind xs zs s e h le) ∙ (ap (λ m. take m (part ++ zs)) size ∙ take-append_seam part zs)

-- a buffer that keeps its length is what was written to it
pub whole_part : (z items : List ℕ) (n : ℕ) → n ≡ length z → z ≡ take n (z ++ items)
whole_part z items n h = grind (arith, common_steps)

pub length_part : (xs ys : List ℕ) (a k : ℕ) → a + k ≤ length xs → length ys ≡ k → length (put_mid a k xs ys) ≡ length xs
length_part xs ys a k h e = grind (arith, common_steps)
