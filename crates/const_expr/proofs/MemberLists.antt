-- Ascending lists of lengths, and what their ends are
use Rattle.std.proofs.Common.{◌≡◌, ℕ, suc, ◌+◌, ◌-◌, ◌^◌, ◌≤◌, true, false, cond, List, [], ◌∷◌, length, map, nat_lt, pos, Ok, Err, Some, refl, sym, ap, ◌∙◌, arith, inl, inr}
use Rattle.std.specs.Prelude.{slice_get, codes}
use Rattle.std.specs.Str.{bytes_eq}
use Rattle.std.proofs.lemmas.Bool.{cases_lt}
use Rattle.std.proofs.lemmas.List.{length-map}
use borrow.Author.Tests.{ltb-false}
use Rattle.bit_length.specs.Ascending.{Ascend}
use Rattle.bit_length.proofs.AscendingLemmas.{ascend_head, ascend_tail, has_head, has_later, has_behind, at_least, one_below}
use Rattle.bit_length.specs.Lengths.{Has, Same, IsLeast, IsGreatest}
use Rattle.dsdl_types.specs.Schemas.{Sch, is_delimited, extent_of}
use Rattle.dsdl_types.specs.Greatest.{as_part, longest}
use Rattle.dsdl_types.specs.Lengths.{Size}
use Rattle.layout.specs.Sets.{IsShortPart}
use Rattle.layout.proofs.Sets.{size_most}
use Rattle.const_expr.specs.declared.constant.Const.{Const}
use Rattle.const_expr.specs.declared.constant.Const.TheVariants as c
use Rattle.const_expr.specs.declared.why.Why.TheVariants as why
use Rattle.const_expr.specs.Member.{lengths_of, of_set, a_number, if_number}
use Rattle.const_expr.specs.Constants.{natural, naturals, whole, kind}
use Rattle.const_expr.proofs.Layers.{number_layer}
use Rattle.const_expr.specs.Sizes.{is_size, sizes}
use Rattle.const_expr.proofs.MemberSizes.{size_tells, told, tells}

-- the lengths of a type as a part of another, where none is above 2^32 bits
pub are_sizes : (s : Sch) (ns : List ℕ) → IsShortPart s → Ascend ns → Same (Has ns) (Size s) → ns ≡ sizes s
unfolding sizes
are_sizes s ns short up same =
    one_below (2 ^ 32 + 1) (is_size s) ns up (λ k h. let z = (same k).0 h in let l = size_most s k z in (omega (arith, l, short), tells (is_size s k) (Size s k) (size_tells s k) z))
    (λ k lt t. (same k).1 (told (is_size s k) (Size s k) (size_tells s k) t))

pub short_part : (s : Sch) → nat_lt (2 ^ 32) (as_part (is_delimited s) (extent_of s) (longest s)) ≡ false → IsShortPart s
short_part s h = below (as_part (is_delimited s) (extent_of s) (longest s)) h
  where
    below : (n : ℕ) → nat_lt (2 ^ 32) n ≡ false → n ≤ 2 ^ 32
    below n e = omega (arith, ltb-false (2 ^ 32) n e)

pub lengths_are : (s : Sch) (ns : List ℕ) → nat_lt (2 ^ 32) (as_part (is_delimited s) (extent_of s) (longest s)) ≡ false → Ascend ns → Same (Has ns) (Size s) → Ok (c.Lengths ns) ≡ lengths_of s
lengths_are s ns h up same =
    ap (λ l. Ok (c.Lengths l)) (are_sizes s ns (short_part s h) up same) ∙ ap (λ b. cond b (Err why.Kind) (Ok (c.Lengths (sizes s)))) (sym h)

number_in : (n : ℕ) → a_number (Some (natural n)) ≡ Ok (natural n)
number_in n = ap (λ l. if_number (natural n) (kind l)) (number_layer (whole (pos n)))

pub least_is : (ns : List ℕ) (m : ℕ) → Ascend ns → IsLeast (Has ns) m → a_number (slice_get (naturals ns) 0) ≡ Ok (natural m)
least_is [] m up ((k, lt, e), least) = absurd (omega arith)
least_is (x ∷ xs) m up (has, least) =
    let a = at_least x xs m up has in let b = least x (has_head x xs) in let e : x ≡ m = omega arith in
    number_in x ∙ ap (λ n. Ok (natural n)) e

last_is : (ns : List ℕ) (g : ℕ) → Ascend ns → IsGreatest (Has ns) g → slice_get (naturals ns) (length (naturals ns) - 1) ≡ Some (natural g)
last_is [] g up ((k, lt, e), greatest) = absurd (omega arith)
last_is (x ∷ []) g up (has, greatest) =
    let a = at_least x [] g up has in
    let b : x ≡ g = elim (cases_lt x g) [ inl l ↦ none (has_behind x [] g has l) | inr l ↦ omega arith ] in
    ap (λ n. Some (natural n)) b
  where
    none : Has [] g → x ≡ g
    none (k, lt, e) = absurd (omega arith)
last_is (x ∷ y ∷ ys) g up (has, greatest) =
    let a = ascend_head x (y ∷ ys) up y (has_head y ys) in
    let b = greatest y (has_later x (y ∷ ys) y (has_head y ys)) in
    let k = length (map natural ys) in
    ap (λ n. slice_get (natural x ∷ natural y ∷ map natural ys) n) (let e : suc (suc k) - 1 ≡ suc k = omega arith in e)
    ∙ ap (λ n. slice_get (natural y ∷ map natural ys) n) (let e : k ≡ suc k - 1 = omega arith in e)
    ∙ last_is (y ∷ ys) g (ascend_tail x (y ∷ ys) up) (has_behind x (y ∷ ys) g has (omega arith), λ k m. greatest k (has_later x (y ∷ ys) k m))

pub greatest_is : (ns : List ℕ) (g : ℕ) → Ascend ns → IsGreatest (Has ns) g → a_number (slice_get (naturals ns) (length (naturals ns) - 1)) ≡ Ok (natural g)
greatest_is ns g up most = ap a_number (last_is ns g up most) ∙ number_in g

pub count_is : (ns : List ℕ) → natural (length (naturals ns)) ≡ natural (length ns)
count_is ns = ap natural (length-map ns natural)

pub at_min : (xs : List Const) (name : List ℕ) → bytes_eq name (codes "min") ≡ true → of_set xs name ≡ a_number (slice_get xs 0)
at_min xs name e = rw e refl

pub at_max : (xs : List Const) (name : List ℕ) → bytes_eq name (codes "min") ≡ false → bytes_eq name (codes "max") ≡ true → of_set xs name ≡ a_number (slice_get xs (length xs - 1))
at_max xs name d e = rw (d, e) refl

pub at_count : (xs : List Const) (name : List ℕ) → bytes_eq name (codes "min") ≡ false → bytes_eq name (codes "max") ≡ false → bytes_eq name (codes "count") ≡ true → of_set xs name ≡ Ok (natural (length xs))
at_count xs name d e f = rw (d, e, f) refl
