-- Reading ends at most `reach` bits past the end
use Rattle.std.proofs.Common.{◌≡◌, ℕ, zero, suc, ◌+◌, ◌*◌, ◌-◌, ◌≤◌, max, Bool, true, false, cond, List, [], length, take, drop, ap, arith}
use Rattle.std.specs.Prelude.{nat_lt}
use Rattle.std.proofs.lemmas.Bool.{ltb-false}
use Rattle.std.proofs.lemmas.List.{length-drop}
use Rattle.std.proofs.Math.Nat.{mul-le-mul_right}
use Rattle.cy_bits.specs.Bits.{number, gap}
use Rattle.dsdl_types.specs.Schemas.{Prim, Sch, Flds, Simple, Fixed, Var, Struct, Union, End, Pad, Field, is_aligned, is_delimited, length_field_bits, tag_bits, width, variants}
use Rattle.dsdl_types.specs.Values.{Val, Items, Parts, Tagged, Empty, More}
use Rattle.dsdl_types.specs.Reading.{Read, Got, Bad, Step, Name, Index, BadDelimiter, BadLength, value_of, and_then, under, within, delimited, aligned, align, own, fields, variant, part, row}
use Rattle.dsdl_types.specs.Reach.{header_or, reach, reach_fields, reach_variant, Reaches}
use Rattle.dsdl_types.proofs.Longer.{first_of_two, under_got, cond_got, within_got}

more_reach : {A : Type 0} (f : ℕ → List Bool → Read A) (m k : ℕ) → m ≤ k → Reaches f m → Reaches f k
more_reach f m k h r p x v q y e = omega (arith, r p x v q y e, h)

reach_then : {A B : Type 0} (f : ℕ → List Bool → Read A) (g : A → ℕ → List Bool → Read B) (m k : ℕ) → Reaches f m → ((a : A) → Reaches (g a) k) → Reaches (λ p x. and_then (f p x) g) (m + k)
reach_then f g m k hf hg p x v q y e =
    let one = first_of_two (f p x) g v q y e in
    omega (arith, hf p x one.value one.place one.rest one.is, hg one.value one.place one.rest v q y one.next)

reach_under : {A : Type 0} (s : Step) (f : ℕ → List Bool → Read A) (m : ℕ) → Reaches f m → Reaches (λ p x. under s (f p x)) m
reach_under s f m h p x v q y e = h p x v q y (under_got s (f p x) v q y e)

reach_got : {A B : Type 0} (g : A → B) (a : A) → Reaches (λ p x. Got (g a) p x) 0
reach_got g a p x v q y e =
    let is_q : p ≡ q = cc in
    let is_y : x ≡ y = cc in
    omega (arith, is_q, ap length is_y)

reach_skip : {A : Type 0} (n : ℕ → ℕ) (most : ℕ) (f : ℕ → List Bool → Read A) (m : ℕ) → ((p : ℕ) → n p ≤ most) → Reaches f m → Reaches (λ p x. f (p + n p) (drop (n p) x)) (most + m)
reach_skip n most f m b h p x v q y e = omega (arith, b p, h (p + n p) (drop (n p) x) v q y e, length-drop (n p) x)

reach_number : {A : Type 0} (w : ℕ) (f : ℕ → ℕ → List Bool → Read A) (m : ℕ) → ((n : ℕ) → Reaches (f n) m) → Reaches (λ p x. f (number (take w x)) (p + w) (drop w x)) (w + m)
reach_number w f m h p x v q y e = omega (arith, h (number (take w x)) (p + w) (drop w x) v q y e, length-drop w x)

reach_counted : {A : Type 0} (f : ℕ → List Bool → Read A) → Reaches (delimited true f) 32
reach_counted f p x v q y e =
    let c = number (take 32 x) in
    let b = drop 32 x in
    let open_ = cond_got (nat_lt (length b) (8 * c)) [] (BadDelimiter c) (within (p + 32 + 8 * c) (drop (8 * c) b) (f 0 (take (8 * c) b))) v q y e in
    let room : 8 * c ≤ length b = ltb-false (length b) (8 * c) open_.0 in
    let ends = within_got (p + 32 + 8 * c) (drop (8 * c) b) (f 0 (take (8 * c) b)) v q y open_.1 in
    omega (arith, room, ends.0, ap length ends.1, length-drop (8 * c) b, length-drop 32 x)

reach_delimited : {A : Type 0} (d : Bool) (f : ℕ → List Bool → Read A) (m : ℕ) → Reaches f m → Reaches (delimited d f) (header_or d m)
reach_delimited false f m h = h
reach_delimited true f m h = reach_counted f

gap_most : (p : ℕ) → gap p ≤ 7
gap_most p = omega arith

reach_aligned : {A : Type 0} (d : Bool) (f : ℕ → List Bool → Read A) (m : ℕ) → Reaches f m → Reaches (aligned d f) (7 + m)
reach_aligned false f m h = more_reach f m (7 + m) (omega arith) h
reach_aligned true f m h = reach_skip gap 7 f m gap_most h

reach_align : {A B : Type 0} (g : A → B) (a : A) → Reaches (align (g a)) 7
reach_align g a = reach_skip gap 7 (λ p x. Got (g a) p x) 0 gap_most (reach_got g a)

reach_row : (f : ℕ → List Bool → Read Val) (m : ℕ) → Reaches f m → (n i : ℕ) → Reaches (row f n i) (n * m)
reach_row f m h zero i = more_reach (row f 0 i) 0 (0 * m) (omega arith) (reach_got (λ vs. vs) Empty)
reach_row f m h (suc n) i =
    let times : suc n * m ≡ m + (n * m + 0) = grind arith in
    more_reach (row f (suc n) i) (m + (n * m + 0)) (suc n * m) (omega arith)
    (reach_then (λ p x. under (Index i) (f p x)) (λ v p x. and_then (row f n (suc i) p x) (λ vs. Got (More v vs))) m (n * m + 0) (reach_under (Index i) f m h)
    (λ v. reach_then (row f n (suc i)) (λ vs. Got (More v vs)) (n * m) 0 (reach_row f m h n (suc i)) (λ vs. reach_got (λ ws. More v ws) vs)))

reach_items : (f : ℕ → List Bool → Read Val) (m : ℕ) → Reaches f m → (n : ℕ) → Reaches (λ p x. and_then (row f n 0 p x) (λ vs. Got (Items vs))) (n * m + 0)
reach_items f m h n = reach_then (row f n 0) (λ vs. Got (Items vs)) (n * m) 0 (reach_row f m h n 0) (λ vs. reach_got (λ ws. Items ws) vs)

reach_bounded : (f : ℕ → List Bool → Read Val) (m c n : ℕ) → Reaches f m → Reaches (λ p x. cond (nat_lt c n) (Bad [] (BadLength n)) (and_then (row f n 0 p x) (λ vs. Got (Items vs)))) (c * m)
reach_bounded f m c n h p x v q y e =
    let open_ = cond_got (nat_lt c n) [] (BadLength n) (and_then (row f n 0 p x) (λ vs. Got (Items vs))) v q y e in
    let short : n ≤ c = ltb-false c n open_.0 in
    omega (arith, mul-le-mul_right m short, reach_items f m h n p x v q y open_.1)

mutual
  pub own_reach : (s : Sch) → Reaches (own s) (reach s)
  own_reach (Simple t) = more_reach (own (Simple t)) (width t + 0) (width t) (omega arith) (reach_number (width t) (λ n p x. Got (value_of t n) p x) 0 (λ n. reach_got (value_of t) n))
  own_reach (Fixed s n) =
      let m = header_or (is_delimited s) (reach s) in
      more_reach (own (Fixed s n)) (n * m + 0) (n * m) (omega arith) (reach_items (part s) m (reach_delimited (is_delimited s) (own s) (reach s) (own_reach s)) n)
  own_reach (Var s c) =
      let m = header_or (is_delimited s) (reach s) in
      reach_number (length_field_bits c) (λ n p x. cond (nat_lt c n) (Bad [] (BadLength n)) (and_then (row (part s) n 0 p x) (λ vs. Got (Items vs)))) (c * m)
      (λ n. reach_bounded (part s) m c n (reach_delimited (is_delimited s) (own s) (reach s) (own_reach s)))
  own_reach (Struct fs f) = reach_then (fields fs) (λ vs. align (Parts vs)) (reach_fields fs) 7 (fields_reach fs) (λ vs. reach_align (λ ws. Parts ws) vs)
  own_reach (Union fs f) =
      reach_number (tag_bits (variants fs)) (λ n p x. and_then (variant fs n n p x) (λ v. align (Tagged n v))) (reach_variant fs + 7)
      (λ n. reach_then (variant fs n n) (λ v. align (Tagged n v)) (reach_variant fs) 7 (variant_reach fs n n) (λ v. reach_align (λ u. Tagged n u) v))

  pub fields_reach : (fs : Flds) → Reaches (fields fs) (reach_fields fs)
  fields_reach End = reach_got (λ vs. vs) Empty
  fields_reach (Pad n fs) = reach_skip (λ _. n) n (fields fs) (reach_fields fs) (λ p. omega arith) (fields_reach fs)
  fields_reach (Field name s fs) =
      let m = header_or (is_delimited s) (reach s) in
      more_reach (fields (Field name s fs)) (7 + m + (reach_fields fs + 0)) (7 + m + reach_fields fs) (omega arith)
      (reach_then (λ p x. under (Name name) (aligned (is_aligned s) (part s) p x)) (λ v p x. and_then (fields fs p x) (λ vs. Got (More v vs))) (7 + m) (reach_fields fs + 0)
      (reach_under (Name name) (aligned (is_aligned s) (part s)) (7 + m) (reach_aligned (is_aligned s) (part s) m (reach_delimited (is_delimited s) (own s) (reach s) (own_reach s))))
      (λ v. reach_then (fields fs) (λ vs. Got (More v vs)) (reach_fields fs) 0 (fields_reach fs) (λ vs. reach_got (λ ws. More v ws) vs)))

  pub variant_reach : (fs : Flds) (tag k : ℕ) → Reaches (variant fs tag k) (reach_variant fs)
  variant_reach End tag k = λ p x v q y e. cc
  variant_reach (Pad n fs) tag k = variant_reach fs tag k
  variant_reach (Field name s fs) tag zero =
      let m = header_or (is_delimited s) (reach s) in
      more_reach (variant (Field name s fs) tag 0) m (max m (reach_variant fs)) (omega arith)
      (reach_under (Name name) (part s) m (reach_delimited (is_delimited s) (own s) (reach s) (own_reach s)))
  variant_reach (Field name s fs) tag (suc k) =
      let m = header_or (is_delimited s) (reach s) in
      more_reach (variant fs tag k) (reach_variant fs) (max m (reach_variant fs)) (omega arith) (variant_reach fs tag k)
