-- What is read is read with zeros behind it too
use Rattle.std.proofs.Common.{◌≡◌, ℕ, zero, suc, ◌+◌, ◌*◌, ◌-◌, ◌≤◌, Bool, true, false, cond, List, [], ◌∷◌, ◌++◌, length, take, drop, refl, sym, ap, ◌∙◌, subst, arith, length-append}
use Rattle.std.specs.Prelude.{nat_lt}
use Rattle.std.proofs.lemmas.Bool.{ltb-false}
use Rattle.std.proofs.lemmas.List.{take-append-le, drop-append-le}
use Rattle.cy_bits.specs.Bits.{number, zeros, gap}
use Rattle.dsdl_types.specs.Schemas.{Prim, Sch, Flds, Simple, Fixed, Var, Struct, Union, End, Pad, Field, is_aligned, is_delimited, length_field_bits, tag_bits, width, variants}
use Rattle.dsdl_types.specs.Values.{Val, Items, Parts, Tagged, Empty, More}
use Rattle.dsdl_types.specs.Reading.{Read, Got, Bad, Step, Name, Index, Why, BadDelimiter, BadLength, value_of, and_then, under, within, delimited, aligned, align, own, fields, variant, part, row}
use Rattle.cy_bits.proofs.BitFacts.{number_zeros, drop_zeros, take_zeros}
use Rattle.dsdl_types.proofs.Steps.{step_is, delimited_is}

number_more : (w k : ℕ) (x : List Bool) → number (take w (x ++ zeros k)) ≡ number (take w x)
unfolding number
number_more w k [] = ap number (take_zeros w k) ∙ number_zeros _ ∙ sym (nothing w)
  where
    nothing : (w : ℕ) → number (take w []) ≡ 0
    nothing zero = refl
    nothing (suc w) = refl
number_more zero k (b ∷ x) = refl
number_more (suc w) k (b ∷ x) = omega (arith, number_more w k x)

drop_more : (w k : ℕ) (x : List Bool) → drop w (x ++ zeros k) ≡ drop w x ++ zeros (k - (w - length x))
drop_more zero k x = let e : k ≡ k - (0 - length x) = omega arith in ap (λ n. x ++ zeros n) e
drop_more (suc w) k [] = drop_zeros (suc w) k ∙ (let e : k - suc w ≡ k - (suc w - 0) = omega arith in ap (λ n. zeros n) e)
drop_more (suc w) k (b ∷ x) = drop_more w k x ∙ (let e : k - (w - length x) ≡ k - (suc w - suc (length x)) = omega arith in ap (λ n. drop w x ++ zeros n) e)

-- Where it reads something, it reads the same with zeros behind
abbrev pub Longer : {A : Type 0} → (ℕ → List Bool → Read A) → Type 0
Longer {A = A} f = (p : ℕ) (x : List Bool) (v : A) (q : ℕ) (y : List Bool) → f p x ≡ Got v q y → (k : ℕ) → (j : ℕ) × (f p (x ++ zeros k) ≡ Got v q (y ++ zeros j))

-- what was read first
pub record First {A B : Type 0} (r : Read A) (g : A → ℕ → List Bool → Read B) (out : Read B) : Type 0 where
  pub value : A
  pub place : ℕ
  pub rest : List Bool
  pub is : r ≡ Got value place rest
  pub next : g value place rest ≡ out

pub first_of_two : {A B : Type 0} (r : Read A) (g : A → ℕ → List Bool → Read B) (v : B) (q : ℕ) (y : List Bool) → and_then r g ≡ Got v q y → First r g (Got v q y)
first_of_two (Got a p x) g v q y e = record { value = a; place = p; rest = x; is = refl; next = e }
first_of_two (Bad path why) g v q y e = cc

pub under_got : {A : Type 0} (s : Step) (r : Read A) (v : A) (q : ℕ) (y : List Bool) → under s r ≡ Got v q y → r ≡ Got v q y
under_got s (Got a p x) v q y e = e
under_got s (Bad path why) v q y e = cc

longer_then : {A B : Type 0} (f : ℕ → List Bool → Read A) (g : A → ℕ → List Bool → Read B) → Longer f → ((a : A) → Longer (g a)) → Longer (λ p x. and_then (f p x) g)
longer_then f g hf hg p x v q y e k =
    let one = first_of_two (f p x) g v q y e in
    let more = hf p x one.value one.place one.rest one.is k in
    let last = hg one.value one.place one.rest v q y one.next more.0 in
    (last.0, step_is (f p (x ++ zeros k)) one.value one.place (one.rest ++ zeros more.0) g more.1 ∙ last.1)

longer_under : {A : Type 0} (s : Step) (f : ℕ → List Bool → Read A) → Longer f → Longer (λ p x. under s (f p x))
longer_under s f h p x v q y e k =
    let more = h p x v q y (under_got s (f p x) v q y e) k in
    (more.0, ap (λ r. under s r) more.1)

longer_got : {A B : Type 0} (g : A → B) (a : A) → Longer (λ p x. Got (g a) p x)
longer_got g a p x v q y e k =
    let is_v : g a ≡ v = cc in
    let is_q : p ≡ q = cc in
    let is_y : x ≡ y = cc in
    (k, λ i. Got (is_v i) (is_q i) (is_y i ++ zeros k))

longer_skip : {A : Type 0} (n : ℕ → ℕ) (f : ℕ → List Bool → Read A) → Longer f → Longer (λ p x. f (p + n p) (drop (n p) x))
longer_skip n f h p x v q y e k =
    let more = h (p + n p) (drop (n p) x) v q y e (k - (n p - length x)) in
    (more.0, ap (λ z. f (p + n p) z) (drop_more (n p) k x) ∙ more.1)

longer_number : {A : Type 0} (w : ℕ) (f : ℕ → ℕ → List Bool → Read A) → ((n : ℕ) → Longer (f n)) → Longer (λ p x. f (number (take w x)) (p + w) (drop w x))
longer_number w f h p x v q y e k =
    let n = number (take w x) in
    let more = longer_skip (λ _. w) (f n) (h n) p x v q y e k in
    (more.0, ap (λ m. f m (p + w) (drop w (x ++ zeros k))) (number_more w k x) ∙ more.1)

pub cond_got : {A : Type 0} (b : Bool) (path : List Step) (why : Why) (r : Read A) (v : A) (q : ℕ) (y : List Bool) → cond b (Bad path why) r ≡ Got v q y → (b ≡ false) × (r ≡ Got v q y)
cond_got true path why r v q y e = cc
cond_got false path why r v q y e = (refl, e)

longer_if : {A : Type 0} (b : Bool) (path : List Step) (why : Why) (f : ℕ → List Bool → Read A) → Longer f → Longer (λ p x. cond b (Bad path why) (f p x))
longer_if true path why f h p x v q y e k = cc
longer_if false path why f h p x v q y e k = h p x v q y e k

pub within_got : {A : Type 0} (p : ℕ) (rest : List Bool) (r : Read A) (v : A) (q : ℕ) (y : List Bool) → within p rest r ≡ Got v q y → (p ≡ q) × (rest ≡ y)
within_got p rest (Got a k z) v q y e = (let h : p ≡ q = cc in h, let h : rest ≡ y = cc in h)
within_got p rest (Bad path why) v q y e = cc

longer_counted : {A : Type 0} (f : ℕ → List Bool → Read A) → Longer (delimited true f)
longer_counted f p x v q y e k =
    let c = number (take 32 x) in
    let b = drop 32 x in
    let j = k - (32 - length x) in
    let r = within (p + 32 + 8 * c) (drop (8 * c) b) (f 0 (take (8 * c) b)) in
    let open_ = cond_got (nat_lt (length b) (8 * c)) [] (BadDelimiter c) r v q y e in
    let room : 8 * c ≤ length b = ltb-false (length b) (8 * c) open_.0 in
    let ends = within_got (p + 32 + 8 * c) (drop (8 * c) b) (f 0 (take (8 * c) b)) v q y open_.1 in
    let behind : drop 32 (x ++ zeros k) ≡ b ++ zeros j = drop_more 32 k x in
    let room' : 8 * c ≤ length (drop 32 (x ++ zeros k)) = subst (λ z. 8 * c ≤ length z) (sym behind) (omega (arith, length-append b (zeros j))) in (
      j,
      delimited_is f p (x ++ zeros k) c (number_more 32 k x) room'
          ∙ ap (λ z. within (p + 32 + 8 * c) (drop (8 * c) z) (f 0 (take (8 * c) z))) behind
          ∙ ap (λ z. within (p + 32 + 8 * c) (drop (8 * c) (b ++ zeros j)) (f 0 z)) (take-append-le (8 * c) b (zeros j) room)
          ∙ ap (λ z. within (p + 32 + 8 * c) z (f 0 (take (8 * c) b))) (drop-append-le (8 * c) b (zeros j) room)
          ∙ within_more (p + 32 + 8 * c) (drop (8 * c) b) (f 0 (take (8 * c) b)) v q y j open_.1,
    )
  where
    within_more : {A : Type 0} (p : ℕ) (rest : List Bool) (r : Read A) (v : A) (q : ℕ) (y : List Bool) (j : ℕ) → within p rest r ≡ Got v q y → within p (rest ++ zeros j) r ≡ Got v q (y ++ zeros j)
    within_more p rest (Got a k z) v q y j e =
        let is_v : a ≡ v = cc in
        let is_q : p ≡ q = cc in
        let is_y : rest ≡ y = cc in
        λ i. Got (is_v i) (is_q i) (is_y i ++ zeros j)
    within_more p rest (Bad path why) v q y j e = cc

longer_delimited : {A : Type 0} (d : Bool) (f : ℕ → List Bool → Read A) → Longer f → Longer (delimited d f)
longer_delimited false f h = h
longer_delimited true f h = longer_counted f

longer_aligned : {A : Type 0} (d : Bool) (f : ℕ → List Bool → Read A) → Longer f → Longer (aligned d f)
longer_aligned false f h = h
longer_aligned true f h = longer_skip gap f h

longer_align : {A B : Type 0} (g : A → B) (a : A) → Longer (align (g a))
longer_align g a = longer_skip gap (λ p x. Got (g a) p x) (longer_got g a)

longer_row : (f : ℕ → List Bool → Read Val) → Longer f → (n i : ℕ) → Longer (row f n i)
longer_row f h zero i = longer_got (λ vs. vs) Empty
longer_row f h (suc n) i =
    longer_then (λ p x. under (Index i) (f p x)) (λ v p x. and_then (row f n (suc i) p x) (λ vs. Got (More v vs)))
    (longer_under (Index i) f h)
    (λ v. longer_then (row f n (suc i)) (λ vs. Got (More v vs)) (longer_row f h n (suc i)) (λ vs. longer_got (λ ws. More v ws) vs))

mutual
  pub longer_own : (s : Sch) → Longer (own s)
  longer_own (Simple t) = longer_number (width t) (λ n p x. Got (value_of t n) p x) (λ n. longer_got (value_of t) n)
  longer_own (Fixed s n) = longer_then (row (part s) n 0) (λ vs. Got (Items vs)) (longer_row (part s) (longer_delimited (is_delimited s) (own s) (longer_own s)) n 0) (λ vs. longer_got (λ ws. Items ws) vs)
  longer_own (Var s c) =
      longer_number (length_field_bits c) (λ n p x. cond (nat_lt c n) (Bad [] (BadLength n)) (and_then (row (part s) n 0 p x) (λ vs. Got (Items vs))))
      (λ n. longer_if (nat_lt c n) [] (BadLength n) (λ p x. and_then (row (part s) n 0 p x) (λ vs. Got (Items vs)))
      (longer_then (row (part s) n 0) (λ vs. Got (Items vs)) (longer_row (part s) (longer_delimited (is_delimited s) (own s) (longer_own s)) n 0) (λ vs. longer_got (λ ws. Items ws) vs)))
  longer_own (Struct fs f) = longer_then (fields fs) (λ vs. align (Parts vs)) (longer_fields fs) (λ vs. longer_align (λ ws. Parts ws) vs)
  longer_own (Union fs f) =
      longer_number (tag_bits (variants fs)) (λ n p x. and_then (variant fs n n p x) (λ v. align (Tagged n v)))
      (λ n. longer_then (variant fs n n) (λ v. align (Tagged n v)) (longer_variant fs n n) (λ v. longer_align (λ u. Tagged n u) v))

  pub longer_fields : (fs : Flds) → Longer (fields fs)
  longer_fields End = longer_got (λ vs. vs) Empty
  longer_fields (Pad n fs) = longer_skip (λ _. n) (fields fs) (longer_fields fs)
  longer_fields (Field name s fs) =
      longer_then (λ p x. under (Name name) (aligned (is_aligned s) (part s) p x)) (λ v p x. and_then (fields fs p x) (λ vs. Got (More v vs)))
      (longer_under (Name name) (aligned (is_aligned s) (part s)) (longer_aligned (is_aligned s) (part s) (longer_delimited (is_delimited s) (own s) (longer_own s))))
      (λ v. longer_then (fields fs) (λ vs. Got (More v vs)) (longer_fields fs) (λ vs. longer_got (λ ws. More v ws) vs))

  pub longer_variant : (fs : Flds) (tag k : ℕ) → Longer (variant fs tag k)
  longer_variant End tag k = λ p x v q y e m. cc
  longer_variant (Pad n fs) tag k = longer_variant fs tag k
  longer_variant (Field name s fs) tag zero = longer_under (Name name) (part s) (longer_delimited (is_delimited s) (own s) (longer_own s))
  longer_variant (Field name s fs) tag (suc k) = longer_variant fs tag k
