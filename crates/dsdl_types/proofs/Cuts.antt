-- Reading never goes past the greatest length, where no byte count passes its part's extent
use Rattle.std.proofs.Common.{◌≡◌, ℕ, zero, suc, ◌+◌, ◌*◌, ◌-◌, ◌%◌, ◌≤◌, ◌<◌, min, max, Bool, true, false, cond, List, [], length, take, drop, refl, sym, ap, ◌∙◌, subst, arith, inl, inr, le_trans, le_refl, length-take}
use Rattle.std.proofs.Math.Nat.{mul-le-mul_right}
use Rattle.std.specs.Prelude.{nat_lt}
use Rattle.std.proofs.lemmas.Bool.{cond-true, cases_lt, lt-ltb, true≢false}
use Rattle.std.proofs.lemmas.List.{take-take, drop-take}
use Rattle.cy_bits.specs.Bits.{number, gap}
use Rattle.dsdl_types.specs.Schemas.{Prim, Sch, Flds, Simple, Fixed, Var, Struct, Union, End, Pad, Field, is_aligned, is_delimited, length_field_bits, tag_bits, width, variants, extent_of}
use Rattle.dsdl_types.specs.Values.{Val, Vals, Items, Parts, Tagged, Empty, More}
use Rattle.dsdl_types.specs.Reading.{Read, Got, Bad, Step, Name, Index, BadDelimiter, BadLength, value_of, and_then, under, within, delimited, aligned, align, own, fields, variant, part, row}
use Rattle.dsdl_types.specs.Greatest.{longest, longest_fields, longest_variant, as_part, up, from_lead}
use Rattle.dsdl_types.specs.DelimiterCounts.{on_got, count_fits, at_aligned, row_fits, CountsFit, FieldsFit, VariantFits}
use Rattle.dsdl_types.proofs.Lengths.{up_whole, up_most, sum_whole, holding_bits_whole, delimited_aligned}
use Rattle.dsdl_types.proofs.Steps.{delimited_is, union_is, var_is}
use Rattle.dsdl_types.proofs.Longer.{under_got}

drop_cut : (n p e : ℕ) (x : List Bool) → p + n ≤ e → drop n (take (e - p) x) ≡ take (e - (p + n)) (drop n x)
drop_cut n p e x h =
    let k : e - p ≡ n + (e - (p + n)) = omega arith in
    ap (λ m. drop n (take m x)) k ∙ drop-take n (e - (p + n)) x

take_cut : (n p e : ℕ) (x : List Bool) → p + n ≤ e → take n (take (e - p) x) ≡ take n x
take_cut n p e x h = take-take n (e - p) x (omega arith)

-- The second is the first, cut at place e: the same value at a place up to b, or the same refusal
abbrev pub CutTo : {A : Type 0} → ℕ → ℕ → (ℕ → Type 0) → Read A → Read A → Type 0
CutTo e b B (Got v q y) r = (q ≤ b) × B q × (r ≡ Got v q (take (e - q) y))
CutTo e b B (Bad path why) r = r ≡ Bad path why

abbrev pub Cuts : {A : Type 0} → (ℕ → List Bool → Read A) → (ℕ → List Bool → Type 0) → (ℕ → Type 0) → (ℕ → Type 0) → (ℕ → ℕ) → Type 0
Cuts f W A B m = (p e : ℕ) (x : List Bool) → A p → W p x → m p ≤ e → CutTo e (m p) B (f p x) (f p (take (e - p) x))

cut_more : {A : Type 0} (e b c : ℕ) (B C : ℕ → Type 0) (r r' : Read A) → b ≤ c → ((q : ℕ) → B q → C q) → CutTo e b B r r' → CutTo e c C r r'
cut_more e b c B C (Got v q y) r' h k z = (le_trans z.0 h, k q z.1, z.2)
cut_more e b c B C (Bad path why) r' h k z = z

cut_then : {A B : Type 0} (e b c : ℕ) (P Q : ℕ → Type 0) (g : A → ℕ → List Bool → Read B) (W : A → ℕ → List Bool → Type 0) (r r' : Read A) → CutTo e b P r r' →
    ((a : A) (q : ℕ) (y : List Bool) → r ≡ Got a q y → q ≤ b → P q → CutTo e c Q (g a q y) (g a q (take (e - q) y))) → CutTo e c Q (and_then r g) (and_then r' g)
cut_then e b c P Q g W (Got a q y) r' z h = subst (λ r. CutTo e c Q (g a q y) (and_then r g)) (sym z.2) (h a q y refl z.0 z.1)
cut_then e b c P Q g W (Bad path why) r' z h = ap (λ r. and_then r g) z

cut_under : {A : Type 0} (e b : ℕ) (P : ℕ → Type 0) (s : Step) (r r' : Read A) → CutTo e b P r r' → CutTo e b P (under s r) (under s r')
cut_under e b P s (Got v q y) r' z = (z.0, z.1, ap (λ r. under s r) z.2)
cut_under e b P s (Bad path why) r' z = ap (λ r. under s r) z

cut_got : {A : Type 0} (e p : ℕ) (P : ℕ → Type 0) (a : A) (x : List Bool) → P p → CutTo e p P (Got a p x) (Got a p (take (e - p) x))
cut_got e p P a x h = (le_refl p, h, refl)

cut_align : {A : Type 0} (e p : ℕ) (a : A) (x : List Bool) → up p ≤ e → CutTo e (up p) (λ q. q % 8 ≡ 0) (align a p x) (align a p (take (e - p) x))
cut_align e p a x h = (le_refl (up p), up_whole p, ap (λ y. Got a (up p) y) (drop_cut (gap p) p e x h))

got_on : {A : Type 0} (r : Read A) (P : ℕ → List Bool → Type 0) (a : A) (q : ℕ) (y : List Bool) → r ≡ Got a q y → on_got r P → P q y
got_on r P a q y e h = subst (λ x. on_got x P) e h

-- a part behind its byte count
abbrev pub AtBy : Bool → ℕ → Type 0
AtBy al p = al ≡ true → p % 8 ≡ 0

cuts_counted : {A : Type 0} (f : ℕ → List Bool → Read A) (W : ℕ → List Bool → Type 0) (x : ℕ) → Cuts (delimited true f) (count_fits true x W) (λ p. p % 8 ≡ 0) (λ p. p % 8 ≡ 0) (λ p. p + (32 + x))
cuts_counted {A = A} f W ext p e x at w m =
    let c = number (take 32 x) in
    let b = drop 32 x in
    let x' = take (e - p) x in
    let n_is : number (take 32 x') ≡ c = ap number (take_cut 32 p e x (omega arith)) in
    let b_is : drop 32 x' ≡ take (e - (p + 32)) b = drop_cut 32 p e x (omega arith) in
    let h : 8 * c ≤ ext = w.0 in
    let l_is : length (drop 32 x') ≡ min (e - (p + 32)) (length b) = ap length b_is ∙ length-take (e - (p + 32)) b in
    elim (cases_lt (length b) (8 * c)) [
      | inl short ↦
          let short' : length (drop 32 x') < 8 * c = omega arith in
          subst (λ r. CutTo e (p + (32 + ext)) (λ q. q % 8 ≡ 0) r (delimited true f p x'))
          (sym (cond-true _ (Bad [] (BadDelimiter c)) _ (lt-ltb _ _ short)))
          (refused f p x' c n_is short')
      | inr room ↦
          let room' : 8 * c ≤ length (drop 32 x') = omega arith in
          let front : take (8 * c) (drop 32 x') ≡ take (8 * c) b = ap (λ z. take (8 * c) z) b_is ∙ take_cut (8 * c) (p + 32) e b (omega arith) in
          let back : drop (8 * c) (drop 32 x') ≡ take (e - (p + 32 + 8 * c)) (drop (8 * c) b) = ap (λ z. drop (8 * c) z) b_is ∙ drop_cut (8 * c) (p + 32) e b (omega arith) in
          subst (λ r. CutTo e (p + (32 + ext)) (λ q. q % 8 ≡ 0) r (delimited true f p x'))
          (sym (delimited_is f p x c refl room))
          (subst (λ r. CutTo e (p + (32 + ext)) (λ q. q % 8 ≡ 0) (within (p + 32 + 8 * c) (drop (8 * c) b) (f 0 (take (8 * c) b))) r)
          (sym (delimited_is f p x' c n_is room' ∙ ap (λ z. within (p + 32 + 8 * c) (drop (8 * c) (drop 32 x')) (f 0 z)) front ∙ ap (λ z. within (p + 32 + 8 * c) z (f 0 (take (8 * c) b))) back))
          (inside (f 0 (take (8 * c) b)) (p + 32 + 8 * c) (drop (8 * c) b) (omega arith) (omega arith)))
    ]
  where
    refused : {A : Type 0} (f : ℕ → List Bool → Read A) (p : ℕ) (x : List Bool) (c : ℕ) → number (take 32 x) ≡ c → length (drop 32 x) < 8 * c → delimited true f p x ≡ Bad [] (BadDelimiter c)
    refused f p x c e h =
        let h' : length (drop 32 x) < 8 * number (take 32 x) = subst (λ n. length (drop 32 x) < 8 * n) (sym e) h in
        cond-true _ (Bad [] (BadDelimiter (number (take 32 x)))) _ (lt-ltb _ _ h') ∙ ap (λ n. Bad [] (BadDelimiter n)) e

    inside : (r : Read A) (q : ℕ) (y : List Bool) → q ≤ p + (32 + ext) → q % 8 ≡ 0 → CutTo e (p + (32 + ext)) (λ q. q % 8 ≡ 0) (within q y r) (within q (take (e - q) y) r)
    inside (Got v k z) q y h w = (h, w, refl)
    inside (Bad path why) q y h w = refl

cuts_by : {A : Type 0} (d al : Bool) (f : ℕ → List Bool → Read A) (W : ℕ → List Bool → Type 0) (ext most : ℕ) → (d ≡ true → al ≡ true) → Cuts f W (AtBy al) (AtBy al) (λ p. p + most) →
    Cuts (delimited d f) (count_fits d ext W) (AtBy al) (AtBy al) (λ p. p + as_part d ext most)
cuts_by false al f W ext most k h = h
cuts_by true al f W ext most k h = λ p e x at w m.
    cut_more e (p + (32 + ext)) (p + (32 + ext)) (λ q. q % 8 ≡ 0) (AtBy al) (delimited true f p x) (delimited true f p (take (e - p) x)) (le_refl (p + (32 + ext))) (λ q a _. a)
    (cuts_counted f W ext p e x (at (k refl)) w m)

abbrev part_longest : Sch → ℕ
part_longest s = as_part (is_delimited s) (extent_of s) (longest s)

abbrev part_fits : Sch → ℕ → List Bool → Type 0
part_fits s = count_fits (is_delimited s) (extent_of s) (CountsFit s)

cuts_part : (s : Sch) → Cuts (own s) (CountsFit s) (AtBy (is_aligned s)) (AtBy (is_aligned s)) (λ p. p + longest s) →
    Cuts (part s) (part_fits s) (AtBy (is_aligned s)) (AtBy (is_aligned s)) (λ p. p + part_longest s)
cuts_part s h = cuts_by (is_delimited s) (is_aligned s) (own s) (CountsFit s) (extent_of s) (longest s) (delimited_aligned s) h

cut_map : {A B : Type 0} (e b : ℕ) (P : ℕ → Type 0) (k : A → B) (r r' : Read A) → CutTo e b P r r' → CutTo e b P (and_then r (λ a. Got (k a))) (and_then r' (λ a. Got (k a)))
cut_map e b P k (Got a q y) r' z = (z.0, z.1, ap (λ r. and_then r (λ a. Got (k a))) z.2)
cut_map e b P k (Bad path why) r' z = ap (λ r. and_then r (λ a. Got (k a))) z

cuts_row : (f : ℕ → List Bool → Read Val) (W : ℕ → List Bool → Type 0) (A : ℕ → Type 0) (m : ℕ) → Cuts f W A A (λ p. p + m) → (n i : ℕ) → Cuts (row f n i) (row_fits f W n) A A (λ p. p + n * m)
cuts_row f W A m h zero i = λ p e x at w b. cut_more e p (p + 0 * m) A A (row f 0 i p x) (row f 0 i p (take (e - p) x)) (omega arith) (λ q a. a) (cut_got e p A Empty x at)
cuts_row f W A m h (suc n) i = λ p e x at w b.
    let times : suc n * m ≡ m + n * m = grind arith in
    cut_then e (p + m) (p + suc n * m) A A (λ v q y. and_then (row f n (suc i) q y) (λ vs. Got (More v vs))) (λ v q y. Unit {0}) (under (Index i) (f p x)) (under (Index i) (f p (take (e - p) x)))
    (cut_under e (p + m) A (Index i) (f p x) (f p (take (e - p) x)) (h p e x at w.0 (omega arith)))
    (λ v q y is le aq.
    cut_map e (p + suc n * m) A (λ vs. More v vs) (row f n (suc i) q y) (row f n (suc i) q (take (e - q) y))
    (cut_more e (q + n * m) (p + suc n * m) A A (row f n (suc i) q y) (row f n (suc i) q (take (e - q) y)) (omega arith) (λ q a. a)
    (cuts_row f W A m h n (suc i) q e y aq (got_on (f p x) (λ q y. row_fits f W n q y) v q y (under_got (Index i) (f p x) v q y is) w.1) (omega arith))))

abbrev Any : ℕ → Type 0
Any p = Unit {0}

cuts_aligned : {A : Type 0} (d : Bool) (f : ℕ → List Bool → Read A) (W : ℕ → List Bool → Type 0) (m : ℕ) → Cuts f W (AtBy d) (AtBy d) (λ p. p + m) → Cuts (aligned d f) (at_aligned d W) (λ _. Unit {0}) (λ _. Unit {0}) (λ p. from_lead d p + m)
cuts_aligned false f W m h = λ p e x at w b.
    cut_more e (p + m) (p + m) (AtBy false) (λ _. Unit {0}) (f p x) (f p (take (e - p) x)) (le_refl (p + m)) (λ q a. tt) (h p e x (λ k. absurd (true≢false (sym k))) w b)
cuts_aligned true f W m h = λ p e x at w b.
    subst (λ z. CutTo e (up p + m) (λ _. Unit {0}) (f (up p) (drop (gap p) x)) (f (up p) z)) (sym (drop_cut (gap p) p e x (omega arith)))
    (cut_more e (up p + m) (up p + m) (AtBy true) (λ _. Unit {0}) (f (up p) (drop (gap p) x)) (f (up p) (take (e - up p) (drop (gap p) x))) (le_refl (up p + m)) (λ q a. tt)
    (h (up p) e (drop (gap p) x) (λ _. up_whole p) w b))

lead_more : (d : Bool) (p : ℕ) → p ≤ from_lead d p
lead_more false p = le_refl p
lead_more true p = omega arith

pub lead_mono : (d : Bool) (p q : ℕ) → p ≤ q → from_lead d p ≤ from_lead d q
lead_mono false p q h = h
lead_mono true p q h = up_most p q h

fields_from : (fs : Flds) (p : ℕ) → p ≤ longest_fields fs p
fields_from End p = le_refl p
fields_from (Pad n fs) p = omega (arith, fields_from fs (p + n))
fields_from (Field name s fs) p =
    let m = as_part (is_delimited s) (extent_of s) (longest s) in
    omega (arith, lead_more (is_aligned s) p, fields_from fs (from_lead (is_aligned s) p + m))

pub fields_mono : (fs : Flds) (p q : ℕ) → p ≤ q → longest_fields fs p ≤ longest_fields fs q
fields_mono End p q h = h
fields_mono (Pad n fs) p q h = fields_mono fs (p + n) (q + n) (omega arith)
fields_mono (Field name s fs) p q h =
    let m = as_part (is_delimited s) (extent_of s) (longest s) in
    fields_mono fs (from_lead (is_aligned s) p + m) (from_lead (is_aligned s) q + m) (omega (arith, lead_mono (is_aligned s) p q h))

lead_shift : (d : Bool) (p q : ℕ) → p % 8 ≡ 0 → from_lead d (p + q) ≡ p + from_lead d q
lead_shift false p q h = refl
lead_shift true p q h = omega arith

fields_shift : (fs : Flds) (p q : ℕ) → p % 8 ≡ 0 → longest_fields fs (p + q) ≡ p + longest_fields fs q
fields_shift End p q h = refl
fields_shift (Pad n fs) p q h = (let e : p + q + n ≡ p + (q + n) = omega arith in ap (λ z. longest_fields fs z) e) ∙ fields_shift fs p (q + n) h
fields_shift (Field name s fs) p q h =
    let m = as_part (is_delimited s) (extent_of s) (longest s) in
    let e : from_lead (is_aligned s) (p + q) + m ≡ p + (from_lead (is_aligned s) q + m) = omega (arith, lead_shift (is_aligned s) p q h) in
    ap (λ z. longest_fields fs z) e ∙ fields_shift fs p (from_lead (is_aligned s) q + m) h

cut_simple : (t : Prim) (p e : ℕ) (x : List Bool) → p + width t ≤ e → CutTo e (p + width t) (AtBy false) (own (Simple t) p x) (own (Simple t) p (take (e - p) x))
cut_simple t p e x h = (
  le_refl (p + width t),
  λ k. absurd (true≢false (sym k)),
  ap (λ z. Got (value_of t (number z)) (p + width t) (drop (width t) (take (e - p) x))) (take_cut (width t) p e x h)
      ∙ ap (λ z. Got (value_of t (number (take (width t) x))) (p + width t) z) (drop_cut (width t) p e x h),
)

cut_var : (s : Sch) (c p e n : ℕ) (x : List Bool) → number (take (length_field_bits c) x) ≡ n → p + length_field_bits c ≤ e → (b : ℕ) (P : ℕ → Type 0) →
    (n ≤ c → CutTo e b P (row (part s) n 0 (p + length_field_bits c) (drop (length_field_bits c) x)) (row (part s) n 0 (p + length_field_bits c) (take (e - (p + length_field_bits c)) (drop (length_field_bits c) x)))) →
    CutTo e b P (own (Var s c) p x) (own (Var s c) p (take (e - p) x))
cut_var s c p e n x is room b P h =
    let w = length_field_bits c in
    let x' = take (e - p) x in
    let is' : number (take w x') ≡ n = ap number (take_cut w p e x room) ∙ is in
    elim (cases_lt c n) [
      | inl long ↦
          subst (λ r. CutTo e b P r (own (Var s c) p x')) (sym (refused n x is long)) (refused n x' is' long)
      | inr short ↦
          let k : Vals → ℕ → List Bool → Read Val = λ vs. Got (Items vs) in
          subst (λ r. CutTo e b P r (own (Var s c) p x')) (sym (var_is s c p x n is short))
          (subst (λ r. CutTo e b P (and_then (row (part s) n 0 (p + w) (drop w x)) k) r)
          (sym (var_is s c p x' n is' short ∙ ap (λ z. and_then (row (part s) n 0 (p + w) z) k) (drop_cut w p e x room)))
          (cut_map e b P (λ vs. Items vs) (row (part s) n 0 (p + w) (drop w x)) (row (part s) n 0 (p + w) (take (e - (p + w)) (drop w x))) (h short)))
    ]
  where
    refused : (n : ℕ) (y : List Bool) → number (take (length_field_bits c) y) ≡ n → c < n → own (Var s c) p y ≡ Bad [] (BadLength n)
    refused n y is long =
        ap (λ n. cond (nat_lt c n) (Bad [] (BadLength n)) (and_then (row (part s) n 0 (p + length_field_bits c) (drop (length_field_bits c) y)) (λ vs. Got (Items vs)))) is
        ∙ cond-true _ (Bad [] (BadLength n)) _ (lt-ltb _ _ long)

-- align behind what was read
cut_end : {A B : Type 0} (e b : ℕ) (k : A → B) (P : ℕ → Type 0) (r r' : Read A) → up b ≤ e → CutTo e b P r r' → CutTo e (up b) (λ q. q % 8 ≡ 0) (and_then r (λ v. align (k v))) (and_then r' (λ v. align (k v)))
cut_end e b k P r r' h z = cut_then e b (up b) P (λ q. q % 8 ≡ 0) (λ v. align (k v)) (λ v q y. Unit {0}) r r' z
    (λ v q y is le aq.
    let m : up q ≤ up b = up_most q b le in
    cut_more e (up q) (up b) (λ q. q % 8 ≡ 0) (λ q. q % 8 ≡ 0) (align (k v) q y) (align (k v) q (take (e - q) y)) m (λ q a. a) (cut_align e q (k v) y (le_trans m h)))

at_end : {A : Type 0} (e b c : ℕ) (al : Bool) (r r' : Read A) → b ≤ c → CutTo e b (λ q. q % 8 ≡ 0) r r' → CutTo e c (AtBy al) r r'
at_end e b c al r r' h z = cut_more e b c (λ q. q % 8 ≡ 0) (AtBy al) r r' h (λ q a _. a) z

mutual
  pub cuts_own : (s : Sch) → Cuts (own s) (CountsFit s) (AtBy (is_aligned s)) (AtBy (is_aligned s)) (λ p. p + longest s)
  cuts_own (Simple t) = λ p e x at w b. cut_simple t p e x b
  cuts_own (Fixed s n) = λ p e x at w b.
      cut_map e (p + n * part_longest s) (AtBy (is_aligned s)) (λ vs. Items vs) (row (part s) n 0 p x) (row (part s) n 0 p (take (e - p) x))
      (cuts_row (part s) (part_fits s) (AtBy (is_aligned s)) (part_longest s) (cuts_part s (cuts_own s)) n 0 p e x at w b)
  cuts_own (Var s c) = λ p e x at w b.
      let n = number (take (length_field_bits c) x) in
      cut_var s c p e n x refl (omega arith) (p + (length_field_bits c + c * part_longest s)) (AtBy (is_aligned s))
      (λ short.
      let m : n * part_longest s ≤ c * part_longest s = mul-le-mul_right (part_longest s) short in
      cut_more e (p + length_field_bits c + n * part_longest s) (p + (length_field_bits c + c * part_longest s)) (AtBy (is_aligned s)) (AtBy (is_aligned s))
      (row (part s) n 0 (p + length_field_bits c) (drop (length_field_bits c) x)) (row (part s) n 0 (p + length_field_bits c) (take (e - (p + length_field_bits c)) (drop (length_field_bits c) x))) (omega arith) (λ q a. a)
      (cuts_row (part s) (part_fits s) (AtBy (is_aligned s)) (part_longest s) (cuts_part s (cuts_own s)) n 0 (p + length_field_bits c) e (drop (length_field_bits c) x)
      (λ al. sum_whole p (length_field_bits c) (at al) (holding_bits_whole c)) (w short) (omega arith)))
  cuts_own (Struct fs f) = λ p e x at w b.
      let m : longest_fields fs (p + 0) ≡ p + longest_fields fs 0 = fields_shift fs p 0 (at refl) in
      let z : p + 0 ≡ p = omega arith in
      let m' : longest_fields fs p ≡ p + longest_fields fs 0 = ap (λ q. longest_fields fs q) (sym z) ∙ m in
      let whole : p % 8 ≡ 0 = at refl in
      let top : up (longest_fields fs p) ≡ p + up (longest_fields fs 0) = ap up m' ∙ lead_shift true p (longest_fields fs 0) whole in
      at_end e (up (longest_fields fs p)) (p + up (longest_fields fs 0)) true (own (Struct fs f) p x) (own (Struct fs f) p (take (e - p) x)) (omega arith)
      (cut_end e (longest_fields fs p) (λ vs. Parts vs) (λ _. Unit {0}) (fields fs p x) (fields fs p (take (e - p) x)) (omega arith) (cuts_fields fs p e x tt w (omega arith)))
  cuts_own (Union fs f) = λ p e x at w b.
      let k = tag_bits (variants fs) in
      let n = number (take k x) in
      let whole : p % 8 ≡ 0 = at refl in
      let top : up (p + k + longest_variant fs) ≡ p + up (k + longest_variant fs) = (let z : p + k + longest_variant fs ≡ p + (k + longest_variant fs) = omega arith in ap up z) ∙ lead_shift true p (k + longest_variant fs) whole in
      let room : p + k ≤ e = omega arith in
      at_end e (up (p + k + longest_variant fs)) (p + up (k + longest_variant fs)) true (own (Union fs f) p x) (own (Union fs f) p (take (e - p) x)) (omega arith)
      (subst (λ r. CutTo e (up (p + k + longest_variant fs)) (λ q. q % 8 ≡ 0) (own (Union fs f) p x) r)
      (sym (union_is fs f p (take (e - p) x) n (ap number (take_cut k p e x room)) ∙ ap (λ z. and_then (variant fs n n (p + k) z) (λ v. align (Tagged n v))) (drop_cut k p e x room)))
      (cut_end e (p + k + longest_variant fs) (λ v. Tagged n v) (λ _. Unit {0}) (variant fs n n (p + k) (drop k x)) (variant fs n n (p + k) (take (e - (p + k)) (drop k x))) (omega arith)
      (cuts_variant fs n n (p + k) e (drop k x) (sum_whole p k whole (holding_bits_whole (variants fs - 1))) w (omega arith))))

  pub cuts_fields : (fs : Flds) → Cuts (fields fs) (FieldsFit fs) (λ _. Unit {0}) (λ _. Unit {0}) (λ p. longest_fields fs p)
  cuts_fields End = λ p e x at w b. cut_got e p (λ _. Unit {0}) Empty x tt
  cuts_fields (Pad n fs) = λ p e x at w b.
      subst (λ z. CutTo e (longest_fields fs (p + n)) (λ _. Unit {0}) (fields fs (p + n) (drop n x)) (fields fs (p + n) z)) (sym (drop_cut n p e x (omega (arith, fields_from fs (p + n)))))
      (cuts_fields fs (p + n) e (drop n x) tt w b)
  cuts_fields (Field name s fs) = λ p e x at w b.
      let m = part_longest s in
      let mid = from_lead (is_aligned s) p + m in
      let r = aligned (is_aligned s) (part s) p x in
      let r' = aligned (is_aligned s) (part s) p (take (e - p) x) in
      let room : mid ≤ e = le_trans (fields_from fs mid) b in
      cut_then e mid (longest_fields fs mid) (λ _. Unit {0}) (λ _. Unit {0}) (λ v q y. and_then (fields fs q y) (λ vs. Got (More v vs))) (λ v q y. Unit {0}) (under (Name name) r) (under (Name name) r')
      (cut_under e mid (λ _. Unit {0}) (Name name) r r' (cuts_aligned (is_aligned s) (part s) (part_fits s) m (cuts_part s (cuts_own s)) p e x tt w.0 room))
      (λ v q y is le aq.
      let most : longest_fields fs q ≤ longest_fields fs mid = fields_mono fs q mid le in
      cut_map e (longest_fields fs mid) (λ _. Unit {0}) (λ vs. More v vs) (fields fs q y) (fields fs q (take (e - q) y))
      (cut_more e (longest_fields fs q) (longest_fields fs mid) (λ _. Unit {0}) (λ _. Unit {0}) (fields fs q y) (fields fs q (take (e - q) y)) most (λ q a. a)
      (cuts_fields fs q e y tt (got_on r (λ q y. FieldsFit fs q y) v q y (under_got (Name name) r v q y is) w.1) (le_trans most b))))

  pub cuts_variant : (fs : Flds) (tag k : ℕ) → Cuts (variant fs tag k) (VariantFits fs k) (λ p. p % 8 ≡ 0) (λ _. Unit {0}) (λ p. p + longest_variant fs)
  cuts_variant End tag k = λ p e x at w b. refl
  cuts_variant (Pad n fs) tag k = cuts_variant fs tag k
  cuts_variant (Field name s fs) tag zero = λ p e x at w b.
      cut_under e (p + max (part_longest s) (longest_variant fs)) (λ _. Unit {0}) (Name name) (part s p x) (part s p (take (e - p) x))
      (cut_more e (p + part_longest s) (p + max (part_longest s) (longest_variant fs)) (AtBy (is_aligned s)) (λ _. Unit {0}) (part s p x) (part s p (take (e - p) x)) (omega arith) (λ q a. tt)
      (cuts_part s (cuts_own s) p e x (λ _. at) w (omega arith)))
  cuts_variant (Field name s fs) tag (suc k) = λ p e x at w b.
      cut_more e (p + longest_variant fs) (p + max (part_longest s) (longest_variant fs)) (λ _. Unit {0}) (λ _. Unit {0}) (variant fs tag k p x) (variant fs tag k p (take (e - p) x)) (omega arith) (λ q a. a)
      (cuts_variant fs tag k p e x at w (omega arith))
