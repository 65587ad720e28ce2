-- Steps of reading in the code
use Rattle.std.proofs.Common.{◌≡◌, ◌∙◌, ℕ, zero, suc, ◌+◌, ◌*◌, ◌-◌, ◌<◌, ◌≤◌, Bool, true, false, List, [], ◌∷◌, ◌++◌, length, take, drop, get_or, refl, sym, ap, subst, arith}
use Rattle.std.proofs.lemmas.Bool.{false≢true, cond-false, cond-true, le-ltb, lt-ltb}
use Rattle.std.proofs.lemmas.List.{drop-drop}
use Rattle.std.specs.Prelude.{Result, Ok, Err, OnOk, nat_lt, if◌then◌else◌}
use Rattle.cy_bits.specs.Bits.{number, gap, bits}
use Rattle.dsdl_types.specs.Reading.{Read, Got, Bad, Step, Why, Name, BadLength, BadDelimiter, BadTag, and_then, under, within, value_of, own, part, row, fields, variant, aligned, delimited, align}
use Rattle.dsdl_types.specs.Schemas.{Prim, Sch, Flds, Outline, Simple, End, Pad, Field, is_aligned, is_delimited, length_field_bits, tag_bits, variants, width}
use Rattle.dsdl_types.specs.Schemas as D
use Rattle.dsdl_types.specs.Values.{Val, Vals, Empty, More, Items, Parts, Tagged, join}
use Rattle.dsdl_types.specs.Views.{Kind, Typed, Padding, is_padding, type_of, with_field, named, flds, val, vals}
use Rattle.dsdl_types.specs.declared.value.Value.{Value}
use Rattle.dsdl_types.specs.declared.schema.Field.{Field as F}
use Rattle.dsdl_types.proofs.Steps.{var_is, union_is}
use Rattle.dsdl_types.proofs.Views.{join_none, join_push}
use Rattle.wire_values.proofs.Schemata.{flds_next, flds_end}
use Rattle.wire_values.specs.Reads.{behind, Fails, Gives, Goes, skipped, with_front, window_read}
use Rattle.wire_values.specs.declared.stop.Stop.{Stop}
use Rattle.wire_values.specs.declared.stop.Stop.TheVariants as E

-- the bits behind a place that is so many further on
pub behind_more : (b c : List ℕ) (p q w : ℕ) → c ≡ b → q ≡ p + w → behind c q ≡ drop w (behind b p)
behind_more b c p q w e f = (λ i. drop (f i) (bits (e i))) ∙ sym (drop-drop w p (bits b))

-- a primitive
pub simple_read : (t : Prim) (b c : List ℕ) (p q w n : ℕ) (v : Val) → w ≡ width t → c ≡ b → q ≡ p + w → n ≡ number (take w (behind b p)) → v ≡ value_of t n →
    own (Simple t) p (behind b p) ≡ Got v q (behind c q)
simple_read t b c p q w n v is_w e f g h =
    let e' = behind_more b c p q w e f in
    let value : value_of t (number (take (width t) (behind b p))) ≡ v = ap (λ k. value_of t (number (take k (behind b p)))) (sym is_w) ∙ ap (λ k. value_of t k) (sym g) ∙ sym h in
    let place : p + width t ≡ q = omega (arith, f, is_w) in
    let rest : drop (width t) (behind b p) ≡ behind c q = ap (λ k. drop k (behind b p)) (sym is_w) ∙ sym e' in
    λ i. Got (value i) (place i) (rest i)

-- ---- values read before others

pub front_none : (r : Read Vals) → with_front Empty r ≡ r
front_none (Got vs p x) = refl
front_none (Bad path why) = refl

pub front_end : (vs : Vals) (p : ℕ) (x : List Bool) → with_front vs (Got Empty p x) ≡ Got vs p x
front_end vs p x = ap (λ ws. Got ws p x) (join_none vs)

pub front_push : (values : List Value) (v : Value) (r : Read Vals) →
    with_front (vals values) (and_then r (λ ws. Got (More (val v) ws))) ≡ with_front (vals (values ++ v ∷ [])) r
front_push values v (Got ws p x) = ap (λ us. Got us p x) (sym (join_push values v ws))
front_push values v (Bad path why) = refl

pub fails_then : {A B : Type 0} (e : Stop) (r : Read A) (g : A → ℕ → List Bool → Read B) → Fails e r → Fails e (and_then r g)
fails_then E.NoMemory r g h = tt
fails_then (E.Refused b) r g h = ap (λ x. and_then x g) h

pub fails_at : {A : Type 0} (e : Stop) (r s : Read A) → r ≡ s → Fails e r → Fails e s
fails_at e r s f h = subst (λ x. Fails e x) f h

pub goes_at : {X A : Type 0} (res : Result X Stop) (a b c d : Read A) → a ≡ b → d ≡ c → Goes res b c → Goes res a d
goes_at res a b c d e f h = subst (λ x. Goes res x d) (sym e) (subst (λ y. Goes res b y) (sym f) h)

-- ---- items

abbrev pub into_items : Vals → ℕ → List Bool → Read Val
into_items vs = Got (Items vs)

pub own_row : (s : Sch) (n p : ℕ) (x : List Bool) (vs : Vals) (q : ℕ) (y : List Bool) → row (part s) n 0 p x ≡ Got vs q y → own (D.Fixed s n) p x ≡ Got (Items vs) q y
own_row s n p x vs q y e = ap (λ r. and_then r into_items) e

pub own_row_fails : (e : Stop) (s : Sch) (n p : ℕ) (x : List Bool) → Fails e (row (part s) n 0 p x) → Fails e (own (D.Fixed s n) p x)
own_row_fails e s n p x h = fails_then e (row (part s) n 0 p x) into_items h

pub row_start : (s : Sch) (n : ℕ) (values : List Value) (p : ℕ) (x : List Bool) → values ≡ [] → with_front (vals values) (row (part s) (n - 0) 0 p x) ≡ row (part s) n 0 p x
row_start s n values p x e =
    let z : n - 0 ≡ n = omega arith in
    ap (λ m. with_front (vals values) (row (part s) m 0 p x)) z ∙ ap (λ l. with_front (vals l) (row (part s) n 0 p x)) e ∙ front_none (row (part s) n 0 p x)

pub row_end : (s : Sch) (n i : ℕ) (vs : Vals) (p : ℕ) (x : List Bool) → n ≤ i → with_front vs (row (part s) (n - i) i p x) ≡ Got vs p x
row_end s n i vs p x h = let z : n - i ≡ 0 = omega arith in ap (λ m. with_front vs (row (part s) m i p x)) z ∙ front_end vs p x

-- the loop over the items goes on
pub row_next : (s : Sch) (n i : ℕ) (old now : Vals) (p q : ℕ) (x y : List Bool) (all : Read Vals) → i < n →
    with_front old (row (part s) (suc (n - (i + 1))) i p x) ≡ with_front now (row (part s) (n - (i + 1)) (suc i) q y) →
    with_front old (row (part s) (n - i) i p x) ≡ all → with_front now (row (part s) (n - (i + 1)) (i + 1) q y) ≡ all
row_next s n i old now p q x y all h e inv =
    let a : i + 1 ≡ suc i = omega arith in
    let b : suc (n - (i + 1)) ≡ n - i = omega arith in
    ap (λ j. with_front now (row (part s) (n - (i + 1)) j q y)) a ∙ sym e ∙ ap (λ m. with_front old (row (part s) m i p x)) b ∙ inv

pub row_fails : (e : Stop) (s : Sch) (n i : ℕ) (old : Vals) (p : ℕ) (x : List Bool) (all : Read Vals) → i < n →
    Fails e (with_front old (row (part s) (suc (n - (i + 1))) i p x)) → with_front old (row (part s) (n - i) i p x) ≡ all → Fails e all
row_fails e s n i old p x all h f inv =
    let b : suc (n - (i + 1)) ≡ n - i = omega arith in
    fails_at e _ all (ap (λ m. with_front old (row (part s) m i p x)) b ∙ inv) f

-- a row behind its length field
pub own_var : (s : Sch) (c w n p k q : ℕ) (x z y : List Bool) (vs : Vals) → w ≡ length_field_bits c → n ≡ number (take w x) → k ≡ p + w → z ≡ drop w x → n ≤ c → row (part s) n 0 k z ≡ Got vs q y →
    own (D.Var s c) p x ≡ Got (Items vs) q y
own_var s c w n p k q x z y vs is_w e f g short h =
    let a : number (take (length_field_bits c) x) ≡ n = ap (λ m. number (take m x)) (sym is_w) ∙ sym e in
    let b : p + length_field_bits c ≡ k = omega (arith, f, is_w) in
    let d : drop (length_field_bits c) x ≡ z = ap (λ m. drop m x) (sym is_w) ∙ sym g in
    var_is s c p x n a short ∙ (λ i. and_then (row (part s) n 0 (b i) (d i)) into_items) ∙ ap (λ r. and_then r into_items) h

pub own_var_fails : (e : Stop) (s : Sch) (c w n p k : ℕ) (x z : List Bool) → w ≡ length_field_bits c → n ≡ number (take w x) → k ≡ p + w → z ≡ drop w x → n ≤ c → Fails e (row (part s) n 0 k z) →
    Fails e (own (D.Var s c) p x)
own_var_fails e s c w n p k x z is_w f g j short h =
    let a : number (take (length_field_bits c) x) ≡ n = ap (λ m. number (take m x)) (sym is_w) ∙ sym f in
    let b : k ≡ p + length_field_bits c = omega (arith, g, is_w) in
    let d : z ≡ drop (length_field_bits c) x = j ∙ ap (λ m. drop m x) is_w in
    fails_at e _ (own (D.Var s c) p x) ((λ i. and_then (row (part s) n 0 (b i) (d i)) into_items) ∙ sym (var_is s c p x n a short)) (fails_then e (row (part s) n 0 k z) into_items h)

abbrev bad : List Step → Why → Read Val
bad path why = Bad path why

pub own_var_long : (s : Sch) (c w n p : ℕ) (x : List Bool) → w ≡ length_field_bits c → n ≡ number (take w x) → c < n → own (D.Var s c) p x ≡ Bad [] (BadLength n)
own_var_long s c w n p x is_w e h =
    let a : number (take (length_field_bits c) x) ≡ n = ap (λ m. number (take m x)) (sym is_w) ∙ sym e in
    ap (λ n. if nat_lt c n then bad [] (BadLength n) else and_then (row (part s) n 0 (p + length_field_bits c) (drop (length_field_bits c) x)) into_items) a
    ∙ cond-true (nat_lt c n) (bad [] (BadLength n)) (and_then (row (part s) n 0 (p + length_field_bits c) (drop (length_field_bits c) x)) into_items) (lt-ltb _ _ h)

-- ---- composites

abbrev into_parts : Vals → ℕ → List Bool → Read Val
into_parts vs = align (Parts vs)

pub own_parts : (fs : Flds) (o : Outline) (p q k : ℕ) (x y z : List Bool) (vs : Vals) → fields fs p x ≡ Got vs q y → k ≡ q + gap q → z ≡ drop (gap q) y → own (D.Struct fs o) p x ≡ Got (Parts vs) k z
own_parts fs o p q k x y z vs e f g = ap (λ r. and_then r into_parts) e ∙ (λ i. Got (Parts vs) (sym f i) (sym g i))

pub own_parts_fails : (e : Stop) (fs : Flds) (o : Outline) (p : ℕ) (x : List Bool) → Fails e (fields fs p x) → Fails e (own (D.Struct fs o) p x)
own_parts_fails e fs o p x h = fails_then e (fields fs p x) into_parts h

abbrev into_tagged : ℕ → Val → ℕ → List Bool → Read Val
into_tagged n v = align (Tagged n v)

own_union : (fs : Flds) (o : Outline) (w n p k : ℕ) (x z : List Bool) → w ≡ tag_bits (variants fs) → n ≡ number (take w x) → k ≡ p + w → z ≡ drop w x →
    own (D.Union fs o) p x ≡ and_then (variant fs n n k z) (into_tagged n)
own_union fs o w n p k x z is_w e f g =
    let a : number (take (tag_bits (variants fs)) x) ≡ n = ap (λ m. number (take m x)) (sym is_w) ∙ sym e in
    let b : p + tag_bits (variants fs) ≡ k = omega (arith, f, is_w) in
    let d : drop (tag_bits (variants fs)) x ≡ z = ap (λ m. drop m x) (sym is_w) ∙ sym g in
    union_is fs o p x n a ∙ (λ i. and_then (variant fs n n (b i) (d i)) (into_tagged n))

pub own_tagged : (fs : Flds) (o : Outline) (w n p k q j : ℕ) (x z y u : List Bool) (v : Val) → w ≡ tag_bits (variants fs) → n ≡ number (take w x) → k ≡ p + w → z ≡ drop w x →
    variant fs n n k z ≡ Got v q y → j ≡ q + gap q → u ≡ drop (gap q) y → own (D.Union fs o) p x ≡ Got (Tagged n v) j u
own_tagged fs o w n p k q j x z y u v is_w e f g h a b =
    own_union fs o w n p k x z is_w e f g ∙ ap (λ r. and_then r (into_tagged n)) h ∙ (λ i. Got (Tagged n v) (sym a i) (sym b i))

pub own_tagged_fails : (e : Stop) (fs : Flds) (o : Outline) (w n p k : ℕ) (x z : List Bool) → w ≡ tag_bits (variants fs) → n ≡ number (take w x) → k ≡ p + w → z ≡ drop w x →
    Fails e (variant fs n n k z) → Fails e (own (D.Union fs o) p x)
own_tagged_fails s fs o w n p k x z is_w e f g h =
    fails_at s _ (own (D.Union fs o) p x) (sym (own_union fs o w n p k x z is_w e f g)) (fails_then s (variant fs n n k z) (into_tagged n) h)

-- ---- windows

pub part_plain : (s : Sch) (p : ℕ) (x : List Bool) → is_delimited s ≡ false → part s p x ≡ own s p x
part_plain s p x h = ap (λ d. delimited d (own s) p x) h

pub part_window : (s : Sch) (p : ℕ) (x : List Bool) → is_delimited s ≡ true → part s p x ≡ window_read (own s) (number (take 32 x)) (p + 32) (drop 32 x)
part_window s p x h = ap (λ d. delimited d (own s) p x) h

-- a window that is there
pub window_got : (f : ℕ → List Bool → Read Val) (c p k q : ℕ) (x w y z : List Bool) (v : Val) → 8 * c ≤ length x → w ≡ take (8 * c) x → f 0 w ≡ Got v q y → k ≡ p + 8 * c → z ≡ drop (8 * c) x →
    window_read f c p x ≡ Got v k z
window_got f c p k q x w y z v room is_w e is_k is_z =
    cond-false (nat_lt (length x) (8 * c)) (bad [] (BadDelimiter c)) (within (p + 8 * c) (drop (8 * c) x) (f 0 (take (8 * c) x))) (le-ltb _ _ room)
    ∙ ap (λ u. within (p + 8 * c) (drop (8 * c) x) (f 0 u)) (sym is_w)
    ∙ ap (λ u. within (p + 8 * c) (drop (8 * c) x) u) e
    ∙ (λ i. Got v (sym is_k i) (sym is_z i))

pub window_fails : (e : Stop) (f : ℕ → List Bool → Read Val) (c p : ℕ) (x w : List Bool) → 8 * c ≤ length x → w ≡ take (8 * c) x → Fails e (f 0 w) → Fails e (window_read f c p x)
window_fails E.NoMemory f c p x w room is_w h = tt
window_fails (E.Refused b) f c p x w room is_w h =
    cond-false (nat_lt (length x) (8 * c)) (bad [] (BadDelimiter c)) (within (p + 8 * c) (drop (8 * c) x) (f 0 (take (8 * c) x))) (le-ltb _ _ room)
    ∙ ap (λ u. within (p + 8 * c) (drop (8 * c) x) (f 0 u)) (sym is_w)
    ∙ ap (λ u. within (p + 8 * c) (drop (8 * c) x) u) h

pub window_short : (f : ℕ → List Bool → Read Val) (c p : ℕ) (x : List Bool) → length x < 8 * c → window_read f c p x ≡ Bad [] (BadDelimiter c)
window_short f c p x h = cond-true (nat_lt (length x) (8 * c)) (bad [] (BadDelimiter c)) (within (p + 8 * c) (drop (8 * c) x) (f 0 (take (8 * c) x))) (lt-ltb _ _ h)

-- ---- fields

abbrev pub then_fields : Flds → Val → ℕ → List Bool → Read Vals
then_fields fs v q x = and_then (fields fs q x) (λ vs. Got (More v vs))

aligned_is : (d : Bool) (f : ℕ → List Bool → Read Val) (p q : ℕ) (x y : List Bool) → q ≡ p + skipped d p → y ≡ drop (skipped d p) x → aligned d f p x ≡ f q y
aligned_is true f p q x y e g = λ i. f (sym e i) (sym g i)
aligned_is false f p q x y e g = let h : p ≡ q = omega arith in λ i. f (h i) (sym g i)

-- a field that isn't padding, from its place on
pub field_read : (name : List ℕ) (k : Kind) (fs : Flds) (b c : List ℕ) (p q : ℕ) → is_padding k ≡ false → c ≡ b → q ≡ p + skipped (is_aligned (type_of k)) p →
    fields (with_field name k fs) p (behind b p) ≡ and_then (under (Name name) (part (type_of k) q (behind c q))) (then_fields fs)
field_read name (Padding n) fs b c p q h e f = absurd (false≢true (sym h))
field_read name (Typed s) fs b c p q h e f =
    let d = is_aligned s in
    ap (λ r. and_then (under (Name name) r) (then_fields fs)) (aligned_is d (part s) p q (behind b p) (behind c q) f (behind_more b c p q (skipped d p) e f))

pub padding_read : (name : List ℕ) (n : ℕ) (k : Kind) (fs : Flds) (p q : ℕ) (x y : List Bool) → k ≡ Padding n → q ≡ p + n → y ≡ drop n x → fields (with_field name k fs) p x ≡ fields fs q y
padding_read name n k fs p q x y e f g = ap (λ z. fields (with_field name z fs) p x) e ∙ (λ i. fields fs (sym f i) (sym g i))

pub named_got : (name : List ℕ) (r : Read Val) (fs : Flds) (v : Val) (q : ℕ) (y : List Bool) → r ≡ Got v q y → and_then r (then_fields fs) ≡ and_then (fields fs q y) (λ vs. Got (More v vs))
named_got name r fs v q y e = ap (λ z. and_then z (then_fields fs)) e

-- ---- variants

pub variant_first : (name : List ℕ) (k : Kind) (fs : Flds) (tag p : ℕ) (x : List Bool) → is_padding k ≡ false → variant (with_field name k fs) tag 0 p x ≡ under (Name name) (part (type_of k) p x)
variant_first name (Typed s) fs tag p x h = refl
variant_first name (Padding n) fs tag p x h = absurd (false≢true (sym h))

pub variant_later : (name : List ℕ) (k : Kind) (fs : Flds) (tag left p : ℕ) (x : List Bool) → is_padding k ≡ false → 1 ≤ left → variant (with_field name k fs) tag left p x ≡ variant fs tag (left - 1) p x
variant_later name (Typed s) fs tag zero p x h one = absurd (omega arith)
variant_later name (Typed s) fs tag (suc left) p x h one = let e : left ≡ suc left - 1 = omega arith in ap (λ m. variant fs tag m p x) e
variant_later name (Padding n) fs tag left p x h one = absurd (false≢true (sym h))

pub variant_skip : (name : List ℕ) (k : Kind) (fs : Flds) (tag left p : ℕ) (x : List Bool) → is_padding k ≡ true → variant (with_field name k fs) tag left p x ≡ variant fs tag left p x
variant_skip name (Typed s) fs tag left p x h = absurd (false≢true h)
variant_skip name (Padding n) fs tag left p x h = refl

-- a tag that was read is that of a variant
pub tag_within : (fs : Flds) (tag k p : ℕ) (x : List Bool) (v : Val) (q : ℕ) (y : List Bool) → variant fs tag k p x ≡ Got v q y → k < variants fs
tag_within End tag k p x v q y e = cc
tag_within (Pad n fs) tag k p x v q y e = tag_within fs tag k p x v q y e
tag_within (Field name s fs) tag zero p x v q y e = omega arith
tag_within (Field name s fs) tag (suc k) p x v q y e = omega (arith, tag_within fs tag k p x v q y e)

-- ---- what is left to read

-- padding is passed
pub front_padding : (vs : Vals) (name : List ℕ) (k : Kind) (n : ℕ) (b c : List ℕ) (p q : ℕ) → k ≡ Padding n → c ≡ b → q ≡ p + n → (fs : Flds) →
    with_front vs (fields (with_field name k fs) p (behind b p)) ≡ with_front vs (fields fs q (behind c q))
front_padding vs name k n b c p q e f g fs = ap (λ r. with_front vs r) (padding_read name n k fs p q (behind b p) (behind c q) e g (behind_more b c p q n f g))

-- a field is read
pub field_goes : {X : Type 0} (res : Result X Stop) (old new : Vals) (name : List ℕ) (k : Kind) (b c d : List ℕ) (p q r : ℕ) (v : Val) → is_padding k ≡ false → c ≡ b → q ≡ p + skipped (is_aligned (type_of k)) p →
    under (Name name) (part (type_of k) q (behind c q)) ≡ Got v r (behind d r) → ((z : Read Vals) → Goes res (with_front old (and_then z (λ ws. Got (More v ws)))) (with_front new z)) → (fs : Flds) →
    Goes res (with_front old (fields (with_field name k fs) p (behind b p))) (with_front new (fields fs r (behind d r)))
field_goes res old new name k b c d p q r v h e f reads push fs =
    let is : fields (with_field name k fs) p (behind b p) ≡ and_then (fields fs r (behind d r)) (λ ws. Got (More v ws)) =
    field_read name k fs b c p q h e f ∙ ap (λ z. and_then z (then_fields fs)) reads in
    subst (λ x. Goes res x (with_front new (fields fs r (behind d r)))) (ap (λ z. with_front old z) (sym is)) (push (fields fs r (behind d r)))

pub field_fails : (e : Stop) (old : Vals) (name : List ℕ) (k : Kind) (b c : List ℕ) (p q : ℕ) → is_padding k ≡ false → c ≡ b → q ≡ p + skipped (is_aligned (type_of k)) p →
    Fails e (under (Name name) (part (type_of k) q (behind c q))) → (fs : Flds) → Fails e (with_front old (fields (with_field name k fs) p (behind b p)))
field_fails s old name k b c p q h e f fails fs =
    fails_at s _ (with_front old (fields (with_field name k fs) p (behind b p))) (ap (λ z. with_front old z) (sym (field_read name k fs b c p q h e f)))
    (fails_then s _ (λ ws. Got (join old ws)) (fails_then s (under (Name name) (part (type_of k) q (behind c q))) (then_fields fs) fails))

-- one more field
pub fields_next : (items : List F) (i : ℕ) (x : F) (old new : Vals) (p q : ℕ) (u y : List Bool) (all : Read Vals) → i < length items → x ≡ get_or items i x →
    ((fs : Flds) → with_front old (fields (with_field (named x).0 (named x).1 fs) p u) ≡ with_front new (fields fs q y)) →
    with_front old (fields (flds (drop i items)) p u) ≡ all → with_front new (fields (flds (drop (i + 1) items)) q y) ≡ all
fields_next items i x old new p q u y all h at goes inv =
    sym (goes (flds (drop (i + 1) items))) ∙ ap (λ fs. with_front old (fields fs p u)) (sym (flds_next items i x h at)) ∙ inv

pub fields_stop : (e : Stop) (items : List F) (i : ℕ) (x : F) (old : Vals) (p : ℕ) (u : List Bool) (all : Read Vals) → i < length items → x ≡ get_or items i x →
    ((fs : Flds) → Fails e (with_front old (fields (with_field (named x).0 (named x).1 fs) p u))) →
    with_front old (fields (flds (drop i items)) p u) ≡ all → Fails e all
fields_stop e items i x old p u all h at fails inv =
    fails_at e _ all (ap (λ fs. with_front old (fields fs p u)) (sym (flds_next items i x h at)) ∙ inv) (fails (flds (drop (i + 1) items)))

pub fields_end : (items : List F) (i : ℕ) (vs : Vals) (p : ℕ) (u : List Bool) (all : Read Vals) → length items ≤ i → with_front vs (fields (flds (drop i items)) p u) ≡ all → all ≡ Got vs p u
fields_end items i vs p u all h inv = sym inv ∙ ap (λ fs. with_front vs (fields fs p u)) (flds_end items i h) ∙ front_end vs p u

-- the variant of a tag is found
pub variant_here : (items : List F) (i : ℕ) (x : F) (tag left p : ℕ) (u : List Bool) (all : Read Val) → i < length items → x ≡ get_or items i x → is_padding (named x).1 ≡ false → left ≡ 0 →
    variant (flds (drop i items)) tag left p u ≡ all → under (Name (named x).0) (part (type_of (named x).1) p u) ≡ all
variant_here items i x tag left p u all h at typed z inv =
    sym (variant_first (named x).0 (named x).1 (flds (drop (i + 1) items)) tag p u typed)
    ∙ ap (λ m. variant (with_field (named x).0 (named x).1 (flds (drop (i + 1) items))) tag m p u) (sym z)
    ∙ ap (λ fs. variant fs tag left p u) (sym (flds_next items i x h at)) ∙ inv

pub variant_next : (items : List F) (i : ℕ) (x : F) (tag left p : ℕ) (u : List Bool) (all : Read Val) → i < length items → x ≡ get_or items i x → is_padding (named x).1 ≡ false → 1 ≤ left →
    variant (flds (drop i items)) tag left p u ≡ all → variant (flds (drop (i + 1) items)) tag (left - 1) p u ≡ all
variant_next items i x tag left p u all h at typed one inv =
    sym (variant_later (named x).0 (named x).1 (flds (drop (i + 1) items)) tag left p u typed one)
    ∙ ap (λ fs. variant fs tag left p u) (sym (flds_next items i x h at)) ∙ inv

pub variant_padding : (items : List F) (i : ℕ) (x : F) (tag left p : ℕ) (u : List Bool) (all : Read Val) → i < length items → x ≡ get_or items i x → is_padding (named x).1 ≡ true →
    variant (flds (drop i items)) tag left p u ≡ all → variant (flds (drop (i + 1) items)) tag left p u ≡ all
variant_padding items i x tag left p u all h at padding inv =
    sym (variant_skip (named x).0 (named x).1 (flds (drop (i + 1) items)) tag left p u padding)
    ∙ ap (λ fs. variant fs tag left p u) (sym (flds_next items i x h at)) ∙ inv

pub variant_end : (items : List F) (i : ℕ) (tag left p : ℕ) (u : List Bool) (all : Read Val) → length items ≤ i → variant (flds (drop i items)) tag left p u ≡ all → all ≡ Bad [] (BadTag tag)
variant_end items i tag left p u all h inv = sym inv ∙ ap (λ fs. variant fs tag left p u) (flds_end items i h)

pub gives_at : {X A : Type 0} (view : X → A) (res : Result X Stop) (b : List ℕ) (p : ℕ) (r s : Read A) → r ≡ s → Gives view res b p r → Gives view res b p s
gives_at view res b p r s e h = subst (λ x. Gives view res b p x) e h

pub on_ok : {T E : Type 0} (r : Result T E) {P : Type 0} → P → OnOk r P
on_ok (Ok x) h = h
on_ok (Err e) h = tt

-- where a reading gives a value, that follows which follows from it
pub if_given : {X A : Type 0} (view : X → A) (res : Result X Stop) (b : List ℕ) (p : ℕ) (r : Read A) (P : Type 0) → ((v : A) → r ≡ Got v p (behind b p) → P) → Gives view res b p r → OnOk res P
if_given view (Ok x) b p r P f h = f (view x) h
if_given view (Err e) b p r P f h = tt
