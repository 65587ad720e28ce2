-- What the bits of a value of one type read as in an akin one
use Rattle.std.proofs.Common.{◌≡◌, ℕ, zero, suc, ◌+◌, ◌*◌, ◌-◌, ◌/◌, ◌%◌, ◌^◌, ◌<◌, ◌≤◌, Bool, true, false, not, cond, List, [], ◌++◌, length, take, drop, refl, sym, ap, ◌∙◌, subst, arith, length-append, append_assoc}
use Rattle.std.specs.Prelude.{nat_lt}
use Rattle.std.proofs.lemmas.Bool.{ltb-true, true≢false}
use Rattle.std.proofs.lemmas.List.{append-nil, length-replicate, drop_at}
use Rattle.cy_bits.specs.Bits.{number, bits_of, zeros, gap}
use Rattle.dsdl_types.specs.Schemas.{Prim, Sch, Flds, Outline, Simple, Fixed, Var, Struct, Union, End, Pad, Field, is_aligned, is_delimited, holding_bits, length_field_bits, tag_bits, width, variants}
use Rattle.dsdl_types.specs.Values.{Val, Vals, Items, Parts, Tagged, Empty, More, count, on_items}
use Rattle.dsdl_types.specs.Reading.{Read, Got, Name, Index, value_of, and_then, under, delimited, aligned, align, own, fields, variant, part, row}
use Rattle.dsdl_types.specs.Encoding.{own_bits, field_bits, variant_bits, part_bits, each, with_header, padded, lead, simple_bits, raw}
use Rattle.dsdl_types.specs.Cast.{cast_simple, cast, cast_fields, cast_variant}
use Rattle.dsdl_types.specs.Fits.{Fits, FitFields, FitsVariant, AllOf, FitsSimple}
use Rattle.dsdl_types.specs.Sound.{IsSound, AreSound, IsSoundPrim}
use Rattle.dsdl_types.specs.Newer.{convert, convert_fields, convert_variant}
use Rattle.cy_bits.proofs.BitFacts.{length_bits_of, take_bits, drop_bits, zeros-append}
use Rattle.dsdl_types.proofs.Primitives.{raw_fits, raw_is}
use Rattle.dsdl_types.proofs.Lengths.{gap_same, sum_whole, own_whole, part_whole, with_header_length, holding_bits_whole, own_most, length_padded}
use Rattle.dsdl_types.proofs.Steps.{step_is, under_is, counted_is, union_is, var_is}
use Rattle.dsdl_types.proofs.ZeroReads.{zero_fields_read}
use Rattle.dsdl_types.proofs.Akins.{Akin, AkinFields, akin_simple, akin_fixed, akin_var, akin_struct, akin_union, akin_end, akin_pad, akin_field, fewer, more, akin_aligned, akin_delimited, akin_variants}

-- where a type may read past the value, only zeros are there
abbrev pub Ends : Bool → List Bool → Type 0
Ends false tail = Unit {0}
Ends true tail = (k : ℕ) × (tail ≡ zeros k)

-- it reads as a, and, unless it is loose, up to this place with this behind it
pub record ReadsTo {A : Type 0} (r : Read A) (a : A) (loose : Bool) (place : ℕ) (tail : List Bool) : Type 0 where
  pub to : ℕ
  pub left : List Bool
  pub is : r ≡ Got a to left
  pub exact : loose ≡ false → (to ≡ place) × (left ≡ tail)

pub exactly : {A : Type 0} (r : Read A) (a : A) (place : ℕ) (tail : List Bool) → ReadsTo r a false place tail → r ≡ Got a place tail
exactly r a place tail z = let e = z.exact refl in z.is ∙ (λ i. Got a (e.0 i) (e.1 i))

pub ends_more : (l : Bool) (g : ℕ) (tail : List Bool) → Ends l tail → Ends l (zeros g ++ tail)
ends_more false g tail h = tt
ends_more true g tail h = (g + h.0, ap (λ x. zeros g ++ x) h.1 ∙ zeros-append g h.0)

-- a part, from its own bits
pub part_from : (d : Bool) (P : ℕ → Type 0) (f : ℕ → List Bool → Read Val) (l : List Bool) (v : Val) → (d ≡ true → (length l % 8 ≡ 0) × (length l < 2 ^ 35)) → P 0 →
    ((p : ℕ) (tail : List Bool) → P p → Ends d tail → ReadsTo (f p (l ++ tail)) v d (p + length l) tail) →
    (p : ℕ) (tail : List Bool) → P p → delimited d f p (with_header d l ++ tail) ≡ Got v (p + length (with_header d l)) tail
part_from false P f l v b o h p tail hp = exactly (f p (l ++ tail)) v (p + length l) tail (h p tail hp tt)
part_from true P f l v b o h p tail hp =
    let c = length l / 8 in
    let bounds = b refl in
    let z = h 0 [] o (0, refl) in
    let whole : length l ≡ 8 * c = omega (arith, bounds.0) in
    let small : c < 2 ^ 32 = omega (arith, bounds.1) in
    let place : p + 32 + 8 * c ≡ p + length (with_header true l) = omega (arith, with_header_length true l) in
    ap (λ x. delimited true f p x) (append_assoc (bits_of 32 c) l tail)
    ∙ counted_is f p c l tail v z.to z.left whole small (ap (λ x. f 0 x) (sym (append-nil l)) ∙ z.is)
    ∙ ap (λ n. Got v n tail) place

pub part_bounds : (a : Sch) (v : Val) → IsSound a → Fits a v → is_delimited a ≡ true → (length (own_bits a v) % 8 ≡ 0) × (length (own_bits a v) < 2 ^ 35)
part_bounds (Simple t) v i h d = cc
part_bounds (Fixed s n) v i h d = cc
part_bounds (Var s n) v i h d = cc
part_bounds (Struct fs f) v i h d = (own_whole (Struct fs f) v refl, omega (arith, own_most (Struct fs f) v i h, i.0.0, i.0.1))
part_bounds (Union fs f) v i h d = (own_whole (Union fs f) v refl, omega (arith, own_most (Union fs f) v i h, i.0.0, i.0.1))

-- places of a type
abbrev At : Sch → ℕ → Type 0
At a p = is_aligned a ≡ true → p % 8 ≡ 0

abbrev pub OwnReads : Sch → Sch → Type 0
OwnReads a b = (v : Val) → Fits a v → (p : ℕ) (tail : List Bool) → At a p → Ends (is_delimited a) tail →
    ReadsTo (own b p (own_bits a v ++ tail)) (convert a b (cast a v)) (is_delimited a) (p + length (own_bits a v)) tail

abbrev pub PartReads : Sch → Sch → Type 0
PartReads a b = (v : Val) → Fits a v → (p : ℕ) (tail : List Bool) → At a p →
    part b p (part_bits a v ++ tail) ≡ Got (convert a b (cast a v)) (p + length (part_bits a v)) tail

pub part_reads : (a b : Sch) → Akin a b → IsSound a → OwnReads a b → PartReads a b
part_reads a b k i h v f p tail at =
    ap (λ d. delimited d (own b) p (part_bits a v ++ tail)) (sym (akin_delimited a b k))
    ∙ part_from (is_delimited a) (At a) (own b) (own_bits a v) (convert a b (cast a v)) (part_bounds a v i f) (λ _. refl) (h v f) p tail at

row_reads : (f : ℕ → List Bool → Read Val) (g : Val → List Bool) (c k : Val → Val) (P : Val → Type 0) (A : ℕ → Type 0) →
    ((x : Val) → P x → (p : ℕ) (tail : List Bool) → A p → f p (g x ++ tail) ≡ Got (k (c x)) (p + length (g x)) tail) →
    ((x : Val) (p : ℕ) → A p → A (p + length (g x))) →
    (vs : Vals) → AllOf P vs → (i p : ℕ) (tail : List Bool) → A p → row f (count vs) i p (each g vs ++ tail) ≡ Got (on_items k (on_items c vs)) (p + length (each g vs)) tail
row_reads f g c k P A h next Empty a i p tail at = let e : p ≡ p + 0 = omega arith in ap (λ n. Got Empty n tail) e
row_reads f g c k P A h next (More v vs) a i p tail at =
    let here = h v a.0 p (each g vs ++ tail) at in
    let rest = row_reads f g c k P A h next vs a.1 (suc i) (p + length (g v)) tail (next v p at) in
    let place : p + length (g v) + length (each g vs) ≡ p + length (g v ++ each g vs) = omega (arith, length-append (g v) (each g vs)) in
    ap (λ x. row f (suc (count vs)) i p x) (append_assoc (g v) (each g vs) tail)
    ∙ under_is (Index i) (f p (g v ++ (each g vs ++ tail))) (k (c v)) (p + length (g v)) (each g vs ++ tail) _ here
    ∙ step_is (row f (count vs) (suc i) (p + length (g v)) (each g vs ++ tail)) (on_items k (on_items c vs)) (p + length (g v) + length (each g vs)) tail (λ ws. Got (More (k (c v)) ws)) rest
    ∙ ap (λ n. Got (More (k (c v)) (on_items k (on_items c vs))) n tail) place

at_next : (a : Sch) (v : Val) (p : ℕ) → At a p → At a (p + length (part_bits a v))
at_next a v p h al = sum_whole p (length (part_bits a v)) (h al) (part_whole a v al)

items_read : (a b : Sch) → PartReads a b → (vs : Vals) → AllOf (Fits a) vs → (n p : ℕ) (tail : List Bool) → count vs ≡ n → At a p →
    row (part b) n 0 p (each (part_bits a) vs ++ tail) ≡ Got (on_items (convert a b) (on_items (cast a) vs)) (p + length (each (part_bits a) vs)) tail
items_read a b h vs f n p tail e at =
    ap (λ m. row (part b) m 0 p (each (part_bits a) vs ++ tail)) (sym e)
    ∙ row_reads (part b) (part_bits a) (cast a) (convert a b) (Fits a) (At a) (λ x fx q t ax. h x fx q t ax) (at_next a) vs f 0 p tail at

aligned_reads : {A : Type 0} (d : Bool) (f : ℕ → List Bool → Read A) (p q : ℕ) (x : List Bool) → p % 8 ≡ q % 8 → aligned d f p (lead d q ++ x) ≡ f (p + length (lead d q)) x
aligned_reads false f p q x h = let e : p ≡ p + 0 = omega arith in ap (λ n. f n x) e
aligned_reads true f p q x h =
    let e : gap p ≡ gap q = gap_same p q h in
    let place : p + gap p ≡ p + length (zeros (gap q)) = omega (arith, length-replicate (gap q) false) in
    ap (λ n. f (p + gap p) (drop n (zeros (gap q) ++ x))) e
    ∙ ap (λ y. f (p + gap p) y) (drop_at (zeros (gap q)) x (gap q) (length-replicate (gap q) false))
    ∙ ap (λ n. f n x) place

lead_whole : (d : Bool) (p q : ℕ) → p % 8 ≡ q % 8 → d ≡ true → (p + length (lead d q)) % 8 ≡ 0
lead_whole false p q h e = cc
lead_whole true p q h e = omega (arith, length-replicate (gap q) false)

convert_end : (fs : Flds) (vs : Vals) → convert_fields fs End vs ≡ Empty
convert_end End vs = refl
convert_end (Pad n fs) vs = refl
convert_end (Field name s fs) vs = refl

below_if : (b : Bool) (x y t : ℕ) → (b ≡ true → t < 2 ^ x) → (b ≡ false → t < 2 ^ y) → t < 2 ^ cond b x y
below_if true x y t h k = h refl
below_if false x y t h k = k refl

holding_bits_hold : (m t : ℕ) → t ≤ m → m ≤ 2 ^ 20 → t < 2 ^ holding_bits m
holding_bits_hold m t h k =
    below_if (nat_lt m 256) 8 _ t (λ e. let lt : m < 256 = ltb-true m 256 e in omega arith) (λ _.
    below_if (nat_lt m 65536) 16 _ t (λ e. let lt : m < 65536 = ltb-true m 65536 e in omega arith) (λ _.
    below_if (nat_lt m 4294967296) 32 64 t (λ _. omega arith) (λ _. omega arith)))

variant_below : (fs : Flds) (k : ℕ) (v : Val) → FitsVariant fs k v → k < variants fs
variant_below End k v h = absurd h
variant_below (Pad n fs) k v h = variant_below fs k v h
variant_below (Field name s fs) zero v h = omega arith
variant_below (Field name s fs) (suc k) v h = omega (arith, variant_below fs k v h)

simple_reads : (t : Prim) (v : Val) → IsSoundPrim t → FitsSimple t v → (p : ℕ) (tail : List Bool) →
    ReadsTo (own (Simple t) p (simple_bits t v ++ tail)) (cast_simple t v) false (p + length (simple_bits t v)) tail
simple_reads t v i h p tail =
    let w = width t in
    let x = raw w (cast_simple t v) in
    record {
      to = p + w;
      left = tail;
      is = ap (λ n. Got (value_of t n) (p + w) (drop w (bits_of w x ++ tail))) (take_bits w x tail (raw_fits t v i h))
          ∙ ap (λ u. Got u (p + w) (drop w (bits_of w x ++ tail))) (raw_is t v i h)
          ∙ ap (λ y. Got (cast_simple t v) (p + w) y) (drop_bits w x tail);
      exact = λ _. (ap (λ n. p + n) (sym (length_bits_of w x)), refl);
    }

-- up to a multiple of 8 behind what was read
padded_reads : {A B : Type 0} (r : List Bool → Read A) (a : A) (k : A → B) (l : Bool) (p : ℕ) (bs tail : List Bool) → p % 8 ≡ 0 →
    ((end : List Bool) → Ends l end → ReadsTo (r (bs ++ end)) a l (p + length bs) end) → Ends l tail →
    ReadsTo (and_then (r (padded bs ++ tail)) (λ v q more. align (k v) q more)) (k a) l (p + length (padded bs)) tail
padded_reads r a k l p bs tail whole h ends =
    let g = gap (length bs) in
    let z = h (zeros g ++ tail) (ends_more l g tail ends) in
    record {
      to = z.to + gap z.to;
      left = drop (gap z.to) z.left;
      is = ap (λ x. and_then (r x) (λ v q more. align (k v) q more)) (append_assoc bs (zeros g) tail)
          ∙ step_is (r (bs ++ (zeros g ++ tail))) a z.to z.left (λ v q more. align (k v) q more) z.is;
      exact = λ e.
          let x = z.exact e in
          let same : gap (p + length bs) ≡ g = gap_same (p + length bs) (length bs) (omega arith) in
          let to_is : gap z.to ≡ g = ap gap x.0 ∙ same in
          let place : p + length bs + g ≡ p + length (padded bs) = omega (arith, length_padded bs) in
          ((λ i. x.0 i + to_is i) ∙ place, (λ i. drop (to_is i) (x.1 i)) ∙ drop_at (zeros g) tail g (length-replicate g false));
    }

loosen : {A : Type 0} (l : Bool) (r : Read A) (a : A) (place : ℕ) (tail : List Bool) → ReadsTo r a false place tail → ReadsTo r a l place tail
loosen l r a place tail z = record { to = z.to; left = z.left; is = z.is; exact = λ _. z.exact refl }

union_reads : (gs : Flds) (f : Outline) (w t p : ℕ) (here tail : List Bool) (u : Val) → w ≡ tag_bits (variants gs) → t < 2 ^ w → p % 8 ≡ 0 →
    ((end : List Bool) → variant gs t t (p + w) (here ++ end) ≡ Got u (p + w + length here) end) →
    ReadsTo (own (Union gs f) p (padded (bits_of w t ++ here) ++ tail)) (Tagged t u) false (p + length (padded (bits_of w t ++ here))) tail
union_reads gs f w t p here tail u e small whole h =
    let bs = bits_of w t ++ here in
    let r : List Bool → Read Val = λ x. variant gs t t (p + w) (drop w x) in
    let place : p + w + length here ≡ p + length bs = omega (arith, length-append (bits_of w t) here, length_bits_of w t) in
    let z = padded_reads r u (λ v. Tagged t v) false p bs tail whole (λ end _. record {
      to = p + w + length here;
      left = end;
      is = ap (λ x. variant gs t t (p + w) (drop w x)) (append_assoc (bits_of w t) here end) ∙ ap (λ x. variant gs t t (p + w) x) (drop_bits w t (here ++ end)) ∙ h end;
      exact = λ _. (place, refl);
    }) tt in
    let rest = padded bs ++ tail in
    let regroup : rest ≡ bits_of w t ++ (here ++ (zeros (gap (length bs)) ++ tail)) = append_assoc bs (zeros (gap (length bs))) tail ∙ append_assoc (bits_of w t) here (zeros (gap (length bs)) ++ tail) in
    let tag_is : number (take w rest) ≡ t = ap (λ x. number (take w x)) regroup ∙ take_bits w t (here ++ (zeros (gap (length bs)) ++ tail)) small in
    record {
      to = z.to;
      left = z.left;
      is = union_is gs f p rest t (subst (λ n. number (take n rest) ≡ t) e tag_is)
          ∙ ap (λ n. and_then (variant gs t t (p + n) (drop n rest)) (λ v q more. align (Tagged t v) q more)) (sym e)
          ∙ z.is;
      exact = z.exact;
    }

mutual
  pub own_reads : (a b : Sch) → Akin a b → IsSound a → IsSound b → OwnReads a b
  own_reads _ _ (akin_simple {t = t}) i j v h p tail at ends = simple_reads t v i h p tail
  own_reads _ _ (akin_fixed {a = a} {b = b} {n = n} k) i j (Items vs) h p tail at ends =
      let e = items_read a b (part_reads a b k i (own_reads a b k i j)) vs h.1 n p tail h.0 at in
      record {
        to = p + length (each (part_bits a) vs);
        left = tail;
        is = step_is (row (part b) n 0 p (each (part_bits a) vs ++ tail)) (on_items (convert a b) (on_items (cast a) vs)) (p + length (each (part_bits a) vs)) tail (λ ws. Got (Items ws)) e;
        exact = λ _. (refl, refl);
      }
  own_reads _ _ (akin_fixed k) i j v h p tail at ends = absurd h
  own_reads _ _ (akin_var {a = a} {b = b} {n = n} k) i j (Items vs) h p tail at ends =
      let w = length_field_bits n in
      let c = count vs in
      let more = each (part_bits a) vs in
      let small : c < 2 ^ w = holding_bits_hold n c h.0 i.0 in
      let e = items_read a b (part_reads a b k i.1 (own_reads a b k i.1 j.1)) vs h.1 c (p + w) tail refl (λ al. sum_whole p w (at al) (holding_bits_whole n)) in
      let place : p + w + length more ≡ p + length (bits_of w c ++ more) = omega (arith, length-append (bits_of w c) more, length_bits_of w c) in
      record {
        to = p + w + length more;
        left = tail;
        is = ap (λ x. own (Var b n) p x) (append_assoc (bits_of w c) more tail)
            ∙ var_is b n p (bits_of w c ++ (more ++ tail)) c (take_bits w c (more ++ tail) small) h.0
            ∙ ap (λ x. and_then (row (part b) c 0 (p + w) x) (λ ws. Got (Items ws))) (drop_bits w c (more ++ tail))
            ∙ step_is (row (part b) c 0 (p + w) (more ++ tail)) (on_items (convert a b) (on_items (cast a) vs)) (p + w + length more) tail (λ ws. Got (Items ws)) e;
        exact = λ _. (place, refl);
      }
  own_reads _ _ (akin_var k) i j v h p tail at ends = absurd h
  own_reads _ _ (akin_struct {fs = fs} {gs = gs} {f = f} k) i j (Parts vs) h p tail at ends =
      padded_reads (fields gs p) (convert_fields fs gs (cast_fields fs vs)) (λ ws. Parts ws) (not f.sealed) p (field_bits fs 0 vs) tail (at refl)
      (λ end e. fields_read (not f.sealed) fs gs k i.1 j.1 vs h p 0 end (at refl) e) ends
  own_reads _ _ (akin_struct k) i j v h p tail at ends = absurd h
  own_reads _ _ (akin_union {fs = fs} {gs = gs} {f = f} k) i j (Tagged t v) h p tail at ends =
      let w = tag_bits (variants fs) in
      let here = variant_bits fs t v in
      let small : t < 2 ^ w = holding_bits_hold (variants fs - 1) t (omega (arith, variant_below fs t v h)) (omega (arith, i.1)) in
      loosen (not f.sealed) _ _ _ _
      (union_reads gs f w t p here tail (convert_variant fs gs t (cast_variant fs t v)) (ap tag_bits (akin_variants fs gs k)) small (at refl)
      (λ end. variant_read fs gs k i.2 j.2 t t v h (p + w) end (sum_whole p w (at refl) (holding_bits_whole (variants fs - 1)))))
  own_reads _ _ (akin_union k) i j v h p tail at ends = absurd h

  pub fields_read : (l : Bool) (fs gs : Flds) → AkinFields l fs gs → AreSound fs → AreSound gs → (vs : Vals) → FitFields fs vs → (p q : ℕ) (tail : List Bool) → p % 8 ≡ q % 8 → Ends l tail →
      ReadsTo (fields gs p (field_bits fs q vs ++ tail)) (convert_fields fs gs (cast_fields fs vs)) l (p + length (field_bits fs q vs)) tail
  fields_read l _ _ akin_end i j vs h p q tail e ends = let place : p ≡ p + 0 = omega arith in record { to = p; left = tail; is = refl; exact = λ _. (place, refl) }
  fields_read l _ _ (akin_pad {fs = fs} {gs = gs} {n = n} k) i j vs h p q tail e ends =
      let rest = field_bits fs (q + n) vs in
      let z = fields_read l fs gs k i j vs h (p + n) (q + n) tail (omega arith) ends in
      let place : p + n + length rest ≡ p + length (zeros n ++ rest) = omega (arith, length-append (zeros n) rest, length-replicate n false) in
      record {
        to = z.to;
        left = z.left;
        is = ap (λ x. fields gs (p + n) (drop n x)) (append_assoc (zeros n) rest tail)
            ∙ ap (λ x. fields gs (p + n) x) (drop_at (zeros n) (rest ++ tail) n (length-replicate n false))
            ∙ z.is;
        exact = λ x. let y = z.exact x in (y.0 ∙ place, y.1);
      }
  fields_read l _ _ (akin_field {name' = name} {a = a} {b = b} {fs = fs} {gs = gs} k m) i j Empty h p q tail e ends = absurd h
  fields_read l _ _ (akin_field {name' = name} {a = a} {b = b} {fs = fs} {gs = gs} k m) i j (More v vs) h p q tail e ends =
      let front = lead (is_aligned a) q in
      let here = part_bits a v in
      let rest = field_bits fs (q + (length front + length here)) vs in
      let c = convert a b (cast a v) in
      let r = aligned (is_aligned b) (part b) p ((front ++ (here ++ rest)) ++ tail) in
      let first_is : r ≡ Got c (p + length front + length here) (rest ++ tail) =
      ap (λ d. aligned d (part b) p ((front ++ (here ++ rest)) ++ tail)) (sym (akin_aligned a b k))
      ∙ ap (λ x. aligned (is_aligned a) (part b) p x) (append_assoc front (here ++ rest) tail)
      ∙ aligned_reads (is_aligned a) (part b) p q ((here ++ rest) ++ tail) e
      ∙ ap (λ x. part b (p + length front) x) (append_assoc here rest tail)
      ∙ part_reads a b k i.0 (own_reads a b k i.0 j.0) v h.0 (p + length front) (rest ++ tail) (λ al. lead_whole (is_aligned a) p q e al) in
      let z = fields_read l fs gs m i.1 j.1 vs h.1 (p + length front + length here) (q + (length front + length here)) tail (omega arith) ends in
      let place : p + length front + length here + length rest ≡ p + length (front ++ (here ++ rest)) = omega (arith, length-append front (here ++ rest), length-append here rest) in
      record {
        to = z.to;
        left = z.left;
        is = under_is (Name name) r c (p + length front + length here) (rest ++ tail) (λ u x y. and_then (fields gs x y) (λ ws. Got (More u ws))) first_is
            ∙ step_is (fields gs (p + length front + length here) (rest ++ tail)) (convert_fields fs gs (cast_fields fs vs)) z.to z.left (λ ws. Got (More c ws)) z.is;
        exact = λ x. let y = z.exact x in (y.0 ∙ place, y.1);
      }
  fields_read _ _ _ (fewer {fs = fs}) i j vs h p q tail e ends = record {
    to = p;
    left = field_bits fs q vs ++ tail;
    is = ap (λ ws. Got ws p (field_bits fs q vs ++ tail)) (sym (convert_end fs (cast_fields fs vs)));
    exact = λ x. absurd (true≢false x);
  }
  fields_read _ _ _ (more {gs = gs}) i j vs h p q tail e ends =
      let z = zero_fields_read gs j p ends.0 in
      record { to = z.place; left = zeros z.left; is = ap (λ x. fields gs p x) ends.1 ∙ z.is; exact = λ x. absurd (true≢false x) }

  pub variant_read : (fs gs : Flds) → AkinFields false fs gs → AreSound fs → AreSound gs → (tag k : ℕ) (v : Val) → FitsVariant fs k v → (p : ℕ) (tail : List Bool) → p % 8 ≡ 0 →
      variant gs tag k p (variant_bits fs k v ++ tail) ≡ Got (convert_variant fs gs k (cast_variant fs k v)) (p + length (variant_bits fs k v)) tail
  variant_read _ _ akin_end i j tag k v h p tail e = absurd h
  variant_read _ _ (akin_pad {fs = fs} {gs = gs} m) i j tag k v h p tail e = variant_read fs gs m i j tag k v h p tail e
  variant_read _ _ (akin_field {name' = name} {a = a} {b = b} {fs = fs} {gs = gs} m n) i j tag zero v h p tail e =
      ap (λ x. under (Name name) x) (part_reads a b m i.0 (own_reads a b m i.0 j.0) v h p tail (λ _. e))
  variant_read _ _ (akin_field {fs = fs} {gs = gs} m n) i j tag (suc k) v h p tail e = variant_read fs gs n i.1 j.1 tag k v h p tail e
