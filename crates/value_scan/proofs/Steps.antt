-- Steps of scanning.
use Rattle.std.proofs.Common.{◌≡◌, ◌∙◌, ℕ, ◌+◌, ◌-◌, ◌*◌, ◌%◌, ◌<◌, ◌≤◌, Bool, true, false, List, [], ◌∷◌, ◌++◌, length, take, drop, get_or, append_assoc, length-append, length-take, refl, sym, ap, subst, arith, Result, Ok, Err, OnOk}
use Rattle.std.proofs.lemmas.List.{append-nil, drop-drop, drop-take, take-take}
use Rattle.cy_bits.proofs.BitFacts.{length_bits_of}
use Rattle.std.proofs.Common.{zero, suc, ◌/◌, ◌==◌, rules, ◌^◌, min, pos, take_at, drop_at, mod-eq_of_lt}
use Rattle.dsdl_types.specs.Cast.{cast_uint}
use Rattle.std.proofs.lemmas.Bool.{false≢true, lt-ltb}
use Rattle.std.specs.Prelude.{codes, IfOk, if◌then◌else◌}
use Rattle.std.proofs.Common.{◌&&◌, negsuc, slice_index, take-append-drop}
use Rattle.std.specs.Fmt.{decimal, signed_decimal}
use Rattle.hex.specs.Hex.{encode_upper, encode_with, upper_digits}
use Rattle.cy_bits.specs.Bits.{bits, bits_of, bytes, zeros, gap}
use Rattle.cy_bits.specs.Put.{put_bits}
use Rattle.cy_bits.proofs.BitPlaces.{length_bits}
use Rattle.cy_bits.proofs.BitPuts.{zero_bits}
use Rattle.dsdl_types.specs.Encoding.{each, field_bits, own_bits, padded, part_bits}
use Rattle.dsdl_types.specs.Encoding as E
use Rattle.dsdl_types.specs.Fits.{AllOf, Fits, FitFields}
use Rattle.dsdl_types.specs.Schemas.{PBool, PFloat, PInt, PUint, Flds, Outline, End, Pad, Field, is_aligned, is_delimited, length_field_bits, tag_bits, variants}
use Rattle.dsdl_types.specs.Schemas as D
use Rattle.dsdl_types.specs.Values.{Vals, Num, Empty, More, Items, Parts, Tagged, count}
use Rattle.dsdl_types.specs.Views.{Kind, Typed, Padding, is_padding, type_of, with_field, named, flds, body_of}
use Rattle.dsdl_types.specs.declared.schema.Field.{Field as F}
use Rattle.dsdl_types.specs.declared.schema.Body.{Body, out-Body}
use Rattle.wire_values.proofs.Schemata.{flds_next, flds_end, fields_are}
use Rattle.wire_values.proofs.Writings.{front_bits, padding_bits}
use Rattle.value_text.specs.Texts.{are_bytes, array_text, byte_text, field_texts, in_a_row, is_uint8, texts, value_text, variant_text}
use Rattle.value_text.specs.Words.{entry, following, hex_digits, in_brackets, lead, separated}
use Rattle.value_scan.specs.Scanned.{rest_of, Scans, Leaves, LeavesRow, LeavesVariant, RowScans, VariantScans}
use Rattle.value_scan.specs.Bytes.{ScansBytes}
use Rattle.value_scan.specs.Written.{written}
use Rattle.value_scan.specs.declared.bit_buffer.BitBuffer.{BitBuffer}

pub on_ok : {T E : Type 0} (r : Result T E) {A B : Type 0} → (A → B) → OnOk r A → OnOk r B
on_ok (Ok x) f h = f h
on_ok (Err x) f h = tt

-- as many bits as the place says
pub place_is : (b : BitBuffer) → length (written b) ≡ b.place
place_is b = omega (arith, length-take b.place (bits b.bytes.items), length_bits b.bytes.items, b.within)

pub gap_put : (p n : ℕ) → n ≡ p % 8 * 7 % 8 → bits_of n 0 ≡ zeros (gap p)
gap_put p n e = let g : n ≡ gap p = omega (arith, e) in ap (λ k. bits_of k 0) g ∙ zero_bits (gap p)

rest_next : (b : Bool) (t : List ℕ) (ts : List (List ℕ)) → rest_of b (t ∷ ts) ≡ lead b ++ (t ++ following ts)
rest_next true t ts = refl
rest_next false t ts = refl

rest_none : (b : Bool) → rest_of b [] ≡ []
rest_none true = refl
rest_none false = refl

regroup : (l n c t f e : List ℕ) → l ++ (n ++ (c ++ (t ++ (f ++ e)))) ≡ (l ++ ((n ++ (c ++ t)) ++ f)) ++ e
regroup l n c t f e = simp append_assoc

joined : {A : Type 0} (a b c d : List A) → ((a ++ b) ++ c) ++ d ≡ a ++ ((b ++ c) ++ d)
joined a b c d = simp append_assoc

-- a field that isn't padding
pub named_left : (name : List ℕ) (k : Kind) (first : Bool) (before mid after : List ℕ) (w0 w1 w2 : List Bool) (p q : ℕ) → is_padding k ≡ false →
    before ≡ lead first ++ (name ++ (codes ": " ++ mid)) → w1 ≡ w0 ++ E.lead (is_aligned (type_of k)) p →
    q + length w0 ≡ p + length w2 →
    Scans (λ v. Fits (type_of k) v) (λ v. value_text (type_of k) v) (λ v. part_bits (type_of k) v) mid after w1 w2 →
    (fs : Flds) → Leaves before after w0 w2 first (with_field name k fs) p false fs q
named_left name (Padding n) first before mid after w0 w1 w2 p q h e f g part fs = absurd (false≢true (sym h))
named_left name (Typed s) first before mid after w0 w1 w2 p q h e f g part fs = λ end all rest.
    let a = E.lead (is_aligned s) p in
    let b = part_bits s part.value in
    let t = value_text s part.value in
    let ts = field_texts fs rest.value in
    let size : q ≡ p + length (a ++ b) = omega (arith, g, ap length part.put, ap length f, length-append w1 b, length-append w0 a, length-append a b) in
    record {
      value = More part.value rest.value;
      fits = (part.fits, rest.fits);
      spelled = e
          ∙ ap (λ x. lead first ++ (name ++ (codes ": " ++ x))) (part.spelled ∙ ap (λ x. t ++ x) rest.spelled)
          ∙ regroup (lead first) name (codes ": ") t (following ts) end
          ∙ ap (λ x. x ++ end) (sym (rest_next first (entry name t) ts));
      put = rest.put
          ∙ ap (λ x. x ++ field_bits fs q rest.value) (part.put ∙ ap (λ x. x ++ b) f)
          ∙ joined w0 a b (field_bits fs q rest.value)
          ∙ ap (λ m. w0 ++ ((a ++ b) ++ field_bits fs m rest.value)) size
          ∙ ap (λ x. w0 ++ x) (sym (front_bits name (Typed s) fs p part.value rest.value h));
    }

-- padding
pub padding_left : (name : List ℕ) (n : ℕ) (k : Kind) (first : Bool) (before : List ℕ) (w0 w1 : List Bool) (p q : ℕ) → k ≡ Padding n → w1 ≡ w0 ++ bits_of n 0 → q ≡ p + n →
    (fs : Flds) → Leaves before before w0 w1 first (with_field name k fs) p first fs q
padding_left name n k first before w0 w1 p q e f g fs =
    subst (λ z. Leaves before before w0 w1 first (with_field name z fs) p first fs q) (sym e) (λ end all rest. record {
      value = rest.value;
      fits = rest.fits;
      spelled = rest.spelled;
      put = rest.put
          ∙ ap (λ x. x ++ field_bits fs q rest.value) f
          ∙ append_assoc w0 (bits_of n 0) (field_bits fs q rest.value)
          ∙ ap (λ m. w0 ++ (bits_of n 0 ++ field_bits fs m rest.value)) g
          ∙ ap (λ x. w0 ++ x) (sym (padding_bits name n (Padding n) fs p rest.value refl));
    })

pub left_start : (before : List ℕ) (w : List Bool) (fs : Flds) (p : ℕ) → p ≡ 0 → Leaves before before w w true fs 0 true fs p
left_start before w fs p e = λ end all rest. subst (λ m. Scans (λ vs. FitFields fs vs) (λ vs. separated (field_texts fs vs)) (λ vs. field_bits fs m vs) before end w all) e rest

-- one more field
pub left_next : (items : List F) (i : ℕ) (x : F) (a b c : List ℕ) (u v w : List Bool) (all : Flds) (first next : Bool) (p q : ℕ) → i < length items → x ≡ get_or items i x →
    Leaves a b u v true all 0 first (flds (drop i items)) p →
    ((fs : Flds) → Leaves b c v w first (with_field (named x).0 (named x).1 fs) p next fs q) →
    Leaves a c u w true all 0 next (flds (drop (i + 1) items)) q
left_next items i x a b c u v w all first next p q h at so_far one = λ end bits rest.
    let fs = flds (drop (i + 1) items) in
    so_far end bits (subst (λ gs. Scans (λ vs. FitFields gs vs) (λ vs. rest_of first (field_texts gs vs)) (λ vs. field_bits gs p vs) b end v bits) (sym (flds_next items i x h at)) (one fs end bits rest))

pub left_end : (body : Body) (items : List F) (i : ℕ) (a b : List ℕ) (u v : List Bool) (first : Bool) (p : ℕ) → items ≡ (out-Body body).fields → length items ≤ i →
    Leaves a b u v true (flds items) 0 first (flds (drop i items)) p →
    Scans (λ vs. FitFields (body_of body).0 vs) (λ vs. separated (field_texts (body_of body).0 vs)) (λ vs. field_bits (body_of body).0 0 vs) a b u v
left_end body items i a b u v first p are h all =
    let none : Scans (λ vs. FitFields End vs) (λ vs. rest_of first (field_texts End vs)) (λ vs. field_bits End p vs) b b v v =
    record { value = Empty; fits = tt; spelled = ap (λ x. x ++ b) (sym (rest_none first)); put = sym (append-nil v) } in
    subst (λ fs. Scans (λ vs. FitFields fs vs) (λ vs. separated (field_texts fs vs)) (λ vs. field_bits fs 0 vs) a b u v) (fields_are body items are)
    (all b v (subst (λ gs. Scans (λ vs. FitFields gs vs) (λ vs. rest_of first (field_texts gs vs)) (λ vs. field_bits gs p vs) b b v v) (sym (flds_end items i h)) none))

-- a structure
pub struct_scanned : (fs : Flds) (o : Outline) (a b c d : List ℕ) (u v w : List Bool) (n : ℕ) → a ≡ codes "{" ++ b → c ≡ codes "}" ++ d → length v ≡ n + length u → w ≡ v ++ E.lead true n →
    Scans (λ vs. FitFields fs vs) (λ vs. separated (field_texts fs vs)) (λ vs. field_bits fs 0 vs) b c u v →
    Scans (λ x. Fits (D.Struct fs o) x) (λ x. value_text (D.Struct fs o) x) (λ x. own_bits (D.Struct fs o) x) a d u w
struct_scanned fs o a b c d u v w n e f g h inner =
    let t = separated (field_texts fs inner.value) in
    let l = field_bits fs 0 inner.value in
    let size : n ≡ length l = omega (arith, g, ap length inner.put, length-append u l) in
    record {
      value = Parts inner.value;
      fits = inner.fits;
      spelled = e ∙ ap (λ x. codes "{" ++ x) (inner.spelled ∙ ap (λ x. t ++ x) f) ∙ (let all : codes "{" ++ (t ++ (codes "}" ++ d)) ≡ (codes "{" ++ (t ++ codes "}")) ++ d = simp append_assoc in all);
      put = h ∙ ap (λ x. x ++ zeros (gap n)) inner.put ∙ append_assoc u l (zeros (gap n)) ∙ ap (λ m. u ++ (l ++ zeros (gap m))) size;
    }

pub on_both : {T E : Type 0} (r : Result T E) {A B C : Type 0} → (A → B → C) → OnOk r A → OnOk r B → OnOk r C
on_both (Ok x) f h k = f h k
on_both (Err x) f h k = tt

-- bits behind those that were put
pub more_written : (old new : List Bool) (p q : ℕ) (l : List Bool) → p ≤ length old → q ≡ p + length l → new ≡ put_bits old p l → take q new ≡ take p old ++ l
unfolding put_bits
more_written old new p q l h e f =
    let size : length (take p old ++ l) ≡ q = omega (arith, e, length-append (take p old) l, length-take p old, h) in
    ap (λ x. take q x) (f ∙ sym (append_assoc (take p old) l (drop (p + length l) old)))
    ∙ take_at (take p old ++ l) (drop (p + length l) old) q size

-- a text that stands there
pub eaten : (line text rest : List ℕ) (at next : ℕ) → drop at line ≡ text ++ rest → next ≡ at + length text → drop at line ≡ text ++ drop next line
eaten line text rest at next e f =
    let behind : drop next line ≡ rest = ap (λ n. drop n line) f ∙ sym (drop-drop (length text) at line) ∙ ap (λ x. drop (length text) x) e ∙ drop_at text rest (length text) refl in
    e ∙ ap (λ x. text ++ x) (sym behind)

pub cast_small : (w n : ℕ) (c : Bool) → n < 2 ^ w → n ≡ cast_uint w c (pos n)
cast_small w n true h = let e : n ≡ min n (2 ^ w - 1) = omega (arith, h) in e
cast_small w n false h = sym (mod-eq_of_lt h)

-- ---- headers

take_more : {A : Type 0} (a b : List A) (n m : ℕ) → n ≡ length a + m → take n (a ++ b) ≡ a ++ take m b
take_more [] b n m e = ap (λ k. take k b) (let f : n ≡ m = omega (arith, e) in f)
take_more (x ∷ a) b n m e = let f : n ≡ suc (length a + m) = omega (arith, e) in ap (λ k. take k (x ∷ (a ++ b))) f ∙ ap (λ l. x ∷ l) (take_more a b (length a + m) m refl)

pub patched : (old new : List Bool) (p n : ℕ) (l : List Bool) → p + length l ≤ n → n ≤ length old → new ≡ put_bits old p l →
    take n new ≡ take p (take n old) ++ (l ++ drop (p + length l) (take n old))
unfolding put_bits
patched old new p n l inside few f =
    let k = length l in
    let front : length (take p old) ≡ p = omega (arith, length-take p old, inside, few) in
    let m : n ≡ length (take p old) + (k + (n - (p + k))) = omega (arith, front, inside) in
    let whole : n ≡ (p + k) + (n - (p + k)) = omega (arith, inside) in
    ap (λ x. take n x) f
    ∙ take_more (take p old) (l ++ drop (p + k) old) n (k + (n - (p + k))) m
    ∙ ap (λ x. take p old ++ x) (take_more l (drop (p + k) old) (k + (n - (p + k))) (n - (p + k)) refl)
    ∙ (λ i. sym (take-take p n old (omega (arith, inside))) i ++ (l ++ sym (ap (λ j. drop (p + k) (take j old)) whole ∙ drop-take (p + k) (n - (p + k)) old) i))

-- a header in the place of as many bits
pub header_put : (w0 w1 w2 w3 z l h : List Bool) (place : ℕ) → w1 ≡ w0 ++ z → w2 ≡ w1 ++ l → place ≡ length w0 → length z ≡ length h → w3 ≡ take place w2 ++ (h ++ drop (place + length h) w2) → w3 ≡ w0 ++ (h ++ l)
header_put w0 w1 w2 w3 z l h place e f g size patch =
    let whole : w2 ≡ (w0 ++ z) ++ l = f ∙ ap (λ x. x ++ l) e in
    let front : take place w2 ≡ w0 = ap (λ x. take place x) (whole ∙ append_assoc w0 z l) ∙ take_at w0 (z ++ l) place (sym g) in
    let rest : drop (place + length h) w2 ≡ l = ap (λ x. drop (place + length h) x) whole ∙ drop_at (w0 ++ z) l (place + length h) (omega (arith, length-append w0 z, g, size)) in
    patch ∙ (λ i. front i ++ (h ++ rest i))

-- a delimited part
pub counted_part : (s : D.Sch) (before after : List ℕ) (w0 w1 w2 w3 : List Bool) (place n : ℕ) → is_delimited s ≡ true → w1 ≡ w0 ++ bits_of 32 0 → place ≡ length w0 → n ≡ (length w2 - length w0 - 32) / 8 →
    w3 ≡ take place w2 ++ (bits_of 32 n ++ drop (place + length (bits_of 32 n)) w2) →
    Scans (λ v. Fits s v) (λ v. value_text s v) (λ v. own_bits s v) before after w1 w2 →
    Scans (λ v. Fits s v) (λ v. value_text s v) (λ v. part_bits s v) before after w0 w3
counted_part s before after w0 w1 w2 w3 place n d e g size patch own =
    let l = own_bits s own.value in
    let count : n ≡ length l / 8 = omega (arith, size, ap length own.put, ap length e, length-append w1 l, length-append w0 (bits_of 32 0), length_bits_of 32 0) in
    record {
      value = own.value;
      fits = own.fits;
      spelled = own.spelled;
      put = header_put w0 w1 w2 w3 (bits_of 32 0) l (bits_of 32 n) place e own.put g (length_bits_of 32 0 ∙ sym (length_bits_of 32 n)) patch
          ∙ ap (λ m. w0 ++ (bits_of 32 m ++ l)) count
          ∙ ap (λ b. w0 ++ E.with_header b l) (sym d);
    }

pub plain_part : (s : D.Sch) (before after : List ℕ) (old new : List Bool) → is_delimited s ≡ false → Scans (λ v. Fits s v) (λ v. value_text s v) (λ v. own_bits s v) before after old new →
    Scans (λ v. Fits s v) (λ v. value_text s v) (λ v. part_bits s v) before after old new
plain_part s before after old new d own = record { value = own.value; fits = own.fits; spelled = own.spelled; put = own.put ∙ ap (λ b. old ++ E.with_header b (own_bits s own.value)) (sym d) }

-- ---- arrays

pub item_left : (s : D.Sch) (first : Bool) (before mid after : List ℕ) (w0 w1 : List Bool) → before ≡ lead first ++ mid →
    Scans (λ v. Fits s v) (λ v. value_text s v) (λ v. part_bits s v) mid after w0 w1 → LeavesRow s before after w0 w1 first 1 false
item_left s first before mid after w0 w1 e part = λ n end all rest.
    let t = value_text s part.value in
    let ts = texts (λ v. value_text s v) rest.value in
    let size : suc (count rest.value) ≡ 1 + n = omega (arith, rest.fits.0) in
    record {
      value = More part.value rest.value;
      fits = (size, (part.fits, rest.fits.1));
      spelled = e ∙ ap (λ x. lead first ++ x) (part.spelled ∙ ap (λ x. t ++ x) rest.spelled)
          ∙ (let all : lead first ++ (t ++ (following ts ++ end)) ≡ (lead first ++ (t ++ following ts)) ++ end = simp append_assoc in all)
          ∙ ap (λ x. x ++ end) (sym (rest_next first t ts));
      put = rest.put ∙ ap (λ x. x ++ each (λ v. part_bits s v) rest.value) part.put ∙ append_assoc w0 (part_bits s part.value) (each (λ v. part_bits s v) rest.value);
    }

first_index : (i : ℕ) → (i + 1 == 0) ≡ false
first_index i = search rules

pub row_left_start : (s : D.Sch) (before : List ℕ) (w : List Bool) → LeavesRow s before before w w true 0 (0 == 0)
row_left_start s before w = λ n end all rest. let e : n ≡ 0 + n = omega arith in subst (λ m. RowScans s true m before end w all) e rest

pub row_left_next : (s : D.Sch) (a b c : List ℕ) (u v w : List Bool) (i : ℕ) → LeavesRow s a b u v true i (i == 0) → LeavesRow s b c v w (i == 0) 1 false → LeavesRow s a c u w true (i + 1) (i + 1 == 0)
row_left_next s a b c u v w i so_far one = λ n end all rest.
    let e : i + (1 + n) ≡ i + 1 + n = omega arith in
    subst (λ m. RowScans s true m a end u all) e (so_far (1 + n) end all (one n end all (subst (λ f. RowScans s f n c end w all) (first_index i) rest)))

pub row_left_end : (s : D.Sch) (a b : List ℕ) (u v : List Bool) (i : ℕ) (first : Bool) → LeavesRow s a b u v true i first → RowScans s true i a b u v
row_left_end s a b u v i first all =
    let e : i + 0 ≡ i = omega arith in
    subst (λ m. RowScans s true m a b u v) e (all 0 b v (record { value = Empty; fits = (refl, tt); spelled = ap (λ x. x ++ b) (sym (rest_none first)); put = sym (append-nil v) }))

pub array_scanned : (s : D.Sch) (n : ℕ) (a b c d : List ℕ) (u v : List Bool) → is_uint8 s ≡ false → a ≡ codes "[" ++ b → c ≡ codes "]" ++ d → RowScans s true n b c u v →
    Scans (λ vs. (count vs ≡ n) × AllOf (λ x. Fits s x) vs) (λ vs. array_text (is_uint8 s) (λ x. value_text s x) vs) (λ vs. each (λ x. part_bits s x) vs) a d u v
array_scanned s n a b c d u v other e f row =
    let t = separated (texts (λ x. value_text s x) row.value) in
    record {
      value = row.value;
      fits = row.fits;
      spelled = e ∙ ap (λ x. codes "[" ++ x) (row.spelled ∙ ap (λ x. t ++ x) f)
          ∙ (let all : codes "[" ++ (t ++ (codes "]" ++ d)) ≡ (codes "[" ++ (t ++ codes "]")) ++ d = simp append_assoc in all)
          ∙ ap (λ b. array_text b (λ x. value_text s x) row.value ++ d) (sym other);
      put = row.put;
    }

pub fixed_scanned : (s : D.Sch) (n : ℕ) (a d : List ℕ) (u v : List Bool) →
    Scans (λ vs. (count vs ≡ n) × AllOf (λ x. Fits s x) vs) (λ vs. array_text (is_uint8 s) (λ x. value_text s x) vs) (λ vs. each (λ x. part_bits s x) vs) a d u v →
    Scans (λ x. Fits (D.Fixed s n) x) (λ x. value_text (D.Fixed s n) x) (λ x. own_bits (D.Fixed s n) x) a d u v
fixed_scanned s n a d u v row = record { value = Items row.value; fits = row.fits; spelled = row.spelled; put = row.put }

pub var_scanned : (s : D.Sch) (cap n w place : ℕ) (a d : List ℕ) (w0 w1 w2 w3 : List Bool) → n ≤ cap → w ≡ length_field_bits cap → w1 ≡ w0 ++ bits_of w 0 → place ≡ length w0 →
    w3 ≡ take place w2 ++ (bits_of w n ++ drop (place + length (bits_of w n)) w2) →
    Scans (λ vs. (count vs ≡ n) × AllOf (λ x. Fits s x) vs) (λ vs. array_text (is_uint8 s) (λ x. value_text s x) vs) (λ vs. each (λ x. part_bits s x) vs) a d w1 w2 →
    Scans (λ x. Fits (D.Var s cap) x) (λ x. value_text (D.Var s cap) x) (λ x. own_bits (D.Var s cap) x) a d w0 w3
var_scanned s cap n w place a d w0 w1 w2 w3 few is_w e g patch row =
    let l = each (λ x. part_bits s x) row.value in
    record {
      value = Items row.value;
      fits = (subst (λ m. m ≤ cap) (sym row.fits.0) few, row.fits.1);
      spelled = row.spelled;
      put = header_put w0 w1 w2 w3 (bits_of w 0) l (bits_of w n) place e row.put g (length_bits_of w 0 ∙ sym (length_bits_of w n)) patch
          ∙ (λ i. w0 ++ (bits_of (is_w i) (sym row.fits.0 i) ++ l));
    }

-- ---- unions

pub variant_here : (name : List ℕ) (k : Kind) (fs : Flds) (before mid after : List ℕ) (u v : List Bool) → is_padding k ≡ false → before ≡ name ++ (codes ": " ++ mid) →
    Scans (λ x. Fits (type_of k) x) (λ x. value_text (type_of k) x) (λ x. part_bits (type_of k) x) mid after u v → VariantScans (with_field name k fs) 0 before after u v
variant_here name (Padding n) fs before mid after u v h e part = absurd (false≢true (sym h))
variant_here name (Typed s) fs before mid after u v h e part = record {
  value = part.value;
  fits = part.fits;
  spelled = e ∙ ap (λ x. name ++ (codes ": " ++ x)) part.spelled
      ∙ (let all : name ++ (codes ": " ++ (value_text s part.value ++ after)) ≡ (name ++ (codes ": " ++ value_text s part.value)) ++ after = simp append_assoc in all);
  put = part.put;
}

later_variant : (name : List ℕ) (k : Kind) (fs : Flds) (left : ℕ) → is_padding k ≡ false → 1 ≤ left → LeavesVariant (with_field name k fs) left fs (left - 1)
later_variant name (Padding n) fs left h one = absurd (false≢true (sym h))
later_variant name (Typed s) fs zero h one = absurd (omega arith)
later_variant name (Typed s) fs (suc left) h one = λ a b u v r. let e : suc left - 1 ≡ left = omega arith in subst (λ m. VariantScans fs m a b u v) e r

skip_variant : (name : List ℕ) (k : Kind) (fs : Flds) (left : ℕ) → is_padding k ≡ true → LeavesVariant (with_field name k fs) left fs left
skip_variant name (Padding n) fs left h = λ a b u v r. r
skip_variant name (Typed s) fs left h = absurd (false≢true h)

pub variant_later : (items : List F) (i : ℕ) (f : F) (tag left : ℕ) (all : Flds) → i < length items → f ≡ get_or items i f → is_padding (named f).1 ≡ false → 1 ≤ left →
    LeavesVariant all tag (flds (drop i items)) left → LeavesVariant all tag (flds (drop (i + 1) items)) (left - 1)
variant_later items i f tag left all h at typed one inv = λ a b u v r.
    inv a b u v (subst (λ fs. VariantScans fs left a b u v) (sym (flds_next items i f h at)) (later_variant (named f).0 (named f).1 (flds (drop (i + 1) items)) left typed one a b u v r))

pub variant_skip : (items : List F) (i : ℕ) (f : F) (tag left : ℕ) (all : Flds) → i < length items → f ≡ get_or items i f → is_padding (named f).1 ≡ true →
    LeavesVariant all tag (flds (drop i items)) left → LeavesVariant all tag (flds (drop (i + 1) items)) left
variant_skip items i f tag left all h at padding inv = λ a b u v r.
    inv a b u v (subst (λ fs. VariantScans fs left a b u v) (sym (flds_next items i f h at)) (skip_variant (named f).0 (named f).1 (flds (drop (i + 1) items)) left padding a b u v r))

pub variant_found : (body : Body) (items : List F) (i : ℕ) (f : F) (tag left : ℕ) (before mid after : List ℕ) (u v : List Bool) → items ≡ (out-Body body).fields → i < length items → f ≡ get_or items i f → is_padding (named f).1 ≡ false → left ≡ 0 →
    before ≡ (named f).0 ++ (codes ": " ++ mid) → Scans (λ x. Fits (type_of (named f).1) x) (λ x. value_text (type_of (named f).1) x) (λ x. part_bits (type_of (named f).1) x) mid after u v →
    LeavesVariant (flds items) tag (flds (drop i items)) left → VariantScans (body_of body).0 tag before after u v
variant_found body items i f tag left before mid after u v are h at typed z e part inv =
    let here = variant_here (named f).0 (named f).1 (flds (drop (i + 1) items)) before mid after u v typed e part in
    let there : VariantScans (flds (drop i items)) left before after u v =
    subst (λ fs. VariantScans fs left before after u v) (sym (flds_next items i f h at)) (subst (λ m. VariantScans (with_field (named f).0 (named f).1 (flds (drop (i + 1) items))) m before after u v) (sym z) here) in
    subst (λ fs. VariantScans fs tag before after u v) (fields_are body items are) (inv before after u v there)

pub union_scanned : (fs : Flds) (o : Outline) (a b c d : List ℕ) (u t v w : List Bool) (k tag n : ℕ) → k ≡ tag_bits (variants fs) → a ≡ codes "{" ++ b → c ≡ codes "}" ++ d → t ≡ u ++ bits_of k tag → length v ≡ n + length u → w ≡ v ++ E.lead true n →
    VariantScans fs tag b c t v →
    Scans (λ x. Fits (D.Union fs o) x) (λ x. value_text (D.Union fs o) x) (λ x. own_bits (D.Union fs o) x) a d u w
union_scanned fs o a b c d u t v w k tag n is_k e f g h z inner =
    let s = variant_text fs tag inner.value in
    let head = bits_of k tag in
    let l = E.variant_bits fs tag inner.value in
    let whole : v ≡ u ++ (head ++ l) = inner.put ∙ ap (λ x. x ++ l) g ∙ append_assoc u head l in
    let size : n ≡ length (head ++ l) = omega (arith, h, ap length whole, length-append u (head ++ l)) in
    record {
      value = Tagged tag inner.value;
      fits = inner.fits;
      spelled = e ∙ ap (λ x. codes "{" ++ x) (inner.spelled ∙ ap (λ x. s ++ x) f) ∙ (let all : codes "{" ++ (s ++ (codes "}" ++ d)) ≡ (codes "{" ++ (s ++ codes "}")) ++ d = simp append_assoc in all);
      put = z ∙ ap (λ x. x ++ zeros (gap n)) whole ∙ append_assoc u (head ++ l) (zeros (gap n)) ∙ ap (λ m. u ++ ((head ++ l) ++ zeros (gap m))) size
          ∙ ap (λ m. u ++ padded (bits_of m tag ++ l)) is_k;
    }

-- ---- numbers

pub within_half : (n m : ℕ) → n ≤ m → n ≡ min n m
within_half n m h = omega arith

-- a number below 0
pub negative_text : (n : ℕ) (a b c : List ℕ) → 1 ≤ n → a ≡ codes "-" ++ b → b ≡ decimal n ++ c → a ≡ signed_decimal (negsuc (n - 1)) ++ c
negative_text n a b c some e f = let back : n ≡ suc (n - 1) = omega arith in e ∙ ap (λ t. codes "-" ++ t) (f ∙ ap (λ m. decimal m ++ c) back)

-- a text that stands there, of so many bytes
pub passed : (line bytes text : List ℕ) (at next n : ℕ) → bytes ≡ drop at line → bytes ≡ text ++ drop n bytes → next ≡ at + n → drop at line ≡ text ++ drop next line
passed line bytes text at next n e f g =
    sym e ∙ f ∙ ap (λ l. text ++ l) (ap (λ l. drop n l) e ∙ drop-drop n at line ∙ ap (λ m. drop m line) (sym g))

-- some bytes of a line
pub taken : (line bytes text : List ℕ) (at next n : ℕ) → bytes ≡ drop at line → text ≡ take n bytes → next ≡ at + n → drop at line ≡ text ++ drop next line
taken line bytes text at next n e f g =
    sym (take-append-drop n (drop at line))
    ∙ (λ i. take n (sym e i) ++ drop n (drop at line))
    ∙ (λ i. sym f i ++ drop-drop n at line i)
    ∙ ap (λ m. text ++ drop m line) (sym g)

-- ---- arrays of bytes

nums : List ℕ → Vals
nums [] = Empty
nums (x ∷ xs) = More (Num (pos x)) (nums xs)

count_nums : (xs : List ℕ) → count (nums xs) ≡ length xs
unfolding nums
count_nums [] = refl
count_nums (x ∷ xs) = ap suc (count_nums xs)

are_all : (xs : List ℕ) → ((i : ℕ) → get_or xs i 0 < 256) → are_bytes (nums xs) ≡ true
unfolding nums
are_all [] h = refl
are_all (x ∷ xs) h = ap (λ b. b && are_bytes (nums xs)) (lt-ltb x 256 (h 0)) ∙ are_all xs (λ i. h (suc i))

all_fit : (c : Bool) (xs : List ℕ) → ((i : ℕ) → get_or xs i 0 < 256) → AllOf (λ v. Fits (D.Simple (PUint 8 c)) v) (nums xs)
unfolding nums
all_fit c [] h = tt
all_fit c (x ∷ xs) h = let byte : x < 256 = h 0 in let most : x < 2 ^ 64 = omega arith in (most, all_fit c xs (λ i. h (suc i)))

byte_digits : (x : ℕ) → x < 256 → hex_digits 2 x ≡ slice_index upper_digits (x / 16) ∷ slice_index upper_digits (x % 16) ∷ []
unfolding hex_digits
byte_digits x h =
    let a : x / 2 ^ 4 % 16 ≡ x / 16 = omega arith in
    let b : x / 2 ^ 0 % 16 ≡ x % 16 = omega arith in
    λ i. slice_index upper_digits (a i) ∷ slice_index upper_digits (b i) ∷ []

nums_text : (xs : List ℕ) → ((i : ℕ) → get_or xs i 0 < 256) → in_a_row byte_text (nums xs) ≡ encode_upper xs
unfolding encode_with nums
nums_text [] h = refl
nums_text (x ∷ xs) h = ap (λ t. t ++ in_a_row byte_text (nums xs)) (byte_digits x (h 0)) ∙ ap (λ t. slice_index upper_digits (x / 16) ∷ slice_index upper_digits (x % 16) ∷ t) (nums_text xs (λ i. h (suc i)))

nums_bits : (c : Bool) (xs : List ℕ) → ((i : ℕ) → get_or xs i 0 < 256) → each (λ v. part_bits (D.Simple (PUint 8 c)) v) (nums xs) ≡ bits xs
unfolding nums
nums_bits c [] h = refl
nums_bits c (x ∷ xs) h = λ i. bits_of 8 (sym (cast_small 8 x c (let byte : x < 2 ^ 8 = h 0 in byte)) i) ++ nums_bits c xs (λ j. h (suc j)) i

pub array_of_bytes : (c : Bool) (n : ℕ) (a b d : List ℕ) (u v : List Bool) → a ≡ codes "#" ++ b → ScansBytes n b d u v →
    Scans (λ vs. (count vs ≡ n) × AllOf (λ x. Fits (D.Simple (PUint 8 c)) x) vs) (λ vs. array_text (is_uint8 (D.Simple (PUint 8 c))) (λ x. value_text (D.Simple (PUint 8 c)) x) vs) (λ vs. each (λ x. part_bits (D.Simple (PUint 8 c)) x) vs) a d u v
array_of_bytes c n a b d u v e found =
    let xs = found.bytes in
    let vs = nums xs in
    record {
      value = vs;
      fits = (count_nums xs ∙ found.count, all_fit c xs found.small);
      spelled = e ∙ ap (λ t. codes "#" ++ t) (found.spelled ∙ ap (λ t. t ++ d) (sym (nums_text xs found.small)))
          ∙ ap (λ b. (if b then codes "#" ++ in_a_row byte_text vs else in_brackets (separated (texts (λ x. value_text (D.Simple (PUint 8 c)) x) vs))) ++ d) (sym (are_all xs found.small));
      put = found.put ∙ ap (λ l. u ++ l) (sym (nums_bits c xs found.small));
    }

pub uint8_is : (s : D.Sch) → is_uint8 s ≡ true → (c : Bool) × (s ≡ D.Simple (PUint 8 c))
uint8_is (D.Simple (PUint w c)) h = let e : w ≡ 8 = search (rules, h) in (c, ap (λ m. D.Simple (PUint m c)) e)
uint8_is (D.Simple PBool) h = absurd (false≢true h)
uint8_is (D.Simple (PInt w)) h = absurd (false≢true h)
uint8_is (D.Simple (PFloat w c)) h = absurd (false≢true h)
uint8_is (D.Fixed s n) h = absurd (false≢true h)
uint8_is (D.Var s n) h = absurd (false≢true h)
uint8_is (D.Struct fs o) h = absurd (false≢true h)
uint8_is (D.Union fs o) h = absurd (false≢true h)

pub if_ok : {T E : Type 0} (r : Result T E) {A B : T → Type 0} → ((x : T) → A x → B x) → IfOk r A → IfOk r B
if_ok (Ok x) f h = f x h
if_ok (Err x) f h = tt
