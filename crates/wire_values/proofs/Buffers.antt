-- Bytes by their bits, and zeros behind them
use Rattle.std.proofs.Common.{◌≡◌, ◌∙◌, ℕ, zero, suc, ◌+◌, ◌*◌, ◌-◌, ◌/◌, ◌^◌, ◌<◌, ◌≤◌, Bool, List, [], ◌∷◌, ◌++◌, length, take, drop, get_or, set, replicate, refl, sym, ap, subst, arith, append_assoc, length-append}
use Rattle.std.proofs.lemmas.List.{length-drop, length-replicate, length-take-le, set_split, take_at, drop_all, append-nil, replicate-append-replicate, drop-drop}
use Rattle.std.proofs.Math.Seq.{drop-append-add}
use Rattle.cy_bits.specs.Bits.{bits, bits_of, bytes, bytes_up_to, gap, zeros}
use Rattle.cy_bits.specs.Put.{put_bits}
use Rattle.cy_bits.proofs.BitFacts.{bits_bytes, drop_bits, take_bits}
use Rattle.cy_bits.proofs.BitPlaces.{length_bits, number_below}
use Rattle.cy_bits.proofs.BitPuts.{put_append}
use Rattle.dsdl_types.specs.Encoding.{own_bits}
use Rattle.dsdl_types.specs.Fits.{Fits}
use Rattle.dsdl_types.specs.Greatest.{longest}
use Rattle.dsdl_types.specs.Laws.{encoding, with_zeros}
use Rattle.dsdl_types.specs.Rules.{IsSchema}
use Rattle.dsdl_types.specs.Schemas.{Sch}
use Rattle.dsdl_types.specs.Values.{Val}
use Rattle.dsdl_types.proofs.Lengths.{own_most}
use Rattle.dsdl_types.proofs.Padding.{bits_take}
use Rattle.dsdl_types.proofs.SchemaRules.{schema_sound}
use Rattle.wire_values.specs.Puts.{HasRoom, Puts}
use Rattle.wire_values.specs.Results.{IsWritten}
use Rattle.wire_values.specs.Rules.{HasRules}

pub schema_rules : (s : Sch) → IsSchema s → HasRules s
schema_rules s h = (h.0, schema_sound s h, h.2)

pub value_room : (s : Sch) (v : Val) (out : List ℕ) → IsSchema s → Fits s v → longest s ≤ 8 * length out → length out ≤ 2 ^ 37 → HasRoom out 0 (own_bits s v)
value_room s v out h fits room small = record { room = omega (arith, own_most s v (schema_sound s h) fits, room); small = small }

-- ---- bytes and their bits

abbrev IsByte : List ℕ → Type 0
IsByte b = (i : ℕ) → get_or b i 0 < 256

bytes_again : (b : List ℕ) (n : ℕ) → n ≡ length b → IsByte b → bytes_up_to n (bits b) ≡ b
bytes_again [] zero e h = refl
bytes_again [] (suc n) e h = absurd (omega arith)
bytes_again (x ∷ b) zero e h = absurd (omega arith)
bytes_again (x ∷ b) (suc n) e h =
    ap (λ y. y ∷ bytes_up_to n (drop 8 (bits_of 8 x ++ bits b))) (take_bits 8 x (bits b) (h 0))
    ∙ ap (λ l. x ∷ bytes_up_to n l) (drop_bits 8 x (bits b))
    ∙ ap (λ l. x ∷ l) (bytes_again b n (omega arith) (λ i. h (suc i)))

length_bytes : (n : ℕ) (l : List Bool) → length (bytes_up_to n l) ≡ n
length_bytes zero l = refl
length_bytes (suc n) l = ap suc (length_bytes n (drop 8 l))

bytes_small : (n : ℕ) (l : List Bool) → IsByte (bytes_up_to n l)
bytes_small zero l i = omega arith
bytes_small (suc n) l zero = number_below 8 l
bytes_small (suc n) l (suc i) = bytes_small n (drop 8 l) i

bytes_in_front : (a b : List ℕ) → IsByte (a ++ b) → IsByte a
bytes_in_front [] b h i = omega arith
bytes_in_front (x ∷ a) b h zero = h 0
bytes_in_front (x ∷ a) b h (suc i) = bytes_in_front a b (λ j. h (suc j)) i

-- the first bytes are those of the bits that were put there
pub front_bytes : (old out : List ℕ) (l : List Bool) (n : ℕ) → IsByte (take n out) → n ≤ length out → bits out ≡ put_bits (bits old) 0 (l ++ zeros (gap (length l))) → 8 * n ≡ length l + gap (length l) → take n out ≡ bytes l
unfolding put_bits
front_bytes old out l n small room e size =
    let padded = l ++ zeros (gap (length l)) in
    let long : length padded ≡ 8 * n = omega (arith, length-append l (zeros (gap (length l))), length-replicate (gap (length l)) Bool.false) in
    let count : (length l + 7) / 8 ≡ n = omega arith in
    let front : bits (take n out) ≡ padded = bits_take n out ∙ ap (λ x. take (8 * n) x) e ∙ take_at padded (drop (0 + length padded) (bits old)) (8 * n) long in
    let back : bits (bytes_up_to n l) ≡ padded = bits_bytes n l (omega arith) ∙ (let f : 8 * n - length l ≡ gap (length l) = omega arith in ap (λ k. l ++ zeros k) f) in
    sym (bytes_again (take n out) n (sym (length-take-le n out room)) small)
    ∙ ap (λ x. bytes_up_to n x) (front ∙ sym back)
    ∙ bytes_again (bytes_up_to n l) n (sym (length_bytes n l)) (bytes_small n l)
    ∙ ap (λ k. bytes_up_to k l) (sym count)

pub length_encoding : (s : Sch) (v : Val) → length (encoding s v) ≡ (length (own_bits s v) + 7) / 8
length_encoding s v = length_bytes ((length (own_bits s v) + 7) / 8) (own_bits s v)

-- ---- zeros behind

pub cleared_more : (old out : List ℕ) (from i : ℕ) → from ≤ i → i < length old → out ≡ (take from old ++ replicate (i - from) 0) ++ drop i old →
    set out i 0 ≡ (take from old ++ replicate (i + 1 - from) 0) ++ drop (i + 1) old
cleared_more old out from i past within e =
    let front = take from old ++ replicate (i - from) 0 in
    let n : length front ≡ i = omega (arith, length-append (take from old) (replicate (i - from) 0), length-take-le from old (omega arith), length-replicate {A = ℕ} (i - from) 0) in
    let size : length out ≡ length old = ap length e ∙ omega (arith, length-append front (drop i old), length-drop i old, n) in
    let t : take i out ≡ front = ap (λ x. take i x) e ∙ take_at front (drop i old) i n in
    let k : suc i ≡ length front + 1 = omega arith in
    let d : drop (suc i) out ≡ drop (i + 1) old = (λ j. drop (k j) (e j)) ∙ drop-append-add front (drop i old) 1 ∙ drop-drop 1 i old in
    let one : replicate (i - from) 0 ++ (0 ∷ []) ≡ replicate (i + 1 - from) 0 = replicate-append-replicate (i - from) 1 0 ∙ (let f : i - from + 1 ≡ i + 1 - from = omega arith in ap (λ m. replicate m 0) f) in
    set_split out i 0 (omega arith)
    ∙ (λ j. t j ++ 0 ∷ d j)
    ∙ append_assoc (take from old) (replicate (i - from) 0) (0 ∷ drop (i + 1) old)
    ∙ ap (λ x. take from old ++ x) (sym (append_assoc (replicate (i - from) 0) (0 ∷ []) (drop (i + 1) old)))
    ∙ sym (append_assoc (take from old) (replicate (i - from) 0 ++ (0 ∷ [])) (drop (i + 1) old))
    ∙ ap (λ x. (take from old ++ x) ++ drop (i + 1) old) one

pub cleared_all : (old out : List ℕ) (from i : ℕ) → length old ≤ i → i ≤ length old → out ≡ (take from old ++ replicate (i - from) 0) ++ drop i old → out ≡ take from old ++ replicate (length old - from) 0
cleared_all old out from i end within e =
    let f : i - from ≡ length old - from = omega arith in
    e ∙ ap (λ x. (take from old ++ replicate (i - from) 0) ++ x) (drop_all i old end) ∙ append-nil (take from old ++ replicate (i - from) 0) ∙ ap (λ m. take from old ++ replicate m 0) f

-- what was written, with zeros behind
pub written : (s : Sch) (v : Val) (old mid out new : List ℕ) (q n : ℕ) → Fits s v → ((i : ℕ) → get_or new i 0 < 256) → HasRoom old 0 (own_bits s v) → Puts old 0 mid q (own_bits s v) → bits out ≡ put_bits (bits mid) q (zeros (gap q)) →
    8 * n ≡ q + gap q → n ≤ length out → new ≡ take n out ++ replicate (length out - n) 0 → IsWritten s v n new
written s v old mid out new q n fits small room puts padded size within cleared =
    let l = own_bits s v in
    let place : q ≡ length l = omega (arith, puts.place) in
    let long : 8 * n ≡ length l + gap (length l) = subst (λ k. 8 * n ≡ k + gap k) place size in
    let e : bits out ≡ put_bits (bits old) 0 (l ++ zeros (gap (length l))) =
    padded ∙ (λ i. put_bits (puts.written i) (puts.place i) (zeros (gap (place i)))) ∙ put_append (bits old) 0 l (zeros (gap (length l))) (omega (arith, room.room, length_bits old)) in
    let low = bytes_in_front (take n out) (replicate (length out - n) 0) (subst (λ b. (i : ℕ) → get_or b i 0 < 256) cleared small) in
    let front = front_bytes old out l n low within e long in
    let count : n ≡ length (encoding s v) = omega (arith, length_encoding s v, long) in
    let total : length new ≡ length out = ap length cleared ∙ omega (arith, length-append (take n out) (replicate (length out - n) 0), length-take-le n out within, length-replicate {A = ℕ} (length out - n) 0) in
    record {
      fits = fits;
      size = count;
      bytes = cleared ∙ ap (λ x. x ++ replicate (length out - n) 0) front ∙ ap (λ k. with_zeros (encoding s v) (k - n)) (sym total);
    }
