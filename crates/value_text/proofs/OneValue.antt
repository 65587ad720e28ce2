-- No two values of a schema have one text.
use Rattle.std.proofs.Common.{◌≡◌, ◌≢◌, ℕ, zero, suc, ◌*◌, ◌^◌, ◌/◌, ◌<◌, ◌≤◌, ◌&&◌, ℤ, pos, Bool, true, false, if◌then◌else◌, List, [], ◌∷◌, ◌++◌, refl, sym, ap, ◌∙◌, subst, arith}
use Rattle.std.proofs.lemmas.Bool.Decides.{nat_tests}
use Rattle.std.proofs.lemmas.List.{append-nil, append_cancel_left}
use Rattle.dsdl_types.specs.Fits.{Fits, FitFields, FitsVariant, FitsSimple, AllOf, IsNumber}
use Rattle.dsdl_names.specs.Words.{is_name}
use Rattle.dsdl_types.specs.Names.{HasNames, HaveNames, AreNamed, IsNew}
use Rattle.dsdl_types.specs.Rules.{IsFormed, AreFormed, IsPrim, is_float_width, IsSchema}
use Rattle.dsdl_types.specs.Schemas.{Prim, Sch, Flds, PBool, PUint, PInt, PFloat, Simple, Fixed, Var, Struct, Union, End, Pad, Field, width}
use Rattle.dsdl_types.specs.Values.{Val, Vals, Truth, Num, Raw, Items, Parts, Tagged, Empty, More, items_of, parts_of, tag_of, inner_of, first, others}
use Rattle.value_text.specs.Texts.{simple_text, value_text, field_texts, variant_text, texts, in_a_row, byte_text, is_uint8, is_byte, are_bytes, array_text}
use Rattle.value_text.specs.Words.{separated, following, lead, entry, hex_digits, in_braces, in_brackets}
use Rattle.value_text.proofs.Numerals.{signed_begins, signed_clear, one_number, one_raw, hex_digits_clear}
use Rattle.value_text.proofs.Rest.{rest_of, rest_next, regroup}
use Rattle.value_text.proofs.Tokens.{top, behind, nil_cons, Clear, Halts, Begins, clear_append, begins_append, no_halt, token_split, stop, colon, clear_name}
use Rattle.value_text.proofs.ValueKinds.{is_bool, is_uint, is_int, is_raw, are_items, are_parts, is_tagged, is_empty, is_first, both, byte_is}

-- ---- values without parts

number_clear : (w : ℕ) (v : Val) → (z : ℤ) × IsNumber z × (v ≡ Num z) → Clear stop (simple_text w v)
number_clear w v (z, h, e) = subst (λ x. Clear stop (simple_text w x)) (sym e) (signed_clear z h)

truth_clear : (w : ℕ) (b : Bool) → Clear stop (simple_text w (Truth b))
truth_clear w true = (refl, (refl, (refl, (refl, tt))))
truth_clear w false = (refl, (refl, (refl, (refl, (refl, tt)))))

simple_clear : (t : Prim) (v : Val) → FitsSimple t v → Clear stop (simple_text (width t) v)
simple_clear PBool v h = let b = is_bool v h in subst (λ x. Clear stop (simple_text 1 x)) (sym b.1) (truth_clear 1 b.0)
simple_clear (PUint w c) v h = number_clear w v (is_uint w c v h)
simple_clear (PInt w) v h = number_clear w v (is_int w v h)
simple_clear (PFloat w c) v h =
    let n = is_raw w c v h in
    subst (λ x. Clear stop (simple_text w x)) (sym n.2) (refl, (refl, hex_digits_clear (w / 4) n.0))

number_begins : (w : ℕ) (v : Val) → (z : ℤ) × IsNumber z × (v ≡ Num z) → Begins stop (simple_text w v)
number_begins w v (z, h, e) = subst (λ x. Begins stop (simple_text w x)) (sym e) (signed_begins z h)

truth_begins : (w : ℕ) (b : Bool) → Begins stop (simple_text w (Truth b))
truth_begins w true = refl
truth_begins w false = refl

simple_begins : (t : Prim) (v : Val) → FitsSimple t v → Begins stop (simple_text (width t) v)
simple_begins PBool v h = let b = is_bool v h in subst (λ x. Begins stop (simple_text 1 x)) (sym b.1) (truth_begins 1 b.0)
simple_begins (PUint w c) v h = number_begins w v (is_uint w c v h)
simple_begins (PInt w) v h = number_begins w v (is_int w v h)
simple_begins (PFloat w c) v h = let n = is_raw w c v h in subst (λ x. Begins stop (simple_text w x)) (sym n.2) refl

one_truth : (a b : Bool) → simple_text 1 (Truth a) ≡ simple_text 1 (Truth b) → Truth a ≡ Truth b
one_truth true true e = refl
one_truth false false e = refl
one_truth true false e = let l : 116 ≡ 102 = ap top e in absurd (omega (arith, l))
one_truth false true e = let l : 102 ≡ 116 = ap top e in absurd (omega (arith, l))

one_num : (w : ℕ) (v x : Val) → (z : ℤ) × IsNumber z × (v ≡ Num z) → (z : ℤ) × IsNumber z × (x ≡ Num z) → simple_text w v ≡ simple_text w x → v ≡ x
one_num w v x (y, f, a) (z, g, b) e =
    a ∙ ap Num (one_number y z f g (sym (ap (simple_text w) a) ∙ e ∙ ap (simple_text w) b)) ∙ sym b

whole_digits : (w : ℕ) → is_float_width w ≡ true → w ≡ 4 * (w / 4)
whole_digits w h = grind (arith, nat_tests, h)

one_simple : (t : Prim) (v w : Val) → IsPrim t → FitsSimple t v → FitsSimple t w → simple_text (width t) v ≡ simple_text (width t) w → v ≡ w
one_simple PBool v w p f g e =
    let a = is_bool v f in let b = is_bool w g in
    a.1 ∙ one_truth a.0 b.0 (sym (ap (simple_text 1) a.1) ∙ e ∙ ap (simple_text 1) b.1) ∙ sym b.1
one_simple (PUint n c) v w p f g e = one_num n v w (is_uint n c v f) (is_uint n c w g) e
one_simple (PInt n) v w p f g e = one_num n v w (is_int n v f) (is_int n w g) e
one_simple (PFloat n c) v w p f g e =
    let a = is_raw n c v f in let b = is_raw n c w g in
    let k = whole_digits n p in
    let l : simple_text n (Raw a.0) ≡ simple_text n (Raw b.0) = sym (ap (simple_text n) a.2) ∙ e ∙ ap (simple_text n) b.2 in
    a.2 ∙ ap Raw (one_raw (n / 4) a.0 b.0 (subst (λ m. a.0 < 2 ^ m) k a.1) (subst (λ m. b.0 < 2 ^ m) k b.1) (ap behind (ap behind l))) ∙ sym b.2

-- ---- where a text begins

array_begins : (b : Bool) (f : Val → List ℕ) (vs : Vals) → (x : Bool) → x ≡ b && are_bytes vs → Begins stop (array_text b f vs)
array_begins b f vs true e = rw (sym e) refl
array_begins b f vs false e = rw (sym e) refl

pub value_begins : (s : Sch) (v : Val) → Fits s v → Begins stop (value_text s v)
value_begins (Simple t) v h = simple_begins t v h
value_begins (Fixed s n) v h = array_begins (is_uint8 s) (λ x. value_text s x) (items_of v) _ refl
value_begins (Var s n) v h = array_begins (is_uint8 s) (λ x. value_text s x) (items_of v) _ refl
value_begins (Struct fs o) v h = refl
value_begins (Union fs o) v h = refl

-- ---- bytes

byte_clear : (v : Val) → is_byte v ≡ true → Clear stop (byte_text v)
byte_clear v h = let n = byte_is v h in subst (λ x. Clear stop (byte_text x)) (sym n.2) (hex_digits_clear 2 n.0)

bytes_clear : (vs : Vals) → are_bytes vs ≡ true → Clear stop (in_a_row byte_text vs)
bytes_clear Empty h = tt
bytes_clear (More v vs) h = let b = both (is_byte v) (are_bytes vs) h in clear_append stop (byte_text v) (in_a_row byte_text vs) (byte_clear v b.0) (bytes_clear vs b.1)

two_digits : (n m : ℕ) (r q : List ℕ) → n < 256 → m < 256 → hex_digits 2 n ++ r ≡ hex_digits 2 m ++ q → (n ≡ m) × (r ≡ q)
unfolding hex_digits
two_digits n m r q f g e =
    let a = ap top e in
    let b = ap (λ l. top (behind l)) e in
    let d : hex_digits 2 n ≡ hex_digits 2 m = cc in
    (one_raw 2 n m f g d, ap behind (ap behind e))

no_digits : (n : ℕ) (r : List ℕ) → [] ≡ hex_digits 2 n ++ r → ⊥
unfolding hex_digits
no_digits n r e = nil_cons _ _ e

one_byte : (v w : Val) (r q : List ℕ) → is_byte v ≡ true → is_byte w ≡ true → byte_text v ++ r ≡ byte_text w ++ q → (v ≡ w) × (r ≡ q)
one_byte v w r q f g e =
    let n = byte_is v f in let m = byte_is w g in
    let d = two_digits n.0 m.0 r q n.1 m.1 (sym (ap (λ x. byte_text x ++ r) n.2) ∙ e ∙ ap (λ x. byte_text x ++ q) m.2) in
    (n.2 ∙ ap (λ k. Num (pos k)) d.0 ∙ sym m.2, d.1)

no_byte : (v : Val) (r : List ℕ) → is_byte v ≡ true → [] ≡ byte_text v ++ r → ⊥
no_byte v r f e = let n = byte_is v f in no_digits n.0 r (e ∙ ap (λ x. byte_text x ++ r) n.2)

one_bytes : (vs ws : Vals) → are_bytes vs ≡ true → are_bytes ws ≡ true → in_a_row byte_text vs ≡ in_a_row byte_text ws → vs ≡ ws
one_bytes Empty Empty f g e = refl
one_bytes Empty (More w ws) f g e = absurd (no_byte w (in_a_row byte_text ws) (both (is_byte w) (are_bytes ws) g).0 e)
one_bytes (More v vs) Empty f g e = absurd (no_byte v (in_a_row byte_text vs) (both (is_byte v) (are_bytes vs) f).0 (sym e))
one_bytes (More v vs) (More w ws) f g e =
    let a = both (is_byte v) (are_bytes vs) f in let b = both (is_byte w) (are_bytes ws) g in
    let h = one_byte v w (in_a_row byte_text vs) (in_a_row byte_text ws) a.0 b.0 e in
    let x : v ≡ w = h.0 in
    let y : vs ≡ ws = one_bytes vs ws a.1 b.1 h.1 in
    cc

-- ---- items

-- Texts of values end where a comma, a bracket or a brace stands.
One : (Val → Type 0) → (Val → List ℕ) → Type 0
One P f = (v w : Val) → P v → P w → (r q : List ℕ) → Halts stop r → Halts stop q → f v ++ r ≡ f w ++ q → (v ≡ w) × (r ≡ q)

pub ends_at : (c : ℕ) (ts : List (List ℕ)) (r : List ℕ) → stop c ≡ true → Halts stop (following ts ++ c ∷ r)
ends_at c [] r h = h
ends_at c (t ∷ ts) r h = refl

-- one more text in front of others
pub unwrap : (b : Bool) (t : List ℕ) (ts : List (List ℕ)) (r : List ℕ) → rest_of b (t ∷ ts) ++ r ≡ lead b ++ (t ++ (following ts ++ r))
unwrap b t ts r = ap (λ x. x ++ r) (rest_next b t ts) ∙ regroup (lead b) (t ++ following ts) r ∙ ap (λ x. lead b ++ x) (regroup t (following ts) r)

pub none_left : (b : Bool) (c : ℕ) (r : List ℕ) → rest_of b [] ++ c ∷ r ≡ c ∷ r
none_left true c r = refl
none_left false c r = refl

pub no_more : (b : Bool) (c : ℕ) (t : List ℕ) (r x : List ℕ) → stop c ≡ true → c ≢ 44 → Begins stop t → lead b ++ (t ++ x) ≡ c ∷ r → ⊥
no_more true c t r x h n k e = no_halt stop (t ++ x) (c ∷ r) (begins_append stop t x k) h e
no_more false c t r x h n k e = n (sym (ap top e))

one_items : (P : Val → Type 0) (f : Val → List ℕ) → One P f → ((v : Val) → P v → Begins stop (f v)) → (b : Bool) (vs ws : Vals) → AllOf P vs → AllOf P ws → (r q : List ℕ) →
    rest_of b (texts f vs) ++ 93 ∷ r ≡ rest_of b (texts f ws) ++ 93 ∷ q → (vs ≡ ws) × (r ≡ q)
unfolding One
one_items P f one begins b Empty Empty g h r q e = (refl, ap behind (sym (none_left b 93 r) ∙ e ∙ none_left b 93 q))
one_items P f one begins b Empty (More w ws) g h r q e =
    absurd (no_more b 93 (f w) r (following (texts f ws) ++ 93 ∷ q) refl (λ z. omega (arith, z)) (begins w h.0) (sym (unwrap b (f w) (texts f ws) (93 ∷ q)) ∙ sym e ∙ none_left b 93 r))
one_items P f one begins b (More v vs) Empty g h r q e =
    absurd (no_more b 93 (f v) q (following (texts f vs) ++ 93 ∷ r) refl (λ z. omega (arith, z)) (begins v g.0) (sym (unwrap b (f v) (texts f vs) (93 ∷ r)) ∙ e ∙ none_left b 93 q))
one_items P f one begins b (More v vs) (More w ws) g h r q e =
    let l = append_cancel_left (lead b) (f v ++ (following (texts f vs) ++ 93 ∷ r)) (f w ++ (following (texts f ws) ++ 93 ∷ q)) (sym (unwrap b (f v) (texts f vs) (93 ∷ r)) ∙ e ∙ unwrap b (f w) (texts f ws) (93 ∷ q)) in
    let d = one v w g.0 h.0 (following (texts f vs) ++ 93 ∷ r) (following (texts f ws) ++ 93 ∷ q) (ends_at 93 (texts f vs) r refl) (ends_at 93 (texts f ws) q refl) l in
    let t = one_items P f one begins false vs ws g.1 h.1 r q d.1 in
    let x : v ≡ w = d.0 in
    let y : vs ≡ ws = t.0 in
    let z : More v vs ≡ More w ws = cc in
    (z, t.1)

pub bracketed : (t r : List ℕ) → in_brackets t ++ r ≡ 91 ∷ (t ++ 93 ∷ r)
bracketed t r = ap (λ x. 91 ∷ x) (regroup t (93 ∷ []) r)

pub braced : (t r : List ℕ) → in_braces t ++ r ≡ 123 ∷ (t ++ 125 ∷ r)
braced t r = ap (λ x. 123 ∷ x) (regroup t (125 ∷ []) r)

-- an array's text, by whether it is one of bytes
unfoldable pub picked : Bool → (Val → List ℕ) → Vals → List ℕ
picked x f vs = if x then 35 ∷ in_a_row byte_text vs else in_brackets (separated (texts f vs))

one_array : (P : Val → Type 0) (f : Val → List ℕ) → One P f → ((v : Val) → P v → Begins stop (f v)) → (b : Bool) (vs ws : Vals) → AllOf P vs → AllOf P ws → (r q : List ℕ) → Halts stop r → Halts stop q →
    (x y : Bool) → x ≡ b && are_bytes vs → y ≡ b && are_bytes ws → array_text b f vs ++ r ≡ array_text b f ws ++ q → (vs ≡ ws) × (r ≡ q)
unfolding picked
one_array P f one begins b vs ws g h r q hr hq true true ex ey e =
    let a = both b (are_bytes vs) (sym ex) in let c = both b (are_bytes ws) (sym ey) in
    let m : 35 ∷ (in_a_row byte_text vs ++ r) ≡ 35 ∷ (in_a_row byte_text ws ++ q) = ap (λ k. picked k f vs ++ r) ex ∙ e ∙ sym (ap (λ k. picked k f ws ++ q) ey) in
    let t = token_split stop (in_a_row byte_text vs) (in_a_row byte_text ws) r q (bytes_clear vs a.1) (bytes_clear ws c.1) hr hq (ap behind m) in
    (one_bytes vs ws a.1 c.1 t.0, t.1)
one_array P f one begins b vs ws g h r q hr hq true false ex ey e =
    let m : 35 ∷ (in_a_row byte_text vs ++ r) ≡ in_brackets (separated (texts f ws)) ++ q = ap (λ k. picked k f vs ++ r) ex ∙ e ∙ sym (ap (λ k. picked k f ws ++ q) ey) in
    let t : 35 ≡ 91 = ap top m in absurd (omega (arith, t))
one_array P f one begins b vs ws g h r q hr hq false true ex ey e =
    let m : in_brackets (separated (texts f vs)) ++ r ≡ 35 ∷ (in_a_row byte_text ws ++ q) = ap (λ k. picked k f vs ++ r) ex ∙ e ∙ sym (ap (λ k. picked k f ws ++ q) ey) in
    let t : 91 ≡ 35 = ap top m in absurd (omega (arith, t))
one_array P f one begins b vs ws g h r q hr hq false false ex ey e =
    let m : in_brackets (separated (texts f vs)) ++ r ≡ in_brackets (separated (texts f ws)) ++ q = ap (λ k. picked k f vs ++ r) ex ∙ e ∙ sym (ap (λ k. picked k f ws ++ q) ey) in
    one_items P f one begins true vs ws g h r q (ap behind (sym (bracketed (separated (texts f vs)) r) ∙ m ∙ bracketed (separated (texts f ws)) q))

one_arrays : (s : Sch) (N : ℕ → Type 0) → One (λ v. Fits s v) (λ x. value_text s x) → (v w : Val) → (v ≡ Items (items_of v)) × AllOf (λ x. Fits s x) (items_of v) → (w ≡ Items (items_of w)) × AllOf (λ x. Fits s x) (items_of w) → (r q : List ℕ) → Halts stop r → Halts stop q →
    array_text (is_uint8 s) (λ x. value_text s x) (items_of v) ++ r ≡ array_text (is_uint8 s) (λ x. value_text s x) (items_of w) ++ q → (v ≡ w) × (r ≡ q)
one_arrays s N one v w (a, g) (b, h) r q hr hq e =
    let t = one_array (λ x. Fits s x) (λ x. value_text s x) one (value_begins s) (is_uint8 s) (items_of v) (items_of w) g h r q hr hq _ _ refl refl e in
    (a ∙ ap Items t.0 ∙ sym b, t.1)

-- ---- names

pub named : (name t r : List ℕ) → entry name t ++ r ≡ name ++ 58 ∷ (32 ∷ (t ++ r))
named name t r = regroup name (58 ∷ 32 ∷ t) r

same_name : (name t u r q : List ℕ) → entry name t ++ r ≡ entry name u ++ q → t ++ r ≡ u ++ q
same_name name t u r q e =
    ap behind (ap behind (append_cancel_left name (58 ∷ 32 ∷ (t ++ r)) (58 ∷ 32 ∷ (u ++ q)) (sym (named name t r) ∙ e ∙ named name u q)))

one_name : (a b t u r q : List ℕ) → is_name a ≡ true → is_name b ≡ true → entry a t ++ r ≡ entry b u ++ q → a ≡ b
one_name a b t u r q f g e =
    (token_split colon a b (58 ∷ 32 ∷ (t ++ r)) (58 ∷ 32 ∷ (u ++ q)) (clear_name a f) (clear_name b g) refl refl (sym (named a t r) ∙ e ∙ named b u q)).0

other_name : (name : List ℕ) (fs : Flds) (k : ℕ) (w : Val) (t r q : List ℕ) → is_name name ≡ true → IsNew name fs → AreNamed fs → FitsVariant fs k w → entry name t ++ r ≡ variant_text fs k w ++ q → ⊥
other_name name End k w t r q f new apart h e = h
other_name name (Pad n fs) k w t r q f new apart h e = other_name name fs k w t r q f new apart h e
other_name name (Field other s fs) zero w t r q f new apart h e = new.0 (one_name name other t (value_text s w) r q f apart.0 e)
other_name name (Field other s fs) (suc k) w t r q f new apart h e = other_name name fs k w t r q f new.1 apart.2 h e

-- ---- all schemas

mutual
  unfolding One

  one : (s : Sch) → IsFormed s → HasNames s → (v w : Val) → Fits s v → Fits s w → (r q : List ℕ) → Halts stop r → Halts stop q →
      value_text s v ++ r ≡ value_text s w ++ q → (v ≡ w) × (r ≡ q)
  one (Simple t) p n v w f g r q hr hq e =
      let d = token_split stop (simple_text (width t) v) (simple_text (width t) w) r q (simple_clear t v f) (simple_clear t w g) hr hq e in
      (one_simple t v w p f g d.0, d.1)
  one (Fixed s k) p n v w f g r q hr hq e = one_arrays s (λ m. m ≡ k) (one s p.3 n) v w (are_items (λ m. m ≡ k) (λ x. Fits s x) v f) (are_items (λ m. m ≡ k) (λ x. Fits s x) w g) r q hr hq e
  one (Var s k) p n v w f g r q hr hq e = one_arrays s (λ m. m ≤ k) (one s p.3 n) v w (are_items (λ m. m ≤ k) (λ x. Fits s x) v f) (are_items (λ m. m ≤ k) (λ x. Fits s x) w g) r q hr hq e
  one (Struct fs o) p n v w f g r q hr hq e =
      let a = are_parts (λ vs. FitFields fs vs) v f in
      let b = are_parts (λ vs. FitFields fs vs) w g in
      let t = one_fields fs p.1 n.1 true (parts_of v) (parts_of w) a.1 b.1 r q (ap behind (sym (braced (separated (field_texts fs (parts_of v))) r) ∙ e ∙ braced (separated (field_texts fs (parts_of w))) q)) in
      (a.0 ∙ ap Parts t.0 ∙ sym b.0, t.1)
  one (Union fs o) p n v w f g r q hr hq e =
      let a = is_tagged (λ t x. FitsVariant fs t x) v f in
      let b = is_tagged (λ t x. FitsVariant fs t x) w g in
      let t = one_variant fs p.3 n.1 n.0 (tag_of v) (tag_of w) (inner_of v) (inner_of w) a.1 b.1 r q (ap behind (sym (braced (variant_text fs (tag_of v) (inner_of v)) r) ∙ e ∙ braced (variant_text fs (tag_of w) (inner_of w)) q)) in
      (a.0 ∙ ap (λ k. Tagged k (inner_of v)) t.0 ∙ ap (λ x. Tagged (tag_of w) x) t.1 ∙ sym b.0, t.2)

  one_fields : (fs : Flds) → AreFormed fs → HaveNames fs → (b : Bool) (vs ws : Vals) → FitFields fs vs → FitFields fs ws → (r q : List ℕ) →
      rest_of b (field_texts fs vs) ++ 125 ∷ r ≡ rest_of b (field_texts fs ws) ++ 125 ∷ q → (vs ≡ ws) × (r ≡ q)
  one_fields End p n b vs ws f g r q e = (is_empty vs f ∙ sym (is_empty ws g), ap behind (sym (none_left b 125 r) ∙ e ∙ none_left b 125 q))
  one_fields (Pad k fs) p n b vs ws f g r q e = one_fields fs p.2 n b vs ws f g r q e
  one_fields (Field name s fs) p n b vs ws f g r q e =
      let x = is_first (λ v. Fits s v) (λ us. FitFields fs us) vs f in
      let y = is_first (λ v. Fits s v) (λ us. FitFields fs us) ws g in
      let tv = entry name (value_text s (first vs)) in
      let tw = entry name (value_text s (first ws)) in
      let rv = following (field_texts fs (others vs)) ++ 125 ∷ r in
      let rw' = following (field_texts fs (others ws)) ++ 125 ∷ q in
      let l = append_cancel_left (lead b) (tv ++ rv) (tw ++ rw') (sym (unwrap b tv (field_texts fs (others vs)) (125 ∷ r)) ∙ e ∙ unwrap b tw (field_texts fs (others ws)) (125 ∷ q)) in
      let d = one s p.0 n.0 (first vs) (first ws) x.1 y.1 rv rw' (ends_at 125 (field_texts fs (others vs)) r refl) (ends_at 125 (field_texts fs (others ws)) q refl) (same_name name (value_text s (first vs)) (value_text s (first ws)) rv rw' l) in
      let t = one_fields fs p.1 n.1 false (others vs) (others ws) x.2 y.2 r q d.1 in
      (x.0 ∙ ap (λ v. More v (others vs)) d.0 ∙ ap (λ us. More (first ws) us) t.0 ∙ sym y.0, t.1)

  one_variant : (fs : Flds) → AreFormed fs → HaveNames fs → AreNamed fs → (k l : ℕ) (v w : Val) → FitsVariant fs k v → FitsVariant fs l w → (r q : List ℕ) →
      variant_text fs k v ++ 125 ∷ r ≡ variant_text fs l w ++ 125 ∷ q → (k ≡ l) × (v ≡ w) × (r ≡ q)
  one_variant End p n a k l v w f g r q e = absurd f
  one_variant (Pad m fs) p n a k l v w f g r q e = one_variant fs p.2 n a k l v w f g r q e
  one_variant (Field name s fs) p n a zero zero v w f g r q e =
      let d = one s p.0 n.0 v w f g (125 ∷ r) (125 ∷ q) refl refl (same_name name (value_text s v) (value_text s w) (125 ∷ r) (125 ∷ q) e) in
      (refl, d.0, ap behind d.1)
  one_variant (Field name s fs) p n a zero (suc l) v w f g r q e = absurd (other_name name fs l w (value_text s v) (125 ∷ r) (125 ∷ q) a.0 a.1 a.2 g e)
  one_variant (Field name s fs) p n a (suc k) zero v w f g r q e = absurd (other_name name fs k v (value_text s w) (125 ∷ q) (125 ∷ r) a.0 a.1 a.2 f (sym e))
  one_variant (Field name s fs) p n a (suc k) (suc l) v w f g r q e =
      let d = one_variant fs p.1 n.1 a.2 k l v w f g r q e in
      (ap suc d.0, d.1, d.2)

pub one_value : (s : Sch) → IsSchema s → (v w : Val) → Fits s v → Fits s w → value_text s v ≡ value_text s w → v ≡ w
one_value s rules v w f g e =
    (one s rules.0 rules.3 v w f g [] [] tt tt (append-nil (value_text s v) ∙ e ∙ sym (append-nil (value_text s w)))).0
