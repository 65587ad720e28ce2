-- The members of structures and unions, and the items of arrays.
use Rattle.std.proofs.Common.{◌≡◌, ◌∙◌, ◌⊎◌, ◌&&◌, rules, inl, inr, ℕ, ◌+◌, ◌==◌, ◌<◌, ◌≤◌, Bool, true, false, List, ◌∷◌, ◌++◌, length, drop, get_or, Result, OnOk, refl, sym, ap, subst}
use Rattle.std.proofs.lemmas.Bool.{false≢true}
use Rattle.dsdl_types.specs.Fits.{AllOf, FitFields, Fits, FitsSimple}
use Rattle.std.specs.Prelude.{if◌then◌else◌}
use Rattle.dsdl_types.specs.Schemas.{Prim, PBool, PFloat, PInt, PUint, Flds, Simple, width}
use Rattle.dsdl_types.specs.Schemas as D
use Rattle.dsdl_types.specs.Values.{Val, Vals, Empty, Items, More, Num, Parts, Raw, Tagged, Truth, first, inner_of, items_of, others, parts_of, tag_of}
use Rattle.dsdl_types.specs.Views.{Kind, Padding, Typed, body_of, flds, is_padding, is_saturated, kind_of, named, sch, type_of, val, vals, with_field}
use Rattle.dsdl_types.proofs.Equations.{kind_float, kind_int, kind_uint}
use Rattle.dsdl_types.specs.declared.schema.Body.{Body, out-Body}
use Rattle.dsdl_types.specs.declared.schema.Cast.{Cast}
use Rattle.dsdl_types.specs.declared.schema.Field.{Field}
use Rattle.dsdl_types.specs.declared.schema.Schema.{Schema}
use Rattle.dsdl_types.specs.declared.schema.Schema.TheVariants as S
use Rattle.dsdl_types.specs.declared.schema.Schema.TheFolds.{the_lemmas}
use Rattle.dsdl_types.specs.declared.value.Value.{Value}
use Rattle.value_text.proofs.Left.{fields_are, fixed_is, flds_end, flds_next, union_is, vals_end, vals_next, var_is}
use Rattle.value_text.specs.Texts.{are_bytes, is_uint8}
use Rattle.value_json.specs.Json.{HasRawBits, array_json, bytes_of, field_members, json_of, simple_json, texts, variant_member}
use Rattle.value_json.specs.Pieces.{Adds, Piece, exact}
use Rattle.value_json.specs.Words.{bytes_json, in_braces, in_brackets, lead, member, rest_of, separated}
use Rattle.value_json.proofs.Adding.{Towards, adds_exact, on_ok, parts_end, parts_next}

-- ---- items

pub items_next : (whole : List Piece) (f : Val → List Piece) (items : List Value) (i : ℕ) (x : Value) (old now led new : List ℕ) → i < length items → x ≡ get_or items i x →
    Towards whole (rest_of (i == 0) (texts f (vals (drop i items)))) old now → Adds (lead (i == 0)) now led → Adds (f (val x)) led new →
    Towards whole (rest_of (i + 1 == 0) (texts f (vals (drop (i + 1) items)))) old new
items_next whole f items i x old now led new h e t a b =
    parts_next whole (f (val x)) (texts f (vals (drop (i + 1) items))) i old now led new
    (subst (λ vs. Towards whole (rest_of (i == 0) (texts f vs)) old now) (vals_next items i x h e) t) a b

pub items_end : (whole : List Piece) (f : Val → List Piece) (items : List Value) (i : ℕ) (old now : List ℕ) → length items ≤ i →
    Towards whole (rest_of (i == 0) (texts f (vals (drop i items)))) old now → Adds whole old now
items_end whole f items i old now h t =
    parts_end whole (i == 0) old now (subst (λ vs. Towards whole (rest_of (i == 0) (texts f vs)) old now) (vals_end items i h) t)

-- an array of the code, by its items
pub array_put : {T E : Type 0} (r : Result T E) (s item inner : Schema) (v : Val) (vs : Vals) (old new : List ℕ) → ((n : ℕ) × s ≡ S.Fixed item n) ⊎ ((n : ℕ) × s ≡ S.Var item n) → inner ≡ item →
    vs ≡ items_of v → OnOk r (Adds (array_json (is_uint8 (sch inner)) (λ x. json_of (sch inner) x) vs) old new) → OnOk r (Adds (json_of (sch s) v) old new)
array_put r s item inner v vs old new (inl (n, e)) i f h =
    on_ok r (λ a. subst (λ t. Adds (json_of t v) old new) (sym (fixed_is s item inner n e i)) (subst (λ x. Adds (array_json (is_uint8 (sch inner)) (λ y. json_of (sch inner) y) x) old new) f a)) h
array_put r s item inner v vs old new (inr (n, e)) i f h =
    on_ok r (λ a. subst (λ t. Adds (json_of t v) old new) (sym (var_is s item inner n e i)) (subst (λ x. Adds (array_json (is_uint8 (sch inner)) (λ y. json_of (sch inner) y) x) old new) f a)) h

-- ---- fields

typed_members : (name : List ℕ) (k : Kind) (fs : Flds) (vs : Vals) → is_padding k ≡ false →
    field_members (with_field name k fs) vs ≡ member name (json_of (type_of k) (first vs)) ∷ field_members fs (others vs)
typed_members name (Typed s) fs vs h = refl
typed_members name (Padding n) fs vs h = absurd (false≢true (sym h))

padded_members : (name : List ℕ) (k : Kind) (fs : Flds) (vs : Vals) → is_padding k ≡ true → field_members (with_field name k fs) vs ≡ field_members fs vs
padded_members name (Typed s) fs vs h = absurd (false≢true h)
padded_members name (Padding n) fs vs h = refl

-- one field more was put
pub fields_next : (whole : List Piece) (items : List Field) (i : ℕ) (x : Field) (n : ℕ) (values : List Value) (y : Value) (old now led new : List ℕ) → i < length items → x ≡ get_or items i x →
    is_padding (named x).1 ≡ false → n < length values → y ≡ get_or values n y →
    Towards whole (rest_of (n == 0) (field_members (flds (drop i items)) (vals (drop n values)))) old now → Adds (lead (n == 0)) now led →
    Adds (member (named x).0 (json_of (type_of (named x).1) (val y))) led new →
    Towards whole (rest_of (n + 1 == 0) (field_members (flds (drop (i + 1) items)) (vals (drop (n + 1) values)))) old new
fields_next whole items i x n values y old now led new h e p g f t a b =
    let more = vals (drop (n + 1) values) in
    let fs = flds (drop (i + 1) items) in
    parts_next whole (member (named x).0 (json_of (type_of (named x).1) (val y))) (field_members fs more) n old now led new
    (subst (λ ts. Towards whole (rest_of (n == 0) ts) old now)
    ((λ k. field_members (flds_next items i x h e k) (vals_next values n y g f k)) ∙ typed_members (named x).0 (named x).1 fs (More (val y) more) p) t) a b

-- padding is passed by
pub fields_padded : (whole : List Piece) (items : List Field) (i : ℕ) (x : Field) (n : ℕ) (vs : Vals) (old now : List ℕ) → i < length items → x ≡ get_or items i x → is_padding (named x).1 ≡ true →
    Towards whole (rest_of (n == 0) (field_members (flds (drop i items)) vs)) old now → Towards whole (rest_of (n == 0) (field_members (flds (drop (i + 1) items)) vs)) old now
fields_padded whole items i x n vs old now h e p t =
    subst (λ ts. Towards whole (rest_of (n == 0) ts) old now)
    (ap (λ fs. field_members fs vs) (flds_next items i x h e) ∙ padded_members (named x).0 (named x).1 (flds (drop (i + 1) items)) vs p) t

-- all were put
pub fields_end : (b : Body) (items : List Field) (i n : ℕ) (vs left : Vals) (old now : List ℕ) → items ≡ (out-Body b).fields → length items ≤ i →
    Towards (separated (field_members (flds items) vs)) (rest_of (n == 0) (field_members (flds (drop i items)) left)) old now →
    Adds (separated (field_members (body_of b).0 vs)) old now
fields_end b items i n vs left old now e h t =
    subst (λ fs. Adds (separated (field_members fs vs)) old now) (sym (fields_are b items e))
    (parts_end (separated (field_members (flds items) vs)) (n == 0) old now
    (subst (λ fs. Towards (separated (field_members (flds items) vs)) (rest_of (n == 0) (field_members fs left)) old now) (flds_end items i h) t))

-- ---- variants

first_variant : (name : List ℕ) (k : Kind) (fs : Flds) (v : Val) → is_padding k ≡ false → variant_member (with_field name k fs) 0 v ≡ member name (json_of (type_of k) v)
first_variant name (Typed s) fs v h = refl
first_variant name (Padding n) fs v h = absurd (false≢true (sym h))

pub variant_put : {T E : Type 0} (r : Result T E) (b : Body) (items : List Field) (i : ℕ) (x : Field) (left tag : ℕ) (v : Val) (now old new : List ℕ) →
    now ≡ old → items ≡ (out-Body b).fields → i < length items → x ≡ get_or items i x → left ≡ 0 → is_padding (named x).1 ≡ false →
    variant_member (flds (drop i items)) left v ≡ variant_member (flds items) tag v →
    OnOk r (Adds (member (named x).0 (json_of (type_of (named x).1) v)) now new) → OnOk r (Adds (variant_member (body_of b).0 tag v) old new)
variant_put r b items i x left tag v now old new so_far e lt at z typed same h =
    on_ok r (λ a. subst (λ t. Adds (variant_member (body_of b).0 tag v) t new) so_far
    (subst (λ ps. Adds ps now new)
    (sym (first_variant (named x).0 (named x).1 (flds (drop (i + 1) items)) v typed)
    ∙ (λ k. variant_member (sym (flds_next items i x lt at) k) (sym z k) v)
    ∙ same ∙ ap (λ fs. variant_member fs tag v) (sym (fields_are b items e))) a)) h

-- ---- values without parts

pub raw_bits : (t : Prim) (v : Val) → FitsSimple t v → HasRawBits (width t) v
raw_bits PBool (Truth b) h = tt
raw_bits (PUint w c) (Num z) h = tt
raw_bits (PInt w) (Num z) h = tt
raw_bits (PFloat w c) (Raw n) h = h
raw_bits PBool (Num z) h = absurd h
raw_bits PBool (Raw n) h = absurd h
raw_bits PBool (Items vs) h = absurd h
raw_bits PBool (Parts vs) h = absurd h
raw_bits PBool (Tagged t v) h = absurd h
raw_bits (PUint w c) (Truth b) h = absurd h
raw_bits (PUint w c) (Raw n) h = absurd h
raw_bits (PUint w c) (Items vs) h = absurd h
raw_bits (PUint w c) (Parts vs) h = absurd h
raw_bits (PUint w c) (Tagged t v) h = absurd h
raw_bits (PInt w) (Truth b) h = absurd h
raw_bits (PInt w) (Raw n) h = absurd h
raw_bits (PInt w) (Items vs) h = absurd h
raw_bits (PInt w) (Parts vs) h = absurd h
raw_bits (PInt w) (Tagged t v) h = absurd h
raw_bits (PFloat w c) (Truth b) h = absurd h
raw_bits (PFloat w c) (Num z) h = absurd h
raw_bits (PFloat w c) (Items vs) h = absurd h
raw_bits (PFloat w c) (Parts vs) h = absurd h
raw_bits (PFloat w c) (Tagged t v) h = absurd h

-- a primitive of the code
pub simple_put : {T E : Type 0} (r : Result T E) (s : Schema) (t : Prim) (w : ℕ) (v : Val) (old new : List ℕ) → sch s ≡ Simple t → w ≡ width t →
    OnOk r (Adds (simple_json w v) old new) → OnOk r (Adds (json_of (sch s) v) old new)
simple_put r s t w v old new e f h = on_ok r (λ a. subst (λ x. Adds (json_of x v) old new) (sym e) (subst (λ x. Adds (simple_json x v) old new) f a)) h

pub raw_bits_of : (s : Schema) (t : Prim) (w : ℕ) (v : Val) → sch s ≡ Simple t → w ≡ width t → Fits (sch s) v → HasRawBits w v
raw_bits_of s t w v e f h = subst (λ x. HasRawBits x v) (sym f) (raw_bits t v (subst (λ x. Fits x v) e h))

-- a composite of the code
pub struct_put : {T E : Type 0} (r : Result T E) (s : Schema) (b : Body) (v : Val) (vs : Vals) (old new : List ℕ) → s ≡ S.Struct b → vs ≡ parts_of v →
    OnOk r (Adds (in_braces (separated (field_members (body_of b).0 vs))) old new) → OnOk r (Adds (json_of (sch s) v) old new)
struct_put r s b v vs old new e f h =
    let is : sch s ≡ D.Struct (body_of b).0 (body_of b).1 = ap sch e ∙ search (rules, the_lemmas) in
    on_ok r (λ a. subst (λ t. Adds (json_of t v) old new) (sym is) (subst (λ x. Adds (in_braces (separated (field_members (body_of b).0 x))) old new) f a)) h

pub union_put : {T E : Type 0} (r : Result T E) (s : Schema) (b : Body) (v w : Val) (tag : ℕ) (old new : List ℕ) → s ≡ S.Union b → tag ≡ tag_of v → w ≡ inner_of v →
    OnOk r (Adds (in_braces (variant_member (body_of b).0 tag w)) old new) → OnOk r (Adds (json_of (sch s) v) old new)
union_put r s b v w tag old new e f g h =
    let is : sch s ≡ D.Union (body_of b).0 (body_of b).1 = union_is s b e in
    on_ok r (λ a. subst (λ t. Adds (json_of t v) old new) (sym is) (subst (λ x. Adds (in_braces (variant_member (body_of b).0 x (inner_of v))) old new) f (subst (λ x. Adds (in_braces (variant_member (body_of b).0 tag x)) old new) g a))) h

-- an array of bytes, and another one
pub bytes_put : (b : Bool) (f : Val → List Piece) (vs : Vals) (old new : List ℕ) → b ≡ true → are_bytes vs ≡ true → new ≡ old ++ bytes_json (bytes_of vs) → Adds (array_json b f vs) old new
bytes_put b f vs old new h g e =
    subst (λ x. Adds (if x && are_bytes vs then exact (bytes_json (bytes_of vs)) else in_brackets (separated (texts f vs))) old new) (sym h)
    (subst (λ x. Adds (if x then exact (bytes_json (bytes_of vs)) else in_brackets (separated (texts f vs))) old new) (sym g) (adds_exact old new (bytes_json (bytes_of vs)) e))

pub row_put : (b : Bool) (f : Val → List Piece) (vs : Vals) (old new : List ℕ) → b && are_bytes vs ≡ false → Adds (in_brackets (separated (texts f vs))) old new → Adds (array_json b f vs) old new
row_put b f vs old new h a = subst (λ x. Adds (if x then exact (bytes_json (bytes_of vs)) else in_brackets (separated (texts f vs))) old new) (sym h) a

-- ---- what fits is left

pub items_left : (P : Val → Type 0) (items : List Value) (i : ℕ) (x : Value) → i < length items → x ≡ get_or items i x → AllOf P (vals (drop i items)) → P (val x) × AllOf P (vals (drop (i + 1) items))
items_left P items i x h e all = subst (λ vs. AllOf P vs) (vals_next items i x h e) all

some_value : (name : List ℕ) (k : Kind) (fs : Flds) (vs : Vals) → is_padding k ≡ false → FitFields (with_field name k fs) vs → vs ≡ Empty → ⊥
some_value name (Typed s) fs vs h fit e = subst (λ x. FitFields (D.Field name s fs) x) e fit
some_value name (Padding n) fs vs h fit e = false≢true (sym h)

-- a field that isn't padding has a value
pub value_here : (items : List Field) (i : ℕ) (x : Field) (n : ℕ) (values : List Value) → i < length items → x ≡ get_or items i x → is_padding (named x).1 ≡ false →
    FitFields (flds (drop i items)) (vals (drop n values)) → (n < length values) ⊎ (length values ≤ n) → n < length values
value_here items i x n values h e p fit (inl l) = l
value_here items i x n values h e p fit (inr l) =
    absurd (some_value (named x).0 (named x).1 (flds (drop (i + 1) items)) (vals (drop n values)) p (subst (λ fs. FitFields fs (vals (drop n values))) (flds_next items i x h e) fit) (vals_end values n l))

typed_fit : (name : List ℕ) (k : Kind) (fs : Flds) (v : Val) (vs : Vals) → is_padding k ≡ false → FitFields (with_field name k fs) (More v vs) → FitFields fs vs
typed_fit name (Typed s) fs v vs h fit = fit.1
typed_fit name (Padding n) fs v vs h fit = absurd (false≢true (sym h))

pub fields_left : (items : List Field) (i : ℕ) (x : Field) (n : ℕ) (values : List Value) (y : Value) → i < length items → x ≡ get_or items i x → is_padding (named x).1 ≡ false → n < length values → y ≡ get_or values n y →
    FitFields (flds (drop i items)) (vals (drop n values)) → FitFields (flds (drop (i + 1) items)) (vals (drop (n + 1) values))
fields_left items i x n values y h e p g f fit =
    typed_fit (named x).0 (named x).1 (flds (drop (i + 1) items)) (val y) (vals (drop (n + 1) values)) p
    (subst (λ vs. FitFields (with_field (named x).0 (named x).1 (flds (drop (i + 1) items))) vs) (vals_next values n y g f) (subst (λ fs. FitFields fs (vals (drop n values))) (flds_next items i x h e) fit))

padded_fit : (name : List ℕ) (k : Kind) (fs : Flds) (vs : Vals) → is_padding k ≡ true → FitFields (with_field name k fs) vs → FitFields fs vs
padded_fit name (Typed s) fs vs h fit = absurd (false≢true h)
padded_fit name (Padding n) fs vs h fit = fit

pub fields_padded_left : (items : List Field) (i : ℕ) (x : Field) (vs : Vals) → i < length items → x ≡ get_or items i x → is_padding (named x).1 ≡ true → FitFields (flds (drop i items)) vs → FitFields (flds (drop (i + 1) items)) vs
fields_padded_left items i x vs h e p fit =
    padded_fit (named x).0 (named x).1 (flds (drop (i + 1) items)) vs p (subst (λ fs. FitFields fs vs) (flds_next items i x h e) fit)

typed_value : (name : List ℕ) (k : Kind) (fs : Flds) (v : Val) (vs : Vals) → is_padding k ≡ false → FitFields (with_field name k fs) (More v vs) → Fits (type_of k) v
typed_value name (Typed s) fs v vs h fit = fit.0
typed_value name (Padding n) fs v vs h fit = absurd (false≢true (sym h))

pub value_fits : (items : List Field) (i : ℕ) (x : Field) (n : ℕ) (values : List Value) (y : Value) → i < length items → x ≡ get_or items i x → is_padding (named x).1 ≡ false → n < length values → y ≡ get_or values n y →
    FitFields (flds (drop i items)) (vals (drop n values)) → Fits (type_of (named x).1) (val y)
value_fits items i x n values y h e p g f fit =
    typed_value (named x).0 (named x).1 (flds (drop (i + 1) items)) (val y) (vals (drop (n + 1) values)) p
    (subst (λ vs. FitFields (with_field (named x).0 (named x).1 (flds (drop (i + 1) items))) vs) (vals_next values n y g f) (subst (λ fs. FitFields fs (vals (drop n values))) (flds_next items i x h e) fit))

-- a number or a float of the code, by its width
abbrev pub IsWidth : Schema → ℕ → Type 0
IsWidth s w = ((cast : Cast) × s ≡ S.Uint w cast) ⊎ ((s ≡ S.Int w) ⊎ ((cast : Cast) × s ≡ S.Float w cast))

pub primitive_of : (s : Schema) (w : ℕ) → IsWidth s w → (t : Prim) × (sch s ≡ Simple t) × (w ≡ width t)
primitive_of s w (inl (cast, e)) = (PUint w (is_saturated cast), ap type_of (ap kind_of e ∙ kind_uint w cast), refl)
primitive_of s w (inr (inl e)) = (PInt w, ap type_of (ap kind_of e ∙ kind_int w), refl)
primitive_of s w (inr (inr (cast, e))) = (PFloat w (is_saturated cast), ap type_of (ap kind_of e ∙ kind_float w cast), refl)
