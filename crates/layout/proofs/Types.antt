-- What schemas and fields of the code stand for
use Rattle.std.proofs.Common.{◌≡◌, ℕ, suc, ◌+◌, ◌<◌, ◌≤◌, false, List, [], ◌∷◌, length, drop, get_or, refl, sym, ap, ◌∙◌, subst, arith, rules}
use Rattle.std.proofs.lemmas.List.{at_drop_more, drop_all}
use Rattle.std.proofs.lemmas.Bool.{false≢true}
use Rattle.dsdl_types.specs.Schemas.{Sch, Flds, Pad, Field as F, End, variants}
use Rattle.dsdl_types.specs.Schemas as D
use Rattle.dsdl_types.specs.Rules.{IsFormed, NoPadding}
use Rattle.dsdl_types.specs.Views.{Kind, Typed, Padding, kind_of, type_of, is_padding, with_field, named, flds, sch, body_of, is_saturated}
use Rattle.dsdl_types.specs.declared.schema.Schema.{Schema}
use Rattle.dsdl_types.specs.declared.schema.Schema.TheVariants as S
use Rattle.dsdl_types.specs.declared.schema.Field.{Field}
use Rattle.dsdl_types.specs.declared.schema.Schema.TheFolds.{the_lemmas}
use Rattle.dsdl_types.specs.declared.schema.Body.{Body, out-Body}
use Rattle.dsdl_types.specs.declared.schema.Cast.{Cast}
use Rattle.dsdl_types.proofs.Equations.{kind_bool, kind_uint, kind_int, kind_float, kind_void, kind_fixed, kind_var}
use Rattle.dsdl_types.proofs.Views.{body_is}

-- padding alone is no type
pub void_unformed : (s : Schema) (bits : ℕ) → s ≡ S.Void bits → IsFormed (sch s) → ⊥
void_unformed s bits e h =
    let k : sch s ≡ type_of (Padding bits) = ap type_of (ap kind_of e ∙ kind_void bits) in
    let l : IsFormed (type_of (Padding bits)) = subst IsFormed k h in
    absurd (omega (arith, l.0))

-- the fields that are left, as the next one and the rest
pub flds_next : (items : List Field) (i : ℕ) (x : Field) → i < length items → x ≡ get_or items i x →
    flds (drop i items) ≡ with_field (named x).0 (named x).1 (flds (drop (i + 1) items))
flds_next items i x h e =
    at_drop_more flds items i x h ∙ ap (λ y. with_field (named y).0 (named y).1 (flds (drop (i + 1) items))) (sym e)

pub flds_end : (items : List Field) (i : ℕ) → length items ≤ i → flds (drop i items) ≡ End
flds_end items i h = ap flds (drop_all i items h)

pub field_typed : (name : List ℕ) (k : Kind) (fs : Flds) → is_padding k ≡ false → with_field name k fs ≡ F name (type_of k) fs
field_typed name (Typed s) fs h = refl
field_typed name (Padding n) fs h = absurd (false≢true (sym h))

pub variant_typed : (name : List ℕ) (k : Kind) (fs : Flds) → NoPadding (with_field name k fs) → with_field name k fs ≡ F name (type_of k) fs
variant_typed name (Typed s) fs h = refl
variant_typed name (Padding n) fs h = absurd h

one_more : (n : ℕ) (name : List ℕ) (k : Kind) (fs : Flds) → NoPadding (with_field name k fs) → (NoPadding fs → variants fs ≡ n) → variants (with_field name k fs) ≡ suc n
one_more n name (Typed s) fs h f = ap suc (f h)
one_more n name (Padding m) fs h f = absurd h

variants_count : (items : List Field) → NoPadding (flds items) → variants (flds items) ≡ length items
variants_count [] h = refl
variants_count (x ∷ items) h = one_more (length items) (named x).0 (named x).1 (flds items) h (variants_count items)

pub body_fields : (b : Body) (items : List Field) → items ≡ (out-Body b).fields → (body_of b).0 ≡ flds items
body_fields b items e = ap (λ x. x.0) (body_is b) ∙ ap flds (sym e)

pub body_count : (b : Body) (n : ℕ) → n ≡ length (out-Body b).fields → NoPadding (body_of b).0 → variants (body_of b).0 ≡ n
body_count b n e h =
    let f : (body_of b).0 ≡ flds (out-Body b).fields = body_fields b (out-Body b).fields refl in
    ap variants f ∙ variants_count (out-Body b).fields (subst NoPadding f h) ∙ sym e

kind_struct : (b : Body) → kind_of (S.Struct b) ≡ Typed (D.Struct (body_of b).0 (body_of b).1)
kind_struct b = search (rules, the_lemmas)

kind_union : (b : Body) → kind_of (S.Union b) ≡ Typed (D.Union (body_of b).0 (body_of b).1)
kind_union b = search (rules, the_lemmas)

pub struct_is : (s : Schema) (b : Body) → s ≡ S.Struct b → sch s ≡ D.Struct (body_of b).0 (body_of b).1
struct_is s b e = ap type_of (ap kind_of e ∙ kind_struct b)

pub union_is : (s : Schema) (b : Body) → s ≡ S.Union b → sch s ≡ D.Union (body_of b).0 (body_of b).1
union_is s b e = ap type_of (ap kind_of e ∙ kind_union b)

pub bool_is : (s : Schema) → s ≡ S.Bool → sch s ≡ D.Simple D.PBool
bool_is s e = ap type_of (ap kind_of e ∙ kind_bool)

pub uint_is : (s : Schema) (bits : ℕ) (cast : Cast) → s ≡ S.Uint bits cast → sch s ≡ D.Simple (D.PUint bits (is_saturated cast))
uint_is s bits cast e = ap type_of (ap kind_of e ∙ kind_uint bits cast)

pub int_is : (s : Schema) (bits : ℕ) → s ≡ S.Int bits → sch s ≡ D.Simple (D.PInt bits)
int_is s bits e = ap type_of (ap kind_of e ∙ kind_int bits)

pub float_is : (s : Schema) (bits : ℕ) (cast : Cast) → s ≡ S.Float bits cast → sch s ≡ D.Simple (D.PFloat bits (is_saturated cast))
float_is s bits cast e = ap type_of (ap kind_of e ∙ kind_float bits cast)

pub fixed_is : (s item inner : Schema) (len : ℕ) → s ≡ S.Fixed item len → inner ≡ item → sch s ≡ D.Fixed (sch inner) len
fixed_is s item inner len e i = ap type_of (ap kind_of e ∙ kind_fixed item len) ∙ ap (λ x. D.Fixed (sch x) len) (sym i)

pub var_is : (s item inner : Schema) (cap : ℕ) → s ≡ S.Var item cap → inner ≡ item → sch s ≡ D.Var (sch inner) cap
var_is s item inner cap e i = ap type_of (ap kind_of e ∙ kind_var item cap) ∙ ap (λ x. D.Var (sch x) cap) (sym i)
