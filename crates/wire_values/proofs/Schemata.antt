-- What a schema or a value of the code is made of
use Rattle.std.proofs.Common.{◌≡◌, ◌∙◌, ℕ, zero, suc, ◌+◌, ◌*◌, ◌<◌, ◌≤◌, false, List, length, drop, get_or, sym, ap, arith, rules}
use Rattle.std.proofs.lemmas.Bool.{false≢true}
use Rattle.std.proofs.lemmas.List.{at_drop_more, drop_all}
use Rattle.dsdl_types.specs.Schemas.{Flds, Outline, End}
use Rattle.dsdl_types.specs.Schemas as D
use Rattle.dsdl_types.specs.Values.{Empty, More}
use Rattle.dsdl_types.specs.Rules.{nodes}
use Rattle.dsdl_types.specs.Views.{Kind, Typed, Padding, is_padding, kind_of, sch, type_of, with_field, named, flds, val, vals, body_of}
use Rattle.dsdl_types.specs.declared.schema.Schema.{Schema}
use Rattle.dsdl_types.specs.declared.schema.Schema.TheVariants as S
use Rattle.dsdl_types.specs.declared.schema.Schema.TheFolds.{the_lemmas}
use Rattle.dsdl_types.specs.declared.schema.Body.{Body, out-Body}
use Rattle.dsdl_types.specs.declared.schema.Field.{Field}
use Rattle.dsdl_types.specs.declared.value.Value.{Value}
use Rattle.dsdl_types.proofs.Equations.{kind_fixed, kind_var}
use Rattle.dsdl_types.proofs.Views.{body_is}
use Rattle.wire_values.specs.Rules.{HasRules, HaveRules}

pub vals_next : (items : List Value) (i : ℕ) (x : Value) → i < length items → x ≡ get_or items i x →
    vals (drop i items) ≡ More (val x) (vals (drop (i + 1) items))
vals_next items i x h e = at_drop_more vals items i x h ∙ ap (λ y. More (val y) (vals (drop (i + 1) items))) (sym e)

pub vals_end : (items : List Value) (i : ℕ) → length items ≤ i → vals (drop i items) ≡ Empty
vals_end items i h = ap vals (drop_all i items h)

pub flds_next : (items : List Field) (i : ℕ) (x : Field) → i < length items → x ≡ get_or items i x →
    flds (drop i items) ≡ with_field (named x).0 (named x).1 (flds (drop (i + 1) items))
flds_next items i x h e =
    at_drop_more flds items i x h ∙ ap (λ y. with_field (named y).0 (named y).1 (flds (drop (i + 1) items))) (sym e)

pub flds_end : (items : List Field) (i : ℕ) → length items ≤ i → flds (drop i items) ≡ End
flds_end items i h = ap flds (drop_all i items h)

pub fields_are : (b : Body) (items : List Field) → items ≡ (out-Body b).fields → flds items ≡ (body_of b).0
fields_are b items e = ap flds e ∙ sym (ap (λ x. x.0) (body_is b))

-- ---- the schema that each form of the code stands for

pub fixed_is : (s item inner : Schema) (n : ℕ) → s ≡ S.Fixed item n → inner ≡ item → sch s ≡ D.Fixed (sch inner) n
fixed_is s item inner n e i = ap type_of (ap kind_of e ∙ kind_fixed item n) ∙ ap (λ x. D.Fixed (sch x) n) (sym i)

pub var_is : (s item inner : Schema) (n : ℕ) → s ≡ S.Var item n → inner ≡ item → sch s ≡ D.Var (sch inner) n
var_is s item inner n e i = ap type_of (ap kind_of e ∙ kind_var item n) ∙ ap (λ x. D.Var (sch x) n) (sym i)

pub struct_is : (s : Schema) (b : Body) → s ≡ S.Struct b → sch s ≡ D.Struct (body_of b).0 (body_of b).1
struct_is s b e = ap sch e ∙ search (rules, the_lemmas)

pub union_is : (s : Schema) (b : Body) → s ≡ S.Union b → sch s ≡ D.Union (body_of b).0 (body_of b).1
union_is s b e = ap sch e ∙ search (rules, the_lemmas)

-- ---- the rules of a part

item_nodes : (n k : ℕ) → 1 ≤ n → k ≤ n * k
item_nodes zero k h = absurd (omega arith)
item_nodes (suc n) k h = omega arith

pub fixed_rules : (s : D.Sch) (n : ℕ) → HasRules (D.Fixed s n) → HasRules s
fixed_rules s n h = (h.0.3, h.1, omega (arith, h.2, item_nodes n (nodes s) h.0.0))

pub var_rules : (s : D.Sch) (n : ℕ) → HasRules (D.Var s n) → HasRules s
var_rules s n h = (h.0.3, h.1.1, omega (arith, h.2, item_nodes n (nodes s) h.0.0))

pub struct_rules : (fs : Flds) (o : Outline) → HasRules (D.Struct fs o) → HaveRules fs
struct_rules fs o h = (h.0.1, h.1.1, omega (arith, h.2))

pub union_rules : (fs : Flds) (o : Outline) → HasRules (D.Union fs o) → HaveRules fs
union_rules fs o h = (h.0.3, h.1.2, omega (arith, h.2))

pub front_rules : (name : List ℕ) (k : Kind) (fs : Flds) → HaveRules (with_field name k fs) → HaveRules (with_field name k End)
front_rules name (Typed s) fs h = ((h.0.0, tt), (h.1.0, tt), omega (arith, h.2))
front_rules name (Padding n) fs h = ((h.0.0, h.0.1, tt), tt, omega arith)

pub behind_rules : (name : List ℕ) (k : Kind) (fs : Flds) → HaveRules (with_field name k fs) → HaveRules fs
behind_rules name (Typed s) fs h = (h.0.1, h.1.1, omega (arith, h.2))
behind_rules name (Padding n) fs h = (h.0.2, h.1, h.2)

pub field_rules : (name : List ℕ) (k : Kind) (fs : Flds) → is_padding k ≡ false → HaveRules (with_field name k fs) → HasRules (type_of k)
field_rules name (Typed s) fs p h = (h.0.0, h.1.0, omega (arith, h.2))
field_rules name (Padding n) fs p h = absurd (false≢true (sym p))
