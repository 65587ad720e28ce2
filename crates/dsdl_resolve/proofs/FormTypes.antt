-- The type of a form keeps the rules.
use Rattle.std.proofs.Common.{◌≡◌, ℕ, ◌-◌, ◌^◌, ◌≤◌, ◌&&◌, Bool, true, false, List, [], ◌∷◌, Option, Some, None, if◌then◌else◌, refl, sym, ap, ◌∙◌, subst, arith, pos, negsuc, ℤ}
use Rattle.std.specs.Prelude.{nat_lt, nat_le, nat_eq, codes, drop}
use Rattle.std.specs.List.{All, starts_with}
use Rattle.std.specs.Str.{bytes_eq}
use Rattle.std.specs.Option.{option_map}
use Rattle.std.proofs.lemmas.Bool.{ltb-false, leb-true, and_parts}
use Rattle.std.proofs.lemmas.List.Elements.{All-head, All-tail}
use Rattle.std.proofs.lemmas.Option.{none-some, same_Some, option_and_then_some}
use Rattle.dsdl_names.specs.Words.{at_most, number_of, number_to}
use Rattle.dsdl_names.specs.declared.TypeId.{TypeId}
use Rattle.dsdl_parse.specs.declared.expr.Reference.{Reference}
use Rattle.dsdl_parse.specs.declared.statement.Bound.{Bound}
use Rattle.dsdl_parse.specs.declared.statement.BoundSign.{BoundSign}
use Rattle.dsdl_parse.specs.declared.statement.BoundSign.TheVariants.{Exact, AtMost, Below}
use Rattle.dsdl_parse.specs.declared.statement.Form.{Form}
use Rattle.dsdl_parse.specs.declared.statement.Prefix.{Prefix}
use Rattle.dsdl_parse.specs.declared.statement.Scalar.{Scalar}
use Rattle.dsdl_parse.specs.declared.statement.Scalar.TheVariants as scalar
use Rattle.dsdl_links.specs.Mentions as Mentions
use Rattle.dsdl_types.specs.Definitions.{IsDefinition, IsType, AreTypes}
use Rattle.dsdl_types.specs.Finding.{same_id, definition_of}
use Rattle.dsdl_types.specs.Names.{HasNames}
use Rattle.dsdl_types.specs.Rules.{IsPrim, IsItem, IsFormed, IsSchema, is_float_width}
use Rattle.dsdl_types.specs.Schemas.{Sch, Prim, PBool, Simple, Fixed, Var, Struct, Union, is_composite}
use Rattle.dsdl_types.specs.Views.{Kind, Typed, Padding, kind_of, type_of, sch}
use Rattle.dsdl_types.specs.declared.definition.Definition.{Definition}
use Rattle.dsdl_types.specs.declared.definition.Parts.{Parts}
use Rattle.dsdl_types.specs.declared.definition.Parts.TheVariants as parts
use Rattle.dsdl_types.specs.declared.schema.Cast.{Cast}
use Rattle.dsdl_types.specs.declared.schema.Schema.{Schema}
use Rattle.dsdl_types.specs.declared.schema.Schema.TheVariants as schema
use Rattle.dsdl_types.proofs.Equations.{kind_bool, kind_uint, kind_int, kind_float, kind_fixed, kind_var}
use Rattle.const_expr.specs.declared.constant.Const.{Const, out-Const}
use Rattle.const_expr.specs.declared.constant.Const.TheOpen as o
use Rattle.const_expr.specs.declared.scope.Scope.{Scope}
use Rattle.const_expr.specs.Constants.{Layer, whole_of}
use Rattle.const_expr.specs.Text.{id_text}
use Rattle.dsdl_resolve.specs.declared.typed.Typed as of_form
use Rattle.dsdl_resolve.specs.Forms as forms
use Rattle.dsdl_resolve.specs.Forms.{at_least, width_in, float_width, cast_of, primitive_of, schema_of, of_primitive, message_in, message, of_message, referred, item_of, within, most_items, items_of, count_of, capacity, array_schema, array_of, bounded, in_bound}
use Rattle.dsdl_resolve.specs.Totals.{AreCountsOf, IsPartType, item_type}
use Rattle.dsdl_resolve.specs.declared.counts.Counts.{Counts}
use Rattle.dsdl_resolve.specs.declared.primitive.Primitive.{Primitive}
use Rattle.dsdl_resolve.specs.declared.primitive.Primitive.TheVariants as primitive

-- a type of a field: one that keeps the rules, and no padding
pub record IsFieldType (s : Schema) : Type 0 where
  pub typed : kind_of s ≡ Typed (sch s)
  pub formed : IsFormed (sch s)
  pub names : HasNames (sch s)
  pub part : IsPartType (sch s)

-- the same of an item: no array
record IsItemType (s : Schema) : Type 0 where
  type : IsFieldType s
  item : IsItem (sch s)
  rules : IsSchema (sch s)

-- ---- primitive types
at_most_bound : (most w : ℕ) (n : Option ℕ) → at_most most n ≡ Some w → w ≤ most
at_most_bound most w None e = absurd (cc)
at_most_bound most w (Some n) e = go (nat_lt most n) refl e
  where
    go : (t : Bool) → nat_lt most n ≡ t → (if t then None else Some n) ≡ Some w → w ≤ most
    go true f e = absurd (cc)
    go false f e = let same : n ≡ w = cc in subst (λ v. v ≤ most) same (ltb-false most n f)

at_least_bound : (least w : ℕ) (n : Option ℕ) → at_least least n ≡ Some w → (least ≤ w) × (n ≡ Some w)
at_least_bound least w None e = absurd (cc)
at_least_bound least w (Some n) e = go (nat_lt n least) refl e
  where
    go : (t : Bool) → nat_lt n least ≡ t → (if t then None else Some n) ≡ Some w → (least ≤ w) × (Some n ≡ Some w)
    go true f e = absurd (cc)
    go false f e = let same : n ≡ w = cc in (subst (λ v. least ≤ v) same (ltb-false n least f), e)

pub width_bound : (least most w : ℕ) (digits : List ℕ) → width_in least most digits ≡ Some w → (least ≤ w) × (w ≤ most)
width_bound least most w digits e =
    let p = at_least_bound least w (number_to most digits) e in (p.0, at_most_bound most w (number_of digits) p.1)

float_bound : (n : Option ℕ) (w : ℕ) → float_width n ≡ Some w → is_float_width w ≡ true
float_bound None w e = absurd (cc)
float_bound (Some n) w e = go (is_float_width n) refl e
  where
    go : (t : Bool) → is_float_width n ≡ t → (if t then Some n else None) ≡ Some w → is_float_width w ≡ true
    go true f e = let same : n ≡ w = cc in subst (λ v. is_float_width v ≡ true) same f
    go false f e = absurd (cc)

-- a width of its kind
abbrev IsWide : Primitive → Type 0
IsWide primitive.Bool = Unit {0}
IsWide (primitive.Uint w cast) = (1 ≤ w) × (w ≤ 64)
IsWide (primitive.Int w) = (2 ≤ w) × (w ≤ 64)
IsWide (primitive.Float w cast) = is_float_width w ≡ true

made : (n : Option ℕ) (f : ℕ → Primitive) (p : Primitive) → ((w : ℕ) → n ≡ Some w → IsWide (f w)) → option_map f n ≡ Some p → IsWide p
made None f p wide e = absurd (cc)
made (Some w) f p wide e = subst IsWide (same_Some (f w) p e) (wide w refl)

wide_primitive : (a b c d : Bool) (cast : Cast) (u i f : List ℕ) (p : Primitive) →
    (if a then Some primitive.Bool
    else if b then option_map (λ w. primitive.Uint w cast) (width_in 1 64 u)
    else if c then option_map (λ w. primitive.Int w) (width_in 2 64 i)
    else if d then option_map (λ w. primitive.Float w cast) (float_width (number_to 64 f))
    else None) ≡ Some p → IsWide p
wide_primitive true b c d cast u i f p e = subst IsWide (same_Some primitive.Bool p e) tt
wide_primitive false true c d cast u i f p e = made (width_in 1 64 u) (λ w. primitive.Uint w cast) p (λ w h. width_bound 1 64 w u h) e
wide_primitive false false true d cast u i f p e = made (width_in 2 64 i) (λ w. primitive.Int w) p (λ w h. width_bound 2 64 w i h) e
wide_primitive false false false true cast u i f p e = made (float_width (number_to 64 f)) (λ w. primitive.Float w cast) p (λ w h. float_bound (number_to 64 f) w h) e
wide_primitive false false false false cast u i f p e = absurd (none-some p e)

named_wide : (word : Option Prefix) (name : List ℕ) (p : Primitive) → primitive_of word name ≡ Some p → IsWide p
named_wide word name p e =
    wide_primitive (bytes_eq name (codes "bool")) (starts_with nat_eq name (codes "uint")) (starts_with nat_eq name (codes "int")) (starts_with nat_eq name (codes "float"))
    (cast_of word) (drop 4 name) (drop 3 name) (drop 5 name) p e

simple_item : (s : Schema) (t : Prim) → kind_of s ≡ Typed (Simple t) → IsPrim t → IsItemType s
simple_item s t e h =
    let same : sch s ≡ Simple t = ap type_of e in
    let rules : IsSchema (Simple t) = (h, omega arith, omega arith, tt) in
    record {
      type = record { typed = e ∙ ap Typed (sym same); formed = subst IsFormed (sym same) h; names = subst HasNames (sym same) tt; part = subst IsPartType (sym same) rules };
      item = subst IsItem (sym same) tt;
      rules = subst IsSchema (sym same) rules;
    }

primitive_item : (p : Primitive) → IsWide p → IsItemType (schema_of p)
primitive_item primitive.Bool h = simple_item (schema_of primitive.Bool) PBool kind_bool tt
primitive_item (primitive.Uint w cast) h = simple_item (schema_of (primitive.Uint w cast)) _ (kind_uint w cast) h
primitive_item (primitive.Int w) h = simple_item (schema_of (primitive.Int w)) _ (kind_int w) h
primitive_item (primitive.Float w cast) h = simple_item (schema_of (primitive.Float w cast)) _ (kind_float w cast) h

-- ---- messages
composite_kind : (k : Kind) → is_composite (type_of k) ≡ true → k ≡ Typed (type_of k)
composite_kind (Typed s) h = refl
composite_kind (Padding n) h = absurd (cc)

composite_item : (s : Sch) → is_composite s ≡ true → IsItem s
composite_item (Simple t) h = tt
composite_item (Fixed s n) h = absurd (cc)
composite_item (Var s n) h = absurd (cc)
composite_item (Struct fs o) h = tt
composite_item (Union fs o) h = tt

composite_part : (s : Sch) → is_composite s ≡ true → IsSchema s → IsPartType s
composite_part (Simple t) h rules = rules
composite_part (Fixed s n) h rules = absurd (cc)
composite_part (Var s n) h rules = absurd (cc)
composite_part (Struct fs o) h rules = rules
composite_part (Union fs o) h rules = rules

message_item : (s : Schema) → IsType s → IsItemType s
message_item s h = record {
  type = record { typed = composite_kind (kind_of s) h.1; formed = h.0.0; names = h.0.3; part = composite_part (sch s) h.1 h.0 };
  item = composite_item (sch s) h.1;
  rules = h.0;
}

message_type : (p : Parts) (s : Schema) → AreTypes p → message_in p ≡ Some s → IsType s
message_type (parts.Message t) s h e = subst IsType (same_Some t s e) h
message_type (parts.Service request response) s h e = absurd (none-some s e)

found : (ds : List Definition) (id : TypeId) (d : Definition) → All IsDefinition ds → definition_of ds id ≡ Some d → IsDefinition d
found [] id d h e = absurd (none-some d e)
found (x ∷ ds) id d h e = of_first (same_id x.id id) x (definition_of ds id) d (All-head IsDefinition x ds h) (λ f. found ds id d (All-tail IsDefinition x ds h) f) e
  where
    of_first : (t : Bool) (x : Definition) (rest : Option Definition) (d : Definition) → IsDefinition x → (rest ≡ Some d → IsDefinition d) → (if t then Some x else rest) ≡ Some d → IsDefinition d
    of_first true x rest d h next e = subst IsDefinition (same_Some x d e) h
    of_first false x rest d h next e = next e

mapped : {A B P : Type 0} (f : A → B) (a : Option A) (y : B) → option_map f a ≡ Some y → ((x : A) → a ≡ Some x → f x ≡ y → P) → P
mapped f None y e next = absurd (none-some y e)
mapped f (Some x) y e next = next x refl (same_Some (f x) y e)

module _ (scope : Scope) (sound : All IsDefinition scope.namespace.definitions) where
  message_sound : (id : TypeId) (s : Schema) → message scope id ≡ Some s → IsType s
  message_sound id s e =
      option_and_then_some (λ (d : Definition). message_in d.parts) (definition_of scope.namespace.definitions id) s e
      (λ d at is. message_type d.parts s (found scope.namespace.definitions id d sound at).rules is)

  referred_item : (r : Reference) (t : of_form.Typed) → referred scope r ≡ Some t → IsItemType t.schema
  referred_item r t e =
      option_and_then_some (of_message scope) (Mentions.type_of scope.own r) t e
      (λ id at is. mapped (λ s. record { schema = s; text = id_text id }) (message scope id) t is
      (λ s here same. subst (λ (u : of_form.Typed). IsItemType u.schema) same (message_item s (message_sound id s here))))

  item_fine : (s : Scalar) (t : of_form.Typed) → item_of scope s ≡ Some t → IsItemType t.schema
  item_fine (scalar.Primitive word name) t e =
      mapped of_primitive (primitive_of word name) t e
      (λ p at same. subst (λ (u : of_form.Typed). IsItemType u.schema) same (primitive_item p (named_wide word name p at)))
  item_fine (scalar.Reference r) t e = referred_item r t e
  item_fine (scalar.Void digits) t e = absurd (none-some t e)

  -- ---- arrays
  within_bound : (m n : ℕ) → within m ≡ Some n → (1 ≤ n) × (n ≤ 2 ^ 20)
  within_bound m n e = go (nat_le 1 m && nat_le m (2 ^ 20)) refl e
    where
      go : (t : Bool) → (nat_le 1 m && nat_le m (2 ^ 20)) ≡ t → (if t then Some m else None) ≡ Some n → (1 ≤ n) × (n ≤ 2 ^ 20)
      go true f e =
          let same : m ≡ n = same_Some m n e in
          let p = and_parts (nat_le 1 m) (nat_le m (2 ^ 20)) f in
          subst (λ v. (1 ≤ v) × (v ≤ 2 ^ 20)) same (leb-true 1 m p.0, leb-true m (2 ^ 20) p.1)
      go false f e = absurd (none-some n e)

  most_bound : (sign : BoundSign) (m n : ℕ) → most_items sign m ≡ Some n → (1 ≤ n) × (n ≤ 2 ^ 20)
  most_bound Exact m n e = within_bound m n e
  most_bound AtMost m n e = within_bound m n e
  most_bound Below m n e = within_bound (m - 1) n e

  items_bound : (sign : BoundSign) (z : Option ℤ) (n : ℕ) → items_of sign z ≡ Some n → (1 ≤ n) × (n ≤ 2 ^ 20)
  items_bound sign (Some (pos m)) n e = most_bound sign m n e
  items_bound sign (Some (negsuc m)) n e = absurd (none-some n e)
  items_bound sign None n e = absurd (none-some n e)

  count_bound : (sign : BoundSign) (u : Layer) (n : ℕ) → count_of sign u ≡ Some n → (1 ≤ n) × (n ≤ 2 ^ 20)
  count_bound sign (o.Number x) n e = items_bound sign (whole_of x) n e
  count_bound sign (o.Truth b) n e = absurd (none-some n e)
  count_bound sign (o.Str t) n e = absurd (none-some n e)
  count_bound sign (o.Set xs) n e = absurd (none-some n e)
  count_bound sign (o.Lengths ns) n e = absurd (none-some n e)
  count_bound sign (o.Named id) n e = absurd (none-some n e)

  bounded_bound : (sign : BoundSign) (u : Option Const) (n : ℕ) → bounded sign u ≡ Some n → (1 ≤ n) × (n ≤ 2 ^ 20)
  bounded_bound sign None n e = absurd (none-some n e)
  bounded_bound sign (Some u) n e = count_bound sign (out-Const u) n e

  fixed_fine : (s : Schema) (n : ℕ) → IsItemType s → (1 ≤ n) × (n ≤ 2 ^ 20) → IsFieldType (schema.Fixed s n)
  fixed_fine s n h b =
      let same : sch (schema.Fixed s n) ≡ Fixed (sch s) n = ap type_of (kind_fixed s n) in
      record {
        typed = kind_fixed s n ∙ ap Typed (sym same);
        formed = subst IsFormed (sym same) (b.0, b.1, h.item, h.type.formed);
        names = subst HasNames (sym same) h.type.names;
        part = subst IsPartType (sym same) (h.item, h.rules, b.1);
      }

  var_fine : (s : Schema) (n : ℕ) → IsItemType s → (1 ≤ n) × (n ≤ 2 ^ 20) → IsFieldType (schema.Var s n)
  var_fine s n h b =
      let same : sch (schema.Var s n) ≡ Var (sch s) n = ap type_of (kind_var s n) in
      record {
        typed = kind_var s n ∙ ap Typed (sym same);
        formed = subst IsFormed (sym same) (b.0, b.1, h.item, h.type.formed);
        names = subst HasNames (sym same) h.type.names;
        part = subst IsPartType (sym same) (h.item, h.rules, b.1);
      }

  array_fine : (sign : BoundSign) (s : Schema) (n : ℕ) → IsItemType s → (1 ≤ n) × (n ≤ 2 ^ 20) → IsFieldType (array_schema sign s n)
  array_fine Exact s n h b = fixed_fine s n h b
  array_fine AtMost s n h b = var_fine s n h b
  array_fine Below s n h b = var_fine s n h b

  bound_fine : (b : Option Bound) (u : Option Const) (item t : of_form.Typed) → IsItemType item.schema → in_bound b u item ≡ Some t → IsFieldType t.schema
  bound_fine None u item t h e = subst (λ (v : of_form.Typed). IsFieldType v.schema) (same_Some item t e) h.type
  bound_fine (Some b) u item t h e =
      mapped (array_of b.sign item) (bounded b.sign u) t e
      (λ n at same. subst (λ (v : of_form.Typed). IsFieldType v.schema) same (array_fine b.sign item.schema n h (bounded_bound b.sign u n at)))

  pub type_fine : (form : Form) (u : Option Const) (t : of_form.Typed) → forms.type_of scope form u ≡ Some t → IsFieldType t.schema
  type_fine form u t e =
      option_and_then_some (in_bound form.array u) (item_of scope form.scalar) t e
      (λ item at is. bound_fine form.array u item t (item_fine form.scalar item at) is)

  -- ---- how large an item of an array is
  item_self : (s : Sch) → IsItem s → item_type s ≡ s
  item_self (Simple t) h = refl
  item_self (Fixed s n) h = absurd h
  item_self (Var s n) h = absurd h
  item_self (Struct fs o) h = refl
  item_self (Union fs o) h = refl

  array_counts : (counts : Counts) (sign : BoundSign) (s : Schema) (n : ℕ) → AreCountsOf counts (sch s) → AreCountsOf counts (item_type (sch (array_schema sign s n)))
  array_counts counts Exact s n h = subst (λ x. AreCountsOf counts (item_type x)) (sym (ap type_of (kind_fixed s n))) h
  array_counts counts AtMost s n h = subst (λ x. AreCountsOf counts (item_type x)) (sym (ap type_of (kind_var s n))) h
  array_counts counts Below s n h = subst (λ x. AreCountsOf counts (item_type x)) (sym (ap type_of (kind_var s n))) h

  bound_counts : (counts : Counts) (b : Option Bound) (u : Option Const) (item t : of_form.Typed) → IsItem (sch item.schema) → AreCountsOf counts (sch item.schema) → in_bound b u item ≡ Some t → AreCountsOf counts (item_type (sch t.schema))
  bound_counts counts None u item t plain h e =
      subst (λ (v : of_form.Typed). AreCountsOf counts (item_type (sch v.schema))) (same_Some item t e) (subst (AreCountsOf counts) (sym (item_self (sch item.schema) plain)) h)
  bound_counts counts (Some b) u item t plain h e =
      mapped (array_of b.sign item) (bounded b.sign u) t e
      (λ n at same. subst (λ (v : of_form.Typed). AreCountsOf counts (item_type (sch v.schema))) same (array_counts counts b.sign item.schema n h))

  pub type_counts : (counts : Counts) (form : Form) (u : Option Const) (t : of_form.Typed) → forms.type_of scope form u ≡ Some t →
      ((item : of_form.Typed) → item_of scope form.scalar ≡ Some item → AreCountsOf counts (sch item.schema)) → AreCountsOf counts (item_type (sch t.schema))
  type_counts counts form u t e large =
      option_and_then_some (in_bound form.array u) (item_of scope form.scalar) t e
      (λ item at is. bound_counts counts form.array u item t (item_fine form.scalar item at).item (large item at) is)
