-- What the statements of a section say that are not refused makes a type that keeps the rules.
use Rattle.std.proofs.Common.{◌≡◌, ◌≢◌, ℕ, suc, ◌+◌, ◌^◌, ◌≤◌, ◌%◌, ◌==◌, ◌&&◌, ◌||◌, not, cond, take, Bool, true, false, List, [], ◌∷◌, ◌++◌, Option, Some, None, if◌then◌else◌, refl, sym, ap, ◌∙◌, subst, inl, inr, arith, codes, length-append}
use Rattle.std.specs.Prelude.{nat_lt, nat_le, is_some, is_none, min, max}
use Rattle.std.specs.List.{All, take_while, prefix_len, list_any, filter_map, count_by}
use Rattle.std.specs.Option.{option_map, option_or, option_and_then}
use Rattle.std.specs.Str.{bytes_eq}
use Rattle.std.proofs.lemmas.Bool.{or_cases, cases_Bool, cond-false, ltb-false, leb-true, eqb-true, and_parts, or_parts, false≢true, not-false}
use Rattle.std.proofs.lemmas.List.Folds.{list_any-append}
use Rattle.std.proofs.lemmas.List.Elements.{filter_map-append}
use Rattle.std.proofs.lemmas.List.Sums.{sum_by_push}
use Rattle.std.proofs.lemmas.Option.{none-some}
use Rattle.std.proofs.lemmas.Slice.Eq.{bytes_eq-Decides}
use Rattle.dsdl_names.specs.Words.{is_name}
use Rattle.dsdl_parse.specs.Spelling.{WellSpelled}
use Rattle.dsdl_parse.specs.declared.expr.Expr.{Expr}
use Rattle.dsdl_parse.specs.declared.statement.Bound.{Bound}
use Rattle.dsdl_parse.specs.declared.statement.Form.{Form}
use Rattle.dsdl_parse.specs.declared.statement.Scalar.{Scalar}
use Rattle.dsdl_parse.specs.declared.statement.Scalar.TheVariants as scalar
use Rattle.dsdl_parse.specs.declared.statement.Statement.{Statement}
use Rattle.dsdl_parse.specs.declared.statement.Statement.TheVariants as statement
use Rattle.dsdl_types.specs.Definitions.{IsDefinition}
use Rattle.dsdl_types.specs.Names.{IsNew, AreNamed, HaveNames}
use Rattle.dsdl_types.specs.Rules.{AreFormed, NoPadding, nesting, nesting_of, nodes, nodes_of}
use Rattle.dsdl_types.specs.Schemas.{variants}
use Rattle.dsdl_types.specs.Views.{Typed, Padding, kind_of, sch, flds}
use Rattle.dsdl_types.specs.declared.schema.Field.{Field, roll-Field}
use Rattle.dsdl_types.specs.declared.schema.Schema.{Schema}
use Rattle.dsdl_types.specs.declared.schema.Schema.TheVariants as schema
use Rattle.dsdl_types.proofs.Equations.{kind_void, named_field}
use Rattle.const_expr.specs.declared.constant.Const.{Const}
use Rattle.const_expr.specs.declared.scope.Scope.{Scope}
use Rattle.dsdl_resolve.specs.declared.typed.Typed as of_form
use Rattle.dsdl_resolve.specs.Forms as forms
use Rattle.dsdl_resolve.specs.Forms.{width_in, primitive_of, of_primitive, referred, item_of, bounded, in_bound, array_of}
use Rattle.dsdl_resolve.specs.Judged.{above_limit, assert_at, long_at, long_extent, refusal_valued}
use Rattle.dsdl_resolve.specs.Place.{Place, is_union_section}
use Rattle.dsdl_resolve.specs.Rules.{Tests, least, rules_of, rules_at, field_rules, padding_rules, directive_rules, has_wrong_width, has_wrong_capacity, is_no_message, is_nested_too_deep, has_too_many_nodes, is_used, is_extent_for, is_extent_too_small}
use Rattle.dsdl_resolve.specs.Said.{Said, greatest, node_count, depth}
use Rattle.dsdl_resolve.specs.Says.{is_split, is_union, is_extent, is_field, is_entry, attribute_of}
use Rattle.dsdl_resolve.specs.declared.values.Values.{Values}
use Rattle.dsdl_resolve.specs.Values.{added, with_field, with_padding, with_constant, with_directive, natural_of, nothing}
use Rattle.dsdl_resolve.specs.declared.why.DsdlWhy.{DsdlWhy}
use Rattle.dsdl_resolve.specs.declared.why.DsdlWhy.TheVariants as why
use Rattle.dsdl_resolve.specs.SoundSections.{AreFine, Holds, IsSound}
use Rattle.dsdl_resolve.proofs.FormTypes.{IsFieldType, type_fine, width_bound}
use Rattle.dsdl_resolve.proofs.Named as N
use Rattle.dsdl_resolve.proofs.Onto as O
use Rattle.dsdl_resolve.proofs.Onto.{onto, flds_more}
use Rattle.dsdl_resolve.proofs.Spelled.{same_name}

pub fine_none : (union : Bool) → AreFine union []
fine_none true = record { formed = tt; named = tt; inner = tt; packed = λ u. tt; few = omega arith; flat = omega arith; short = omega arith }
fine_none false = record { formed = tt; named = tt; inner = tt; packed = λ u. tt; few = omega arith; flat = omega arith; short = omega arith }

pub sound_none : IsSound [] nothing
sound_none = record {
  fine = fine_none false;
  texts = refl;
  union = refl;
  counted = refl;
  none = λ e. refl;
  open_end = λ e. refl;
  extent = λ n e. absurd (none-some n e);
  first = λ e. absurd (false≢true e);
  used = λ name e. tt;
}

-- ---- tests of lists with one statement more
one_any : (p : Statement → Bool) (s : Statement) → list_any p (s ∷ []) ≡ p s
one_any p s = go (p s)
  where
    go : (b : Bool) → (b || false) ≡ b
    go true = refl
    go false = refl

pub any_more : (p : Statement → Bool) (ss : List Statement) (s : Statement) → list_any p (ss ++ s ∷ []) ≡ (list_any p ss || p s)
any_more p ss s = list_any-append p ss (s ∷ []) ∙ ap (λ b. list_any p ss || b) (one_any p s)

pub any_parts : (p : Statement → Bool) (ss : List Statement) (s : Statement) → list_any p (ss ++ s ∷ []) ≡ false → (list_any p ss ≡ false) × (p s ≡ false)
any_parts p ss s e = or_parts (list_any p ss) (p s) (sym (any_more p ss s) ∙ e)

pub any_same : (p : Statement → Bool) (ss : List Statement) (s : Statement) → p s ≡ false → list_any p (ss ++ s ∷ []) ≡ list_any p ss
any_same p ss s e = any_more p ss s ∙ ap (λ b. list_any p ss || b) e ∙ go (list_any p ss)
  where
    go : (b : Bool) → (b || false) ≡ b
    go true = refl
    go false = refl

-- ---- a union whose `@union` stands before all fields, paddings and constants
while_cons : (s : Statement) (ss : List Statement) → take_while (λ x. not (is_entry x)) (s ∷ ss) ≡ (if is_entry s then [] else s ∷ take_while (λ x. not (is_entry x)) ss)
while_cons s ss = go (is_entry s)
  where
    next : (n : ℕ) → take (1 + n) (s ∷ ss) ≡ s ∷ take n ss
    next n = let e : 1 + n ≡ suc n = omega arith in ap (λ m. take m (s ∷ ss)) e

    go : (b : Bool) → take (cond (not b) (1 + prefix_len (λ x. not (is_entry x)) ss) 0) (s ∷ ss) ≡ (if b then [] else s ∷ take_while (λ x. not (is_entry x)) ss)
    go true = refl
    go false = next (prefix_len (λ x. not (is_entry x)) ss)

abbrev by_entry : Bool → Statement → List Statement → List Statement
by_entry b s ss = if b then [] else s ∷ take_while (λ x. not (is_entry x)) ss

more_by : (b : Bool) (s : Statement) (ss rest : List Statement) → (is_union_section ss ≡ true → is_union_section (ss ++ rest) ≡ true) → list_any is_union (by_entry b s ss) ≡ true → list_any is_union (by_entry b s (ss ++ rest)) ≡ true
more_by true s ss rest next e = e
more_by false s ss rest next e = elim (or_cases (is_union s) (is_union_section ss) e) [
  | inl h ↦ ap (λ b. b || is_union_section (ss ++ rest)) h
  | inr h ↦ ap (λ b. is_union s || b) (next h) ∙ or_true (is_union s)
]
  where
    or_true : (b : Bool) → (b || true) ≡ true
    or_true true = refl
    or_true false = refl

pub union_more : (ss rest : List Statement) → is_union_section ss ≡ true → is_union_section (ss ++ rest) ≡ true
union_more [] rest e = absurd (false≢true e)
union_more (s ∷ ss) rest e =
    ap (list_any is_union) (while_cons s (ss ++ rest)) ∙ more_by (is_entry s) s ss rest (λ h. union_more ss rest h) (ap (list_any is_union) (sym (while_cons s ss)) ∙ e)

union_first : (ss : List Statement) (s : Statement) → list_any is_entry ss ≡ false → is_union s ≡ true → is_union_section (ss ++ s ∷ []) ≡ true
union_first [] s e u = ap (list_any is_union) (while_cons s []) ∙ alone (is_entry s) (entry_none s u)
  where
    entry_none : (s : Statement) → is_union s ≡ true → is_entry s ≡ false
    entry_none statement.Empty u = refl
    entry_none statement.Split u = refl
    entry_none (statement.Directive name x) u = refl
    entry_none (statement.Constant form name x) u = absurd (false≢true u)
    entry_none (statement.Field form name) u = absurd (false≢true u)
    entry_none (statement.Padding digits) u = absurd (false≢true u)

    alone : (b : Bool) → b ≡ false → list_any is_union (by_entry b s []) ≡ true
    alone true f = absurd (false≢true (sym f))
    alone false f = ap (λ b. b || false) u
union_first (x ∷ ss) s e u =
    let q = or_parts (is_entry x) (list_any is_entry ss) e in
    ap (list_any is_union) (while_cons x (ss ++ s ∷ []) ∙ ap (λ b. by_entry b x (ss ++ s ∷ [])) q.0) ∙ ap (λ b. is_union x || b) (union_first ss s q.1 u) ∙ or_true (is_union x)
  where
    or_true : (b : Bool) → (b || true) ≡ true
    or_true true = refl
    or_true false = refl

pub counted_more : (ss : List Statement) (s : Statement) (b : Bool) → is_field s ≡ b → count_by is_field (ss ++ s ∷ []) ≡ count_by is_field ss + (if b then 1 else 0)
counted_more ss s b e = sum_by_push (λ x. if is_field x then 1 else 0) ss s ∙ ap (λ t. count_by is_field ss + (if t then 1 else 0)) e

pub counted_one : (ss : List Statement) (s : Statement) → is_field s ≡ true → count_by is_field (ss ++ s ∷ []) ≡ suc (count_by is_field ss)
counted_one ss s e = omega (arith, counted_more ss s true e)

pub counted_none : (ss : List Statement) (s : Statement) → is_field s ≡ false → count_by is_field (ss ++ s ∷ []) ≡ count_by is_field ss
counted_none ss s e = omega (arith, counted_more ss s false e)

-- a name that is free behind a statement is free before it
pub free_before : (ss : List Statement) (s : Statement) (name : List ℕ) → is_used (filter_map attribute_of (ss ++ s ∷ [])) name ≡ false → is_used (filter_map attribute_of ss) name ≡ false
free_before ss s name e =
    (or_parts (is_used (filter_map attribute_of ss) name) (is_used (filter_map attribute_of (s ∷ [])) name)
    (sym (list_any-append (λ other. bytes_eq other name) (filter_map attribute_of ss) (filter_map attribute_of (s ∷ [])))
    ∙ ap (λ names. is_used names name) (sym (filter_map-append attribute_of ss (s ∷ []))) ∙ e)).0

pub free_of : (ss : List Statement) (s : Statement) (name other : List ℕ) → attribute_of s ≡ Some other → is_used (filter_map attribute_of (ss ++ s ∷ [])) name ≡ false → name ≢ other
free_of ss s name other is e same =
    let behind : is_used (filter_map attribute_of (s ∷ [])) name ≡ false =
    (or_parts (is_used (filter_map attribute_of ss) name) (is_used (filter_map attribute_of (s ∷ [])) name)
    (sym (list_any-append (λ n. bytes_eq n name) (filter_map attribute_of ss) (filter_map attribute_of (s ∷ [])))
    ∙ ap (λ names. is_used names name) (sym (filter_map-append attribute_of ss (s ∷ []))) ∙ e)).1 in
    let one : filter_map attribute_of (s ∷ []) ≡ other ∷ [] = rw is refl in
    let unequal : bytes_eq other name ≡ false = (or_parts (bytes_eq other name) false (sym (ap (λ names. is_used names name) one) ∙ behind)).0 in
    false≢true (sym unequal ∙ (bytes_eq-Decides other name).1 (sym same))

-- ---- the rules of a statement that breaks none
abbrev pub AreKept : Tests → Type 0
AreKept [] = Unit {0}
AreKept (t ∷ ts) = (t.1 ≡ false) × AreKept ts

pub kept : (ts : Tests) → least ts ≡ None → AreKept ts
kept [] e = tt
kept (t ∷ ts) e = go t.0 t.1 e (λ f. kept ts f)
  where
    go : (n : ℕ) (b : Bool) → (if b then Some n else least ts) ≡ None → (least ts ≡ None → AreKept ts) → (b ≡ false) × AreKept ts
    go n true e next = absurd (none-some n (sym e))
    go n false e next = (refl, next e)

pub or_none : (a b : Option DsdlWhy) → option_or a b ≡ None → (a ≡ None) × (b ≡ None)
or_none None b e = (refl, e)
or_none (Some x) b e = absurd (none-some x (sym e))

pub map_none : (f : ℕ → DsdlWhy) (a : Option ℕ) → option_map f a ≡ None → a ≡ None
map_none f None e = refl
map_none f (Some n) e = absurd (none-some (f n) (sym e))

within_limit : (n : ℕ) → above_limit n ≡ None → n ≤ 2 ^ 32
within_limit n e = go (nat_lt (2 ^ 32) n) refl e
  where
    go : (t : Bool) → nat_lt (2 ^ 32) n ≡ t → (if t then Some (why.Long (min n (2 ^ 63))) else None) ≡ None → n ≤ 2 ^ 32
    go true f e = absurd (none-some _ (sym e))
    go false f e = ltb-false (2 ^ 32) n f

-- ---- statements that add no field
-- what a section says that says the same of its fields behind a statement
same_fields : (ss : List Statement) (s : Statement) (said : Said) (constants : _) → IsSound ss said → is_union s ≡ false → is_field s ≡ false → is_extent s ≡ false →
    IsSound (ss ++ s ∷ []) (record said { constants = constants })
same_fields ss s said constants h u f x = record {
  fine = h.fine;
  texts = h.texts;
  union = h.union ∙ sym (any_same is_union ss s u);
  counted = h.counted ∙ sym (counted_none ss s f);
  none = λ e. h.none (any_parts is_entry ss s e).0;
  open_end = λ e. h.open_end (any_parts is_extent ss s e).0;
  extent = h.extent;
  first = λ e. union_more ss (s ∷ []) (h.first (sym (any_same is_union ss s u) ∙ e));
  used = λ name e. h.used name (free_before ss s name e);
}

-- ---- a field
-- fields with one more keep the limits
record IsWithin (union : Bool) (fields : List Field) : Type 0 where
  few : node_count fields ≤ 2 ^ 20
  flat : depth fields ≤ 32
  short : greatest union fields ≤ 2 ^ 32

abbrev made : List ℕ → Schema → Field
made name s = roll-Field (record { name = name; schema = s })

module _ (fields : List Field) (name : List ℕ) (s : Schema) (typed : kind_of s ≡ Typed (sch s)) where
  field_more : flds (fields ++ made name s ∷ []) ≡ onto (flds fields) name (Typed (sch s))
  field_more = flds_more fields (made name s) ∙ ap (λ x. onto (flds fields) x.0 x.1) (named_field name s ∙ ap (λ k. (name, k)) typed)

  nodes_more : node_count (fields ++ made name s ∷ []) ≡ suc (nodes_of (flds fields) + nodes (sch s))
  nodes_more = ap (λ fs. suc (nodes_of fs)) field_more ∙ ap (λ n. suc n) (O.nodes_typed name (sch s) (flds fields))

  depth_more : depth (fields ++ made name s ∷ []) ≡ suc (max (nesting_of (flds fields)) (nesting (sch s)))
  depth_more = ap (λ fs. suc (nesting_of fs)) field_more ∙ ap (λ n. suc n) (O.nesting_typed name (sch s) (flds fields))

module _ (union : Bool) (fields : List Field) (name : List ℕ) (s : Schema) (is : IsFieldType s) where
  fine_field : AreFine union fields → is_name name ≡ true → IsNew name (flds fields) → IsWithin union (fields ++ made name s ∷ []) → AreFine union (fields ++ made name s ∷ [])
  fine_field h spelled new w =
      let same = sym (field_more fields name s is.typed) in
      record {
        formed = subst AreFormed same (O.formed_typed name (sch s) (flds fields) h.formed is.formed);
        named = subst AreNamed same (N.named_typed name (sch s) (flds fields) h.named spelled new);
        inner = subst HaveNames same (N.have_typed name (sch s) (flds fields) h.inner is.names);
        packed = λ u. subst NoPadding same (O.no_padding_typed name (sch s) (flds fields) (h.packed u));
        few = w.few;
        flat = w.flat;
        short = w.short;
      }

module _ (ss : List Statement) (said : Said) (form : Form) (name : List ℕ) (t : of_form.Typed) (is : IsFieldType t.schema) (h : IsSound ss said) where
  abbrev at_field : Statement
  at_field = statement.Field form name

  abbrev with_it : Said
  with_it = with_field said name (Some t)

  sound_field : is_name name ≡ true → is_used (filter_map attribute_of ss) name ≡ false → said.extent ≡ None → IsWithin said.union (with_field said name (Some t)).fields →
      IsSound (ss ++ statement.Field form name ∷ []) (with_field said name (Some t))
  sound_field spelled new closed w =
      let same = field_more said.fields name t.schema is.typed in
      let count : variants (flds with_it.fields) ≡ suc (variants (flds said.fields)) = ap variants same ∙ O.variants_typed name (sch t.schema) (flds said.fields) in
      record {
        fine = fine_field said.union said.fields name t.schema is h.fine spelled (h.used name new) w;
        texts = omega (arith, count, h.texts, length-append said.types (t.text ∷ []));
        union = h.union ∙ sym (any_same is_union ss at_field refl);
        counted = count ∙ ap (λ n. suc n) h.counted ∙ sym (counted_one ss at_field refl);
        none = λ e. absurd (false≢true (sym (any_parts is_entry ss at_field e).1));
        open_end = λ e. closed;
        extent = λ n e. absurd (none-some n (sym closed ∙ e));
        first = λ e. union_more ss (at_field ∷ []) (h.first (sym (any_same is_union ss at_field refl) ∙ e));
        used = λ other e. subst (IsNew other) (sym same)
            (N.new_typed name (sch t.schema) (flds said.fields) other (h.used other (free_before ss at_field other e)) (free_of ss at_field other name refl e));
      }

-- ---- padding
module _ (fields : List Field) (w : ℕ) where
  abbrev gap_of : Field
  gap_of = made [] (schema.Void w)

  padding_more : flds (fields ++ made [] (schema.Void w) ∷ []) ≡ onto (flds fields) [] (Padding w)
  padding_more = flds_more fields gap_of ∙ ap (λ x. onto (flds fields) x.0 x.1) (named_field [] (schema.Void w) ∙ ap (λ k. ([], k)) (kind_void w))

  fine_padding : (union : Bool) → union ≡ false → AreFine union fields → (1 ≤ w) × (w ≤ 64) → greatest union (fields ++ made [] (schema.Void w) ∷ []) ≤ 2 ^ 32 →
      AreFine union (fields ++ made [] (schema.Void w) ∷ [])
  fine_padding union plain h wide short =
      let same = sym padding_more in
      let nodes_same : node_count (fields ++ gap_of ∷ []) ≡ node_count fields = ap (λ fs. suc (nodes_of fs)) padding_more ∙ ap (λ n. suc n) (O.nodes_padding [] w (flds fields)) in
      let depth_same : depth (fields ++ gap_of ∷ []) ≡ depth fields = ap (λ fs. suc (nesting_of fs)) padding_more ∙ ap (λ n. suc n) (O.nesting_padding [] w (flds fields)) in
      record {
        formed = subst AreFormed same (O.formed_padding [] w (flds fields) h.formed wide);
        named = subst AreNamed same (N.named_padding [] w (flds fields) h.named);
        inner = subst HaveNames same (N.have_padding [] w (flds fields) h.inner);
        packed = λ u. absurd (false≢true (sym plain ∙ u));
        few = subst (λ n. n ≤ 2 ^ 20) (sym nodes_same) h.few;
        flat = subst (λ n. n ≤ 32) (sym depth_same) h.flat;
        short = short;
      }

module _ (ss : List Statement) (said : Said) (digits : List ℕ) (w : ℕ) (h : IsSound ss said) where
  abbrev at_padding : Statement
  at_padding = statement.Padding digits

  abbrev with_gap : Said
  with_gap = with_padding said (Some w)

  sound_padding : (1 ≤ w) × (w ≤ 64) → said.union ≡ false → said.extent ≡ None → greatest said.union (with_padding said (Some w)).fields ≤ 2 ^ 32 →
      IsSound (ss ++ statement.Padding digits ∷ []) (with_padding said (Some w))
  sound_padding wide plain closed short =
      let same = padding_more said.fields w in
      let count : variants (flds with_gap.fields) ≡ variants (flds said.fields) = ap variants same ∙ O.variants_padding [] w (flds said.fields) in
      record {
        fine = fine_padding said.fields w said.union plain h.fine wide short;
        texts = h.texts ∙ sym count;
        union = h.union ∙ sym (any_same is_union ss at_padding refl);
        counted = count ∙ h.counted ∙ sym (counted_none ss at_padding refl);
        none = λ e. absurd (false≢true (sym (any_parts is_entry ss at_padding e).1));
        open_end = λ e. closed;
        extent = λ n e. absurd (none-some n (sym closed ∙ e));
        first = λ e. union_more ss (at_padding ∷ []) (h.first (sym (any_same is_union ss at_padding refl) ∙ e));
        used = λ other e. subst (IsNew other) (sym same) (N.new_padding [] w (flds said.fields) other (h.used other (free_before ss at_padding other e)));
      }

-- ---- directives
module _ (ss : List Statement) (said : Said) (x : Option Expr) (h : IsSound ss said) where
  abbrev at_union : Statement
  at_union = statement.Directive (codes "union") x

  sound_union : list_any is_entry ss ≡ false → IsSound (ss ++ statement.Directive (codes "union") x ∷ []) (record said { union = true })
  sound_union bare =
      let empty : said.fields ≡ [] = h.none bare in
      record {
        fine = subst (AreFine true) (sym empty) (fine_none true);
        texts = h.texts;
        union = sym (any_more is_union ss at_union ∙ or_right (list_any is_union ss));
        counted = h.counted ∙ sym (counted_none ss at_union refl);
        none = λ e. empty;
        open_end = λ e. h.open_end (any_parts is_extent ss at_union e).0;
        extent = λ n e. (subst (λ fs. greatest true fs ≤ n) (sym empty) (omega arith), (h.extent n e).1, (h.extent n e).2);
        first = λ e. union_first ss at_union bare refl;
        used = λ other e. h.used other (free_before ss at_union other e);
      }
    where
      or_right : (b : Bool) → (b || true) ≡ true
      or_right true = refl
      or_right false = refl

module _ (ss : List Statement) (said : Said) (x : Option Expr) (value : Option Const) (h : IsSound ss said) where
  abbrev at_extent : Statement
  at_extent = statement.Directive (codes "extent") x

  extent_holds : (u : Option Const) (n : ℕ) → natural_of u ≡ Some n → is_extent_too_small said u ≡ false → long_extent (natural_of u) ≡ None → Holds said.union said.fields n
  extent_holds None n e rule long = absurd (none-some n e)
  extent_holds (Some u) n e rule long =
      let fits : is_extent_for (greatest said.union said.fields) (Some n) ≡ true = ap (is_extent_for (greatest said.union said.fields)) (sym e) ∙ not-false _ rule in
      let p = and_parts (n % 8 == 0) (nat_le (greatest said.union said.fields) n) fits in
      (leb-true (greatest said.union said.fields) n p.1, eqb-true (n % 8) 0 p.0, within_limit n (ap long_extent (sym e) ∙ long))

  sound_extent : is_extent_too_small said value ≡ false → long_extent (natural_of value) ≡ None → IsSound (ss ++ statement.Directive (codes "extent") x ∷ []) (record said { extent = natural_of value })
  sound_extent rule long = record {
    fine = h.fine;
    texts = h.texts;
    union = h.union ∙ sym (any_same is_union ss at_extent refl);
    counted = h.counted ∙ sym (counted_none ss at_extent refl);
    none = λ e. h.none (any_parts is_entry ss at_extent e).0;
    open_end = λ e. absurd (false≢true (sym (any_parts is_extent ss at_extent e).1));
    extent = λ n e. extent_holds value n e rule long;
    first = λ e. union_more ss (at_extent ∷ []) (h.first (sym (any_same is_union ss at_extent refl) ∙ e));
    used = λ other e. h.used other (free_before ss at_extent other e);
  }

-- ---- a statement that is not refused
some_of : {A : Type 0} (a : Option A) → is_none a ≡ false → (x : A) × (a ≡ Some x)
some_of None e = absurd (false≢true (sym e))
some_of (Some x) e = (x, refl)

bound_some : (b : Option Bound) (u : Option Const) (item : of_form.Typed) → has_wrong_capacity b u ≡ false → (t : of_form.Typed) × (in_bound b u item ≡ Some t)
bound_some None u item e = (item, refl)
bound_some (Some b) u item e = let (n, is) = some_of (bounded b.sign u) e in (array_of b.sign item n, ap (option_map (array_of b.sign item)) is)

module _ (scope : Scope) where
  item_some : (s : Scalar) → has_wrong_width s ≡ false → is_no_message scope true s ≡ false → (t : of_form.Typed) × (item_of scope s ≡ Some t)
  item_some (scalar.Primitive word name) e f = let (p, is) = some_of (primitive_of word name) e in (of_primitive p, ap (option_map of_primitive) is)
  item_some (scalar.Reference r) e f = some_of (referred scope r) f
  item_some (scalar.Void digits) e f = absurd (false≢true (sym f))

  pub type_some : (form : Form) (u : Option Const) → has_wrong_width form.scalar ≡ false → has_wrong_capacity form.array u ≡ false → is_no_message scope true form.scalar ≡ false →
      (t : of_form.Typed) × (forms.type_of scope form u ≡ Some t)
  type_some form u wide count message =
      let (item, at) = item_some form.scalar wide message in
      let (t, is) = bound_some form.array u item count in
      (t, ap (option_and_then (in_bound form.array u)) at ∙ is)

  module _ (sound : All IsDefinition scope.namespace.definitions) (p : Place) (said : Said) (vs : Values) (h : IsSound p.before said) where
    after_field : (form : Form) (name : List ℕ) → is_name name ≡ true → least (field_rules scope p said vs form name) ≡ None →
        above_limit (greatest said.union (with_field said name (forms.type_of scope form vs.bound)).fields) ≡ None →
        IsSound (p.before ++ statement.Field form name ∷ []) (with_field said name (forms.type_of scope form vs.bound))
    after_field form name spelled rules long =
        let (r5, (r9, (r10, (r11, (r12, (r13, (r14, (r23, (r24, end))))))))) = kept (field_rules scope p said vs form name) rules in
        let (t, is) = type_some form vs.bound r11 r13 r14 in
        let fine = type_fine scope sound form vs.bound t is in
        let few : node_count (said.fields ++ made [] t.schema ∷ []) ≤ 2 ^ 20 = ltb-false (2 ^ 20) _ (ap (has_too_many_nodes said) (sym is) ∙ r24) in
        let flat : depth (said.fields ++ made [] t.schema ∷ []) ≤ 32 = ltb-false 32 _ (ap (is_nested_too_deep said) (sym is) ∙ r23) in
        subst (λ o. IsSound (p.before ++ statement.Field form name ∷ []) (with_field said name o)) (sym is)
        (sound_field p.before said form name t fine h spelled r9 (h.open_end r5)
        (record {
          few = subst (λ n. n ≤ 2 ^ 20) (nodes_more said.fields [] t.schema fine.typed ∙ sym (nodes_more said.fields name t.schema fine.typed)) few;
          flat = subst (λ n. n ≤ 32) (depth_more said.fields [] t.schema fine.typed ∙ sym (depth_more said.fields name t.schema fine.typed)) flat;
          short = within_limit _ (ap (λ o. above_limit (greatest said.union (with_field said name o).fields)) (sym is) ∙ long);
        }))

    after_padding : (digits : List ℕ) → least (padding_rules p digits) ≡ None → above_limit (greatest said.union (with_padding said (width_in 1 64 digits)).fields) ≡ None →
        IsSound (p.before ++ statement.Padding digits ∷ []) (with_padding said (width_in 1 64 digits))
    after_padding digits rules long =
        let (r5, (r8, (r11, end))) = kept (padding_rules p digits) rules in
        let (w, is) = some_of (width_in 1 64 digits) r11 in
        subst (λ o. IsSound (p.before ++ statement.Padding digits ∷ []) (with_padding said o)) (sym is)
        (sound_padding p.before said digits w h (width_bound 1 64 w digits is) (h.union ∙ r8) (h.open_end r5)
        (within_limit _ (ap (λ o. above_limit (greatest said.union (with_padding said o).fields)) (sym is) ∙ long)))

    after_constant : (form : Form) (name : List ℕ) (x : Expr) (value : Option Const) → IsSound (p.before ++ statement.Constant form name x ∷ []) (with_constant said name value)
    after_constant form name x None = same_fields p.before (statement.Constant form name x) said said.constants h refl refl refl
    after_constant form name x (Some u) = same_fields p.before (statement.Constant form name x) said _ h refl refl refl

    after_union : (x : Option Expr) → least (directive_rules p said vs (codes "union") (is_some x)) ≡ None →
        IsSound (p.before ++ statement.Directive (codes "union") x ∷ []) (with_directive said (codes "union") vs.value)
    after_union x rules =
        sound_union p.before said x h (or_parts (list_any is_union p.before) (list_any is_entry p.before) (kept (directive_rules p said vs (codes "union") (is_some x)) rules).0).1

    after_extent : (x : Option Expr) → least (directive_rules p said vs (codes "extent") (is_some x)) ≡ None → long_extent (natural_of vs.value) ≡ None →
        IsSound (p.before ++ statement.Directive (codes "extent") x ∷ []) (with_directive said (codes "extent") vs.value)
    after_extent x rules long =
        let (r3, (r4, (r18, end))) = kept (directive_rules p said vs (codes "extent") (is_some x)) rules in
        sound_extent p.before said x vs.value h r4 long

    after_other : (name : List ℕ) (x : Option Expr) → bytes_eq name (codes "union") ≡ false → bytes_eq name (codes "extent") ≡ false →
        IsSound (p.before ++ statement.Directive name x ∷ []) (with_directive said name vs.value)
    after_other name x u e =
        subst (IsSound (p.before ++ statement.Directive name x ∷ []))
        (sym (cond-false (bytes_eq name (codes "union")) _ _ u ∙ cond-false (bytes_eq name (codes "extent")) _ _ e))
        (same_fields p.before (statement.Directive name x) said said.constants h u refl e)

    after_directive : (name : List ℕ) (x : Option Expr) → least (directive_rules p said vs name (is_some x)) ≡ None → long_at scope said vs (statement.Directive name x) ≡ None →
        IsSound (p.before ++ statement.Directive name x ∷ []) (with_directive said name vs.value)
    after_directive name x rules long = elim (cases_Bool (bytes_eq name (codes "union"))) [
      | inl u ↦
          let same = sym ((bytes_eq-Decides name (codes "union")).0 u) in
          subst (λ n. IsSound (p.before ++ statement.Directive n x ∷ []) (with_directive said n vs.value)) same
          (after_union x (subst (λ n. least (directive_rules p said vs n (is_some x)) ≡ None) (sym same) rules))
      | inr u ↦ elim (cases_Bool (bytes_eq name (codes "extent"))) [
        | inl e ↦
            let same = sym ((bytes_eq-Decides name (codes "extent")).0 e) in
            subst (λ n. IsSound (p.before ++ statement.Directive n x ∷ []) (with_directive said n vs.value)) same
            (after_extent x (subst (λ n. least (directive_rules p said vs n (is_some x)) ≡ None) (sym same) rules)
            (subst (λ n. long_at scope said vs (statement.Directive n x) ≡ None) (sym same) long))
        | inr e ↦ after_other name x u e
      ]
    ]

    after : (s : Statement) → is_split s ≡ false → WellSpelled s → least (rules_of scope p said vs s) ≡ None → long_at scope said vs s ≡ None →
        IsSound (p.before ++ s ∷ []) (added scope said s vs)
    after statement.Empty whole spelled rules long = same_fields p.before statement.Empty said said.constants h refl refl refl
    after statement.Split whole spelled rules long = absurd (false≢true (sym whole))
    after (statement.Directive name x) whole spelled rules long = after_directive name x rules long
    after (statement.Constant form name x) whole spelled rules long = after_constant form name x vs.value
    after (statement.Field form name) whole spelled rules long = after_field form name (sym (same_name name) ∙ spelled.1) rules long
    after (statement.Padding digits) whole spelled rules long = after_padding digits rules long

    -- what a section says with a statement more that is not refused
    pub sound_more : is_split p.at ≡ false → WellSpelled p.at → refusal_valued scope p said vs ≡ None → IsSound (p.before ++ p.at ∷ []) (added scope said p.at vs)
    sound_more whole spelled none =
        let first = or_none (option_map (λ n. why.Rule n) (least (rules_at scope p said vs))) (option_or (assert_at vs p.at) (long_at scope said vs p.at)) none in
        let second = or_none (assert_at vs p.at) (long_at scope said vs p.at) first.1 in
        after p.at whole spelled (map_none (λ n. why.Rule n) (least (rules_at scope p said vs)) first.0) second.1

-- ---- a union with one statement more
union_snoc_by : (b : Bool) (x : Statement) (xs : List Statement) (s : Statement) (e u : Bool) → is_union_section (xs ++ s ∷ []) ≡ (is_union_section xs || (not e && u)) →
    list_any is_union (by_entry b x (xs ++ s ∷ [])) ≡ (list_any is_union (by_entry b x xs) || (not (b || e) && u))
union_snoc_by true x xs s e u next = refl
union_snoc_by false x xs s e u next = ap (λ t. is_union x || t) next ∙ or_again (is_union x) (is_union_section xs) (not e && u)
  where
    or_again : (a b c : Bool) → (a || (b || c)) ≡ ((a || b) || c)
    or_again true b c = refl
    or_again false b c = refl

alone_by : (b u : Bool) (s : Statement) → is_entry s ≡ b → is_union s ≡ u → list_any is_union (by_entry b s []) ≡ (false || (not (b || false) && u))
alone_by true u s e f = refl
alone_by false u s e f = or_false (is_union s) ∙ f
  where
    or_false : (b : Bool) → (b || false) ≡ b
    or_false true = refl
    or_false false = refl

pub union_snoc : (xs : List Statement) (s : Statement) → is_union_section (xs ++ s ∷ []) ≡ (is_union_section xs || (not (list_any is_entry (xs ++ s ∷ [])) && is_union s))
union_snoc [] s = ap (list_any is_union) (while_cons s []) ∙ alone_by (is_entry s) (is_union s) s refl refl
union_snoc (x ∷ xs) s =
    ap (list_any is_union) (while_cons x (xs ++ s ∷ [])) ∙ union_snoc_by (is_entry x) x xs s (list_any is_entry (xs ++ s ∷ [])) (is_union s) (union_snoc xs s)
    ∙ ap (λ l. list_any is_union l || (not (is_entry x || list_any is_entry (xs ++ s ∷ [])) && is_union s)) (sym (while_cons x xs))
