-- What an open section keeps when it takes a statement.
use Rattle.std.proofs.Common.{◌≡◌, ◌≢◌, ℕ, zero, suc, ◌+◌, ◌<◌, ◌&&◌, ◌||◌, Bool, true, false, List, [], ◌∷◌, ◌++◌, length, Option, Some, None, Result, Ok, Err, IfOk, MatchResult, if◌then◌else◌, refl, sym, ap, ◌∙◌, subst, inl, inr, arith, append_assoc, length-append, codes}
use Rattle.std.specs.Prelude.{nat_lt, IfSome}
use Rattle.std.specs.List.{All, list_any, filter_map, count_by, before_first}
use Rattle.std.specs.Str.{bytes_eq}
use Rattle.std.proofs.lemmas.Bool.{and_cases, or_parts, cond-false, false≢true, ltb-false, lt-ltb, le-ltb}
use Rattle.std.proofs.lemmas.List.{take-append-le, take_all}
use Rattle.std.proofs.lemmas.List.Elements.{filter_map-append, All-push}
use Rattle.std.proofs.lemmas.List.Folds.{list_any-append}
use Rattle.std.proofs.lemmas.List.Sums.{sum_by-append, sum_by-cons}
use Rattle.std.proofs.lemmas.Option.{none-some}
use Rattle.dsdl_parse.specs.Spelling.{WellSpelled}
use Rattle.dsdl_parse.specs.declared.statement.Statement.{Statement}
use Rattle.dsdl_parse.specs.declared.statement.Statement.TheVariants as statement
use Rattle.dsdl_types.specs.Definitions.{IsDefinition}
use Rattle.dsdl_types.specs.Schemas.{End}
use Rattle.dsdl_types.specs.Views.{flds}
use Rattle.dsdl_types.specs.declared.schema.Field.{Field}
use Rattle.const_expr.specs.Constants.{IsConst, Layer}
use Rattle.const_expr.specs.Member.{AreConstants}
use Rattle.const_expr.specs.declared.constant.Const.{Const, out-Const}
use Rattle.const_expr.specs.declared.constant.Const.TheOpen as o
use Rattle.const_expr.specs.declared.error.ExprError.{ExprError}
use Rattle.const_expr.specs.declared.error.ExprError.TheVariants as error
use Rattle.const_expr.specs.declared.scope.NamedConst.{NamedConst}
use Rattle.const_expr.specs.declared.scope.Scope.{Scope}
use Rattle.const_expr.proofs.Keeps.{number_keeps}
use Rattle.dsdl_resolve.specs.Additions.{IsBefore, IsJudged, IsStatementRefusal, name_of, with_addition}
use Rattle.dsdl_resolve.specs.Judged.{refusal_at, refusal_of_values, refusal_valued}
use Rattle.dsdl_resolve.specs.Opens.{AreOffsets, IsOpen, IsReady, IsTaken, between, is_early, kept_offsets, of_values, on_name, offset_for, said_of, value_refusal, with_offset}
use Rattle.dsdl_resolve.specs.Place.{Place, place, onto_section, last_section, is_union_section, is_union_at}
use Rattle.dsdl_resolve.specs.RuleNumbers.{union_offset_too_early}
use Rattle.dsdl_resolve.specs.Rules.{is_offset_too_early, is_used}
use Rattle.dsdl_resolve.specs.Said.{Said, offsets}
use Rattle.dsdl_resolve.specs.Says.{is_split, is_field, attribute_of, names_offset}
use Rattle.dsdl_resolve.specs.SoundSections.{AreFine, IsSound, KeepsRules}
use Rattle.dsdl_resolve.specs.Standing.{Stands}
use Rattle.dsdl_resolve.specs.Totals.{AreTotals, AreWithin}
use Rattle.dsdl_resolve.specs.Values.{added, if_valued, numbered, offset_in, said_by, scope_at, values, with_constant, with_field, with_padding, nothing}
use Rattle.dsdl_resolve.specs.declared.addition.Addition.{Addition}
use Rattle.dsdl_resolve.specs.declared.addition.Addition.TheVariants as addition
use Rattle.dsdl_resolve.specs.declared.addition.Judged.{Judged}
use Rattle.dsdl_resolve.specs.declared.addition.StatementError.{StatementError}
use Rattle.dsdl_resolve.specs.declared.addition.StatementError.TheVariants as statement_error
use Rattle.dsdl_resolve.specs.declared.offsets.Offsets.{Offsets}
use Rattle.dsdl_resolve.specs.declared.open_section.OpenSection.{OpenSection}
use Rattle.dsdl_resolve.specs.declared.standing.Standing.{Standing}
use Rattle.dsdl_resolve.specs.declared.values.Values.{Values}
use Rattle.dsdl_resolve.specs.declared.why.DsdlWhy.{DsdlWhy}
use Rattle.dsdl_resolve.specs.declared.why.DsdlWhy.TheVariants as why
use Rattle.dsdl_resolve.proofs.SoundFile.{before_cons, goes_on, last_more, said_more}
use Rattle.dsdl_resolve.proofs.SoundSection.{fine_none, union_more}

-- ---- counts
some_counted : (xs : List Statement) → nat_lt 0 (count_by is_field xs) ≡ list_any is_field xs
some_counted [] = refl
some_counted (x ∷ xs) = ap (λ n. nat_lt 0 n) (sum_by-cons (λ y. if is_field y then 1 else 0) x xs) ∙ go (is_field x) (some_counted xs)
  where
    go : (b : Bool) → nat_lt 0 (count_by is_field xs) ≡ list_any is_field xs → nat_lt 0 ((if b then 1 else 0) + count_by is_field xs) ≡ (b || list_any is_field xs)
    go true e = lt-ltb 0 (1 + count_by is_field xs) (omega arith)
    go false e = ap (λ n. nat_lt 0 n) (let same : 0 + count_by is_field xs ≡ count_by is_field xs = omega arith in same) ∙ e

more_counted : (c d : ℕ) → nat_lt c (c + d) ≡ nat_lt 0 d
more_counted c zero = le-ltb c (c + 0) (omega arith)
more_counted c (suc d) = lt-ltb c (c + suc d) (omega arith) ∙ sym (lt-ltb 0 (suc d) (omega arith))

-- more fields stand in a section than before a place where one stands at it or behind
fields_behind : (before after : List Statement) → nat_lt (count_by is_field before) (count_by is_field (before ++ after)) ≡ list_any is_field after
fields_behind before after =
    ap (λ n. nat_lt (count_by is_field before) n) (sum_by-append (λ x. if is_field x then 1 else 0) before after)
    ∙ more_counted (count_by is_field before) (count_by is_field after) ∙ some_counted after

-- ---- what stands behind a statement of its section
module _ (S : Scope) (constants : List NamedConst) (section : OpenSection) (front : List Statement) (s : Statement) (back : List Statement) (plain : is_split s ≡ false)
    (h : IsOpen section constants S front (s ∷ back)) where
  abbrev so_far : List Statement
  so_far = last_section front

  abbrev said : Said
  said = said_by S (last_section front)

  abbrev here : Place
  here = place front s back

  behind_is : before_first is_split (s ∷ back) ≡ s ∷ before_first is_split back
  behind_is = before_cons is_split s back ∙ cond-false (is_split s) _ _ plain

  whole_union : section.whole.union ≡ is_union_at here
  whole_union = h.whole_union ∙ ap (λ l. is_union_section (so_far ++ l)) behind_is

  whole_fields : section.whole.fields ≡ count_by is_field (so_far ++ s ∷ before_first is_split back)
  whole_fields = h.whole_fields ∙ ap (λ l. count_by is_field (so_far ++ l)) behind_is

  early_is : is_early section ≡ (is_union_at here && (nat_lt (count_by is_field so_far) 2 || list_any is_field (s ∷ before_first is_split back)))
  early_is =
      ap (λ b. b && (nat_lt section.before.standing.fields 2 || nat_lt section.before.standing.fields section.whole.fields)) whole_union
      ∙ ap (λ n. is_union_at here && (nat_lt n 2 || nat_lt n section.whole.fields)) h.standing.fields
      ∙ ap (λ n. is_union_at here && (nat_lt (count_by is_field so_far) 2 || nat_lt (count_by is_field so_far) n)) whole_fields
      ∙ ap (λ b. is_union_at here && (nat_lt (count_by is_field so_far) 2 || b)) (fields_behind so_far (s ∷ before_first is_split back))

  is_early_here : (names_offset s && is_early section) ≡ is_offset_too_early here
  is_early_here = ap (λ b. names_offset s && b) early_is

  offset_is : (b : Bool) → offset_for section b ≡ offset_in (said_of section constants) b
  offset_is true = refl
  offset_is false = refl

  scope_is : with_offset (between S constants) section s ≡ scope_at S said s
  scope_is =
      ap (λ o. record S { constants = constants; offset = o }) (offset_is (names_offset s))
      ∙ ap (λ (d : Said). record S { constants = d.constants; offset = offset_in d (names_offset s) }) (sym h.says)

  -- what expressions are refused for is what the statement is
  refused_there : (cause : DsdlWhy) (b : Bool) (r : Result Values ExprError) → (if b then Some (why.Rule union_offset_too_early) else of_values r) ≡ Some cause →
      (if b then Some (why.Rule union_offset_too_early) else refusal_of_values S here said r) ≡ Some cause
  refused_there cause true r e = e
  refused_there cause false (Ok vs) e = absurd (none-some cause e)
  refused_there cause false (Err x) e = e

  pub value_refused : (cause : DsdlWhy) → value_refusal (between S constants) section s ≡ Some cause → refusal_at S here ≡ Some cause
  value_refused cause e =
      let at : (if is_offset_too_early here then Some (why.Rule union_offset_too_early) else of_values (values (scope_at S said s) s)) ≡ Some cause =
      ap (λ b. if b then Some (why.Rule union_offset_too_early) else of_values (values (scope_at S said s) s)) (sym is_early_here)
      ∙ ap (λ (t : Scope). if names_offset s && is_early section then Some (why.Rule union_offset_too_early) else of_values (values t s)) (sym scope_is) ∙ e in
      refused_there cause (is_offset_too_early here) (values (scope_at S said s) s) at

  late : value_refusal (between S constants) section s ≡ None → is_offset_too_early here ≡ false
  late e = sym is_early_here ∙ go (names_offset s && is_early section) e
    where
      go : (b : Bool) → (if b then Some (why.Rule union_offset_too_early) else of_values (values (with_offset (between S constants) section s) s)) ≡ None → b ≡ false
      go true e = absurd (none-some (why.Rule union_offset_too_early) (sym e))
      go false e = refl

  pub worth_is : (vs : Values) → values (with_offset (between S constants) section s) s ≡ Ok vs → values (scope_at S said s) s ≡ Ok vs
  worth_is vs e = ap (λ (t : Scope). values t s) (sym scope_is) ∙ e

  -- behind the expressions, what is left is the refusal by the values
  by_values : (vs : Values) → value_refusal (between S constants) section s ≡ None → values (with_offset (between S constants) section s) s ≡ Ok vs → refusal_at S here ≡ refusal_valued S here said vs
  by_values vs none e =
      ap (λ b. if b then Some (why.Rule union_offset_too_early) else refusal_of_values S here said (values (scope_at S said s) s)) (late none)
      ∙ ap (refusal_of_values S here said) (worth_is vs e)

  -- constants and lengths don't matter to the rules
  same_rules : (vs : Values) → refusal_valued (between S constants) here said vs ≡ refusal_valued S here said vs
  same_rules vs = refl

  same_added : (vs : Values) → added (between S constants) said s vs ≡ added S said s vs
  same_added vs = refl

  pub judged_refused : (vs : Values) (cause : DsdlWhy) → value_refusal (between S constants) section s ≡ None → values (with_offset (between S constants) section s) s ≡ Ok vs →
      refusal_valued (between S constants) here said vs ≡ Some cause → refusal_at S here ≡ Some cause
  judged_refused vs cause none e refused = by_values vs none e ∙ sym (same_rules vs) ∙ refused

  pub is_before : IsBefore section.before here said
  is_before = record {
    standing = h.standing;
    names = h.names;
    totals = subst (λ (d : Said). AreTotals section.before.totals d.union (flds d.fields)) (sym h.says) h.ready.totals;
    empty = λ e. h.keeps.last.none (sym h.standing.entry ∙ e);
  }

-- ---- what the section keeps
record_union : (d e : Said) (u : Bool) → d ≡ record e { union = d.union } → d.union ≡ u → d ≡ record e { union = u }
record_union d e u p q = p ∙ ap (λ b. record e { union = b }) q

-- the fields of a section with an addition begin with the old ones
module _ (said : Said) (name : List ℕ) where
  front_offsets : (union : Bool) (fields : List Field) (f : Field) (known : Option Offsets) → AreOffsets union fields known → AreOffsets union (fields ++ f ∷ []) known
  front_offsets union fields f None h = tt
  front_offsets union fields f (Some known) h =
      (omega (arith, h.0, length-append fields (f ∷ [])), h.1 ∙ ap (offsets union) (sym (take-append-le known.fields fields (f ∷ []) h.0)))

  pub offsets_kept : (a : Addition) (known : Option Offsets) → AreOffsets said.union said.fields known → AreOffsets (with_addition said name a).union (with_addition said name a).fields (kept_offsets a known)
  offsets_kept addition.Nothing known h = h
  offsets_kept addition.Union known h = tt
  offsets_kept (addition.Extent n) known h = h
  offsets_kept (addition.Field t) known h = front_offsets said.union said.fields _ known h
  offsets_kept (addition.Padding w) known h = front_offsets said.union said.fields _ known h
  offsets_kept (addition.Constant u) known h = h

-- ---- names
or_false : (b : Bool) → (b || false) ≡ b
or_false true = refl
or_false false = refl

one_name : (s : Statement) (other : List ℕ) (a : Option (List ℕ)) → attribute_of s ≡ a → is_used (filter_map attribute_of (s ∷ [])) other ≡ on_name (λ n. bytes_eq n other) a
one_name s other None is = ap (λ names. is_used names other) (let e : filter_map attribute_of (s ∷ []) ≡ [] = rw is refl in e)
one_name s other (Some name) is = ap (λ names. is_used names other) (let e : filter_map attribute_of (s ∷ []) ≡ name ∷ [] = rw is refl in e) ∙ or_false (bytes_eq name other)

names_behind : (ss : List Statement) (s : Statement) (a : Option (List ℕ)) (other : List ℕ) → attribute_of s ≡ a →
    is_used (filter_map attribute_of (ss ++ s ∷ [])) other ≡ (is_used (filter_map attribute_of ss) other || on_name (λ n. bytes_eq n other) a)
names_behind ss s a other is =
    ap (λ names. is_used names other) (filter_map-append attribute_of ss (s ∷ []))
    ∙ list_any-append (λ n. bytes_eq n other) (filter_map attribute_of ss) (filter_map attribute_of (s ∷ []))
    ∙ ap (λ b. is_used (filter_map attribute_of ss) other || b) (one_name s other a is)

-- ---- constants
constant_kept : (u : Const) (l : Layer) → IsConst u → IsConst (numbered l u)
constant_kept u (o.Number x) h = h
constant_kept u (o.Truth b) h = h
constant_kept u (o.Str []) h = h
constant_kept u (o.Str (c ∷ [])) h = number_keeps _
constant_kept u (o.Str (c ∷ d ∷ ds)) h = h
constant_kept u (o.Set xs) h = h
constant_kept u (o.Lengths ns) h = h
constant_kept u (o.Named id) h = h

with_value_kept : (said : Said) (name : List ℕ) (value : Option Const) → AreConstants said.constants → IfSome value IsConst → AreConstants (with_constant said name value).constants
with_value_kept said name None h k = h
with_value_kept said name (Some u) h k = All-push (λ (c : NamedConst). IsConst c.value) said.constants _ h (constant_kept u (out-Const u) k)

same_typed : (said : Said) (name : List ℕ) (t : Option _) → (with_field said name t).constants ≡ said.constants
same_typed said name None = refl
same_typed said name (Some t) = refl

same_padded : (said : Said) (w : Option ℕ) → (with_padding said w).constants ≡ said.constants
same_padded said None = refl
same_padded said (Some w) = refl

same_directed : (a b : Bool) (d e f : Said) → e.constants ≡ d.constants → f.constants ≡ d.constants → (if a then e else if b then f else d).constants ≡ d.constants
same_directed true b d e f p q = p
same_directed false true d e f p q = q
same_directed false false d e f p q = refl

pub constants_kept : (S : Scope) (said : Said) (s : Statement) (vs : Values) → AreConstants said.constants → IfSome vs.value IsConst → AreConstants (added S said s vs).constants
constants_kept S said statement.Empty vs h k = h
constants_kept S said statement.Split vs h k = h
constants_kept S said (statement.Directive name x) vs h k = subst AreConstants (sym (same_directed (bytes_eq name (codes "union")) (bytes_eq name (codes "extent")) said _ _ refl refl)) h
constants_kept S said (statement.Constant form name x) vs h k = with_value_kept said name vs.value h k
constants_kept S said (statement.Field form name) vs h k = subst AreConstants (sym (same_typed said name _)) h
constants_kept S said (statement.Padding digits) vs h k = subst AreConstants (sym (same_padded said _)) h

-- ---- the section with the statement
-- what is known of the new section beside the old one
pub record Follows (old new : OpenSection) (before after : List NamedConst) (s : Statement) (j : Judged) : Type 0 where
  pub says : with_addition (said_of old before) (name_of (attribute_of s)) j.addition ≡ record (said_of new after) { union = (with_addition (said_of old before) (name_of (attribute_of s)) j.addition).union }
  pub totals : new.before.totals ≡ j.totals
  pub names : (other : List ℕ) → is_used new.before.names other ≡ (is_used old.before.names other || on_name (λ n. bytes_eq n other) (attribute_of s))
  pub standing : (file section : List Statement) → Stands old.before.standing file section → Stands new.before.standing (file ++ s ∷ []) (onto_section section s)
  pub whole : new.whole ≡ old.whole
  pub known : Option Offsets
  pub old_known : AreOffsets old.before.totals.union old.fields known
  pub offsets : new.offsets ≡ kept_offsets j.addition known

module _ (S : Scope) (sound : All IsDefinition S.namespace.definitions) (constants after : List NamedConst) (section new : OpenSection) (front : List Statement) (s : Statement) (back : List Statement)
    (plain : is_split s ≡ false) (spelled : WellSpelled s) (h : IsOpen section constants S front (s ∷ back)) (vs : Values) (j : Judged)
    (none : value_refusal (between S constants) section s ≡ None) (worth : values (with_offset (between S constants) section s) s ≡ Ok vs)
    (judged : IsJudged (between S constants) (place front s back) (said_by S (last_section front)) vs j) (follows : Follows section new constants after s j)
    (are_consts : AreConstants constants) (is_const : IfSome vs.value IsConst) where
  abbrev section_before : List Statement
  section_before = last_section front

  abbrev said_before : Said
  said_before = said_by S (last_section front)

  abbrev with_it : Said
  with_it = added S said_before s vs

  allowed : refusal_at S (place front s back) ≡ None
  allowed = by_values S constants section front s back plain h vs none worth ∙ sym (same_rules S constants section front s back plain h vs) ∙ judged.allowed

  worth_there : values (scope_at S said_before s) s ≡ Ok vs
  worth_there = worth_is S constants section front s back plain h vs worth

  says_more : said_by S (section_before ++ s ∷ []) ≡ with_it
  says_more = said_more S sound section_before s ∙ ap (if_valued S said_before s) worth_there

  last_is : last_section (front ++ s ∷ []) ≡ section_before ++ s ∷ []
  last_is = last_more front s ∙ cond-false (is_split s) _ _ plain

  adds : with_addition (said_of section constants) (name_of (attribute_of s)) j.addition ≡ with_it
  adds = ap (λ (d : Said). with_addition d (name_of (attribute_of s)) j.addition) (sym h.says) ∙ judged.adds

  union_is : new.before.totals.union ≡ with_it.union
  union_is = ap (λ t. t.union) follows.totals ∙ judged.totals.kind

  new_is : with_it ≡ said_of new after
  new_is =
      sym adds ∙ follows.says
      ∙ ap (λ (d : Said). record (said_of new after) { union = d.union }) adds
      ∙ ap (λ b. record (said_of new after) { union = b }) (sym union_is)

  keeps : KeepsRules S (front ++ s ∷ [])
  keeps = goes_on S sound front s back plain h.keeps spelled allowed

  says_new : said_by S (last_section (front ++ s ∷ [])) ≡ said_of new after
  says_new = ap (said_by S) last_is ∙ says_more ∙ new_is

  last_sound : IsSound (section_before ++ s ∷ []) (said_of new after)
  last_sound = subst (λ l. IsSound l (said_of new after)) last_is (subst (IsSound (last_section (front ++ s ∷ []))) says_new keeps.last)

  standing_new : Stands new.before.standing (front ++ s ∷ []) (section_before ++ s ∷ [])
  standing_new = subst (Stands new.before.standing (front ++ s ∷ [])) (cond-false (is_split s) _ _ plain) (follows.standing front section_before h.standing)

  totals_new : AreTotals new.before.totals new.before.totals.union (flds new.fields)
  totals_new =
      subst (λ b. AreTotals new.before.totals b (flds new.fields)) (sym union_is)
      (subst (λ fs. AreTotals new.before.totals with_it.union (flds fs)) (ap (λ (d : Said). d.fields) new_is)
      (subst (λ t. AreTotals t with_it.union (flds with_it.fields)) (sym follows.totals) judged.totals))

  counted_new : new.before.totals.variants ≡ new.before.standing.fields
  counted_new = totals_new.variants ∙ last_sound.counted ∙ sym standing_new.fields

  whole_is : section_before ++ before_first is_split (s ∷ back) ≡ last_section (front ++ s ∷ []) ++ before_first is_split back
  whole_is =
      ap (λ l. section_before ++ l) (behind_is S constants section front s back plain h) ∙ sym (append_assoc section_before (s ∷ []) (before_first is_split back))
      ∙ ap (λ l. l ++ before_first is_split back) (sym last_is)

  union_new : new.whole.union ≡ is_union_section (last_section (front ++ s ∷ []) ++ before_first is_split back)
  union_new = ap (λ w. w.union) follows.whole ∙ h.whole_union ∙ ap is_union_section whole_is

  fields_new : new.whole.fields ≡ count_by is_field (last_section (front ++ s ∷ []) ++ before_first is_split back)
  fields_new = ap (λ w. w.fields) follows.whole ∙ h.whole_fields ∙ ap (count_by is_field) whole_is

  is_union_new : new.before.totals.union ≡ true → new.whole.union ≡ true
  is_union_new e =
      union_new ∙ ap (λ l. is_union_section (l ++ before_first is_split back)) last_is
      ∙ union_more (section_before ++ s ∷ []) (before_first is_split back) (last_sound.first (sym last_sound.union ∙ e))

  offsets_new : AreOffsets new.before.totals.union new.fields new.offsets
  offsets_new =
      subst (AreOffsets new.before.totals.union new.fields) (sym follows.offsets)
      (subst (λ (d : Said). AreOffsets d.union d.fields (kept_offsets j.addition follows.known)) (adds ∙ new_is)
      (offsets_kept (said_of section constants) (name_of (attribute_of s)) j.addition follows.known follows.old_known))

  names_new : (name : List ℕ) → is_used new.before.names name ≡ is_used (filter_map attribute_of (last_section (front ++ s ∷ []))) name
  names_new name =
      follows.names name ∙ ap (λ b. b || on_name (λ n. bytes_eq n name) (attribute_of s)) (h.names name)
      ∙ sym (names_behind section_before s (attribute_of s) name refl) ∙ ap (λ l. is_used (filter_map attribute_of l) name) (sym last_is)

  open_new : IsOpen new after S (front ++ s ∷ []) back
  open_new = record {
    ready = record {
      within = subst AreWithin (sym follows.totals) judged.within;
      totals = totals_new;
      fine = last_sound.fine;
      counted = counted_new;
      union = is_union_new;
      offsets = offsets_new;
    };
    standing = subst (Stands new.before.standing (front ++ s ∷ [])) (sym last_is) standing_new;
    names = names_new;
    says = says_new;
    whole_union = union_new;
    whole_fields = fields_new;
    keeps = keeps;
  }

  constants_new : AreConstants after
  constants_new =
      subst (λ (d : Said). AreConstants d.constants) new_is
      (constants_kept S said_before s vs (subst (λ (d : Said). AreConstants d.constants) (sym h.says) are_consts) is_const)

  pub taken : IsTaken S front back s vs new after
  taken = record { allowed = allowed; worth = worth_there; next = open_new; kept = constants_new }

-- a union whose lengths are asked for has variants
pub some_variants : (section : OpenSection) → IsReady section → is_early section ≡ false → section.before.totals.union ≡ true → 0 < section.before.totals.variants
some_variants section h late u = elim (and_cases section.whole.union (nat_lt section.before.standing.fields 2 || nat_lt section.before.standing.fields section.whole.fields) late) [
  | inl e ↦ absurd (false≢true (sym e ∙ h.union u))
  | inr e ↦ omega (arith, ltb-false section.before.standing.fields 2 (or_parts (nat_lt section.before.standing.fields 2) (nat_lt section.before.standing.fields section.whole.fields) e).0, h.counted)
]

-- ---- the values of a statement by what was answered
module _ (scope : Scope) (section : OpenSection) (s : Statement) (code : Result Values ExprError) (r : Result Values StatementError) (late : (names_offset s && is_early section) ≡ false)
    (is : code ≢ Err error.NoMemory → code ≡ values (with_offset scope section s) s)
    (answer : MatchResult r (λ vs. code ≡ Ok vs) (IsStatementRefusal (λ cause. (code ≢ Err error.NoMemory) × (of_values code ≡ Some cause)))) where
  by_answer : (r : Result Values StatementError) → MatchResult r (λ vs. code ≡ Ok vs) (IsStatementRefusal (λ cause. (code ≢ Err error.NoMemory) × (of_values code ≡ Some cause))) →
      IfOk r (λ vs. values (with_offset scope section s) s ≡ Ok vs)
      × MatchResult r (λ vs. value_refusal scope section s ≡ None) (IsStatementRefusal (λ cause. value_refusal scope section s ≡ Some cause))
  by_answer (Ok vs) e =
      let worth : values (with_offset scope section s) s ≡ Ok vs = sym (is (λ f. absurd (let g : Ok vs ≡ Err error.NoMemory = sym e ∙ f in cc))) ∙ e in
      (worth, cond-false (names_offset s && is_early section) _ _ late ∙ ap of_values worth)
  by_answer (Err (statement_error.Refused cause)) (some, e) = (tt, cond-false (names_offset s && is_early section) _ _ late ∙ ap of_values (sym (is some)) ∙ e)
  by_answer (Err statement_error.NoMemory) e = (tt, tt)

  pub answered : IfOk r (λ vs. values (with_offset scope section s) s ≡ Ok vs)
      × MatchResult r (λ vs. value_refusal scope section s ≡ None) (IsStatementRefusal (λ cause. value_refusal scope section s ≡ Some cause))
  answered = by_answer r answer

pub kept_value : (code : Result Values ExprError) (r : Result Values StatementError) (P : Values → Type 0) → IfOk code P →
    MatchResult r (λ vs. code ≡ Ok vs) (IsStatementRefusal (λ cause. (code ≢ Err error.NoMemory) × (of_values code ≡ Some cause))) → IfOk r P
kept_value code (Ok vs) P h e = subst (λ c. IfOk c P) e h
kept_value code (Err x) P h e = tt

-- without `_offset_` a scope without lengths is the statement's
pub plain_values : (scope : Scope) (section : OpenSection) (s : Statement) → names_offset s ≡ false → scope.offset ≡ None → values scope s ≡ values (with_offset scope section s) s
plain_values scope section s e none =
    ap (λ o. values (record scope { offset = o }) s) none ∙ ap (λ b. values (record scope { offset = offset_for section b }) s) (sym e)

pub not_early : (a b : Bool) → b ≡ false → (a && b) ≡ false
not_early true b e = e
not_early false b e = refl

pub not_named : (a b : Bool) → a ≡ false → (a && b) ≡ false
not_named true b e = absurd (false≢true (sym e))
not_named false b e = refl

-- ---- from what the calls of a step ensure
pub take_done : (S : Scope) → All IsDefinition S.namespace.definitions → (front : List Statement) (s : Statement) (back : List Statement) (old mid a : OpenSection) (r : Standing) (constants after : List NamedConst)
    (scope : Scope) (vs : Values) (j : Judged) (name : Option (List ℕ)) → scope ≡ between S constants → is_split s ≡ false → WellSpelled s → IsOpen old constants S front (s ∷ back) →
    mid ≡ record old { offsets = mid.offsets } → value_refusal scope old s ≡ None → values (with_offset scope old s) s ≡ Ok vs → AreOffsets old.before.totals.union old.fields mid.offsets →
    ((p : Place) (said : Said) → p.at ≡ s → IsBefore mid.before p said → IsJudged scope p said vs j) →
    with_addition (said_of mid constants) (name_of name) j.addition ≡ record (said_of a after) { union = (with_addition (said_of mid constants) (name_of name) j.addition).union } →
    a.before.totals ≡ j.totals → ((other : List ℕ) → is_used a.before.names other ≡ (is_used mid.before.names other || on_name (λ n. bytes_eq n other) name)) →
    a.before.standing ≡ mid.before.standing → a.whole ≡ mid.whole → a.offsets ≡ kept_offsets j.addition mid.offsets →
    ((file section : List Statement) → Stands a.before.standing file section → Stands r (file ++ s ∷ []) (onto_section section s)) → name ≡ attribute_of s →
    AreConstants constants → IfSome vs.value IsConst → IsTaken S front back s vs (record a { before = record a.before { standing = r } }) after
take_done S sound front s back old mid a r constants after scope vs j name there plain spelled h rest none worth known judge says totals names standing whole offsets stands named consts is_const =
    let same : said_of mid constants ≡ said_of old constants = ap (λ (m : OpenSection). said_of m constants) rest in
    let before_same : mid.before ≡ old.before = ap (λ (m : OpenSection). m.before) rest in
    let whole_same : mid.whole ≡ old.whole = ap (λ (m : OpenSection). m.whole) rest in
    let before = is_before S constants old front s back plain h in
    let judged : IsJudged scope (place front s back) (said_by S (last_section front)) vs j =
    judge (place front s back) (said_by S (last_section front)) refl (subst (λ b. IsBefore b (place front s back) (said_by S (last_section front))) (sym before_same) before) in
    taken S sound constants after old (record a { before = record a.before { standing = r } }) front s back plain spelled h vs j
    (subst (λ t. value_refusal t old s ≡ None) there none)
    (subst (λ (t : Scope). values (with_offset t old s) s ≡ Ok vs) there worth)
    (subst (λ t. IsJudged t (place front s back) (said_by S (last_section front)) vs j) there judged)
    (record {
      says = subst (λ n. with_addition (said_of old constants) (name_of n) j.addition ≡ record (said_of a after) { union = (with_addition (said_of old constants) (name_of n) j.addition).union }) named
          (subst (λ (d : Said). with_addition d (name_of name) j.addition ≡ record (said_of a after) { union = (with_addition d (name_of name) j.addition).union }) same says);
      totals = totals;
      names = λ other. names other ∙ ap (λ b. is_used b.names other || on_name (λ n. bytes_eq n other) name) before_same ∙ ap (λ n. is_used old.before.names other || on_name (λ m. bytes_eq m other) n) named;
      standing = λ file section st. stands file section (subst (λ t. Stands t file section) (sym (standing ∙ ap (λ b. b.standing) before_same)) st);
      whole = whole ∙ whole_same;
      known = mid.offsets;
      old_known = known;
      offsets = offsets;
    })
    consts is_const

-- where the expressions are refused, and where the rules are
pub take_value_refused : (S : Scope) (front : List Statement) (s : Statement) (back : List Statement) (old : OpenSection) (constants : List NamedConst) (scope : Scope) (e : StatementError) → scope ≡ between S constants → is_split s ≡ false →
    IsOpen old constants S front (s ∷ back) → IsStatementRefusal (λ cause. value_refusal scope old s ≡ Some cause) e → IsStatementRefusal (λ cause. refusal_at S (place front s back) ≡ Some cause) e
take_value_refused S front s back old constants scope (statement_error.Refused cause) there plain h e =
    value_refused S constants old front s back plain h cause (subst (λ t. value_refusal t old s ≡ Some cause) there e)
take_value_refused S front s back old constants scope statement_error.NoMemory there plain h e = tt

pub take_rule_refused : (S : Scope) (front : List Statement) (s : Statement) (back : List Statement) (old mid : OpenSection) (constants : List NamedConst) (scope : Scope) (vs : Values) (e : StatementError) → scope ≡ between S constants →
    is_split s ≡ false → IsOpen old constants S front (s ∷ back) → mid ≡ record old { offsets = mid.offsets } → value_refusal scope old s ≡ None → values (with_offset scope old s) s ≡ Ok vs →
    IsStatementRefusal (λ cause. (p : Place) (said : Said) → p.at ≡ s → IsBefore mid.before p said → refusal_valued scope p said vs ≡ Some cause) e →
    IsStatementRefusal (λ cause. refusal_at S (place front s back) ≡ Some cause) e
take_rule_refused S front s back old mid constants scope vs (statement_error.Refused cause) there plain h rest none worth refused =
    let before_same : mid.before ≡ old.before = ap (λ (m : OpenSection). m.before) rest in
    let before = subst (λ b. IsBefore b (place front s back) (said_by S (last_section front))) (sym before_same) (is_before S constants old front s back plain h) in
    judged_refused S constants old front s back plain h vs cause (subst (λ t. value_refusal t old s ≡ None) there none) (subst (λ (t : Scope). values (with_offset t old s) s ≡ Ok vs) there worth)
    (subst (λ t. refusal_valued t (place front s back) (said_by S (last_section front)) vs ≡ Some cause) there (refused (place front s back) (said_by S (last_section front)) refl before))
take_rule_refused S front s back old mid constants scope vs statement_error.NoMemory there plain h rest none worth refused = tt

-- ---- a section before its first statement
pub open_begin : (section : OpenSection) (scope : Scope) (front lines : List Statement) → section.fields ≡ [] → section.types ≡ [] → section.extent ≡ None → section.offsets ≡ None → section.before.names ≡ [] →
    AreTotals section.before.totals false End → AreWithin section.before.totals → section.whole.union ≡ is_union_section (before_first is_split lines) →
    section.whole.fields ≡ count_by is_field (before_first is_split lines) → Stands section.before.standing front [] → last_section front ≡ [] → KeepsRules scope front → IsOpen section [] scope front lines
open_begin section scope front lines fields types extent offsets names totals within union count stands last keeps = record {
  ready = record {
    within = within;
    totals = subst (λ b. AreTotals section.before.totals b (flds section.fields)) (sym totals.kind) (subst (λ l. AreTotals section.before.totals false (flds l)) (sym fields) totals);
    fine = subst (AreFine section.before.totals.union) (sym fields) (fine_none section.before.totals.union);
    counted = totals.variants ∙ sym stands.fields;
    union = λ e. absurd (false≢true (sym totals.kind ∙ e));
    offsets = subst (AreOffsets section.before.totals.union section.fields) (sym offsets) tt;
  };
  standing = subst (Stands section.before.standing front) (sym last) stands;
  names = λ name. ap (λ l. is_used l name) names ∙ ap (λ l. is_used (filter_map attribute_of l) name) (sym last);
  says = ap (said_by scope) last
      ∙ ap (λ u. record nothing { union = u }) (sym totals.kind)
      ∙ ap (λ l. record nothing { union = section.before.totals.union; fields = l }) (sym fields)
      ∙ ap (λ l. record nothing { union = section.before.totals.union; fields = section.fields; types = l }) (sym types)
      ∙ ap (λ x. record nothing { union = section.before.totals.union; fields = section.fields; types = section.types; extent = x }) (sym extent);
  whole_union = union ∙ ap (λ l. is_union_section (l ++ before_first is_split lines)) (sym last);
  whole_fields = count ∙ ap (λ l. count_by is_field (l ++ before_first is_split lines)) (sym last);
  keeps = keeps;
}

-- the lengths that were meant are those of all fields
pub known_now : (section : OpenSection) (fields : List Field) (set : List ℕ) (n : ℕ) (known : Option Offsets) → known ≡ Some (record { set = set; fields = n }) → n ≡ length section.fields → fields ≡ section.fields →
    set ≡ offsets section.before.totals.union fields → AreOffsets section.before.totals.union section.fields known
known_now section fields set n known is count same e =
    subst (AreOffsets section.before.totals.union section.fields) (sym is)
    (omega arith, e ∙ ap (offsets section.before.totals.union) (same ∙ sym (take_all n section.fields (omega arith))))
