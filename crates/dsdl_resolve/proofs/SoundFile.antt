-- A file that is not refused defines types that keep the rules.
use Rattle.std.proofs.Common.{◌≡◌, ℕ, zero, suc, ◌+◌, ◌-◌, ◌^◌, ◌≤◌, ◌||◌, not, cond, Bool, true, false, List, [], ◌∷◌, ◌++◌, length, take, Option, Some, None, Result, Ok, Err, if◌then◌else◌, refl, sym, ap, ◌∙◌, subst, inl, inr, arith, append_assoc, length-append}
use Rattle.std.specs.Prelude.{nat_lt}
use Rattle.std.specs.List.{All, list_any, count_by, before_first, position_or_len}
use Rattle.std.specs.Option.{option_map, option_or}
use Rattle.std.proofs.lemmas.Bool.{cond-true, cond-false, cases_Bool, and_cases, ltb-false, false≢true, or_parts}
use Rattle.std.proofs.lemmas.List.Elements.{All-head, All-tail}
use Rattle.std.proofs.lemmas.List.{append-nil}
use Rattle.std.proofs.lemmas.List.Sums.{fold-append}
use Rattle.std.proofs.lemmas.Option.{none-some}
use Rattle.dsdl_names.specs.declared.FileName.{FileName}
use Rattle.dsdl_parse.specs.Spelling.{WellSpelled}
use Rattle.dsdl_parse.specs.declared.statement.Statement.{Statement}
use Rattle.dsdl_parse.specs.declared.statement.Statement.TheVariants as statement
use Rattle.dsdl_types.specs.Definitions.{IsDefinition, IsType, typed_count}
use Rattle.dsdl_types.specs.Greatest.{up, longest_variant}
use Rattle.dsdl_types.specs.Rules.{IsSchema, IsExtent}
use Rattle.dsdl_types.specs.Schemas.{Flds, Struct, Union, tag_bits, variants, is_composite}
use Rattle.dsdl_types.specs.Views.{sch, flds, type_of}
use Rattle.dsdl_types.specs.declared.namespace.Print.{Print}
use Rattle.dsdl_types.specs.declared.schema.Body.{roll-Body}
use Rattle.dsdl_types.specs.declared.schema.Field.{Field}
use Rattle.dsdl_types.specs.declared.schema.Schema.{Schema}
use Rattle.dsdl_types.specs.declared.schema.Schema.TheVariants as schema
use Rattle.dsdl_types.proofs.Equations.{kind_struct, kind_union}
use Rattle.const_expr.specs.declared.error.ExprError.{ExprError}
use Rattle.const_expr.specs.declared.scope.Scope.{Scope}
use Rattle.dsdl_resolve.specs.declared.outcome.Outcome.{Outcome}
use Rattle.dsdl_resolve.specs.declared.outcome.Refused.{Refused}
use Rattle.dsdl_resolve.specs.declared.values.Values.{Values}
use Rattle.dsdl_resolve.specs.Judged.{body_of, finished, in_file, on_line, prints_from, refusal_at, refusal_at_end, refusal_behind, refusal_from, refusal_of_values, refusal_valued, unless_refused}
use Rattle.dsdl_resolve.specs.Place.{Place, place, onto_section, last_section}
use Rattle.dsdl_resolve.specs.RuleNumbers.{union_offset_too_early}
use Rattle.dsdl_resolve.specs.Rules.{least, rules_at_end, has_too_few_variants, is_offset_too_early, split_rules}
use Rattle.dsdl_resolve.specs.Said.{Said, greatest, greatest_union}
use Rattle.dsdl_resolve.specs.Says.{is_split, is_union, is_field}
use Rattle.dsdl_resolve.specs.Soundness.{DefinitionsKeepRules}
use Rattle.dsdl_resolve.specs.Values.{values, scope_at, say, said_by, nothing, added, if_valued}
use Rattle.dsdl_resolve.specs.declared.why.DsdlWhy.{DsdlWhy}
use Rattle.dsdl_resolve.specs.declared.why.DsdlWhy.TheVariants as why
use Rattle.dsdl_resolve.specs.SoundSections.{AreFine, IsSound, IsFinished, KeepsRules}
use Rattle.dsdl_resolve.proofs.SoundSection.{sound_none, sound_more, any_parts, any_same, kept, map_none, or_none}

-- ---- what stands before the first element that passes a test
pub before_cons : {X : Type 0} (p : X → Bool) (x : X) (xs : List X) → before_first p (x ∷ xs) ≡ (if p x then [] else x ∷ before_first p xs)
before_cons p x xs = go (p x)
  where
    next : (n : ℕ) → take (1 + n) (x ∷ xs) ≡ x ∷ take n xs
    next n = let e : 1 + n ≡ suc n = omega arith in ap (λ m. take m (x ∷ xs)) e

    go : (b : Bool) → take (cond (not b) (1 + position_or_len p xs) 0) (x ∷ xs) ≡ (if b then [] else x ∷ before_first p xs)
    go true = refl
    go false = next (position_or_len p xs)

-- where one passes, more behind it change nothing
pub before_some : {X : Type 0} (p : X → Bool) (xs ys : List X) → list_any p xs ≡ true → before_first p (xs ++ ys) ≡ before_first p xs
before_some p [] ys e = absurd (false≢true e)
before_some p (x ∷ xs) ys e = before_cons p x (xs ++ ys) ∙ by_test (p x) e (λ h. before_some p xs ys h) ∙ sym (before_cons p x xs)
  where
    by_test : (b : Bool) → (b || list_any p xs) ≡ true → (list_any p xs ≡ true → before_first p (xs ++ ys) ≡ before_first p xs) →
        (if b then [] else x ∷ before_first p (xs ++ ys)) ≡ (if b then [] else x ∷ before_first p xs)
    by_test true e next = refl
    by_test false e next = ap (λ l. x ∷ l) (next e)

-- the first one that passes is the last of all
pub before_last : {X : Type 0} (p : X → Bool) (xs : List X) (y : X) → list_any p xs ≡ false → p y ≡ true → before_first p (xs ++ y ∷ []) ≡ xs
before_last p [] y e f = before_cons p y [] ∙ ap (λ b. if b then [] else y ∷ before_first p []) f
before_last p (x ∷ xs) y e f =
    let q = or_parts (p x) (list_any p xs) e in
    before_cons p x (xs ++ y ∷ []) ∙ ap (λ b. if b then [] else x ∷ before_first p (xs ++ y ∷ [])) q.0 ∙ ap (λ l. x ∷ l) (before_last p xs y q.1 f)

-- ---- a section at its end
abbrev struct_of : List Field → ℕ → Bool → Schema
struct_of fields n sealed = schema.Struct (roll-Body (record { fields = fields; extent = n; sealed = sealed }))

abbrev union_of : List Field → ℕ → Bool → Schema
union_of fields n sealed = schema.Union (roll-Body (record { fields = fields; extent = n; sealed = sealed }))

abbrev IsComposite : Schema → List Field → Type 0
IsComposite s fields = IsType s × (typed_count (sch s) ≡ variants (flds fields))

module _ (fields : List Field) (n : ℕ) (sealed : Bool) (short : n ≤ 2 ^ 32) where
  struct_type : AreFine false fields → IsExtent sealed (greatest false fields) n → IsComposite (struct_of fields n sealed) fields
  struct_type h fits =
      let same : sch (struct_of fields n sealed) ≡ Struct (flds fields) (record { extent = n; sealed = sealed }) = ap type_of (kind_struct fields n sealed) in
      ((subst IsSchema (sym same) (((fits, short), h.formed), h.flat, omega (arith, h.few), (h.named, h.inner)), ap is_composite same), ap typed_count same)

  union_greatest : (k : ℕ) (fs : Flds) → 2 ≤ k → greatest_union k fs ≡ up (tag_bits k + longest_variant fs)
  union_greatest zero fs le = absurd (omega arith)
  union_greatest (suc k) fs le = refl

  union_type : AreFine true fields → 2 ≤ variants (flds fields) → IsExtent sealed (greatest true fields) n → IsComposite (union_of fields n sealed) fields
  union_type h two fits =
      let same : sch (union_of fields n sealed) ≡ Union (flds fields) (record { extent = n; sealed = sealed }) = ap type_of (kind_union fields n sealed) in
      let held : IsExtent sealed (up (tag_bits (variants (flds fields)) + longest_variant (flds fields))) n = subst (λ g. IsExtent sealed g n) (union_greatest (variants (flds fields)) (flds fields) two) fits in
      ((subst IsSchema (sym same) (((held, short), two, h.packed refl, h.formed), h.flat, omega (arith, h.few), (h.named, h.inner)), ap is_composite same), ap typed_count same)

enough : (ss : List Statement) (said : Said) → IsSound ss said → has_too_few_variants ss ≡ false → said.union ≡ true → 2 ≤ variants (flds said.fields)
enough ss said h rule u = elim (and_cases (list_any is_union ss) (nat_lt (count_by is_field ss) 2) rule) [
  | inl absent ↦ absurd (false≢true (sym absent ∙ sym h.union ∙ u))
  | inr many ↦ omega (arith, ltb-false (count_by is_field ss) 2 many, h.counted)
]

-- by whether it is a union, and by its extent
by_parts : (ss : List Statement) (said : Said) (u : Bool) (o : Option ℕ) → IsSound ss said → has_too_few_variants ss ≡ false → said.union ≡ u → said.extent ≡ o →
    IsComposite (if u then schema.Union (body_of said o) else schema.Struct (body_of said o)) said.fields
by_parts ss said true None h rule e f =
    subst (λ g. IsComposite (union_of said.fields g true) said.fields) (ap (λ b. greatest b said.fields) (sym e))
    (union_type said.fields (greatest true said.fields) true (subst (λ b. greatest b said.fields ≤ 2 ^ 32) e h.fine.short) (subst (λ b. AreFine b said.fields) e h.fine) (enough ss said h rule e) refl)
by_parts ss said true (Some n) h rule e f =
    let held = h.extent n f in
    union_type said.fields n false held.2 (subst (λ b. AreFine b said.fields) e h.fine) (enough ss said h rule e) (subst (λ b. greatest b said.fields ≤ n) e held.0, held.1)
by_parts ss said false None h rule e f =
    subst (λ g. IsComposite (struct_of said.fields g true) said.fields) (ap (λ b. greatest b said.fields) (sym e))
    (struct_type said.fields (greatest false said.fields) true (subst (λ b. greatest b said.fields ≤ 2 ^ 32) e h.fine.short) (subst (λ b. AreFine b said.fields) e h.fine) refl)
by_parts ss said false (Some n) h rule e f =
    let held = h.extent n f in
    struct_type said.fields n false held.2 (subst (λ b. AreFine b said.fields) e h.fine) (subst (λ b. greatest b said.fields ≤ n) e held.0, held.1)

pub closed : (ss : List Statement) (said : Said) → IsSound ss said → has_too_few_variants ss ≡ false → IsFinished said
closed ss said h rule = let c = by_parts ss said said.union said.extent h rule refl refl in (c.0, h.texts ∙ sym c.1)

-- ---- over the statements of a file
line_none : (n : ℕ) (cause : Option DsdlWhy) → on_line n cause ≡ None → cause ≡ None
line_none n None e = refl
line_none n (Some w) e = absurd (none-some _ (sym e))

or_refused : (a b : Option Refused) → option_or a b ≡ None → (a ≡ None) × (b ≡ None)
or_refused None b e = (refl, e)
or_refused (Some x) b e = absurd (none-some x (sym e))

pub last_more : (front : List Statement) (s : Statement) → last_section (front ++ s ∷ []) ≡ onto_section (last_section front) s
last_more front s = fold-append onto_section [] front (s ∷ [])

module _ (scope : Scope) (sound : All IsDefinition scope.namespace.definitions) where
  pub said_more : (ss : List Statement) (s : Statement) → said_by scope (ss ++ s ∷ []) ≡ say scope (said_by scope ss) s
  said_more ss s = fold-append (say scope) nothing ss (s ∷ [])

  valued : (p : Place) (said : Said) (r : Result Values ExprError) → values (scope_at scope said p.at) p.at ≡ r → refusal_of_values scope p said r ≡ None →
      (vs : Values) × (values (scope_at scope said p.at) p.at ≡ Ok vs) × (refusal_valued scope p said vs ≡ None)
  valued p said (Ok vs) e none = (vs, e, none)
  valued p said (Err x) e none = absurd (none-some _ (sym none))

  no_refusal : (p : Place) (said : Said) → refusal_behind scope p said ≡ None →
      (vs : Values) × (values (scope_at scope said p.at) p.at ≡ Ok vs) × (refusal_valued scope p said vs ≡ None)
  no_refusal p said none = go (is_offset_too_early p) none
    where
      go : (b : Bool) → (if b then Some (why.Rule union_offset_too_early) else refusal_of_values scope p said (values (scope_at scope said p.at) p.at)) ≡ None →
          (vs : Values) × (values (scope_at scope said p.at) p.at ≡ Ok vs) × (refusal_valued scope p said vs ≡ None)
      go true none = absurd (none-some _ (sym none))
      go false none = valued p said (values (scope_at scope said p.at) p.at) refl none

  pub begins : KeepsRules scope []
  begins = record { last = sound_none; whole = λ e. refl; half = λ e. absurd (false≢true e) }

  pub goes_on : (front : List Statement) (s : Statement) (back : List Statement) → is_split s ≡ false → KeepsRules scope front → WellSpelled s → refusal_at scope (place front s back) ≡ None →
      KeepsRules scope (front ++ s ∷ [])
  goes_on front s back plain h spelled none =
      let section = last_section front in
      let said = said_by scope section in
      let p = place front s back in
      let (vs, worth, fine) = no_refusal p said none in
      let more : IsSound (section ++ s ∷ []) (added scope said s vs) = sound_more scope sound p said vs h.last plain spelled fine in
      let says : said_by scope (section ++ s ∷ []) ≡ added scope said s vs = said_more section s ∙ ap (if_valued scope said s) worth in
      let is : last_section (front ++ s ∷ []) ≡ section ++ s ∷ [] = last_more front s ∙ cond-false (is_split s) _ _ plain in
      record {
        last = subst (λ l. IsSound l (said_by scope l)) (sym is) (subst (IsSound (section ++ s ∷ [])) (sym says) more);
        whole = λ e. is ∙ ap (λ l. l ++ s ∷ []) (h.whole (any_parts is_split front s e).0);
        half = λ e.
            let before : list_any is_split front ≡ true = sym (any_same is_split front s plain) ∙ e in
            subst (λ l. IsFinished (said_by scope l)) (sym (before_some is_split front (s ∷ []) before)) (h.half before);
      }

  pub splits : (front back : List Statement) → KeepsRules scope front → refusal_at scope (place front statement.Split back) ≡ None → KeepsRules scope (front ++ statement.Split ∷ [])
  splits front back h none =
      let section = last_section front in
      let said = said_by scope section in
      let p = place front statement.Split back in
      let (vs, worth, fine) = no_refusal p said none in
      let first = or_none (option_map (λ n. why.Rule n) (least (split_rules p))) _ fine in
      let (r1, (r2, (r7, end))) = kept (split_rules p) (map_none (λ n. why.Rule n) (least (split_rules p)) first.0) in
      let is : last_section (front ++ statement.Split ∷ []) ≡ [] = last_more front statement.Split in
      record {
        last = subst (λ l. IsSound l (said_by scope l)) (sym is) sound_none;
        whole = λ e. absurd (false≢true (sym (any_parts is_split front statement.Split e).1));
        half = λ e. subst (λ l. IsFinished (said_by scope l)) (h.whole r1 ∙ sym (before_last is_split front statement.Split r1 refl)) (closed section said h.last r7);
      }

  step : (front : List Statement) (s : Statement) (back : List Statement) → KeepsRules scope front → WellSpelled s → refusal_at scope (place front s back) ≡ None → KeepsRules scope (front ++ s ∷ [])
  step front statement.Split back h spelled none = splits front back h none
  step front statement.Empty back h spelled none = goes_on front statement.Empty back refl h spelled none
  step front (statement.Directive name x) back h spelled none = goes_on front (statement.Directive name x) back refl h spelled none
  step front (statement.Constant form name x) back h spelled none = goes_on front (statement.Constant form name x) back refl h spelled none
  step front (statement.Field form name) back h spelled none = goes_on front (statement.Field form name) back refl h spelled none
  step front (statement.Padding digits) back h spelled none = goes_on front (statement.Padding digits) back refl h spelled none

  -- over all statements, and at the end
  to_end : (port : Option ℕ) (front back : List Statement) → KeepsRules scope front → All WellSpelled back → refusal_from scope port front back ≡ None →
      KeepsRules scope (front ++ back) × (refusal_at_end port (front ++ back) ≡ None)
  to_end port front [] h spelled none =
      let same = sym (append-nil front) in
      (subst (KeepsRules scope) same h, subst (λ l. refusal_at_end port l ≡ None) same (line_none (length front) (refusal_at_end port front) none))
  to_end port front (s ∷ back) h spelled none =
      let first = or_refused (on_line (length front + 1) (refusal_at scope (place front s back))) (refusal_from scope port (front ++ s ∷ []) back) none in
      let here = line_none (length front + 1) (refusal_at scope (place front s back)) first.0 in
      let rest = to_end port (front ++ s ∷ []) back (step front s back h (All-head WellSpelled s back spelled) here) (All-tail WellSpelled s back spelled) first.1 in
      subst (λ l. KeepsRules scope l × (refusal_at_end port l ≡ None)) (append_assoc front (s ∷ []) back) rest

  pub end_rule : (port : Option ℕ) (lines : List Statement) → refusal_at_end port lines ≡ None → has_too_few_variants (last_section lines) ≡ false
  end_rule port lines none = (kept (rules_at_end port lines (last_section lines)) (map_none (λ n. why.Rule n) (least (rules_at_end port lines (last_section lines))) none)).1.0

  finished_sound : (name : FileName) (lines : List Statement) (prints : List Print) → KeepsRules scope lines → has_too_few_variants (last_section lines) ≡ false →
      IsDefinition (finished scope name lines prints).definition
  finished_sound name lines prints h rule = elim (cases_Bool (list_any is_split lines)) [
    | inl e ↦
        let asked = said_by scope (before_first is_split lines) in
        let answered = said_by scope (last_section lines) in
        let first : IsFinished asked = h.half e in
        let second : IsFinished answered = closed (last_section lines) answered h.last rule in
        subst (λ (done : Outcome). IsDefinition done.definition) (sym (cond-true (list_any is_split lines) _ _ e))
        (record {
          rules = (first.0, second.0);
          texts = length-append asked.types answered.types ∙ omega (arith, first.1, second.1);
        })
    | inr e ↦
        let done : IsFinished (said_by scope lines) = subst (λ l. IsFinished (said_by scope l)) (h.whole e) (closed (last_section lines) (said_by scope (last_section lines)) h.last rule) in
        subst (λ (done : Outcome). IsDefinition done.definition) (sym (cond-false (list_any is_split lines) _ _ e)) (record { rules = done.0; texts = done.1 })
  ]

if_fine : (refused : Option Refused) (done finish : Outcome) → unless_refused refused finish ≡ Ok done → (refused ≡ None) × (finish ≡ done)
if_fine None done finish e = (refl, cc)
if_fine (Some r) done finish e = absurd (cc)

pub definitions_keep_rules : DefinitionsKeepRules
definitions_keep_rules scope path name lines done types spelled e =
    let here = in_file scope name in
    let prints = prints_from here path [] lines in
    let fine = if_fine (refusal_from here name.port [] lines) done (finished here name lines prints) e in
    let kept = to_end here types name.port [] lines (begins here types) spelled fine.0 in
    subst (λ (d : Outcome). IsDefinition d.definition) fine.1 (finished_sound here types name lines prints kept.0 (end_rule here types name.port lines kept.1))
