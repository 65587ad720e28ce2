-- The texts of definitions, one after another.
use Rattle.std.proofs.Common.{◌≡◌, ◌↔◌, ℕ, suc, ◌+◌, ◌<◌, ◌≤◌, List, [], ◌∷◌, ◌++◌, length, map, drop, take, get_or, Option, Result, Ok, Err, OnOk, All, refl, sym, ap, ◌∙◌, subst, arith, add-one, drop-cons, Bor}
use Rattle.std.proofs.lemmas.List.{append-nil, drop_all, get_or-map, length-map}
use Rattle.dsdl_names.specs.declared.TypeId.{TypeId}
use Rattle.dsdl_types.specs.Schemas.{Sch, Flds, Simple, Fixed, Var, Struct, Union, End, Pad, Field, variants}
use Rattle.dsdl_types.specs.Definitions.{typed_count, count_in, IsDefinition}
use Rattle.dsdl_types.specs.Views.{sch}
use Rattle.dsdl_types.specs.declared.schema.Schema.{Schema}
use Rattle.dsdl_types.specs.declared.definition.Parts.TheVariants as parts
use Rattle.dsdl_types.specs.Lengths.{Length}
use Rattle.bit_length.specs.Lengths.{Has}
use Rattle.dsdl_types.specs.declared.definition.Definition.{Definition}
use Rattle.layout.specs.Layouts.{AreRows, fields_of, typed_fields}
use Rattle.layout.specs.declared.row.Row.{Row}
use Rattle.layout_text.specs.Appends.{Appends}
use Rattle.layout_text.specs.Definitions.{IsTypeText, ArePartsText, IsDefinitionText, AreDefinitionTexts}
use Rattle.layout_text.specs.Fields.{AreFieldLines}
use Rattle.layout_text.specs.Heads.{named_words, outline_words}
use Rattle.bit_length.specs.Ascending.{Ascend}
use Rattle.layout_text.specs.Sets.{set_text}
use Rattle.layout_text.specs.Words.{line_of, spaced}
use Rattle.layout_text.specs.declared.head.Role.{Role}
use Rattle.layout_text.specs.declared.head.Role.TheVariants.{Request, Response}
use Rattle.layout_text.proofs.Grown.{regroup}
use Rattle.layout_text.proofs.Rows.{rows_length}

-- ---- a composite

typed_length : (fs : Flds) → length (typed_fields fs) ≡ variants fs
typed_length End = refl
typed_length (Pad n fs) = typed_length fs
typed_length (Field name s fs) = ap suc (typed_length fs)

-- the fields that have a type's text
pub fields_count : (s : Sch) → length (fields_of s) ≡ typed_count s
fields_count (Simple t) = refl
fields_count (Fixed s n) = refl
fields_count (Var s cap) = refl
fields_count (Struct fs o) = typed_length fs
fields_count (Union fs o) = typed_length fs

-- the first line, and then those of the fields
pub whole_type : (role : Role) (id : TypeId) (port : Option ℕ) (s : Sch) (types : List (List ℕ)) (lengths old named lined new : List ℕ) →
    ((n : ℕ) → Has lengths n ↔ Length s n) → Ascend lengths → named ≡ old ++ spaced (named_words role id port) → lined ≡ named ++ line_of (outline_words s (set_text lengths)) →
    Appends (AreFieldLines s 0 (fields_of s) types) lined new → Appends (IsTypeText role id port s types) old new
whole_type role id port s types lengths old named lined new same up e f (lines, are, g) = (
  (spaced (named_words role id port) ++ line_of (outline_words s (set_text lengths))) ++ lines,
  record {
    line = spaced (named_words role id port) ++ line_of (outline_words s (set_text lengths));
    lines = lines;
    heads = record { lengths = set_text lengths; whole = record { members = lengths; ascending = up; same = same; is = refl }; is = refl };
    fields = are;
    is = refl;
  },
  g ∙ ap (λ t. t ++ lines) (f ∙ ap (λ t. t ++ line_of (outline_words s (set_text lengths))) e ∙ regroup old (spaced (named_words role id port)) (line_of (outline_words s (set_text lengths))))
      ∙ regroup old (spaced (named_words role id port) ++ line_of (outline_words s (set_text lengths))) lines,
)

-- the same where the last call has succeeded
pub whole_ok : {T E : Type 0} (r : Result T E) (role : Role) (id : TypeId) (port : Option ℕ) (s : Sch) (types : List (List ℕ)) (lengths old named lined new : List ℕ) →
    ((n : ℕ) → Has lengths n ↔ Length s n) → Ascend lengths → named ≡ old ++ spaced (named_words role id port) → lined ≡ named ++ line_of (outline_words s (set_text lengths)) →
    OnOk r (Appends (AreFieldLines s 0 (fields_of s) types) lined new) → OnOk r (Appends (IsTypeText role id port s types) old new)
whole_ok (Ok x) role id port s types lengths old named lined new same up e f lines = whole_type role id port s types lengths old named lined new same up e f lines
whole_ok (Err x) role id port s types lengths old named lined new same up e f lines = tt

-- how many texts a message's types have
pub message_count : (d : Definition) (schema : Schema) (types : List (List ℕ)) (rows : List Row) → IsDefinition d → d.parts ≡ parts.Message schema → types ≡ d.types → AreRows (sch schema) 0 (fields_of (sch schema)) rows → length types ≡ length rows
message_count d schema types rows is e f each =
    ap length f ∙ is.texts ∙ ap count_in e ∙ sym (fields_count (sch schema)) ∙ rows_length (sch schema) 0 (fields_of (sch schema)) rows each

pub service_count : (d : Definition) (request response : Schema) (types : List (List ℕ)) (asked answered : List Row) → IsDefinition d → d.parts ≡ parts.Service request response → types ≡ d.types →
    AreRows (sch request) 0 (fields_of (sch request)) asked → AreRows (sch response) 0 (fields_of (sch response)) answered → length types ≡ length asked + length answered
service_count d request response types asked answered is e f first second =
    let a = fields_count (sch request) in
    let b = rows_length (sch request) 0 (fields_of (sch request)) asked first in
    let x = fields_count (sch response) in
    let y = rows_length (sch response) 0 (fields_of (sch response)) answered second in
    let z : length types ≡ count_in (parts.Service request response) = ap length f ∙ is.texts ∙ ap count_in e in
    omega arith

-- the text of a service
pub service_text : {T E : Type 0} (r : Result T E) (d : Definition) (request response asked answered : Schema) (types front back : List (List ℕ)) (rows : List Row) (n : ℕ) (old half new : List ℕ) →
    d.parts ≡ parts.Service request response → asked ≡ request → answered ≡ response → types ≡ d.types → AreRows (sch request) 0 (fields_of (sch request)) rows → n ≡ length rows →
    front ≡ take n types → back ≡ drop n types →
    Appends (IsTypeText Request d.id d.port (sch asked) front) old half → OnOk r (Appends (IsTypeText Response d.id d.port (sch answered) back) half new) → OnOk r (Appends (IsDefinitionText d) old new)
service_text (Err x) d request response asked answered types front back rows n old half new is e f g each count a b first second = tt
service_text (Ok x) d request response asked answered types front back rows n old half new is e f g each count a b (own, first, h) (other, second, k) = (
  own ++ other,
  subst (λ p. ArePartsText d.id d.port d.types p (own ++ other)) (sym is) (
    own,
    other,
    subst (λ ts. IsTypeText Request d.id d.port (sch request) ts own) (a ∙ ap (λ m. take m types) exact ∙ ap (take (typed_count (sch request))) g)
        (subst (λ s. IsTypeText Request d.id d.port (sch s) front own) e first),
    subst (λ ts. IsTypeText Response d.id d.port (sch response) ts other) (b ∙ ap (λ m. drop m types) exact ∙ ap (drop (typed_count (sch request))) g)
        (subst (λ s. IsTypeText Response d.id d.port (sch s) back other) f second),
    refl,
  ),
  k ∙ ap (λ t. t ++ other) h ∙ regroup old own other,
)
  where
    exact : n ≡ typed_count (sch request)
    exact = count ∙ sym (rows_length (sch request) 0 (fields_of (sch request)) rows each) ∙ fields_count (sch request)

-- ---- definitions, one after another

pub definition_at : (refs : List (Bor Definition)) (i : ℕ) (r : Bor Definition) → All IsDefinition (map (λ r. r.now) refs) → i < length refs → r ≡ get_or refs i r → IsDefinition r.now
definition_at refs i r all lt e =
    let n : length (map (λ (x : Bor Definition). x.now) refs) ≡ length refs = simp length-map in
    subst IsDefinition (get_or-map (λ (x : Bor Definition). x.now) refs i r r.now lt ∙ ap (λ (x : Bor Definition). x.now) (sym e)) (all i r.now (omega arith))

-- The texts in front of definition i are written: with those of the others behind them they are the texts of all.
pub record AreTold (refs : List (Bor Definition)) (i : ℕ) (old new : List ℕ) : Type 0 where
  pub rest : (more : List ℕ) → AreDefinitionTexts (map (λ r. r.now) (drop i refs)) more → Appends (AreDefinitionTexts (map (λ r. r.now) refs)) old (new ++ more)

pub none_told : (refs : List (Bor Definition)) (old : List ℕ) → AreTold refs 0 old old
none_told refs old = record { rest = λ more texts. (more, texts, refl) }

pub more_told : (refs : List (Bor Definition)) (i : ℕ) (r : Bor Definition) (old new newer : List ℕ) →
    i < length refs → r ≡ get_or refs i r → AreTold refs i old new → Appends (IsDefinitionText r.now) new newer → AreTold refs (i + 1) old newer
more_told refs i r old new newer lt e so_far (own, is, f) =
    subst (λ n. AreTold refs n old newer) (sym (add-one i)) (record { rest = written })
  where
    next : drop i refs ≡ r ∷ drop (suc i) refs
    next = drop-cons refs i r lt ∙ ap (λ x. x ∷ drop (suc i) refs) (sym e)

    written : (more : List ℕ) → AreDefinitionTexts (map (λ r. r.now) (drop (suc i) refs)) more → Appends (AreDefinitionTexts (map (λ r. r.now) refs)) old (newer ++ more)
    written more texts =
        let g : newer ++ more ≡ new ++ (own ++ more) = ap (λ x. x ++ more) f ∙ regroup new own more in
        subst (λ x. Appends (AreDefinitionTexts (map (λ r. r.now) refs)) old x) (sym g)
        (so_far.rest (own ++ more) (subst (λ x. AreDefinitionTexts (map (λ r. r.now) x) (own ++ more)) (sym next) (own, more, is, texts, refl)))

pub all_told : (refs : List (Bor Definition)) (i : ℕ) (old new : List ℕ) → length refs ≤ i → AreTold refs i old new → Appends (AreDefinitionTexts (map (λ r. r.now) refs)) old new
all_told refs i old new le so_far =
    subst (λ x. Appends (AreDefinitionTexts (map (λ r. r.now) refs)) old x) (append-nil new)
    (so_far.rest [] (subst (λ x. AreDefinitionTexts (map (λ r. r.now) x) []) (sym (drop_all i refs le)) refl))
