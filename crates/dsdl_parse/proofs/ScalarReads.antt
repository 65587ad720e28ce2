-- The type of one value is read exactly where the grammar has one.
use Rattle.std.proofs.Common.{◌≡◌, ℕ, Bool, true, false, ◌&&◌, ◌||◌, List, [], ◌∷◌, ◌++◌, length, take, drop, Option, Some, None, is_some, codes, bytes_eq, refl, sym, ap, ◌∙◌, subst, inl, inr}
use Rattle.std.proofs.Math.Seq.{take-append_seam, drop-append_seam}
use Rattle.std.proofs.lemmas.Bool.{cond-true, cond-false, and_parts, or_cases}
use Rattle.std.proofs.lemmas.List.{take-append-drop}
use Rattle.std.proofs.lemmas.Option.{none-some, same_Some, some_pair_parts}
use Rattle.std.proofs.lemmas.Slice.Eq.{bytes_eq-Decides}
use Rattle.dsdl_lex.specs.declared.token.TokenKind.{TokenKind}
use Rattle.dsdl_lex.specs.declared.token.TokenKind.TheVariants as k
use Rattle.dsdl_parse.specs.declared.expr.Reference.{Reference}
use Rattle.dsdl_parse.specs.declared.statement.Prefix.{Prefix}
use Rattle.dsdl_parse.specs.declared.statement.Prefix.TheVariants as p
use Rattle.dsdl_parse.specs.declared.statement.Scalar.{Scalar}
use Rattle.dsdl_parse.specs.declared.statement.Scalar.TheVariants as s
use Rattle.dsdl_parse.specs.LeafReading.{reference_of}
use Rattle.dsdl_parse.specs.Statement.{are_digits, IsNumbered, IsPrimitive, bool, uint, int, float, IsPrefix, none, saturated, truncated, IsScalar, primitive, reference, void}
use Rattle.dsdl_parse.specs.StatementReading.{digits_behind, is_primitive, prefix_of, primitive_of, plain_of, behind_prefix, with_prefix, read_scalar}
use Rattle.dsdl_parse.specs.Words.{Word}
use Rattle.dsdl_parse.proofs.Basics.{bind_some, bound, chosen, same_text}
use Rattle.dsdl_parse.proofs.References.{reference_complete, reference_sound}

-- ---- a word with digits behind it
numbered_sound : (word text digits : List ℕ) → digits_behind word text ≡ Some digits → IsNumbered word digits text
numbered_sound word text digits e = elim (chosen (bytes_eq (take (length word) text) word && are_digits (drop (length word) text)) _ _ _ e) [
  | inr h ↦ absurd (none-some digits h.1)
  | inl h ↦
      let q = and_parts (bytes_eq (take (length word) text) word) (are_digits (drop (length word) text)) h.0 in
      let same : drop (length word) text ≡ digits = same_Some _ _ h.1 in
      record {
        some_digits = subst (λ d. are_digits d ≡ true) same q.1;
        is_text = sym (take-append-drop (length word) text) ∙ ap (λ l. l ++ drop (length word) text) (same_text _ _ q.0) ∙ ap (λ l. word ++ l) same;
      }
]

numbered_at : (word digits : List ℕ) → are_digits digits ≡ true → digits_behind word (word ++ digits) ≡ Some digits
numbered_at word digits h =
    let front : bytes_eq (take (length word) (word ++ digits)) word ≡ true = (bytes_eq-Decides _ _).1 (take-append_seam word digits) in
    let back : drop (length word) (word ++ digits) ≡ digits = drop-append_seam word digits in
    let all : are_digits (drop (length word) (word ++ digits)) ≡ true = ap are_digits back ∙ h in
    cond-true (bytes_eq (take (length word) (word ++ digits)) word && are_digits (drop (length word) (word ++ digits))) _ _ (both _ _ front all) ∙ ap Some back
  where
    both : (a b : Bool) → a ≡ true → b ≡ true → (a && b) ≡ true
    both true b x y = y
    both false b x y = x

numbered_complete : (word text digits : List ℕ) → IsNumbered word digits text → digits_behind word text ≡ Some digits
numbered_complete word text digits d = ap (digits_behind word) d.is_text ∙ numbered_at word digits d.some_digits

some_digits : (word text : List ℕ) → is_some (digits_behind word text) ≡ true → (digits : List ℕ) × IsNumbered word digits text
some_digits word text h = go (digits_behind word text) refl h
  where
    go : (o : Option (List ℕ)) → digits_behind word text ≡ o → is_some o ≡ true → (digits : List ℕ) × IsNumbered word digits text
    go None e h = absurd (cc)
    go (Some digits) e h = (digits, numbered_sound word text digits e)

-- ---- primitive types
pub primitive_sound : (name : List ℕ) → is_primitive name ≡ true → IsPrimitive name
primitive_sound name h = elim (or_cases (bytes_eq name (codes "bool")) _ h) [
  | inl a ↦ bool (same_text _ _ a)
  | inr b ↦ elim (or_cases (is_some (digits_behind (codes "uint") name)) _ b) [
    | inl a ↦ let (digits, d) = some_digits (codes "uint") name a in uint digits d
    | inr c ↦ elim (or_cases (is_some (digits_behind (codes "int") name)) (is_some (digits_behind (codes "float") name)) c) [
      | inl a ↦ let (digits, d) = some_digits (codes "int") name a in int digits d
      | inr a ↦ let (digits, d) = some_digits (codes "float") name a in float digits d
    ]
  ]
]

left : (a b : Bool) → a ≡ true → (a || b) ≡ true
left true b h = refl
left false b h = absurd (cc)

right : (a b : Bool) → b ≡ true → (a || b) ≡ true
right true b h = refl
right false b h = h

pub primitive_complete : {name : List ℕ} → IsPrimitive name → is_primitive name ≡ true
primitive_complete {name} (bool e) = ap is_primitive e
primitive_complete {name} (uint digits d) = right (bytes_eq name (codes "bool")) _ (left _ _ (ap is_some (numbered_complete (codes "uint") name digits d)))
primitive_complete {name} (int digits d) = right (bytes_eq name (codes "bool")) _ (right _ _ (left _ _ (ap is_some (numbered_complete (codes "int") name digits d))))
primitive_complete {name} (float digits d) = right (bytes_eq name (codes "bool")) _ (right _ _ (right _ _ (ap is_some (numbered_complete (codes "float") name digits d))))

no_prefix : {name : List ℕ} → IsPrimitive name → prefix_of k.Name name ≡ None
no_prefix (bool e) = ap (prefix_of k.Name) e
no_prefix (uint digits d) = ap (prefix_of k.Name) d.is_text
no_prefix (int digits d) = ap (prefix_of k.Name) d.is_text
no_prefix (float digits d) = ap (prefix_of k.Name) d.is_text

-- ---- one word
module _ (w : Word) where
  pub plain_primitive : w.kind ≡ k.Name → IsPrimitive w.text → plain_of w.kind w.text ≡ Some (s.Primitive None w.text)
  plain_primitive e d = ap (λ kind. plain_of kind w.text) e ∙ cond-true (is_primitive w.text) _ _ (primitive_complete d)

  pub prefixed_primitive : (q : Prefix) → w.kind ≡ k.Name → IsPrimitive w.text → primitive_of (Some q) w.kind w.text ≡ Some (s.Primitive (Some q) w.text)
  prefixed_primitive q e d = ap (λ kind. primitive_of (Some q) kind w.text) e ∙ cond-true (is_primitive w.text) _ _ (primitive_complete d)

  plain_void : (digits : List ℕ) → w.kind ≡ k.Name → IsNumbered (codes "void") digits w.text → plain_of w.kind w.text ≡ Some (s.Void digits)
  plain_void digits e d =
      ap (λ kind. plain_of kind w.text) e
      ∙ cond-false (is_primitive w.text) _ _ (ap is_primitive d.is_text)
      ∙ bound _ _ _ _ (numbered_complete (codes "void") w.text digits d) refl

  unprefixed : w.kind ≡ k.Name → (o : Option Prefix) → prefix_of k.Name w.text ≡ o → prefix_of w.kind w.text ≡ o
  unprefixed e o h = ap (λ kind. prefix_of kind w.text) e ∙ h

  plain_at : (kind : TokenKind) (x : Scalar) → w.kind ≡ kind → plain_of kind w.text ≡ Some x → IsScalar (w ∷ []) x
  plain_at k.Name x e h = elim (chosen (is_primitive w.text) _ _ _ h) [
    | inl a ↦ subst (IsScalar (w ∷ [])) (same_Some _ _ a.1) (primitive w (none refl) e (primitive_sound w.text a.0) refl)
    | inr a ↦ go (bind_some _ (digits_behind (codes "void") w.text) x a.1)
  ]
    where
      go : (digits : List ℕ) × (digits_behind (codes "void") w.text ≡ Some digits) × (Some (s.Void digits) ≡ Some x) → IsScalar (w ∷ []) x
      go (digits, f, g) = subst (IsScalar (w ∷ [])) (same_Some _ _ g) (void (record { word = w; is_name = e; is_void = numbered_sound (codes "void") w.text digits f; alone = refl }))
  plain_at k.Reference x e h = go (bind_some _ _ x h)
    where
      go : (r : Reference) × (reference_of w.text ≡ Some r) × (Some (s.Reference r) ≡ Some x) → IsScalar (w ∷ []) x
      go (r, f, g) = subst (IsScalar (w ∷ [])) (same_Some _ _ g) (reference w e (reference_sound w.text r f) refl)
  plain_at k.Number x e h = absurd (none-some x h)
  plain_at k.Str x e h = absurd (none-some x h)
  plain_at k.Split x e h = absurd (none-some x h)
  plain_at k.Sign x e h = absurd (none-some x h)

  prefix_at : (kind : TokenKind) (q : Prefix) → w.kind ≡ kind → prefix_of kind w.text ≡ Some q → IsPrefix (w ∷ []) (Some q)
  prefix_at k.Name q e h = elim (chosen (bytes_eq w.text (codes "saturated")) _ _ _ h) [
    | inl a ↦ subst (λ o. IsPrefix (w ∷ []) o) a.1 (saturated w e (same_text _ _ a.0) refl)
    | inr a ↦ elim (chosen (bytes_eq w.text (codes "truncated")) _ _ _ a.1) [
      | inl b ↦ subst (λ o. IsPrefix (w ∷ []) o) b.1 (truncated w e (same_text _ _ b.0) refl)
      | inr b ↦ absurd (none-some q b.1)
    ]
  ]
  prefix_at k.Reference q e h = absurd (none-some q h)
  prefix_at k.Number q e h = absurd (none-some q h)
  prefix_at k.Str q e h = absurd (none-some q h)
  prefix_at k.Split q e h = absurd (none-some q h)
  prefix_at k.Sign q e h = absurd (none-some q h)

  primitive_at : (q : Prefix) (kind : TokenKind) (x : Scalar) → w.kind ≡ kind → primitive_of (Some q) kind w.text ≡ Some x → (w.kind ≡ k.Name) × IsPrimitive w.text × (s.Primitive (Some q) w.text ≡ x)
  primitive_at q k.Name x e h = elim (chosen (is_primitive w.text) _ _ _ h) [
    | inl a ↦ (e, primitive_sound w.text a.0, same_Some _ _ a.1)
    | inr a ↦ absurd (none-some x a.1)
  ]
  primitive_at q k.Reference x e h = absurd (none-some x h)
  primitive_at q k.Number x e h = absurd (none-some x h)
  primitive_at q k.Str x e h = absurd (none-some x h)
  primitive_at q k.Split x e h = absurd (none-some x h)
  primitive_at q k.Sign x e h = absurd (none-some x h)

-- ---- both directions
plain_read : (w : Word) (x : Scalar) (rest : List Word) → prefix_of w.kind w.text ≡ None → plain_of w.kind w.text ≡ Some x → read_scalar (w ∷ rest) ≡ Some (x, rest)
plain_read w x rest a b = ap (λ o. with_prefix o w rest) a ∙ bound _ _ _ _ b refl

prefixed_read : (v w : Word) (q : Prefix) (x : Scalar) (rest : List Word) → prefix_of v.kind v.text ≡ Some q → primitive_of (Some q) w.kind w.text ≡ Some x → read_scalar (v ∷ w ∷ rest) ≡ Some (x, rest)
prefixed_read v w q x rest a b = ap (λ o. with_prefix o v (w ∷ rest)) a ∙ bound _ _ _ _ b refl

with_front : {front : List Word} {o : Option Prefix} (w : Word) (rest : List Word) → IsPrefix front o → w.kind ≡ k.Name → IsPrimitive w.text →
    read_scalar ((front ++ w ∷ []) ++ rest) ≡ Some (s.Primitive o w.text, rest)
with_front w rest (none e) kind d =
    ap (λ l. read_scalar ((l ++ w ∷ []) ++ rest)) e ∙ plain_read w _ rest (unprefixed w kind None (no_prefix d)) (plain_primitive w kind d)
with_front w rest (saturated v kind' text e) kind d =
    ap (λ l. read_scalar ((l ++ w ∷ []) ++ rest)) e ∙ prefixed_read v w p.Saturated _ rest (unprefixed v kind' (Some p.Saturated) (ap (prefix_of k.Name) text)) (prefixed_primitive w p.Saturated kind d)
with_front w rest (truncated v kind' text e) kind d =
    ap (λ l. read_scalar ((l ++ w ∷ []) ++ rest)) e ∙ prefixed_read v w p.Truncated _ rest (unprefixed v kind' (Some p.Truncated) (ap (prefix_of k.Name) text)) (prefixed_primitive w p.Truncated kind d)

pub scalar_complete : {front : List Word} {x : Scalar} → IsScalar front x → (rest : List Word) → read_scalar (front ++ rest) ≡ Some (x, rest)
scalar_complete (primitive w d kind is e) rest = ap (λ l. read_scalar (l ++ rest)) e ∙ with_front w rest d kind is
scalar_complete (reference {r} w kind is e) rest =
    ap (λ l. read_scalar (l ++ rest)) e
    ∙ plain_read w (s.Reference r) rest (ap (λ c. prefix_of c w.text) kind) (ap (λ c. plain_of c w.text) kind ∙ bound _ _ _ _ (reference_complete w.text r is) refl)
scalar_complete (void {digits} d) rest =
    ap (λ l. read_scalar (l ++ rest)) d.alone
    ∙ plain_read d.word (s.Void digits) rest (unprefixed d.word d.is_name None (ap (prefix_of k.Name) d.is_void.is_text)) (plain_void d.word digits d.is_name d.is_void)

-- words of which a scalar was read, and the words that it left
abbrev Found : List Word → List Word → Scalar → Type 0
Found ws rest x = (front : List Word) × (ws ≡ front ++ rest) × IsScalar front x

behind_sound : (v : Word) (q : Prefix) (ws rest : List Word) (x : Scalar) → prefix_of v.kind v.text ≡ Some q → behind_prefix q ws ≡ Some (x, rest) → Found (v ∷ ws) rest x
behind_sound v q [] rest x a e = absurd (none-some _ e)
behind_sound v q (w ∷ ws) rest x a e = go (bind_some _ (primitive_of (Some q) w.kind w.text) (x, rest) e)
  where
    go : (y : Scalar) × (primitive_of (Some q) w.kind w.text ≡ Some y) × ◌≡◌ {A = Option (Scalar × List Word)} (Some (y, ws)) (Some (x, rest)) → Found (v ∷ w ∷ ws) rest x
    go (y, f, g) =
        let same : (y ≡ x) × (ws ≡ rest) = some_pair_parts _ _ _ _ g in
        let (kind, d, is) = primitive_at w q w.kind y refl f in (
          v ∷ w ∷ [],
          ap (λ l. v ∷ w ∷ l) same.1,
          subst (IsScalar (v ∷ w ∷ [])) (is ∙ same.0) (primitive w (prefix_at v v.kind q refl a) kind d refl),
        )

pub scalar_sound : (ws rest : List Word) (x : Scalar) → read_scalar ws ≡ Some (x, rest) → Found ws rest x
scalar_sound [] rest x e = absurd (none-some _ e)
scalar_sound (w ∷ ws) rest x e = go (prefix_of w.kind w.text) refl e
  where
    alone : (y : Scalar) × (plain_of w.kind w.text ≡ Some y) × ◌≡◌ {A = Option (Scalar × List Word)} (Some (y, ws)) (Some (x, rest)) → Found (w ∷ ws) rest x
    alone (y, f, g) =
        let same : (y ≡ x) × (ws ≡ rest) = some_pair_parts _ _ _ _ g in
        (w ∷ [], ap (λ l. w ∷ l) same.1, subst (IsScalar (w ∷ [])) same.0 (plain_at w w.kind y refl f))

    go : (o : Option Prefix) → prefix_of w.kind w.text ≡ o → with_prefix o w ws ≡ Some (x, rest) → Found (w ∷ ws) rest x
    go None a e = alone (bind_some _ (plain_of w.kind w.text) (x, rest) e)
    go (Some q) a e = behind_sound w q ws rest x a e
