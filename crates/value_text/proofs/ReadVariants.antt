-- The variants of a union, of which the one with the name in the line is read.
use Rattle.std.proofs.Common.{◌≡◌, ◌∙◌, ℕ, zero, suc, ◌+◌, ◌<◌, ◌≤◌, ◌^◌, true, false, List, ◌∷◌, ◌++◌, length, get_or, drop, refl, sym, ap, subst, arith}
use Rattle.std.proofs.lemmas.Bool.{false≢true}
use Rattle.dsdl_names.specs.Words.{is_name}
use Rattle.dsdl_types.specs.Fits.{Fits, FitsVariant, IsTagged}
use Rattle.dsdl_types.specs.Names.{IsNew, AreNamed}
use Rattle.dsdl_types.specs.Schemas.{Flds, End, Pad, Field as F, variants}
use Rattle.dsdl_types.specs.Values.{Val, Tagged, tag_of, inner_of}
use Rattle.dsdl_types.specs.Views.{Kind, Typed, Padding, is_padding, type_of, with_field, named, flds, body_of}
use Rattle.dsdl_types.specs.declared.schema.Body.{Body, out-Body}
use Rattle.dsdl_types.specs.declared.schema.Field.{Field}
use Rattle.value_text.specs.Loose.{AreReadable, GivesEntry, GivesVariant, HasNoVariant}
use Rattle.value_text.specs.Texts.{value_text, variant_text}
use Rattle.value_text.proofs.Left.{flds_next, flds_end, fields_are}
use Rattle.value_text.proofs.OneValue.{named as name_first}
use Rattle.value_text.proofs.ReadFields.{entry_rules}
use Rattle.value_text.proofs.Tokens.{colon, clear_name, token_split}
use Rattle.value_text.proofs.ValueKinds.{is_tagged}

-- A variant whose text stands there is among those that are left.
abbrev pub VariantLeft : Flds → ℕ → Flds → List ℕ → Type 0
VariantLeft fs tag gs now =
    (k : ℕ) (w : Val) → FitsVariant fs k w → (rest : List ℕ) → now ≡ variant_text fs k w ++ 125 ∷ rest →
    (j : ℕ) × (k ≡ tag + j) × FitsVariant gs j w × (now ≡ variant_text gs j w ++ 125 ∷ rest)

pub record VariantsTried (fs : Flds) (tag : ℕ) (gs : Flds) (now : List ℕ) : Type 0 where
  pub rules : AreReadable gs
  pub apart : AreNamed gs
  pub tags : tag + variants gs ≤ 2 ^ 20
  pub made : (j : ℕ) (w : Val) → FitsVariant gs j w → FitsVariant fs (tag + j) w
  pub left : VariantLeft fs tag gs now

-- no variant of these has the name
no_other : (name : List ℕ) (fs : Flds) (k : ℕ) (w : Val) (x q : List ℕ) → is_name name ≡ true → IsNew name fs → AreNamed fs → FitsVariant fs k w → name ++ 58 ∷ x ≡ variant_text fs k w ++ q → ⊥
no_other name End k w x q f new apart h e = h
no_other name (Pad n fs) k w x q f new apart h e = no_other name fs k w x q f new apart h e
no_other name (F other s fs) zero w x q f new apart h e =
    new.0 (token_split colon name other (58 ∷ x) (58 ∷ 32 ∷ (value_text s w ++ q)) (clear_name name f) (clear_name other apart.0) refl refl (e ∙ name_first other (value_text s w) q)).0
no_other name (F other s fs) (suc k) w x q f new apart h e = no_other name fs k w x q f new.1 apart.2 h e

-- ---- the variant with the name

variant_read : (fs : Flds) (tag : ℕ) (name : List ℕ) (k : Kind) (gs : Flds) (now after x : List ℕ) (v w : Val) → is_padding k ≡ false → AreNamed (with_field name k gs) → now ≡ name ++ 58 ∷ x → GivesEntry name (type_of k) now after v →
    IsTagged (λ t y. FitsVariant fs t y) w → (rest : List ℕ) → (j : ℕ) → tag_of w ≡ tag + j → FitsVariant (with_field name k gs) j (inner_of w) → now ≡ variant_text (with_field name k gs) j (inner_of w) ++ 125 ∷ rest →
    (Tagged tag v ≡ w) × (after ≡ 125 ∷ rest)
variant_read fs tag name (Padding n) gs now after x v w p apart at gives t rest j a f e = absurd (false≢true (sym p))
variant_read fs tag name (Typed s) gs now after x v w p apart at gives t rest zero a f e =
    let r = gives.1 (inner_of w) f (125 ∷ rest) refl e in
    let z : tag ≡ tag_of w = omega (arith, a) in
    (ap (λ n. Tagged n v) z ∙ ap (λ y. Tagged (tag_of w) y) r.0 ∙ sym (is_tagged (λ t y. FitsVariant fs t y) w t).0, r.1)
variant_read fs tag name (Typed s) gs now after x v w p apart at gives t rest (suc j) a f e =
    absurd (no_other name gs j (inner_of w) x (125 ∷ rest) apart.0 apart.1 apart.2 f (sym at ∙ e))

variant_made : (fs : Flds) (tag : ℕ) (name : List ℕ) (k : Kind) (gs : Flds) (v : Val) → is_padding k ≡ false → ((j : ℕ) (w : Val) → FitsVariant (with_field name k gs) j w → FitsVariant fs (tag + j) w) → Fits (type_of k) v → FitsVariant fs tag v
variant_made fs tag name (Typed s) gs v p made f = let z : tag + 0 ≡ tag = omega arith in subst (λ n. FitsVariant fs n v) z (made 0 v f)
variant_made fs tag name (Padding n) gs v p made f = absurd (false≢true (sym p))

found : (fs : Flds) (tag : ℕ) (name : List ℕ) (k : Kind) (gs : Flds) (now after x : List ℕ) (v : Val) → is_padding k ≡ false → now ≡ name ++ 58 ∷ x → GivesEntry name (type_of k) now after v →
    VariantsTried fs tag (with_field name k gs) now → GivesVariant fs now after (Tagged tag v)
found fs tag name k gs now after x v p at gives tried = (
  variant_made fs tag name k gs v p tried.made gives.0,
  λ w t rest e.
      let l = tried.left (tag_of w) (inner_of w) (is_tagged (λ t y. FitsVariant fs t y) w t).1 rest e in
      variant_read fs tag name k gs now after x v w p tried.apart at gives t rest l.0 l.1 l.2 l.3,
)

pub variant_found : (b : Body) (items : List Field) (i : ℕ) (y : Field) (tag : ℕ) (before now after : List ℕ) (v : Val) → items ≡ (out-Body b).fields → i < length items → y ≡ get_or items i y → is_padding (named y).1 ≡ false →
    (x : List ℕ) × now ≡ (named y).0 ++ 58 ∷ x → now ≡ before → GivesEntry (named y).0 (type_of (named y).1) now after v →
    VariantsTried (flds items) tag (flds (drop i items)) before → GivesVariant (body_of b).0 before after (Tagged tag v)
variant_found b items i y tag before now after v e h at p (x, is) same gives tried =
    let gs = flds (drop (i + 1) items) in
    subst (λ fs. GivesVariant fs before after (Tagged tag v)) (sym (fields_are b items e))
    (subst (λ l. GivesVariant (flds items) l after (Tagged tag v)) same
    (found (flds items) tag (named y).0 (named y).1 gs now after x v p is gives
    (subst (λ l. VariantsTried (flds items) tag (with_field (named y).0 (named y).1 gs) l) (sym same)
    (subst (λ z. VariantsTried (flds items) tag z before) (flds_next items i y h at) tried))))

-- ---- another variant

left_other : (fs : Flds) (tag : ℕ) (name : List ℕ) (k : Kind) (gs : Flds) (now : List ℕ) → is_padding k ≡ false → ((x : List ℕ) → now ≡ name ++ 58 ∷ x → ⊥) → (m : ℕ) (w : Val) (rest : List ℕ) →
    (j : ℕ) → m ≡ tag + j → FitsVariant (with_field name k gs) j w → now ≡ variant_text (with_field name k gs) j w ++ 125 ∷ rest →
    (j : ℕ) × (m ≡ tag + 1 + j) × FitsVariant gs j w × (now ≡ variant_text gs j w ++ 125 ∷ rest)
left_other fs tag name (Padding n) gs now p absent m w rest j a f e = absurd (false≢true (sym p))
left_other fs tag name (Typed s) gs now p absent m w rest zero a f e = absurd (absent (32 ∷ (value_text s w ++ 125 ∷ rest)) (e ∙ name_first name (value_text s w) (125 ∷ rest)))
left_other fs tag name (Typed s) gs now p absent m w rest (suc j) a f e = (j, omega (arith, a), f, e)

other : (fs : Flds) (tag : ℕ) (name : List ℕ) (k : Kind) (gs : Flds) (now : List ℕ) → is_padding k ≡ false → ((x : List ℕ) → now ≡ name ++ 58 ∷ x → ⊥) → VariantsTried fs tag (with_field name k gs) now → VariantsTried fs (tag + 1) gs now
other fs tag name (Padding n) gs now p absent tried = absurd (false≢true (sym p))
other fs tag name (Typed s) gs now p absent tried = record {
  rules = (entry_rules name (Typed s) gs p tried.rules).1;
  apart = tried.apart.2;
  tags = omega (arith, tried.tags);
  made = λ j w f. let z : tag + suc j ≡ tag + 1 + j = omega arith in subst (λ n. FitsVariant fs n w) z (tried.made (suc j) w f);
  left = λ m w f rest e. let l = tried.left m w f rest e in left_other fs tag name (Typed s) gs now p absent m w rest l.0 l.1 l.2 l.3;
}

pub variants_next : (items : List Field) (i : ℕ) (y : Field) (fs : Flds) (tag : ℕ) (now : List ℕ) → i < length items → y ≡ get_or items i y → is_padding (named y).1 ≡ false →
    ((x : List ℕ) → now ≡ (named y).0 ++ 58 ∷ x → ⊥) → VariantsTried fs tag (flds (drop i items)) now → VariantsTried fs (tag + 1) (flds (drop (i + 1) items)) now
variants_next items i y fs tag now h at p absent tried =
    other fs tag (named y).0 (named y).1 (flds (drop (i + 1) items)) now p absent (subst (λ z. VariantsTried fs tag z now) (flds_next items i y h at) tried)

pub variants_none : (b : Body) (items : List Field) (i : ℕ) (tag : ℕ) (now : List ℕ) → items ≡ (out-Body b).fields → length items ≤ i → VariantsTried (flds items) tag (flds (drop i items)) now → HasNoVariant (body_of b).0 now
variants_none b items i tag now e end tried =
    subst (λ fs. HasNoVariant fs now) (sym (fields_are b items e))
    (λ k w f rest a. let t : VariantsTried (flds items) tag End now = subst (λ gs. VariantsTried (flds items) tag gs now) (flds_end items i end) tried in (t.left k w f rest a).2)
