-- What is read of a line is the value whose text stands there.
use Rattle.std.proofs.Common.{◌≡◌, ◌∙◌, ℕ, ◌≤◌, ◌==◌, ◌&&◌, Bool, true, false, List, [], ◌++◌, drop, Result, Ok, Err, IfOk, Option, None, MatchOption, refl, sym, ap, subst, arith}
use Rattle.std.proofs.lemmas.List.{append-nil}
use Rattle.std.proofs.lemmas.Bool.{false≢true}
use Rattle.dsdl_types.specs.Fits.{Fits, FitsVariant, AllOf, AreItems}
use Rattle.dsdl_types.specs.Rules.{IsSchema}
use Rattle.dsdl_types.specs.Schemas.{Sch, Flds, Outline, PBool, PUint, PInt, PFloat, Simple, Fixed, Var, Struct, Union}
use Rattle.dsdl_types.specs.Sound.{IsSound}
use Rattle.dsdl_types.specs.Values.{Val, Vals, Empty, More, Items, items_of, tag_of, inner_of, count}
use Rattle.dsdl_types.specs.Views.{sch, val, vals}
use Rattle.dsdl_types.specs.Zero.{zero_of}
use Rattle.dsdl_types.specs.declared.schema.Schema.{Schema}
use Rattle.dsdl_types.specs.declared.schema.Schema.TheVariants as S
use Rattle.dsdl_types.specs.declared.value.Value.{Value}
use Rattle.dsdl_types.specs.declared.value.Value.TheVariants as V
use Rattle.dsdl_types.proofs.Equations.{val_items}
use Rattle.dsdl_types.proofs.SchemaRules.{schema_sound}
use Rattle.dsdl_types.proofs.ZeroReads.{zero_law}
use Rattle.value_text.specs.Ends.{Halts, stop, top}
use Rattle.value_text.specs.Loose.{IsReadable, Counts, HasItems, GivesValue, GivesArray, GivesBytes, GivesItems, HasNoUnion}
use Rattle.value_text.specs.Texts.{value_text, texts, is_uint8, is_byte, are_bytes}
use Rattle.value_text.specs.Words.{separated}
use Rattle.value_text.proofs.Left.{fixed_is, var_is}
use Rattle.value_text.proofs.OneValue.{bracketed, picked}
use Rattle.value_text.proofs.ValueKinds.{both, byte_is, are_items, is_tagged}

pub if_ok : {T E : Type 0} (r : Result T E) (P Q : T → Type 0) → ((x : T) → P x → Q x) → IfOk r P → IfOk r Q
if_ok (Ok x) P Q f h = f x h
if_ok (Err x) P Q f h = tt

pub if_none : {T : Type 0} (o : Option T) (A : Type 0) (P : T → Type 0) → o ≡ None → MatchOption o A P → A
if_none o A P e h = subst (λ x. MatchOption x A P) e h

-- ---- arrays

bytes_are : (w : ℕ) (c : Bool) (vs : Vals) → are_bytes vs ≡ true → AllOf (λ x. Fits (Simple (PUint w c)) x) vs
bytes_are w c Empty h = tt
bytes_are w c (More v vs) h =
    let b = both (is_byte v) (are_bytes vs) h in
    let n = byte_is v b.0 in
    (subst (λ x. Fits (Simple (PUint w c)) x) (sym n.2) (omega (arith, n.1)), bytes_are w c vs b.1)

bytes_fit : (s : Sch) (vs : Vals) → is_uint8 s ≡ true → are_bytes vs ≡ true → AllOf (λ x. Fits s x) vs
bytes_fit (Simple (PUint w c)) vs u h = bytes_are w c vs h
bytes_fit (Simple PBool) vs u h = absurd (false≢true u)
bytes_fit (Simple (PInt w)) vs u h = absurd (false≢true u)
bytes_fit (Simple (PFloat w c)) vs u h = absurd (false≢true u)
bytes_fit (Fixed s n) vs u h = absurd (false≢true u)
bytes_fit (Var s n) vs u h = absurd (false≢true u)
bytes_fit (Struct fs o) vs u h = absurd (false≢true u)
bytes_fit (Union fs o) vs u h = absurd (false≢true u)

hex_read : (s : Sch) (exact : Bool) (n : ℕ) (before then after : List ℕ) (vs ws : Vals) → top before == 35 ≡ true → then ≡ drop 1 before → GivesBytes exact n then after vs → Counts exact n (count ws) → (rest : List ℕ) → Halts stop rest →
    (x : Bool) → x ≡ is_uint8 s && are_bytes ws → before ≡ picked x (λ y. value_text s y) ws ++ rest → (vs ≡ ws) × (after ≡ rest)
unfolding picked
hex_read s exact n before then after vs ws h skipped gives k rest halts true e at =
    gives.1 ws (k, (both (is_uint8 s) (are_bytes ws) (sym e)).1) rest halts (skipped ∙ ap (λ l. drop 1 l) at)
hex_read s exact n before then after vs ws h skipped gives k rest halts false e at =
    absurd (false≢true (sym (ap (λ l. top l == 35) at) ∙ h))

pub array_hex : (s : Sch) (exact : Bool) (n : ℕ) (before then after : List ℕ) (vs : Vals) → is_uint8 s && (top before == 35) ≡ true → then ≡ drop 1 before → GivesBytes exact n then after vs → GivesArray s exact n before after vs
unfolding picked
array_hex s exact n before then after vs h skipped gives =
    let b = both (is_uint8 s) (top before == 35) h in (
      (gives.0.0, bytes_fit s vs b.0 gives.0.1),
      λ ws f rest halts e. hex_read s exact n before then after vs ws b.1 skipped gives f.0 rest halts _ refl e,
    )

items_read : (s : Sch) (exact : Bool) (n : ℕ) (before then mid after : List ℕ) (vs ws : Vals) → is_uint8 s && (top before == 35) ≡ false → then ≡ drop 1 before → GivesItems s exact n then mid vs → after ≡ drop 1 mid → HasItems s exact n ws → (rest : List ℕ) →
    (x : Bool) → x ≡ is_uint8 s && are_bytes ws → before ≡ picked x (λ y. value_text s y) ws ++ rest → (vs ≡ ws) × (after ≡ rest)
unfolding picked
items_read s exact n before then mid after vs ws h skipped gives last f rest true e at =
    let b = both (is_uint8 s) (are_bytes ws) (sym e) in
    absurd (false≢true (sym h ∙ ap (λ x. x && (top before == 35)) b.0 ∙ ap (λ l. top l == 35) at))
items_read s exact n before then mid after vs ws h skipped gives last f rest false e at =
    let text = separated (texts (λ y. value_text s y) ws) in
    let r = gives.1 ws f rest (skipped ∙ ap (λ l. drop 1 l) (at ∙ bracketed text rest)) in
    (r.0, last ∙ ap (λ l. drop 1 l) r.1)

pub array_items : (s : Sch) (exact : Bool) (n : ℕ) (before then mid after : List ℕ) (vs : Vals) → is_uint8 s && (top before == 35) ≡ false → then ≡ drop 1 before → GivesItems s exact n then mid vs → after ≡ drop 1 mid → GivesArray s exact n before after vs
unfolding picked
array_items s exact n before then mid after vs h skipped gives last =
    (gives.0, λ ws f rest halts e. items_read s exact n before then mid after vs ws h skipped gives last f rest _ refl e)

fixed_gives : (s : Sch) (n : ℕ) (before after : List ℕ) (vs : Vals) → GivesArray s true n before after vs → GivesValue (Fixed s n) before after (Items vs)
fixed_gives s n before after vs gives = (
  gives.0,
  λ w f rest halts e.
      let a = (are_items (λ k. k ≡ n) (λ x. Fits s x) w f).0 in
      let r = gives.1 (items_of w) (subst (λ x. AreItems (λ k. k ≡ n) (λ y. Fits s y) x) a f) rest halts e in
      (ap Items r.0 ∙ sym a, r.1),
)

var_gives : (s : Sch) (n : ℕ) (before after : List ℕ) (vs : Vals) → GivesArray s false n before after vs → GivesValue (Var s n) before after (Items vs)
var_gives s n before after vs gives = (
  gives.0,
  λ w f rest halts e.
      let a = (are_items (λ k. k ≤ n) (λ x. Fits s x) w f).0 in
      let r = gives.1 (items_of w) (subst (λ x. AreItems (λ k. k ≤ n) (λ y. Fits s y) x) a f) rest halts e in
      (ap Items r.0 ∙ sym a, r.1),
)

pub fixed_read : (s item inner : Schema) (n : ℕ) (before after : List ℕ) (items : List Value) → s ≡ S.Fixed item n → inner ≡ item → GivesArray (sch inner) true n before after (vals items) → GivesValue (sch s) before after (val (V.Items items))
fixed_read s item inner n before after items e i gives =
    subst (λ t. GivesValue t before after (val (V.Items items))) (sym (fixed_is s item inner n e i))
    (subst (λ v. GivesValue (Fixed (sch inner) n) before after v) (sym (val_items items)) (fixed_gives (sch inner) n before after (vals items) gives))

pub var_read : (s item inner : Schema) (n : ℕ) (before after : List ℕ) (items : List Value) → s ≡ S.Var item n → inner ≡ item → GivesArray (sch inner) false n before after (vals items) → GivesValue (sch s) before after (val (V.Items items))
var_read s item inner n before after items e i gives =
    subst (λ t. GivesValue t before after (val (V.Items items))) (sym (var_is s item inner n e i))
    (subst (λ v. GivesValue (Var (sch inner) n) before after v) (sym (val_items items)) (var_gives (sch inner) n before after (vals items) gives))

-- ---- unions

union_none : (fs : Flds) (o : Outline) (before after : List ℕ) (v : Val) → HasNoUnion fs before → Fits (Union fs o) v → GivesValue (Union fs o) before after v
union_none fs o before after v none fits =
    (fits, λ w f rest halts e. absurd (none (tag_of w) (inner_of w) (is_tagged (λ t x. FitsVariant fs t x) w f).1 rest e))

-- the zero, where no text of a variant stands there
pub union_zero : (s : Sch) (fs : Flds) (o : Outline) (before after : List ℕ) (v : Val) → s ≡ Union fs o → IsSound s → HasNoUnion fs before → v ≡ zero_of s → GivesValue s before after v
union_zero s fs o before after v e sound none z =
    let fits : Fits s v = subst (λ x. Fits s x) (sym z) (zero_law s sound).fits in
    subst (λ t. GivesValue t before after v) (sym e) (union_none fs o before after v none (subst (λ t. Fits t v) e fits))

-- ---- the line

pub readable : (s : Sch) → IsSchema s → IsReadable s
readable s r = (r.0, schema_sound s r, r.3)

-- A line is the text of no value where it isn't the text of the value that is read of it.
pub refused : (s : Sch) (line text after : List ℕ) (value : Val) → GivesValue s line after value → text ≡ value_text s value → (text ≡ line → ⊥) → (v : Val) → Fits s v → value_text s v ≡ line → ⊥
refused s line text after value gives printed differs v f e =
    let r = gives.1 v f [] tt (sym e ∙ sym (append-nil (value_text s v))) in
    differs (printed ∙ ap (λ x. value_text s x) r.0 ∙ e)
