-- Readings of which a text was put: of whole types.
use Rattle.std.proofs.Common.{◌≡◌, ◌∙◌, ℕ, ◌+◌, ◌*◌, ◌≤◌, Bool, true, List, ◌++◌, length, take, drop, refl, sym, ap}
use Rattle.std.proofs.lemmas.Bool.{false≢true}
use Rattle.std.specs.Prelude.{codes, Result, Ok, Err, OnOk}
use Rattle.cy_bits.specs.Bits.{number, gap}
use Rattle.dsdl_types.specs.Reading.{Read, Got, Bad, value_of, own, fields}
use Rattle.dsdl_types.specs.Schemas.{Prim, Flds, Outline, Simple, width}
use Rattle.dsdl_types.specs.Schemas as D
use Rattle.wire_values.specs.Reads.{behind}
use Rattle.wire_values.proofs.Readings.{simple_read, own_parts, window_got}
use Rattle.value_text.proofs.Rest.{regroup}
use Rattle.value_text.specs.Texts.{field_texts, simple_text, value_text}
use Rattle.value_text.specs.Words.{separated}
use Rattle.value_put.specs.Parts.{fields_told, is_simple, own_told, window_told}
use Rattle.value_put.specs.Told.{Yes, told, after}

-- what was read, of which a text was put
pub record WasRead {A : Type 0} (f : A → List ℕ) (r : Read A) (t n : List ℕ) (q : ℕ) (y : List Bool) : Type 0 where
  pub value : A
  pub got : r ≡ Got value q y
  pub text : n ≡ t ++ f value

pub was_read : {A : Type 0} (f : A → List ℕ) (r : Read A) (t n : List ℕ) (q : ℕ) (y : List Bool) → after t (told f r) ≡ Yes n q y → WasRead f r t n q y
was_read f (Got v p x) t n q y e = record { value = v; got = cc; text = cc }
was_read f (Bad path why) t n q y e = cc

pub on_ok : {T E : Type 0} (r : Result T E) {A B : Type 0} → (A → B) → OnOk r A → OnOk r B
on_ok (Ok x) f h = f h
on_ok (Err x) f h = tt

-- a primitive
pub told_simple : (t : Prim) (b c : List ℕ) (p q w n : ℕ) (old new u : List ℕ) → w ≡ width t → c ≡ b → q ≡ p + w → n ≡ number (take w (behind b p)) → u ≡ simple_text (width t) (value_of t n) → new ≡ old ++ u →
    after old (own_told (Simple t) p (behind b p)) ≡ Yes new q (behind c q)
told_simple t b c p q w n old new u is_w e f g h k =
    ap (λ r. after old (told (λ v. value_text (Simple t) v) r)) (simple_read t b c p q w n (value_of t n) is_w e f g refl)
    ∙ ap (λ z. Yes z q (behind c q)) (sym (k ∙ ap (λ z. old ++ z) h))

pub simple_is : (s : D.Sch) → is_simple s ≡ true → (t : Prim) × (s ≡ Simple t)
simple_is (Simple t) h = (t, refl)
simple_is (D.Fixed s n) h = absurd (false≢true h)
simple_is (D.Var s n) h = absurd (false≢true h)
simple_is (D.Struct fs o) h = absurd (false≢true h)
simple_is (D.Union fs o) h = absurd (false≢true h)

-- a text between two marks
pub enclosed : (left right old front mid new t : List ℕ) → front ≡ old ++ left → mid ≡ front ++ t → new ≡ mid ++ right → old ++ (left ++ (t ++ right)) ≡ new
enclosed left right old front mid new t e f g =
    sym (regroup old left (t ++ right))
    ∙ sym (regroup (old ++ left) t right)
    ∙ ap (λ u. (u ++ t) ++ right) (sym e)
    ∙ ap (λ u. u ++ right) (sym f)
    ∙ sym g

-- a structure
pub told_struct : (fs : Flds) (o : Outline) (old front mid new : List ℕ) (p q k : ℕ) (x y z : List Bool) → front ≡ old ++ codes "{" →
    after front (fields_told true fs p x) ≡ Yes mid q y → k ≡ q + gap q → z ≡ drop (gap q) y → new ≡ mid ++ codes "}" →
    after old (own_told (D.Struct fs o) p x) ≡ Yes new k z
told_struct fs o old front mid new p q k x y z e inner is_k is_z f =
    let r = was_read (λ vs. separated (field_texts fs vs)) (fields fs p x) front mid q y inner in
    ap (λ u. after old (told (λ v. value_text (D.Struct fs o) v) u)) (own_parts fs o p q k x y z r.value r.got is_k is_z)
    ∙ ap (λ u. Yes u k z) (enclosed (codes "{") (codes "}") old front mid new (separated (field_texts fs r.value)) e r.text f)

-- a delimited type
pub told_window : (s : D.Sch) (c p k q : ℕ) (x w y z : List Bool) (old new : List ℕ) → 8 * c ≤ length x → w ≡ take (8 * c) x →
    after old (own_told s 0 w) ≡ Yes new q y → k ≡ p + 8 * c → z ≡ drop (8 * c) x →
    after old (window_told s c p x) ≡ Yes new k z
told_window s c p k q x w y z old new room is_w h is_k is_z =
    let r = was_read (λ v. value_text s v) (own s 0 w) old new q y h in
    ap (λ u. after old (told (λ v. value_text s v) u)) (window_got (own s) c p k q x w y z r.value room is_w r.got is_k is_z)
    ∙ ap (λ u. Yes u k z) (sym r.text)
