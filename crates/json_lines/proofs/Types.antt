-- Readings of which the JSON text was put: of whole types.
use Rattle.std.proofs.Common.{◌≡◌, ◌∙◌, ℕ, ◌+◌, ◌*◌, ◌&&◌, ◌≤◌, Bool, true, false, List, ◌∷◌}
use Rattle.std.proofs.Common.{◌++◌, length, take, drop, Some, refl, sym, ap, subst}
use Rattle.std.specs.Prelude.{codes}
use Rattle.cy_bits.specs.Bits.{bits, number, gap}
use Rattle.dsdl_types.specs.Reading.{Read, Got, value_of, own, fields, part, row}
use Rattle.dsdl_types.specs.Schemas.{Prim, PFloat, Flds, Outline, Simple, length_field_bits, width}
use Rattle.dsdl_types.specs.Schemas as D
use Rattle.dsdl_types.specs.Values.{Val, Items, Parts, Raw}
use Rattle.dsdl_types.specs.Views.{val}
use Rattle.dsdl_types.specs.ValueOf.{value_of as code_of}
use Rattle.dsdl_types.proofs.ValuesOf.{val_value_of}
use Rattle.rx_session.specs.Extents.{bytes_of}
use Rattle.wire_values.specs.Reads.{behind, window_read}
use Rattle.wire_values.proofs.Readings.{own_parts, own_row, own_var, simple_read, window_got}
use Rattle.value_text.specs.Texts.{are_bytes, is_uint8, simple_text}
use Rattle.value_json.specs.Floats.{float_of}
use Rattle.value_json.specs.Json.{field_members, float_json, json_of, simple_json}
use Rattle.value_json.specs.Json.{texts}
use Rattle.value_json.specs.Pieces.{Adds, Piece, exact}
use Rattle.value_json.specs.Words.{name_text, separated}
use Rattle.value_json.proofs.Adding.{adds_around, adds_exact, adds_then}
use Rattle.value_json.proofs.Members.{row_put}
use Rattle.value_put.specs.Parts.{own_told}
use Rattle.value_put.specs.Told.{Yes, after}
use Rattle.report_lines.specs.Readings.{of_read, reading_of}
use Rattle.json_lines.specs.Text.{line_end, reading_json}
use Rattle.json_lines.specs.Typed.{Leaves, Put, array_of, items_of, members_of}

-- what leaves what leaves the rest leaves the rest
pub leaves_then : {A B C : Type 0} (f : A → List Piece) (g : B → List Piece) (h : C → List Piece)
    (x : Read A) (y : Read B) (z : Read C) (a b c : List ℕ) →
    Leaves f x a g y b → Leaves g y b h z c → Leaves f x a h z c
leaves_then f g h x y z a b c one two = λ end place rest put. one end place rest
    (two end place rest put)

told_is : (v : Val) (p : ℕ) (x : List Bool) (t n : List ℕ) (q : ℕ) (y : List Bool) →
    Yes t p x ≡ Yes n q y → (Got v p x ≡ Got v q y) × (n ≡ t)
told_is v p x t n q y e = (cc, cc)

-- a truth value or an integer, whose JSON text is its text
pub plain_put : (t : Prim) (p : ℕ) (x : List Bool) (old new : List ℕ) (q : ℕ) (y : List Bool) →
    ((n : ℕ) →
    simple_json (width t) (value_of t n) ≡ exact (simple_text (width t) (value_of t n))) →
    after old (own_told (Simple t) p x) ≡ Yes new q y → Put (λ v. json_of (Simple t) v)
    (own (Simple t) p x) old new q y
plain_put t p x old new q y is e =
    let n = number (take (width t) x) in
    let both = told_is (value_of t n) (p + width t) (drop (width t) x)
    (old ++ simple_text (width t) (value_of t n)) new q y e in
    record {
      value = value_of t n;
      got = both.0;
      adds = subst (λ ps. Adds ps old new) (sym (is n))
          (adds_exact old new (simple_text (width t) (value_of t n)) both.1);
    }

-- a float
pub float_put : (w n : ℕ) (saturated : Bool) (b c : List ℕ) (p q : ℕ) (old new : List ℕ) → c ≡ b →
    q ≡ p + w → n ≡ number (take w (behind b p)) → Adds (float_json w (float_of w n)) old new →
    Put (λ v. json_of (Simple (PFloat w saturated)) v) (own (Simple (PFloat w saturated)) p
    (behind b p)) old new q (behind c q)
float_put w n saturated b c p q old new e f g h =
    record {
      value = Raw n;
      got = simple_read (PFloat w saturated) b c p q w n
          (Raw n) refl e f g refl;
      adds = h;
    }

-- a structure
pub struct_put : (fs : Flds) (o : Outline) (old front mid new : List ℕ) (p q k : ℕ)
    (x y z : List Bool) → front ≡ old ++ codes "{" → Put (members_of true fs)
    (fields fs p x) front mid q y →
    k ≡ q + gap q → z ≡ drop (gap q) y → new ≡ mid ++ codes "}" → Put
    (λ v. json_of (D.Struct fs o) v) (own (D.Struct fs o) p x) old new k z
struct_put fs o old front mid new p q k x y z e r is_k is_z f = record {
  value = Parts r.value;
  got = own_parts fs o p q k x y z r.value r.got is_k is_z;
  adds = adds_around (codes "{") (codes "}") (separated (field_members fs r.value)) old front mid
      new e r.adds f;
}

-- a delimited type
pub window_put : (s : D.Sch) (c p k q : ℕ) (x w y z : List Bool) (old new : List ℕ) →
    8 * c ≤ length x → w ≡ take (8 * c) x → Put (λ v. json_of s v) (own s 0 w) old new q y →
    k ≡ p + 8 * c → z ≡ drop (8 * c) x →
    Put (λ v. json_of s v) (window_read (own s) c p x) old new k z
window_put s c p k q x w y z old new room is_w r is_k is_z = record {
  value = r.value;
  got = window_got (own s) c p k q x w y z r.value room is_w r.got is_k is_z;
  adds = r.adds;
}

-- arrays
pub fixed_put : (s : D.Sch) (n p : ℕ) (x : List Bool) (old new : List ℕ) (q : ℕ) (y : List Bool) →
    Put (array_of s) (row (part s) n 0 p x) old new q y → Put (λ v. json_of (D.Fixed s n) v)
    (own (D.Fixed s n) p x) old new q y
fixed_put s n p x old new q y r = record {
  value = Items r.value;
  got = own_row s n p x r.value q y
      r.got;
  adds = r.adds;
}

pub var_put : (s : D.Sch) (c w n p k : ℕ) (x z : List Bool) (old new : List ℕ) (q : ℕ)
    (y : List Bool) → w ≡ length_field_bits c → n ≡ number (take w x) → k ≡ p + w → z ≡ drop w x →
    n ≤ c →
    Put (array_of s) (row (part s) n 0 k z) old new q y → Put (λ v. json_of (D.Var s c) v)
    (own (D.Var s c) p x) old new q y
var_put s c w n p k x z old new q y is_w e f g short r =
    record {
      value = Items r.value;
      got = own_var s c w n p k q x z y r.value is_w e f g short
          r.got;
      adds = r.adds;
    }

no_bytes : (a b : Bool) → a ≡ false → a && b ≡ false
no_bytes a b e = ap (λ c. c && b) e

-- an array that isn't of bytes
pub brackets_put : (s : D.Sch) (n p : ℕ) (x : List Bool) (old front mid new : List ℕ) (q : ℕ)
    (y : List Bool) → is_uint8 s ≡ false → front ≡ old ++ codes "[" → Put (items_of s 0)
    (row (part s) n 0 p x) front mid q y →
    new ≡ mid ++ codes "]" → Put (array_of s) (row (part s) n 0 p x) old new q y
brackets_put s n p x old front mid new q y other e r f = record {
  value = r.value;
  got = r.got;
  adds = row_put (is_uint8 s) (λ v. json_of s v) r.value old new
      (no_bytes (is_uint8 s) (are_bytes r.value) other)
      (adds_around (codes "[") (codes "]") (separated (texts (λ v. json_of s v) r.value)) old front
      mid new e r.adds f);
}

-- the member of a payload's value, and the end of a line
pub said_put : (s : D.Sch) (payload b old front mid new : List ℕ) (q : ℕ) (y : List Bool) → b ≡ take
    (bytes_of s) payload → front ≡ old ++ codes ",\"value\":" → Put (λ v. json_of s v)
    (own s 0 (bits b)) front mid q y →
    new ≡ mid ++ line_end → Adds (reading_json (Some s) (reading_of (Some s) payload) ++ exact
    line_end) old new
said_put s payload b old front mid new q y is e r f =
    let says : reading_of (Some s) payload ≡ of_read s (Got r.value q y) = ap
    (λ l. of_read s (own s 0 (bits l))) (sym is) ∙ ap (λ z. of_read s z) r.got in
    let value : Adds (json_of s (val (code_of r.value))) front mid = subst
    (λ v. Adds (json_of s v) front mid) (sym (val_value_of r.value)) r.adds in
    subst (λ z. Adds (reading_json (Some s) z ++ exact line_end) old new) (sym says)
    (adds_then (exact (44 ∷ name_text (codes "value")))
    (json_of s (val (code_of r.value)) ++ exact line_end) old front new
    (adds_exact old front (codes ",\"value\":") e)
    (adds_then (json_of s (val (code_of r.value))) (exact line_end) front mid new value
    (adds_exact mid new line_end f)))
