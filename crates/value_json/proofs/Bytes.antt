-- Bytes one after the other.
use Rattle.std.proofs.Common.{◌≡◌, ◌∙◌, ℕ, ◌+◌, ◌<◌, ◌≤◌, ◌&&◌, Bool, true, false, List, [], ◌∷◌, ◌++◌, append_assoc, drop, get_or, length, refl, sym, ap}
use Rattle.std.specs.Prelude.{codes, if◌then◌else◌}
use Rattle.std.proofs.lemmas.List.{append-nil}
use Rattle.std.proofs.lemmas.Bool.{false≢true}
use Rattle.value_text.specs.Texts.{are_bytes, is_byte}
use Rattle.hex.specs.Hex.{encode_upper, encode_with}
use Rattle.dsdl_types.specs.Views.{val, vals}
use Rattle.dsdl_types.specs.declared.value.Value.{Value}
use Rattle.value_text.proofs.Left.{vals_end, vals_next}
use Rattle.value_json.specs.Json.{byte_of, bytes_of}
use Rattle.value_json.specs.Words.{escaped, is_escaped, quoted}

pub hex_none : encode_upper [] ≡ []
unfolding encode_with
hex_none = refl

pub hex_cons : (x : ℕ) (xs : List ℕ) → encode_upper (x ∷ xs) ≡ encode_upper (x ∷ []) ++ encode_upper xs
unfolding encode_with
hex_cons x xs = refl

by_test : (b : Bool) (x : ℕ) (xs : List ℕ) → (if b then 92 ∷ x ∷ xs else x ∷ xs) ≡ (if b then 92 ∷ x ∷ [] else x ∷ []) ++ xs
by_test true x xs = refl
by_test false x xs = refl

pub escaped_cons : (x : ℕ) (xs : List ℕ) → escaped (x ∷ xs) ≡ escaped (x ∷ []) ++ escaped xs
escaped_cons x xs = by_test (is_escaped x) x (escaped xs)

-- one byte more
pub bytes_next : (g : List ℕ → List ℕ) → ((x : ℕ) (xs : List ℕ) → g (x ∷ xs) ≡ g (x ∷ []) ++ g xs) → (values : List Value) (i n : ℕ) (v : Value) (now new whole : List ℕ) → i < length values → v ≡ get_or values i v → n ≡ byte_of (val v) →
    now ++ g (bytes_of (vals (drop i values))) ≡ whole → new ≡ now ++ g (n ∷ []) → new ++ g (bytes_of (vals (drop (i + 1) values))) ≡ whole
bytes_next g cons values i n v now new whole h e b all f =
    let more = bytes_of (vals (drop (i + 1) values)) in
    ap (λ x. x ++ g more) (f ∙ ap (λ x. now ++ g (x ∷ [])) b) ∙ append_assoc now (g (byte_of (val v) ∷ [])) (g more)
    ∙ ap (λ x. now ++ x) (sym (cons (byte_of (val v)) more))
    ∙ ap (λ vs. now ++ g (bytes_of vs)) (sym (vals_next values i v h e)) ∙ all

-- all bytes
pub bytes_end : (g : List ℕ → List ℕ) → g [] ≡ [] → (values : List Value) (i : ℕ) (now whole : List ℕ) → length values ≤ i → now ++ g (bytes_of (vals (drop i values))) ≡ whole → now ≡ whole
bytes_end g none values i now whole h all =
    sym (append-nil now) ∙ ap (λ x. now ++ x) (sym none) ∙ ap (λ vs. now ++ g (bytes_of vs)) (sym (vals_end values i h)) ∙ all

both : (a b : Bool) → a && b ≡ true → (a ≡ true) × (b ≡ true)
both true b h = (refl, h)
both false b h = absurd (false≢true h)

-- the byte at a place, and those behind it
pub bytes_here : (values : List Value) (i : ℕ) (v : Value) → i < length values → v ≡ get_or values i v → are_bytes (vals (drop i values)) ≡ true →
    (is_byte (val v) ≡ true) × (are_bytes (vals (drop (i + 1) values)) ≡ true)
bytes_here values i v h e all = both (is_byte (val v)) (are_bytes (vals (drop (i + 1) values))) (ap are_bytes (sym (vals_next values i v h e)) ∙ all)

pub escaped_none : escaped [] ≡ []
escaped_none = refl

-- the object of bytes, part by part
pub object_written : (hex text a b c d e f : List ℕ) → b ≡ a ++ codes "{\"hex\":\"" → c ≡ b ++ hex → d ≡ c ++ codes "\"" → e ≡ d ++ text → f ≡ e ++ codes "}" →
    f ≡ a ++ (codes "{\"hex\":" ++ (quoted hex ++ (text ++ codes "}")))
object_written hex text a b c d e f p q r s t =
    t ∙ ap (λ x. x ++ codes "}") (s ∙ ap (λ x. x ++ text) (r ∙ ap (λ x. x ++ codes "\"") (q ∙ ap (λ x. x ++ hex) p))) ∙ simp append_assoc
