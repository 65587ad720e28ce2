-- Arrays of bytes, of which the object was put.
use Rattle.std.proofs.Common.{◌≡◌, ◌∙◌, ℕ, ◌+◌, ◌*◌, ◌≤◌, ◌&&◌, nat_le, Bool, true, false, List, []}
use Rattle.std.proofs.Common.{◌∷◌, ◌++◌, arith, length, length-take, take, drop, take-append-drop}
use Rattle.std.proofs.Common.{refl, sym, ap}
use Rattle.std.specs.Prelude.{codes, if◌then◌else◌}
use Rattle.cy_bits.specs.Bits.{bits}
use Rattle.cy_bits.proofs.BitPlaces.{length_bits}
use Rattle.dsdl_types.specs.Reading.{Got, part, row}
use Rattle.dsdl_types.specs.Schemas.{PUint, Simple}
use Rattle.value_json.specs.Json.{bytes_of, json_of}
use Rattle.value_json.specs.Words.{are_printable, bytes_json, bytes_text, escaped, is_escaped}
use Rattle.value_json.specs.Words.{quoted}
use Rattle.value_json.proofs.Members.{bytes_put}
use Rattle.value_put.specs.Told.{AreBytes}
use Rattle.value_put.proofs.Bytes.{are_all, bytes_vals, row_bytes}
use Rattle.json_lines.specs.Typed.{IsPlain, Put, array_of}

bytes_back : (xs : List ℕ) → bytes_of (bytes_vals xs) ≡ xs
bytes_back [] = refl
bytes_back (x ∷ xs) = ap (λ l. x ∷ l) (bytes_back xs)

pub array_put : (c : Bool) (w : List ℕ) (x : List Bool) (n p q : ℕ) (y : List Bool)
    (old new : List ℕ) → AreBytes w → 8 * n ≤ length x → bits w ≡ take (8 * n) x → q ≡ p + 8 * n →
    y ≡ drop (8 * n) x →
    new ≡ old ++ bytes_json w → Put (array_of (Simple (PUint 8 c)))
    (row (part (Simple (PUint 8 c))) n 0 p x) old new q y
array_put c w x n p q y old new all room is_w is_q is_y f =
    let size : length w ≡ n =
    omega (arith, length_bits w, ap length is_w, length-take (8 * n) x, room) in
    let whole : x ≡ bits w ++ y =
    sym (take-append-drop (8 * n) x) ∙ (λ k. sym is_w k ++ sym is_y k) in
    record {
      value = bytes_vals w;
      got = (λ k. row (part (Simple (PUint 8 c))) (sym size k) 0 p (whole k))
          ∙ row_bytes c w y 0 p all ∙ ap (λ m. Got (bytes_vals w) m y)
          (ap (λ m. p + 8 * m) size ∙ sym is_q);
      adds = bytes_put true (λ v. json_of (Simple (PUint 8 c)) v) (bytes_vals w) old new refl
          (are_all w all) (f ∙ ap (λ l. old ++ bytes_json l) (sym (bytes_back w)));
    }

-- ---- the text of bytes

pub text_is : (bytes : List ℕ) → are_printable bytes ≡ true → bytes_text bytes ≡ codes ",\"text\":"
    ++ quoted (escaped bytes)
text_is bytes h = ap (λ b. if b then codes ",\"text\":" ++ quoted (escaped bytes) else []) h

pub no_text : (bytes : List ℕ) → are_printable bytes ≡ false → bytes_text bytes ≡ []
no_text bytes h = ap (λ b. if b then codes ",\"text\":" ++ quoted (escaped bytes) else []) h

pub plain_none : IsPlain []
plain_none = record { printable = refl; same = refl }

escape_none : (b : Bool) (x : ℕ) (xs : List ℕ) → b ≡ false → (if b then 92 ∷ x ∷ xs else x ∷ xs) ≡ x
    ∷ xs
escape_none b x xs h = ap (λ c. if c then 92 ∷ x ∷ xs else x ∷ xs) h

pub plain_more : (x : ℕ) (xs : List ℕ) → (nat_le 32 x && nat_le x 126) ≡ true →
    is_escaped x ≡ false → IsPlain xs → IsPlain (x ∷ xs)
plain_more x xs h g p = record {
  printable = ap (λ b. b && are_printable xs) h ∙ p.printable;
  same = escape_none (is_escaped x) x (escaped xs) g ∙ ap (λ l. x ∷ l) p.same;
}
