-- JSON texts have no newline before their end.
use Rattle.std.proofs.Common.{◌≡◌, ◌∙◌, inl, ℕ, zero, suc, ◌+◌, ◌/◌, ◌%◌, ◌<◌, ◌==◌, ◌&&◌, Bool, true, false, List, [], ◌∷◌, ◌++◌, refl, sym, ap, subst, arith, if◌then◌else◌}
use Rattle.std.specs.Prelude.{⊤, codes, decimal, nat_lt, nat_le, slice_index, ℤ, pos, negsuc}
use Rattle.std.specs.Char.{digit_value}
use Rattle.std.specs.Float.{Float, nan, inf, fin}
use Rattle.std.specs.Float.Numeral.{exponent_text, text_of}
use Rattle.std.specs.Fmt.{digit_glyph, digits, digits_onto, sign_text, signed_decimal}
use Rattle.std.specs.List.{list_all}
use Rattle.std.specs.Str.Parse.{AllDigits}
use Rattle.std.proofs.lemmas.Bool.{and_parts, true≢false}
use Rattle.hex.specs.Hex.{encode_upper, encode_with, upper_digits}
use Rattle.dsdl_names.specs.Words.{is_name, is_first, is_name_byte}
use Rattle.dsdl_types.specs.Names.{AreNamed, HasNames, HaveNames}
use Rattle.dsdl_types.specs.Schemas.{Sch, Flds, Simple, Fixed, Var, Struct, Union, End, Pad, Field, width}
use Rattle.dsdl_types.specs.Values.{Val, Vals, Truth, Num, Raw, Items, Parts as Fields, Tagged, Empty, More, items_of, parts_of, tag_of, inner_of, first, others}
use Rattle.value_text.specs.Texts.{are_bytes, is_uint8, truth_text}
use Rattle.value_json.specs.Floats.{IsNumberOf, float_of}
use Rattle.value_json.specs.Json.{array_json, bytes_of, field_members, float_json, infinity_text, json_of, simple_json, texts, variant_member}
use Rattle.value_json.specs.Pieces.{Exact, Number, Piece, Spells, exact}
use Rattle.value_json.specs.Words.{are_printable, bytes_json, bytes_text, escaped, following, in_braces, in_brackets, is_escaped, member, name_text, quoted, separated}
use Rattle.session_lines.proofs.Cuts.{Free, free_append, free_digits, unlike}

abbrev pub IsNewline : ℕ → Type 0
IsNewline c = c ≡ 10

-- texts whose bytes are all from 32 on
abbrev pub above : List ℕ → Bool
above t = list_all (nat_le 32) t

pub free_above : (t : List ℕ) → above t ≡ true → Free IsNewline t
free_above [] h = tt
free_above (c ∷ t) h = let p = and_parts (nat_le 32 c) (list_all (nat_le 32) t) h in
    ((λ e. true≢false (sym p.0 ∙ ap (nat_le 32) e)), free_above t p.1)

-- ---- numbers

glyph_above : (upper : Bool) (d : ℕ) → IsNewline (digit_glyph upper d) → ⊥
glyph_above upper d e = by_size (nat_lt d 10) upper e
  where
    by_size : (small : Bool) (upper : Bool) → (if small then 48 + d else (if upper then 55 + d else 87 + d)) ≡ 10 → ⊥
    by_size true upper e = absurd (omega (arith, e))
    by_size false true e = absurd (omega (arith, e))
    by_size false false e = absurd (omega (arith, e))

by_end : (last : Bool) (a b : List ℕ) → Free IsNewline a → Free IsNewline b → Free IsNewline (if last then a else b)
by_end true a b h k = h
by_end false a b h k = k

free_onto : (k base : ℕ) (upper : Bool) (n : ℕ) (acc : List ℕ) → Free IsNewline acc → Free IsNewline (digits_onto k base upper n acc)
free_onto zero base upper n acc h = h
free_onto (suc k) base upper n acc h =
    let d = digit_glyph upper (n % base) in
    let more : Free IsNewline (d ∷ acc) = (glyph_above upper (n % base), h) in
    by_end (n / base == 0) (d ∷ acc) (digits_onto k base upper (n / base) (d ∷ acc)) more (free_onto k base upper (n / base) (d ∷ acc) more)

pub free_decimal : (n : ℕ) → Free IsNewline (decimal n)
unfolding digits
free_decimal n = free_onto 64 10 false n [] tt

free_signed : (z : ℤ) → Free IsNewline (signed_decimal z)
free_signed (pos n) = free_decimal n
free_signed (negsuc n) = ((λ e. absurd (omega (arith, e))), free_decimal (suc n))

digit_no_newline : (c : ℕ) → digit_value c < 10 → IsNewline c → ⊥
digit_no_newline c h e = let k : digit_value 10 < 10 = subst (λ x. digit_value x < 10) e h in omega arith

free_of_digits : (ds : List ℕ) → AllDigits 10 ds → Free IsNewline ds
free_of_digits = free_digits IsNewline digit_no_newline

free_sign : (negative : Bool) → Free IsNewline (sign_text negative)
free_sign true = ((λ e. absurd (omega (arith, e))), tt)
free_sign false = tt

free_exponent : (negative : Bool) (ds : List ℕ) → AllDigits 10 ds → Free IsNewline (exponent_text negative ds)
free_exponent negative [] h = tt
free_exponent negative (d ∷ ds) h =
    ((λ e. absurd (omega (arith, e))), free_append IsNewline (sign_text negative) (d ∷ ds) (free_sign negative) (free_of_digits (d ∷ ds) h))

free_point : (point : Bool) (ds : List ℕ) → AllDigits 10 ds → Free IsNewline (if point then 46 ∷ ds else [])
free_point true ds h = ((λ e. absurd (omega (arith, e))), free_of_digits ds h)
free_point false ds h = tt

pub free_number : (w : ℕ) (x : Float) (text : List ℕ) → IsNumberOf w x text → Free IsNewline text
free_number w x text h =
    let (negative, size, e, laid) = h.laid_out in
    let (p, f, plain, out) = laid in
    let good = plain.well_formed in
    let tail = free_append IsNewline (if p.point then 46 ∷ p.fraction else []) (exponent_text p.exponent_negative p.exponent) (free_point p.point p.fraction good.fraction_digits) (free_exponent p.exponent_negative p.exponent good.exponent_digits) in
    let body : Free IsNewline (text_of p) = free_append IsNewline p.whole ((if p.point then 46 ∷ p.fraction else []) ++ exponent_text p.exponent_negative p.exponent) (free_of_digits p.whole good.whole_digits) tail in
    let whole : Free IsNewline (sign_text negative ++ size) = free_append IsNewline (sign_text negative) size (free_sign negative) (subst (Free IsNewline) (sym f) body) in
    subst (Free IsNewline) (sym e) whole

-- ---- pieces

-- no byte of the pieces is a newline; a number has none
abbrev pub AreClean : List Piece → Type 0
AreClean [] = ⊤
AreClean (Exact bytes ∷ pieces) = Free IsNewline bytes × AreClean pieces
AreClean (Number w x ∷ pieces) = AreClean pieces

pub clean_append : (a b : List Piece) → AreClean a → AreClean b → AreClean (a ++ b)
clean_append [] b p q = q
clean_append (Exact bytes ∷ a) b p q = (p.0, clean_append a b p.1 q)
clean_append (Number w x ∷ a) b p q = clean_append a b p q

pub clean_text : (pieces : List Piece) (text : List ℕ) → AreClean pieces → Spells pieces text → Free IsNewline text
clean_text [] text h e = subst (Free IsNewline) (sym e) tt
clean_text (Exact bytes ∷ pieces) text h (rest, e, s) =
    subst (Free IsNewline) (sym e) (free_append IsNewline bytes rest h.0 (clean_text pieces rest h.1 s))
clean_text (Number w x ∷ pieces) text h (number, rest, n, e, s) =
    subst (Free IsNewline) (sym e) (free_append IsNewline number rest (free_number w x number n) (clean_text pieces rest h s))

clean_exact : (bytes : List ℕ) → Free IsNewline bytes → AreClean (exact bytes)
clean_exact bytes h = (h, tt)

-- ---- names and bytes

name_byte : (c : ℕ) → is_name_byte c ≡ true → IsNewline c → ⊥
name_byte c h e = true≢false (sym h ∙ ap is_name_byte e)

first_byte : (c : ℕ) → is_first c ≡ true → IsNewline c → ⊥
first_byte c h e = true≢false (sym h ∙ ap is_first e)

name_bytes : (name : List ℕ) → list_all is_name_byte name ≡ true → Free IsNewline name
name_bytes [] h = tt
name_bytes (c ∷ cs) h = let p = and_parts (is_name_byte c) (list_all is_name_byte cs) h in (name_byte c p.0, name_bytes cs p.1)

free_name : (name : List ℕ) → is_name name ≡ true → Free IsNewline name
free_name [] h = tt
free_name (c ∷ cs) h = let p = and_parts (is_first c) (list_all is_name_byte cs) h in (first_byte c p.0, name_bytes cs p.1)

quote_free : IsNewline 34 → ⊥
quote_free e = absurd (omega (arith, e))

free_quoted : (bytes : List ℕ) → Free IsNewline bytes → Free IsNewline (quoted bytes)
free_quoted bytes h = (quote_free, free_append IsNewline bytes (34 ∷ []) h (quote_free, tt))

pub free_name_text : (name : List ℕ) → Free IsNewline name → Free IsNewline (name_text name)
free_name_text name h =
    free_append IsNewline (quoted name) (58 ∷ []) (free_quoted name h) ((λ e. absurd (omega (arith, e))), tt)

digit_at : (t : List ℕ) (k : ℕ) → Free IsNewline t → IsNewline (slice_index t k) → ⊥
digit_at [] k h e = absurd (unlike 0 10 (inl (omega arith)) e)
digit_at (c ∷ t) zero h e = h.0 e
digit_at (c ∷ t) (suc k) h e = digit_at t k h.1 e

free_hex : (t bytes : List ℕ) → Free IsNewline t → Free IsNewline (encode_with t bytes)
unfolding encode_with
free_hex t [] h = tt
free_hex t (b ∷ bytes) h = (digit_at t (b / 16) h, (digit_at t (b % 16) h, free_hex t bytes h))

free_upper : (bytes : List ℕ) → Free IsNewline (encode_upper bytes)
free_upper bytes = free_hex upper_digits bytes (free_above upper_digits refl)

printable_free : (c : ℕ) → (nat_le 32 c && nat_le c 126) ≡ true → IsNewline c → ⊥
printable_free c h e = true≢false (sym h ∙ ap (λ x. nat_le 32 x && nat_le x 126) e)

free_escaped : (bytes : List ℕ) → are_printable bytes ≡ true → Free IsNewline (escaped bytes)
free_escaped [] h = tt
free_escaped (c ∷ cs) h =
    let p = and_parts (nat_le 32 c && nat_le c 126) (are_printable cs) h in
    let rest : Free IsNewline (c ∷ escaped cs) = (printable_free c p.0, free_escaped cs p.1) in
    by_end (is_escaped c) (92 ∷ c ∷ escaped cs) (c ∷ escaped cs) ((λ e. absurd (omega (arith, e))), rest) rest

free_bytes_text : (bytes : List ℕ) → Free IsNewline (bytes_text bytes)
free_bytes_text bytes = by_text (are_printable bytes) refl
  where
    by_text : (all : Bool) → are_printable bytes ≡ all → Free IsNewline (if all then codes ",\"text\":" ++ quoted (escaped bytes) else [])
    by_text true h = free_append IsNewline (codes ",\"text\":") (quoted (escaped bytes)) (free_above (codes ",\"text\":") refl) (free_quoted (escaped bytes) (free_escaped bytes h))
    by_text false h = tt

free_bytes : (bytes : List ℕ) → Free IsNewline (bytes_json bytes)
free_bytes bytes =
    free_append IsNewline (codes "{\"hex\":") (quoted (encode_upper bytes) ++ (bytes_text bytes ++ codes "}")) (free_above (codes "{\"hex\":") refl)
    (free_append IsNewline (quoted (encode_upper bytes)) (bytes_text bytes ++ codes "}") (free_quoted (encode_upper bytes) (free_upper bytes))
    (free_append IsNewline (bytes_text bytes) (codes "}") (free_bytes_text bytes) (free_above (codes "}") refl)))

-- ---- values

free_truth : (truth : Bool) → Free IsNewline (truth_text truth)
free_truth true = free_above (truth_text true) refl
free_truth false = free_above (truth_text false) refl

free_infinity : (negative : Bool) → Free IsNewline (infinity_text negative)
free_infinity true = free_above (infinity_text true) refl
free_infinity false = free_above (infinity_text false) refl

clean_float : (w : ℕ) (x : Float) → AreClean (float_json w x)
clean_float w nan = clean_exact (codes "\"NaN\"") (free_above (codes "\"NaN\"") refl)
clean_float w (inf negative) = clean_exact (infinity_text negative) (free_infinity negative)
clean_float w (fin negative m e) = tt

clean_simple : (w : ℕ) (v : Val) → AreClean (simple_json w v)
clean_simple w (Truth b) = clean_exact (truth_text b) (free_truth b)
clean_simple w (Num z) = clean_exact (signed_decimal z) (free_signed z)
clean_simple w (Raw bits) = clean_float w (float_of w bits)
clean_simple w (Items vs) = tt
clean_simple w (Fields vs) = tt
clean_simple w (Tagged k v) = tt

-- texts that are all clean
abbrev pub AllClean : List (List Piece) → Type 0
AllClean [] = ⊤
AllClean (t ∷ ts) = AreClean t × AllClean ts

comma_clean : Free IsNewline (codes ",")
comma_clean = free_above (codes ",") refl

clean_following : (ts : List (List Piece)) → AllClean ts → AreClean (following ts)
clean_following [] h = tt
clean_following (t ∷ ts) h = (comma_clean, clean_append t (following ts) h.0 (clean_following ts h.1))

clean_separated : (ts : List (List Piece)) → AllClean ts → AreClean (separated ts)
clean_separated [] h = tt
clean_separated (t ∷ ts) h = clean_append t (following ts) h.0 (clean_following ts h.1)

clean_braces : (members : List Piece) → AreClean members → AreClean (in_braces members)
clean_braces members h =
    (free_above (codes "{") refl, clean_append members (exact (codes "}")) h (clean_exact (codes "}") (free_above (codes "}") refl)))

clean_brackets : (items : List Piece) → AreClean items → AreClean (in_brackets items)
clean_brackets items h =
    (free_above (codes "[") refl, clean_append items (exact (codes "]")) h (clean_exact (codes "]") (free_above (codes "]") refl)))

clean_texts : (f : Val → List Piece) → ((v : Val) → AreClean (f v)) → (vs : Vals) → AllClean (texts f vs)
clean_texts f h Empty = tt
clean_texts f h (More v vs) = (h v, clean_texts f h vs)

clean_array : (bytes : Bool) (f : Val → List Piece) (vs : Vals) → ((v : Val) → AreClean (f v)) → AreClean (array_json bytes f vs)
clean_array bytes f vs h = by_bytes (bytes && are_bytes vs)
  where
    by_bytes : (all : Bool) → AreClean (if all then exact (bytes_json (bytes_of vs)) else in_brackets (separated (texts f vs)))
    by_bytes true = clean_exact (bytes_json (bytes_of vs)) (free_bytes (bytes_of vs))
    by_bytes false = clean_brackets (separated (texts f vs)) (clean_separated (texts f vs) (clean_texts f h vs))

clean_member : (name : List ℕ) (text : List Piece) → is_name name ≡ true → AreClean text → AreClean (member name text)
clean_member name text h k = (free_name_text name (free_name name h), k)

mutual
  pub clean_json : (s : Sch) (v : Val) → HasNames s → AreClean (json_of s v)
  clean_json (Simple t) v h = clean_simple (width t) v
  clean_json (Fixed s n) v h = clean_array (is_uint8 s) (λ x. json_of s x) (items_of v) (λ x. clean_json s x h)
  clean_json (Var s most) v h = clean_array (is_uint8 s) (λ x. json_of s x) (items_of v) (λ x. clean_json s x h)
  clean_json (Struct fs o) v h =
      clean_braces (separated (field_members fs (parts_of v))) (clean_separated (field_members fs (parts_of v)) (clean_fields fs (parts_of v) h.0 h.1))
  clean_json (Union fs o) v h =
      clean_braces (variant_member fs (tag_of v) (inner_of v)) (clean_variant fs (tag_of v) (inner_of v) h.0 h.1)

  clean_fields : (fs : Flds) (vs : Vals) → AreNamed fs → HaveNames fs → AllClean (field_members fs vs)
  clean_fields End vs h k = tt
  clean_fields (Pad n fs) vs h k = clean_fields fs vs h k
  clean_fields (Field name s fs) vs h k =
      (clean_member name (json_of s (first vs)) h.0 (clean_json s (first vs) k.0), clean_fields fs (others vs) h.2 k.1)

  clean_variant : (fs : Flds) (n : ℕ) (v : Val) → AreNamed fs → HaveNames fs → AreClean (variant_member fs n v)
  clean_variant End n v h k = tt
  clean_variant (Pad m fs) n v h k = clean_variant fs n v h k
  clean_variant (Field name s fs) zero v h k = clean_member name (json_of s v) h.0 (clean_json s v k.0)
  clean_variant (Field name s fs) (suc n) v h k = clean_variant fs n v h.2 k.1
