-- The line that one pass over a text finds.
use Rattle.std.proofs.Common.{◌≡◌, ◌∙◌, ℕ, ◌%◌, ◌≤◌, true, false, Bool, List, [], ◌++◌, length, drop, sym, ap, subst, arith, Result, Ok, Err, OnOk, MatchBool}
use Rattle.std.specs.Result.{is_ok}
use Rattle.std.proofs.lemmas.Bool.{false≢true}
use Rattle.std.proofs.lemmas.List.{append-nil, drop_all}
use Rattle.cy_bits.specs.Bits.{bytes}
use Rattle.dsdl_types.specs.Encoding.{own_bits}
use Rattle.dsdl_types.specs.Fits.{Fits}
use Rattle.dsdl_types.specs.Schemas.{Sch, Simple, Fixed, Var, Struct, Union, is_aligned, is_composite}
use Rattle.dsdl_types.proofs.Lengths.{own_whole}
use Rattle.line_loop.specs.Heard.{IsHeard}
use Rattle.value_lines.specs.Encoded.{Encodes, IsEncoded, hex_line}
use Rattle.value_lines.specs.LongLines.{is_long}
use Rattle.value_lines.specs.declared.refusal.Refusal.TheVariants as refusal
use Rattle.value_scan.specs.Scanned.{Scans}
use Rattle.value_text.specs.Texts.{value_text}

aligned : (s : Sch) → is_composite s ≡ true → is_aligned s ≡ true
aligned (Simple t) h = absurd (false≢true h)
aligned (Fixed s n) h = absurd (false≢true h)
aligned (Var s n) h = absurd (false≢true h)
aligned (Struct fs o) h = h
aligned (Union fs o) h = h

pub answered : (s : Sch) (line : List ℕ) (at p n : ℕ) (u v : List Bool) (old new : List ℕ) → is_composite s ≡ true →
    Scans (λ x. Fits s x) (λ x. value_text s x) (λ x. own_bits s x) line (drop at line) u v →
    at ≡ length line → u ≡ [] → length v ≡ p → (p % 8 ≡ 0 → new ≡ old ++ hex_line (bytes v)) → IsHeard (IsEncoded s n line) old new
answered s line at p n u v old new composite scan end none size is_new =
    let x = scan.value in
    let w = own_bits s x in
    let is_v : v ≡ w = scan.put ∙ ap (λ l. l ++ w) none in
    let whole : p % 8 ≡ 0 = omega (arith, own_whole s x (aligned s composite), size, ap length is_v) in
    let rest : drop at line ≡ [] = drop_all at line (omega arith) in
    let text : value_text s x ≡ line = sym (append-nil (value_text s x)) ∙ ap (λ l. value_text s x ++ l) (sym rest) ∙ sym scan.spelled in
    (hex_line (bytes v), record { value = x; fits = scan.fits; spelled = text; written = ap (λ l. hex_line (bytes l)) is_v }, is_new whole)

-- a line that isn't too long
pub heard : {T E : Type 0} (r : Result T E) (s : Sch) (n : ℕ) (line old new : List ℕ) → is_ok r ≡ true → is_long line ≡ false → OnOk r ((m : ℕ) → IsHeard (IsEncoded s m line) old new) → IsHeard (Encodes s n line) old new
heard (Ok x) s n line old new done short answers =
    let h = answers n in
    (h.0, subst (λ b. MatchBool b (Ok h.0 ≡ Err (refusal.Text n)) (IsEncoded s n line (Ok h.0))) (sym short) h.1, h.2)
heard (Err e) s n line old new done short answers = absurd (false≢true done)
