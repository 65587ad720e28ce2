-- The laws of zeros and of a cut, over bytes
use Rattle.std.proofs.Common.{◌≡◌, ℕ, zero, suc, ◌+◌, ◌*◌, ◌-◌, ◌/◌, ◌%◌, ◌≤◌, Bool, true, List, [], ◌∷◌, ◌++◌, length, take, replicate, refl, sym, ap, ◌∙◌, subst, arith}
use Rattle.cy_bits.specs.Bits.{bits, bits_of, zeros}
use Rattle.dsdl_types.specs.Schemas.{Sch, Simple, Fixed, Var, Struct, Union, is_composite, is_aligned, extent_of}
use Rattle.dsdl_types.specs.Values.{Val}
use Rattle.dsdl_types.specs.Reading.{Read, Got, Bad, Step, Why, own}
use Rattle.dsdl_types.specs.Greatest.{longest}
use Rattle.dsdl_types.specs.Laws.{KeepsReadings, Reads, ZerosLaw, CutLaw, PaddedLaw}
use Rattle.std.proofs.lemmas.List.{take-append-le}
use Rattle.std.proofs.lemmas.Bool.{cases_lt}
use Rattle.std.proofs.Common.{inl, inr, min}
use Rattle.cy_bits.proofs.BitFacts.{bits-append, bits_zero, length_bits_of}
use Rattle.dsdl_types.specs.Rules.{IsSchema}
use Rattle.dsdl_types.proofs.SchemaRules.{schema_sound}
use Rattle.dsdl_types.proofs.Lengths.{up_whole}
use Rattle.dsdl_types.proofs.Longer.{longer_own}
use Rattle.dsdl_types.proofs.Cuts.{CutTo, cuts_own}
use Rattle.dsdl_types.proofs.Evolving.{composite_bounds, cut_zeros}
use Rattle.std.proofs.Math.Seq.{take-append-add}

pub zeros_law : (s : Sch) (b : List ℕ) → ZerosLaw s b
zeros_law s b v h k =
    let more = longer_own s 0 (bits b) v h.0 h.1 h.2 (8 * k) in
    (h.0, h.1 ++ zeros more.0, ap (λ x. own s 0 x) (bits-append b (replicate k 0) ∙ ap (λ x. bits b ++ x) (bits_zero k)) ∙ more.1)

pub bits_take : (n : ℕ) (b : List ℕ) → bits (take n b) ≡ take (8 * n) (bits b)
bits_take zero b = refl
bits_take (suc n) [] = sym (nothing (8 * suc n))
  where
    nothing : (m : ℕ) → take {A = Bool} m [] ≡ []
    nothing zero = refl
    nothing (suc m) = refl
bits_take (suc n) (x ∷ b) =
    let e : length (bits_of 8 x) + 8 * n ≡ 8 * suc n = omega (arith, length_bits_of 8 x) in
    ap (λ l. bits_of 8 x ++ l) (bits_take n b) ∙ sym (take-append-add (bits_of 8 x) (bits b) (8 * n)) ∙ ap (λ m. take m (bits_of 8 x ++ bits b)) e

composite_whole : (s : Sch) → is_composite s ≡ true → longest s % 8 ≡ 0
composite_whole (Simple t) h = cc
composite_whole (Fixed s n) h = cc
composite_whole (Var s n) h = cc
composite_whole (Struct fs f) h = up_whole _
composite_whole (Union fs f) h = up_whole _

cut_got_to : (e b : ℕ) (B : ℕ → Type 0) (r r' : Read Val) (v : Val) (p : ℕ) (x : List Bool) → CutTo e b B r r' → r ≡ Got v p x → r' ≡ Got v p (take (e - p) x)
cut_got_to e b B (Got w q y) r' v p x z h =
    let ev : w ≡ v = cc in
    let ep : q ≡ p = cc in
    let ex : y ≡ x = cc in
    z.2 ∙ (λ i. Got (ev i) (ep i) (take (e - ep i) (ex i)))
cut_got_to e b B (Bad path why) r' v p x z h = cc

cut_bad_to : (e b : ℕ) (B : ℕ → Type 0) (r r' : Read Val) (path : List Step) (why : Why) → CutTo e b B r r' → r ≡ Bad path why → r' ≡ Bad path why
cut_bad_to e b B (Got w q y) r' path why z h = cc
cut_bad_to e b B (Bad path' why') r' path why z h = z ∙ h

pub cut_law : (s : Sch) (b : List ℕ) → CutLaw s b
cut_law s b i c w =
    let n = extent_of s / 8 in
    let bounds = composite_bounds s i c in
    let room : 0 + longest s ≤ 8 * n = omega (arith, bounds.0, composite_whole s c) in
    let z = cuts_own s 0 (8 * n) (bits b) (λ _. refl) w room in
    let e : take (8 * n - 0) (bits b) ≡ bits (take n b) = (let k : 8 * n - 0 ≡ 8 * n = omega arith in ap (λ m. take m (bits b)) k) ∙ sym (bits_take n b) in
    let z' = subst (λ x. CutTo (8 * n) (0 + longest s) (λ q. is_aligned s ≡ true → q % 8 ≡ 0) (own s 0 (bits b)) (own s 0 x)) e z in
    record {
      reads = λ v h. (h.0, take (8 * n - h.0) h.1, cut_got_to (8 * n) (0 + longest s) (λ q. is_aligned s ≡ true → q % 8 ≡ 0) (own s 0 (bits b)) (own s 0 (bits (take n b))) v h.0 h.1 z' h.2);
      refuses = λ path why h. cut_bad_to (8 * n) (0 + longest s) (λ q. is_aligned s ≡ true → q % 8 ≡ 0) (own s 0 (bits b)) (own s 0 (bits (take n b))) path why z' h;
    }

pub padded_law : (s : Sch) (b : List ℕ) → PaddedLaw s b
padded_law s b i c w v r k =
    let n = extent_of s / 8 in (
      zeros_law s b v r k,
      elim (cases_lt (length b) n) [
        | inl short ↦ subst (λ x. Reads s x v) (sym (cut_zeros b n k (omega arith))) (zeros_law s b v r (min (n - length b) k))
        | inr long ↦ subst (λ x. Reads s x v) (sym (take-append-le n b (replicate k 0) long)) ((cut_law s b i c w).reads v r)
      ],
    )

pub keeps_readings : (s : Sch) → IsSchema s → is_composite s ≡ true → KeepsReadings s
keeps_readings s h composite =
    let sound = schema_sound s h in
    record {
      cut = λ b fit. cut_law s b sound composite fit;
      zeros = λ b. zeros_law s b;
      zeros_cut = λ b fit v reads k. (padded_law s b sound composite fit v reads k).1;
    }
