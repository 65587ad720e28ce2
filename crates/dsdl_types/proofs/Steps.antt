-- One step of reading
use Rattle.std.proofs.Common.{◌≡◌, ℕ, ◌+◌, ◌*◌, ◌-◌, ◌^◌, ◌<◌, ◌≤◌, Bool, true, cond, List, [], ◌++◌, length, take, drop, sym, ap, ◌∙◌, subst, arith, length-append}
use Rattle.std.proofs.lemmas.Bool.{cond-false, le-ltb}
use Rattle.std.proofs.lemmas.List.{take_at, drop_at}
use Rattle.std.specs.Prelude.{nat_lt}
use Rattle.cy_bits.specs.Bits.{number, bits_of}
use Rattle.dsdl_types.specs.Schemas.{Sch, Flds, Outline, Var, Union, length_field_bits, tag_bits, variants}
use Rattle.dsdl_types.specs.Values.{Items, Tagged}
use Rattle.dsdl_types.specs.Reading.{Read, Got, Bad, Step, BadDelimiter, BadLength, and_then, under, within, delimited, align, own, part, row, variant}
use Rattle.cy_bits.proofs.BitFacts.{take_bits, drop_bits}

pub step_is : {A B : Type 0} (r : Read A) (a : A) (q : ℕ) (rest : List Bool) (g : A → ℕ → List Bool → Read B) → r ≡ Got a q rest → and_then r g ≡ g a q rest
step_is r a q rest g e = ap (λ x. and_then x g) e

pub under_is : {A B : Type 0} (s : Step) (r : Read A) (a : A) (q : ℕ) (rest : List Bool) (g : A → ℕ → List Bool → Read B) → r ≡ Got a q rest → and_then (under s r) g ≡ g a q rest
under_is s r a q rest g e = ap (λ x. and_then (under s x) g) e

pub delimited_is : {A : Type 0} (f : ℕ → List Bool → Read A) (p : ℕ) (rest : List Bool) (c : ℕ) → number (take 32 rest) ≡ c → 8 * c ≤ length (drop 32 rest) →
    delimited true f p rest ≡ within (p + 32 + 8 * c) (drop (8 * c) (drop 32 rest)) (f 0 (take (8 * c) (drop 32 rest)))
delimited_is {A = A} f p rest c e h =
    let m = number (take 32 rest) in
    let h' : 8 * m ≤ length (drop 32 rest) = subst (λ x. 8 * x ≤ length (drop 32 rest)) (sym e) h in
    let go : delimited true f p rest ≡ within (p + 32 + 8 * m) (drop (8 * m) (drop 32 rest)) (f 0 (take (8 * m) (drop 32 rest))) =
    cond-false (nat_lt (length (drop 32 rest)) (8 * m)) (Bad [] (BadDelimiter m)) (within (p + 32 + 8 * m) (drop (8 * m) (drop 32 rest)) (f 0 (take (8 * m) (drop 32 rest)))) (le-ltb _ _ h') in
    subst (λ x. delimited true f p rest ≡ within (p + 32 + 8 * x) (drop (8 * x) (drop 32 rest)) (f 0 (take (8 * x) (drop 32 rest)))) e go

-- a part behind its byte count
pub counted_is : {A : Type 0} (f : ℕ → List Bool → Read A) (p c : ℕ) (l tail : List Bool) (v : A) (q : ℕ) (r : List Bool) →
    length l ≡ 8 * c → c < 2 ^ 32 → f 0 l ≡ Got v q r → delimited true f p (bits_of 32 c ++ (l ++ tail)) ≡ Got v (p + 32 + 8 * c) tail
counted_is f p c l tail v q r e b go =
    let d : drop 32 (bits_of 32 c ++ (l ++ tail)) ≡ l ++ tail = drop_bits 32 c (l ++ tail) in
    let room : 8 * c ≤ length (drop 32 (bits_of 32 c ++ (l ++ tail))) = subst (λ x. 8 * c ≤ length x) (sym d) (omega (arith, length-append l tail)) in
    delimited_is f p (bits_of 32 c ++ (l ++ tail)) c (take_bits 32 c (l ++ tail) b) room
    ∙ ap (λ x. within (p + 32 + 8 * c) (drop (8 * c) x) (f 0 (take (8 * c) x))) d
    ∙ ap (λ x. within (p + 32 + 8 * c) x (f 0 (take (8 * c) (l ++ tail)))) (drop_at l tail (8 * c) e)
    ∙ ap (λ x. within (p + 32 + 8 * c) tail (f 0 x)) (take_at l tail (8 * c) e)
    ∙ ap (λ x. within (p + 32 + 8 * c) tail x) go

pub union_is : (fs : Flds) (f : Outline) (p : ℕ) (rest : List Bool) (n : ℕ) → number (take (tag_bits (variants fs)) rest) ≡ n →
    own (Union fs f) p rest ≡ and_then (variant fs n n (p + tag_bits (variants fs)) (drop (tag_bits (variants fs)) rest)) (λ v q more. align (Tagged n v) q more)
union_is fs f p rest n e =
    ap (λ n. and_then (variant fs n n (p + tag_bits (variants fs)) (drop (tag_bits (variants fs)) rest)) (λ v q more. align (Tagged n v) q more)) e

pub var_is : (s : Sch) (c p : ℕ) (rest : List Bool) (n : ℕ) → number (take (length_field_bits c) rest) ≡ n → n ≤ c →
    own (Var s c) p rest ≡ and_then (row (part s) n 0 (p + length_field_bits c) (drop (length_field_bits c) rest)) (λ vs. Got (Items vs))
var_is s c p rest n e h =
    ap (λ n. cond (nat_lt c n) (Bad [] (BadLength n)) (and_then (row (part s) n 0 (p + length_field_bits c) (drop (length_field_bits c) rest)) (λ vs. Got (Items vs)))) e
    ∙ cond-false _ _ _ (le-ltb _ _ h)
