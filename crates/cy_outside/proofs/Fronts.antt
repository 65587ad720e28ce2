-- A front of a file that was read so far.
use Rattle.std.proofs.Common.{◌≡◌, ◌∙◌, ◌⊎◌, inl, inr, ℕ, ◌+◌, ◌*◌, ◌/◌, ◌-◌, ◌<◌, ◌≤◌, Bool, true, false, T, List, [], ◌++◌, Option, Some, None, refl, sym, ap, subst, take, drop, length, arith}
use Rattle.std.proofs.lemmas.Grind.{common_steps}
use Rattle.std.proofs.Math.Nat.{lt-div-mul-add}
use Rattle.std.proofs.Math.Seq.{take-add}
use Rattle.std.specs.Prelude.{⊤, min, unwrap_or, option_map}
use Rattle.cy_outside.specs.declared.tree.Got.{Got}
use Rattle.cy_outside.specs.declared.tree.Got.TheVariants.{Bytes, Absent, Folder}
use Rattle.cy_outside.specs.Files.{Files, bytes_at, got_of, Reads, ReadsFront, front_length, reads_of}
use Rattle.cy_outside.specs.Calls.{one_more}

-- these are the first bytes of a file, where the files are told
abbrev pub IsFront : Option Files → List ℕ → List ℕ → Type 0
IsFront None path front = ⊤
IsFront (Some files) path front = front ≡ take (length front) (bytes_at files path)

length_more : (front buf : List ℕ) (n : ℕ) → n ≤ length buf → length (front ++ take n buf) ≡ length front + n
length_more front buf n h = grind (arith, common_steps)

more_of : (whole front buf : List ℕ) (n : ℕ) → n ≤ length buf → front ≡ take (length front) whole → take n buf ≡ take n (drop (length front) whole)
    → front ++ take n buf ≡ take (length (front ++ take n buf)) whole
more_of whole front buf n h e t =
    ap (λ b. front ++ b) t ∙ ap (λ f. f ++ take n (drop (length front) whole)) e ∙ sym (take-add (length front) n whole)
    ∙ ap (λ k. take k whole) (sym (length_more front buf n h))

-- a read of the next n bytes
pub front_more : (told : Option Files) (path front buf : List ℕ) (n : ℕ) → n ≤ length buf → IsFront told path front
    → Reads told path (length front) buf (Bytes n) → IsFront told path (front ++ take n buf)
front_more None path front buf n h e r = tt
front_more (Some files) path front buf n h e r = more_of (bytes_at files path) front buf n h e r.1

number : Got → ℕ
number (Bytes n) = n
number Absent = 0
number Folder = 0

is_bytes : Got → Bool
is_bytes (Bytes n) = true
is_bytes Absent = false
is_bytes Folder = false

number_of : (bytes : List ℕ) (offset room n : ℕ) → Bytes (min room (length bytes - offset)) ≡ Bytes n → min room (length bytes - offset) ≡ n
unfolding number
number_of bytes offset room n e = ap number e

not_bytes : (got : Got) (n : ℕ) → is_bytes got ≡ false → got ≡ Bytes n → ⊥
unfolding is_bytes
not_bytes got n empty e = subst T (ap is_bytes (sym e) ∙ empty) tt

all_of : (whole : List ℕ) (k most : ℕ) → length whole ≤ k → k ≤ most → take k whole ≡ take most whole
all_of whole k most a b = grind (arith, common_steps)

ends : (whole front buf : List ℕ) (most room n : ℕ) → n ≤ length buf → length front ≤ most → room ≡ min 8192 (most - length front)
    → min room (length whole - length front) ≡ n → (n < room) ⊎ (length (front ++ take n buf) ≡ most)
    → front ++ take n buf ≡ take (length (front ++ take n buf)) whole → front ++ take n buf ≡ take most whole
ends whole front buf most room n h l r g (inr e) f = f ∙ ap (λ k. take k whole) e
ends whole front buf most room n h l r g (inl e) f =
    let k : length (front ++ take n buf) ≡ length front + n = length_more front buf n h in
    f ∙ all_of whole _ most (omega (arith, k)) (omega (arith, k))

whole_of : (o : Option (List ℕ)) (folder : Bool) (front buf : List ℕ) (most room n : ℕ) → n ≤ length buf → length front ≤ most → room ≡ min 8192 (most - length front)
    → got_of o folder (length front) room ≡ Bytes n → (n < room) ⊎ (length (front ++ take n buf) ≡ most)
    → front ++ take n buf ≡ take (length (front ++ take n buf)) (unwrap_or o []) → Some (front ++ take n buf) ≡ option_map (take most) o
unfolding is_bytes
whole_of (Some whole) folder front buf most room n h l r g c f = ap Some (ends whole front buf most room n h l r (number_of whole (length front) room n g) c f)
whole_of None true front buf most room n h l r g c f = absurd (not_bytes Folder n refl g)
whole_of None false front buf most room n h l r g c f = absurd (not_bytes Absent n refl g)

-- the last read of a file
pub front_whole : (told : Option Files) (path front buf : List ℕ) (most n : ℕ) → n ≤ length buf → length front ≤ most → length buf ≡ min 8192 (most - length front)
    → IsFront told path front → Reads told path (length front) buf (Bytes n) → (n < length buf) ⊎ (length (front ++ take n buf) ≡ most)
    → ReadsFront told path most (Some (front ++ take n buf))
front_whole None path front buf most n h l r e a c = tt
front_whole (Some files) path front buf most n h l r e a c =
    whole_of _ _ front buf most (length buf) n h l r a.0 c (front_more (Some files) path front buf n h e a)

-- the same read, said of equal things
pub reads_at : (told told' : Option Files) (path : List ℕ) (offset offset' : ℕ) (buf : List ℕ) (got got' : Got) → told ≡ told' → offset ≡ offset' → got ≡ got'
    → Reads told path offset buf got → Reads told' path offset' buf got'
reads_at told told' path offset offset' buf got got' e f h r =
    subst (λ t. Reads t path offset' buf got') e (subst (λ k. Reads told path k buf got') f (subst (λ x. Reads told path offset buf x) h r))

-- the front that was read has at most as many bytes as the file
front_within : (told : Option Files) (path front : List ℕ) (most : ℕ) → length front ≤ most → IsFront told path front → length front ≤ front_length told path most
front_within None path front most l f = l
front_within (Some files) path front most l f =
    let k : length front ≡ length (take (length front) (bytes_at files path)) = ap length f in
    grind (arith, common_steps)

-- one more read, where each read before it gave a whole piece
pub one_read_more : (told : Option Files) (path front : List ℕ) (most old calls new : ℕ) → length front ≤ most → IsFront told path front
    → 8192 * calls ≤ 8192 * old + length front → new ≡ one_more calls → new ≤ old + reads_of (front_length told path most)
one_read_more told path front most old calls new l f c e =
    let w : length front ≤ front_length told path most = front_within told path front most l f in
    let d : front_length told path most < front_length told path most / 8192 * 8192 + 8192 = lt-div-mul-add (omega arith) in
    omega (arith, w, d, e)
