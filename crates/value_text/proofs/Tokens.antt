-- A text up to the first byte of some kind.
use Rattle.std.proofs.Common.{◌≡◌, ℕ, ◌≤◌, ◌==◌, Bool, true, false, List, [], ◌∷◌, ◌++◌, refl, sym, ap, ◌∙◌, arith}
use Rattle.std.specs.List.{list_all}
use Rattle.std.proofs.lemmas.Bool.{false≢true, eqb-true, and_parts}
use Rattle.dsdl_names.specs.Words.{is_name, is_name_byte, is_first}
use Rattle.std.proofs.lemmas.Bool.Decides.{nat_tests}
pub use Rattle.value_text.specs.Ends.{Clear, Halts, stop, top}

abbrev pub behind : List ℕ → List ℕ
behind [] = []
behind (c ∷ cs) = cs

abbrev is_nil : List ℕ → Bool
is_nil [] = true
is_nil (c ∷ cs) = false

pub nil_cons : (c : ℕ) (cs : List ℕ) → [] ≡ c ∷ cs → ⊥
nil_cons c cs e = false≢true (sym (ap is_nil e))

-- a byte first that isn't of the kind
abbrev pub Begins : (ℕ → Bool) → List ℕ → Type 0
Begins p [] = ⊥
Begins p (c ∷ cs) = p c ≡ false

pub clear_append : (p : ℕ → Bool) (a b : List ℕ) → Clear p a → Clear p b → Clear p (a ++ b)
clear_append p [] b f g = g
clear_append p (c ∷ a) b f g = (f.0, clear_append p a b f.1 g)

pub begins_append : (p : ℕ → Bool) (a b : List ℕ) → Begins p a → Begins p (a ++ b)
begins_append p [] b h = absurd h
begins_append p (c ∷ a) b h = h

not_both : (p : ℕ → Bool) (c d : ℕ) → p c ≡ true → p d ≡ false → c ≡ d → ⊥
not_both p c d f g e = false≢true (sym g ∙ ap p (sym e) ∙ f)

-- what begins so doesn't halt
pub no_halt : (p : ℕ → Bool) (a b : List ℕ) → Begins p a → Halts p b → a ≡ b → ⊥
no_halt p [] b f g e = f
no_halt p (c ∷ a) [] f g e = nil_cons c a (sym e)
no_halt p (c ∷ a) (d ∷ b) f g e = not_both p d c g f (sym (ap top e))

pub token_split : (p : ℕ → Bool) (a b r q : List ℕ) → Clear p a → Clear p b → Halts p r → Halts p q → a ++ r ≡ b ++ q → (a ≡ b) × (r ≡ q)
token_split p [] [] r q f g h k e = (refl, e)
token_split p [] (d ∷ b) [] q f g h k e = absurd (nil_cons d (b ++ q) e)
token_split p [] (d ∷ b) (x ∷ r) q f g h k e = absurd (not_both p x d h g.0 (ap top e))
token_split p (c ∷ a) [] r [] f g h k e = absurd (nil_cons c (a ++ r) (sym e))
token_split p (c ∷ a) [] r (x ∷ q) f g h k e = absurd (not_both p x c k f.0 (sym (ap top e)))
token_split p (c ∷ a) (d ∷ b) r q f g h k e =
    let t = token_split p a b r q f.1 g.1 h k (ap behind e) in
    let x : c ≡ d = ap top e in
    let y : a ≡ b = t.0 in
    let z : c ∷ a ≡ d ∷ b = cc in
    (z, t.1)

abbrev pub colon : ℕ → Bool
colon c = c == 58

pub not_stop : (c : ℕ) → 45 ≤ c → c ≤ 92 → stop c ≡ false
not_stop c f g = grind (arith, nat_tests)

-- a byte of a kind that a colon isn't of
not_colon : (p : ℕ → Bool) → p 58 ≡ false → (c : ℕ) (b : Bool) → colon c ≡ b → p c ≡ true → b ≡ false
not_colon p f c true e h = absurd (false≢true (sym f ∙ ap p (sym (eqb-true c 58 e)) ∙ h))
not_colon p f c false e h = refl

clear_bytes : (s : List ℕ) → list_all is_name_byte s ≡ true → Clear colon s
clear_bytes [] h = tt
clear_bytes (c ∷ s) h =
    let p = and_parts (is_name_byte c) (list_all is_name_byte s) h in
    (not_colon is_name_byte refl c (colon c) refl p.0, clear_bytes s p.1)

-- no byte of a name is a colon
pub clear_name : (name : List ℕ) → is_name name ≡ true → Clear colon name
clear_name [] h = tt
clear_name (c ∷ name) h =
    let p = and_parts (is_first c) (list_all is_name_byte name) h in
    (not_colon is_first refl c (colon c) refl p.0, clear_bytes name p.1)
