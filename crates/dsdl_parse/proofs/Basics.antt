-- Small lemmas on options, lists and signs.
use Rattle.std.proofs.lemmas.Option.{none-some}
use Rattle.std.proofs.Common.{◌≡◌, ℕ, ◌⊎◌, Bool, true, false, not, ◌&&◌, cond, List, [], ◌∷◌, ◌++◌, Option, Some, None, bytes_eq, refl, ap, ◌∙◌, inl, inr}
use Rattle.std.proofs.lemmas.Bool.{and_parts, or_cases, or_parts, or_from, not-true}
use Rattle.std.proofs.lemmas.Slice.Eq.{bytes_eq-Decides}
use Rattle.dsdl_lex.specs.declared.token.TokenKind.{TokenKind}
use Rattle.dsdl_lex.specs.declared.token.TokenKind.TheVariants as k
use Rattle.dsdl_parse.specs.Words.{Word, Signs, any_of, on_sign, is_in}
use Rattle.dsdl_parse.specs.Reading.{◌>>=◌}

pub bind_some : {A B : Type 0} (f : A → Option B) (o : Option A) (y : B) → (o >>= f) ≡ Some y → (x : A) × (o ≡ Some x) × (f x ≡ Some y)
bind_some f None y e = absurd (none-some y e)
bind_some f (Some x) y e = (x, refl, e)

pub bound : {A B : Type 0} (f : A → Option B) (o : Option A) (x : A) (r : Option B) → o ≡ Some x → f x ≡ r → (o >>= f) ≡ r
bound f o x r e h = ap (λ v. v >>= f) e ∙ h

pub chosen : {A : Type 0} (b : Bool) (x y z : A) → cond b x y ≡ z → ((b ≡ true) × (x ≡ z)) ⊎ ((b ≡ false) × (y ≡ z))
chosen true x y z e = inl (refl, e)
chosen false x y z e = inr (refl, e)

-- each of these signs fails the test
abbrev pub all_fail : Signs → (List ℕ → Bool) → Bool
all_fail [] t = true
all_fail (s ∷ ss) t = not (t s) && all_fail ss t

pub same_text : (text s : List ℕ) → bytes_eq text s ≡ true → text ≡ s
same_text text s e = (bytes_eq-Decides text s).0 e

pub apart_text : (ss : Signs) (t : List ℕ → Bool) (text : List ℕ) → all_fail ss t ≡ true → any_of ss text ≡ true → t text ≡ false
apart_text [] t text a e = absurd (cc)
apart_text (s ∷ ss) t text a e = (elim (or_cases (bytes_eq text s) (any_of ss text) e) [
  | inl h ↦ rw (same_text text s h) (not-true (t s) (and_parts (not (t s)) (all_fail ss t) a).0)
  | inr h ↦ apart_text ss t text (and_parts (not (t s)) (all_fail ss t) a).1 h
])

apart_at : (ss ts : Signs) (kind : TokenKind) (text : List ℕ) → all_fail ss (any_of ts) ≡ true → on_sign ss kind text ≡ true → on_sign ts kind text ≡ false
apart_at ss ts k.Sign text a e = apart_text ss (any_of ts) text a e
apart_at ss ts k.Reference text a e = refl
apart_at ss ts k.Name text a e = refl
apart_at ss ts k.Number text a e = refl
apart_at ss ts k.Str text a e = refl
apart_at ss ts k.Split text a e = refl

-- a word of these signs is none of those
pub apart : (ss ts : Signs) → all_fail ss (any_of ts) ≡ true → (w : Word) → is_in ss w ≡ true → is_in ts w ≡ false
apart ss ts a w e = apart_at ss ts w.kind w.text a e

none_at : (kind : TokenKind) (text : List ℕ) → on_sign [] kind text ≡ false
none_at k.Sign text = refl
none_at k.Reference text = refl
none_at k.Name text = refl
none_at k.Number text = refl
none_at k.Str text = refl
none_at k.Split text = refl

pub in_none : (w : Word) → is_in [] w ≡ false
in_none w = none_at w.kind w.text

any_more : (ss ts : Signs) (text : List ℕ) → any_of (ss ++ ts) text ≡ false → (any_of ss text ≡ false) × (any_of ts text ≡ false)
any_more [] ts text e = (refl, e)
any_more (s ∷ ss) ts text e =
    let p : (bytes_eq text s ≡ false) × (any_of (ss ++ ts) text ≡ false) = or_parts (bytes_eq text s) (any_of (ss ++ ts) text) e in
    let q : (any_of ss text ≡ false) × (any_of ts text ≡ false) = any_more ss ts text p.1 in
    (or_from (bytes_eq text s) (any_of ss text) p.0 q.0, q.1)

out_at : (ss ts : Signs) (kind : TokenKind) (text : List ℕ) → on_sign (ss ++ ts) kind text ≡ false → (on_sign ss kind text ≡ false) × (on_sign ts kind text ≡ false)
out_at ss ts k.Sign text e = any_more ss ts text e
out_at ss ts k.Reference text e = (refl, refl)
out_at ss ts k.Name text e = (refl, refl)
out_at ss ts k.Number text e = (refl, refl)
out_at ss ts k.Str text e = (refl, refl)
out_at ss ts k.Split text e = (refl, refl)

pub out_of_both : (ss ts : Signs) (w : Word) → is_in (ss ++ ts) w ≡ false → (is_in ss w ≡ false) × (is_in ts w ≡ false)
out_of_both ss ts w e = out_at ss ts w.kind w.text e

sign_at : (ss : Signs) (kind : TokenKind) (text : List ℕ) → on_sign ss kind text ≡ true → kind ≡ k.Sign
sign_at ss k.Sign text e = refl
sign_at ss k.Reference text e = cc
sign_at ss k.Name text e = cc
sign_at ss k.Number text e = cc
sign_at ss k.Str text e = cc
sign_at ss k.Split text e = cc

pub append_nil : {A : Type 0} (xs : List A) → xs ++ [] ≡ xs
append_nil [] = refl
append_nil (x ∷ xs) = ap (λ l. x ∷ l) (append_nil xs)
