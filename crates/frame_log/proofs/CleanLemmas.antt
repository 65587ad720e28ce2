-- Lemmas on bytes that a text doesn't have.
use Rattle.std.proofs.Common.{◌≡◌, ◌∙◌, ◌==◌, ℕ, suc, ◌+◌, ◌-◌, ◌*◌, Bool, true, false, List, [], ◌∷◌, ◌++◌, Option, Some, None, refl, sym, ap, length, take, drop, arith}
use Rattle.std.specs.Prelude.{if◌then◌else◌, ◌||◌, ◌&&◌, nat_lt}
use Rattle.std.specs.Str.{bytes_eq}
use Rattle.std.proofs.lemmas.Bool.{eqb-true}
use Rattle.std.proofs.lemmas.Bool.Decides.{nat_tests}
use Rattle.frame_log.specs.Line.{◌>>=◌, after, cut, decimal_from, hex_digit, hex_from, pairs_of, is_flag, unflagged, without_return}
use Rattle.frame_log.specs.Reads.{IsClean}
use Rattle.frame_log.proofs.LineLemmas.{yes, no, some_is}
use Rattle.frame_log.proofs.CutLemmas.{longer, cut-other}

bind-none : (x : ℕ) (o : Option (List ℕ × List ℕ)) → (o >>= longer x) ≡ None → o ≡ None
bind-none x None h = refl
bind-none x (Some p) h = absurd cc

-- neither the first byte nor a later one is b
pub cut-not : (b x : ℕ) (s : List ℕ) → cut b (x ∷ s) ≡ None → ((x == b) ≡ false) × (cut b s ≡ None)
cut-not b x s h = go (x == b) refl
  where
    go : (v : Bool) → (x == b) ≡ v → ((x == b) ≡ false) × (cut b s ≡ None)
    go true e = let k : Some ([], s) ≡ None = yes (x == b) (Some ([], s)) (cut b s >>= longer x) e ∙ h in absurd cc
    go false e = (e, bind-none x (cut b s) (no (x == b) (Some ([], s)) (cut b s >>= longer x) e ∙ h))

pub cut-cons : (b x : ℕ) (s : List ℕ) → (x == b) ≡ false → cut b s ≡ None → cut b (x ∷ s) ≡ None
cut-cons b x s e h = cut-other b x s e ∙ ap (λ (o : Option (List ℕ × List ℕ)). o >>= longer x) h

pub cut-both : (b : ℕ) (s t : List ℕ) → cut b s ≡ None → cut b t ≡ None → cut b (s ++ t) ≡ None
cut-both b [] t h k = k
cut-both b (x ∷ s) t h k = let n = cut-not b x s h in cut-cons b x (s ++ t) n.0 (cut-both b s t n.1 k)

same : (b : ℕ) → (b == b) ≡ true
same b = grind (arith, nat_tests)

-- the first byte b stands behind a text without it
pub cut-at : (b : ℕ) (s t : List ℕ) → cut b s ≡ None → cut b (s ++ b ∷ t) ≡ Some (s, t)
cut-at b [] t h = sym (yes (b == b) (Some ([], t)) (cut b t >>= longer b) (same b))
cut-at b (x ∷ s) t h = let n = cut-not b x s h in cut-other b x (s ++ b ∷ t) n.0 ∙ ap (λ (o : Option (List ℕ × List ℕ)). o >>= longer x) (cut-at b s t n.1)

record Later (b x : ℕ) (xs front behind : List ℕ) : Type 0 where
  more : List ℕ
  is : front ≡ x ∷ more
  rest : cut b xs ≡ Some (more, behind)

later : (b x : ℕ) (xs front behind : List ℕ) (o : Option (List ℕ × List ℕ)) → cut b xs ≡ o → (o >>= longer x) ≡ Some (front, behind) → Later b x xs front behind
later b x xs front behind None e h = absurd cc
later b x xs front behind (Some p) e h = let k : (x ∷ p.0, p.1) ≡ (front, behind) = some_is _ _ h in record {
  more = p.0;
  is = sym (ap (λ (q : List ℕ × List ℕ). q.0) k);
  rest = e ∙ ap (λ t. Some (p.0, t)) (ap (λ (q : List ℕ × List ℕ). q.1) k);
}

pub cut-found : (b : ℕ) (s front behind : List ℕ) → cut b s ≡ Some (front, behind) → (cut b front ≡ None) × (s ≡ front ++ b ∷ behind)
cut-found b [] front behind h = absurd cc
cut-found b (x ∷ xs) front behind h = go (λ m k. cut-found b xs m behind k) (x == b) refl
  where
    go : ((m : List ℕ) → cut b xs ≡ Some (m, behind) → (cut b m ≡ None) × (xs ≡ m ++ b ∷ behind)) → (v : Bool) → (x == b) ≡ v → (cut b front ≡ None) × (x ∷ xs ≡ front ++ b ∷ behind)
    go more true e =
        let k : ([], xs) ≡ (front, behind) = some_is _ _ (yes (x == b) (Some (([], xs))) (cut b xs >>= longer x) e ∙ h) in
        (sym (ap (λ (q : List ℕ × List ℕ). cut b q.0) k), ap (λ n. n ∷ xs) (eqb-true x b e) ∙ ap (λ (q : List ℕ × List ℕ). q.0 ++ b ∷ q.1) k)
    go more false e =
        let k : (cut b xs >>= longer x) ≡ Some (front, behind) = no (x == b) (Some (([], xs))) (cut b xs >>= longer x) e ∙ h in
        let c = later b x xs front behind (cut b xs) refl k in
        let m = more c.more c.rest in
        (ap (cut b) c.is ∙ cut-cons b x c.more e m.0, ap (λ t. x ∷ t) m.1 ∙ ap (λ (l : List ℕ). l ++ b ∷ behind) (sym c.is))

-- two bytes that a test tells apart
pub apart : (f : ℕ → Bool) (x b : ℕ) → f x ≡ false → f b ≡ true → (x == b) ≡ false
apart f x b e h = go (x == b) refl
  where
    go : (v : Bool) → (x == b) ≡ v → (x == b) ≡ false
    go true k = let bad : false ≡ true = sym e ∙ ap f (eqb-true x b k) ∙ h in absurd cc
    go false k = k

-- decimal digits have no other byte
pub decimal-clean : (b n m : ℕ) (s : List ℕ) → (nat_lt b 48 || nat_lt 57 b) ≡ true → decimal_from n s ≡ Some m → cut b s ≡ None
decimal-clean b n m [] t h = refl
decimal-clean b n m (x ∷ s) t h = go (λ k. decimal-clean b (n * 10 + (x - 48)) m s t k) (nat_lt x 48 || nat_lt 57 x) refl h
  where
    go : (decimal_from (n * 10 + (x - 48)) s ≡ Some m → cut b s ≡ None) → (v : Bool) → (nat_lt x 48 || nat_lt 57 x) ≡ v → (if v then None else decimal_from (n * 10 + (x - 48)) s) ≡ Some m → cut b (x ∷ s) ≡ None
    go more true e k = absurd cc
    go more false e k = cut-cons b x s (apart (λ y. nat_lt y 48 || nat_lt 57 y) x b e t) (more k)

-- nor have hex digits
pub hex-clean : (b n m : ℕ) (s : List ℕ) → nat_lt 15 (hex_digit b) ≡ true → hex_from n s ≡ Some m → cut b s ≡ None
hex-clean b n m [] t h = refl
hex-clean b n m (x ∷ s) t h = go (λ k. hex-clean b (n * 16 + hex_digit x) m s t k) (nat_lt 15 (hex_digit x)) refl h
  where
    go : (hex_from (n * 16 + hex_digit x) s ≡ Some m → cut b s ≡ None) → (v : Bool) → nat_lt 15 (hex_digit x) ≡ v → (if v then None else hex_from (n * 16 + hex_digit x) s) ≡ Some m → cut b (x ∷ s) ≡ None
    go more true e k = absurd cc
    go more false e k = cut-cons b x s (apart (λ y. nat_lt 15 (hex_digit y)) x b e t) (more k)

some-of : (o : Option (List ℕ)) (x : ℕ) (bytes : List ℕ) → (o >>= (λ m. Some (x ∷ m))) ≡ Some bytes → (m : List ℕ) × (o ≡ Some m)
some-of None x bytes h = absurd cc
some-of (Some m) x bytes h = (m, refl)

pub pairs-clean : (b : ℕ) (s bytes : List ℕ) → nat_lt 15 (hex_digit b) ≡ true → pairs_of s ≡ Some bytes → cut b s ≡ None
pairs-clean b [] bytes t h = refl
pairs-clean b (x ∷ []) bytes t h = absurd cc
pairs-clean b (x ∷ y ∷ s) bytes t h = go (λ m k. pairs-clean b s m t k) (nat_lt 15 (hex_digit x)) (nat_lt 15 (hex_digit y)) refl refl h
  where
    go : ((m : List ℕ) → pairs_of s ≡ Some m → cut b s ≡ None) → (u v : Bool) → nat_lt 15 (hex_digit x) ≡ u → nat_lt 15 (hex_digit y) ≡ v
        → (if u || v then None else (pairs_of s >>= (λ m. Some ((hex_digit x * 16 + hex_digit y) ∷ m)))) ≡ Some bytes → cut b (x ∷ y ∷ s) ≡ None
    go more true v e f k = absurd cc
    go more false true e f k = absurd cc
    go more false false e f k = let m = some-of (pairs_of s) (hex_digit x * 16 + hex_digit y) bytes k in
        cut-cons b x (y ∷ s) (apart (λ z. nat_lt 15 (hex_digit z)) x b e t) (cut-cons b y s (apart (λ z. nat_lt 15 (hex_digit z)) y b f t) (more m.0 m.1))

pub clean-both : (s t : List ℕ) → IsClean s → IsClean t → IsClean (s ++ t)
clean-both s t h k = (cut-both 10 s t h.0 k.0, cut-both 13 s t h.1 k.1)

-- a byte that isn't there doesn't stand in front
pub after-none : (b : ℕ) (s : List ℕ) → cut b s ≡ None → after b s ≡ None
after-none b [] h = refl
after-none b (x ∷ s) h = sym (no (x == b) (Some s) None (cut-not b x s h).0)

last-not : (s : List ℕ) → cut 13 s ≡ None → bytes_eq (drop (length s - 1) s) (13 ∷ []) ≡ false
last-not [] h = refl
last-not (x ∷ []) h = ap (λ v. v && true) (cut-not 13 x [] h).0
last-not (x ∷ y ∷ s) h = let e : length (x ∷ y ∷ s) - 1 ≡ suc (length (y ∷ s) - 1) = omega arith in
    ap (λ n. bytes_eq (drop n (x ∷ y ∷ s)) (13 ∷ [])) e ∙ last-not (y ∷ s) (cut-not 13 x (y ∷ s) h).1

-- a text without a carriage return
pub without_return-clean : (s : List ℕ) → cut 13 s ≡ None → without_return s ≡ s
without_return-clean s h = let n = length s - 1 in sym (no (bytes_eq (drop n s) (13 ∷ [])) (take n s) s (last-not s h))

flag-not : (s : List ℕ) → cut 32 s ≡ None → is_flag (drop (length s - 2) s) ≡ false
flag-not [] h = refl
flag-not (x ∷ []) h = refl
flag-not (x ∷ y ∷ []) h = ap (λ v. v && ((y == 82) || (y == 84))) (cut-not 32 x (y ∷ []) h).0
flag-not (x ∷ y ∷ z ∷ s) h = let e : length (x ∷ y ∷ z ∷ s) - 2 ≡ suc (length (y ∷ z ∷ s) - 2) = omega arith in
    ap (λ n. is_flag (drop n (x ∷ y ∷ z ∷ s))) e ∙ flag-not (y ∷ z ∷ s) (cut-not 32 x (y ∷ z ∷ s) h).1

-- a text without a space
pub unflagged-clean : (s : List ℕ) → cut 32 s ≡ None → unflagged s ≡ s
unflagged-clean s h = let n = length s - 2 in sym (no (is_flag (drop n s)) (take n s) s (flag-not s h))
