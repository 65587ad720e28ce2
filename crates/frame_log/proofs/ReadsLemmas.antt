-- Lemmas on how the parts of a line are read.
use Rattle.std.proofs.Common.{◌≡◌, ◌∙◌, ◌==◌, ◌<◌, ◌≤◌, ℕ, suc, ◌+◌, ◌*◌, Bool, true, false, List, [], ◌∷◌, ◌++◌, Option, Some, None, refl, sym, ap, ap₂, subst, length, take, drop, get_or, arith, append_assoc, append-nil, length-append}
use Rattle.std.specs.Prelude.{if◌then◌else◌, ◌||◌, nat_lt, nat_le, unwrap_or}
use Rattle.std.proofs.lemmas.Bool.Decides.{nat_tests}
use Rattle.std.proofs.lemmas.Grind.{common_steps}
use Rattle.std.proofs.lemmas.List.{take-append-drop, get_or-drop, get_or-take}
use Rattle.std.proofs.Math.Seq.{take-add, drop-cons, take-append-add, take-append_seam, drop-append_seam}
use Rattle.frame_log.specs.Line.{◌>>=◌, Said, NoForm, Nothing, Frame, after, cut, front, decimal_from, hex_digit, hex_from, seconds_of, micros_of, bus_of, ident_of, bus_at, pairs_of, is_length, bytes_of, hex_or, remote_or, data_of, unflagged, frame_of, frame_on, behind_ident, behind_bus, form_of, without_return, said_of_text, said_of}
use Rattle.frame_log.specs.Steps.{IsLine}
use Rattle.frame_log.specs.Reads.{front_of, bus_in, IsClean, Reads, IsHex, IsData}
use Rattle.frame_log.proofs.LineLemmas.{yes, no, some_is}
use Rattle.frame_log.proofs.PairLemmas.{take-less}
use Rattle.frame_log.proofs.CleanLemmas.{cut-cons, cut-both, cut-at, cut-found, apart, decimal-clean, hex-clean, pairs-clean, clean-both, after-none, without_return-clean, unflagged-clean}

-- a step of reading that gave something
bound : {A B : Type 0} (o : Option A) (f : A → Option B) (y : B) → (o >>= f) ≡ Some y → (x : A) × (o ≡ Some x) × (f x ≡ Some y)
bound None f y h = absurd cc
bound (Some x) f y h = (x, refl, h)

when : {X : Type 0} (t : Bool) (o : Option X) (y : X) → (if t then None else o) ≡ Some y → (t ≡ false) × (o ≡ Some y)
when true o y h = absurd cc
when false o y h = (refl, h)

after-some : (b : ℕ) (s r : List ℕ) → after b s ≡ Some r → s ≡ b ∷ r
after-some b [] r h = absurd cc
after-some b (x ∷ s) r h = go (x == b) refl h
  where
    go : (v : Bool) → (x == b) ≡ v → (if v then Some s else None) ≡ Some r → x ∷ s ≡ b ∷ r
    go true e k = ap₂ (λ (y : ℕ) (t : List ℕ). y ∷ t) (grind (arith, nat_tests)) (some_is _ _ k)
    go false e k = absurd cc

front-some : (n : ℕ) (s : List ℕ) (p : List ℕ × List ℕ) → front n s ≡ Some p → (n ≤ length s) × (p ≡ (take n s, drop n s))
front-some n s p h = let w = when (nat_lt (length s) n) (Some (take n s, drop n s)) p h in (le (length s) n w.0, sym (some_is _ _ w.1))
  where
    le : (a b : ℕ) → nat_lt a b ≡ false → b ≤ a
    le a b e = grind (arith, nat_tests)

front-again : (n : ℕ) (p t : List ℕ) → length p ≡ n → front n (p ++ t) ≡ Some (p, t)
front-again n p t h =
    let l : nat_lt (length (p ++ t)) n ≡ false = long (length p) (length t) n (length (p ++ t)) h (length-append p t) in
    sym (no (nat_lt (length (p ++ t)) n) None (Some (take n (p ++ t), drop n (p ++ t))) l)
    ∙ ap₂ (λ a b. Some (a, b)) (ap (λ k. take k (p ++ t)) (sym h) ∙ take-append_seam p t) (ap (λ k. drop k (p ++ t)) (sym h) ∙ drop-append_seam p t)
  where
    long : (a b n c : ℕ) → a ≡ n → c ≡ a + b → nat_lt c n ≡ false
    long a b n c e f = grind (arith, nat_tests)

length-front : (n : ℕ) (s : List ℕ) → n ≤ length s → length (take n s) ≡ n
length-front n s h = grind (arith, common_steps)

-- MICROS
pub micros-again : (d t : List ℕ) (m : ℕ) → length d ≡ 6 → decimal_from 0 d ≡ Some m → micros_of (d ++ 41 ∷ 32 ∷ t) ≡ Some (m, t)
micros-again d t m l e =
    ap (λ (o : Option (List ℕ × List ℕ)). o >>= (λ p. decimal_from 0 p.0 >>= (λ micros. after 41 p.1 >>= (λ a. after 32 a >>= (λ b. Some (micros, b)))))) (front-again 6 d (41 ∷ 32 ∷ t) l)
    ∙ ap (λ (o : Option ℕ). o >>= (λ micros. Some (micros, t))) e

pub micros-reads : (s r : List ℕ) (m : ℕ) → micros_of s ≡ Some (m, r) → Reads micros_of s 8 m
micros-reads s r m h =
    let p = bound (front 6 s) _ (m, r) h in
    let f = front-some 6 s p.0 p.1 in
    let d = bound (decimal_from 0 p.0.0) _ (m, r) p.2 in
    let a = bound (after 41 p.0.1) _ (m, r) d.2 in
    let b = bound (after 32 a.0) _ (m, r) a.2 in
    let digits : decimal_from 0 (take 6 s) ≡ Some m = ap (λ (q : List ℕ × List ℕ). decimal_from 0 q.0) (sym f.1) ∙ d.1 ∙ ap (λ (q : ℕ × List ℕ). Some q.0) (some_is _ _ b.2) in
    let rest : drop 6 s ≡ 41 ∷ 32 ∷ b.0 = ap (λ (q : List ℕ × List ℕ). q.1) (sym f.1) ∙ after-some 41 p.0.1 a.0 a.1 ∙ ap (λ t. 41 ∷ t) (after-some 32 a.0 b.0 b.1) in
    let split : take 8 s ≡ take 6 s ++ 41 ∷ 32 ∷ [] = take-add 6 2 s ∙ ap (λ t. take 6 s ++ take 2 t) rest in record {
      is = λ t. ap (λ x. micros_of (x ++ t)) split ∙ ap micros_of (append_assoc (take 6 s) (41 ∷ 32 ∷ []) t) ∙ micros-again (take 6 s) t m (length-front 6 s f.0) digits;
      clean = (
        ap (cut 10) split ∙ cut-both 10 (take 6 s) (41 ∷ 32 ∷ []) (decimal-clean 10 0 m (take 6 s) refl digits) refl,
        ap (cut 13) split ∙ cut-both 13 (take 6 s) (41 ∷ 32 ∷ []) (decimal-clean 13 0 m (take 6 s) refl digits) refl,
      );
    }

-- IDENT
ident-again : (d t : List ℕ) (v : ℕ) → length d ≡ 8 → hex_from 0 d ≡ Some v → ident_of 8 (d ++ 35 ∷ t) ≡ Some (v, t)
ident-again d t v l e =
    ap (λ (o : Option (List ℕ × List ℕ)). o >>= (λ p. hex_from 0 p.0 >>= (λ ident. after 35 p.1 >>= (λ a. Some (ident, a))))) (front-again 8 d (35 ∷ t) l)
    ∙ ap (λ (o : Option ℕ). o >>= (λ ident. Some (ident, t))) e

pub ident-reads : (s : List ℕ) (v : ℕ) → 9 ≤ length s → hex_from 0 (take 8 s) ≡ Some v → get_or s 8 0 ≡ 35 → Reads (ident_of 8) s 9 v
ident-reads s v l h e =
    let rest : drop 8 s ≡ 35 ∷ drop 9 s = drop-cons s 8 0 (omega (arith, l)) ∙ ap (λ x. x ∷ drop 9 s) e in
    let split : take 9 s ≡ take 8 s ++ 35 ∷ [] = take-add 8 1 s ∙ ap (λ t. take 8 s ++ take 1 t) rest in record {
      is = λ t. ap (λ x. ident_of 8 (x ++ t)) split ∙ ap (ident_of 8) (append_assoc (take 8 s) (35 ∷ []) t) ∙ ident-again (take 8 s) t v (length-front 8 s (omega (arith, l))) h;
      clean = (
        ap (cut 10) split ∙ cut-both 10 (take 8 s) (35 ∷ []) (hex-clean 10 0 v (take 8 s) refl h) refl,
        ap (cut 13) split ∙ cut-both 13 (take 8 s) (35 ∷ []) (hex-clean 13 0 v (take 8 s) refl h) refl,
      );
    }

-- BUS
bus-again : (name t : List ℕ) → cut 32 name ≡ None → ((length name == 0) || nat_lt 15 (length name)) ≡ false → bus_of (name ++ 32 ∷ t) ≡ Some (name, t)
bus-again name t h e =
    ap (λ (o : Option (List ℕ × List ℕ)). o >>= (λ p. if (length p.0 == 0) || nat_lt 15 (length p.0) then None else Some p)) (cut-at 32 name t h)
    ∙ sym (no ((length name == 0) || nat_lt 15 (length name)) None (Some (name, t)) e)

bus_in-named : (buses : List (List ℕ)) (s name t : List ℕ) (k : ℕ) → bus_of s ≡ Some (name, t) → bus_at buses name ≡ Some k → bus_in buses s ≡ Some (k, t)
bus_in-named buses s name t k h e =
    ap (λ (o : Option (List ℕ × List ℕ)). o >>= (λ name. bus_at buses name.0 >>= (λ bus. Some (bus, name.1)))) h
    ∙ ap (λ (o : Option ℕ). o >>= (λ bus. Some (bus, t))) e

pub bus-reads : (buses : List (List ℕ)) (s name r : List ℕ) (k : ℕ) → bus_of s ≡ Some (name, r) → bus_at buses name ≡ Some k → IsClean (take (length name + 1) s) → Reads (bus_in buses) s (length name + 1) k
bus-reads buses s name r k h e clean =
    let p = bound (cut 32 s) _ (name, r) h in
    let w = when ((length p.0.0 == 0) || nat_lt 15 (length p.0.0)) (Some p.0) (name, r) p.2 in
    let is : p.0 ≡ (name, r) = some_is _ _ w.1 in
    let f = cut-found 32 s name r (p.1 ∙ ap Some is) in
    let fits : ((length name == 0) || nat_lt 15 (length name)) ≡ false = subst (λ (q : List ℕ × List ℕ). ((length q.0 == 0) || nat_lt 15 (length q.0)) ≡ false) is w.0 in
    let split : take (length name + 1) s ≡ name ++ 32 ∷ [] = ap (take (length name + 1)) f.1 ∙ take-append-add name (32 ∷ r) 1 in record {
      is = λ t. ap (λ x. bus_in buses (x ++ t)) split ∙ ap (bus_in buses) (append_assoc name (32 ∷ []) t)
          ∙ bus_in-named buses (name ++ 32 ∷ t) name t k (bus-again name t f.0 fits) e;
      clean = clean;
    }

-- SECONDS
seconds-again : (d t : List ℕ) (v : ℕ) → cut 46 d ≡ None → ((length d == 0) || nat_lt 12 (length d)) ≡ false → decimal_from 0 d ≡ Some v → seconds_of (d ++ 46 ∷ t) ≡ Some (v, t)
seconds-again d t v h e n =
    ap (λ (o : Option (List ℕ × List ℕ)). o >>= (λ p. decimal_from 0 p.0 >>= (λ seconds. if (length p.0 == 0) || nat_lt 12 (length p.0) then None else Some (seconds, p.1)))) (cut-at 46 d t h)
    ∙ ap (λ (o : Option ℕ). o >>= (λ seconds. if (length d == 0) || nat_lt 12 (length d) then None else Some (seconds, t))) n
    ∙ sym (no ((length d == 0) || nat_lt 12 (length d)) None (Some (v, t)) e)

pub front-reads : (s a r : List ℕ) (v n : ℕ) → after 40 s ≡ Some a → seconds_of a ≡ Some (v, r) → n + length r ≡ length s → n ≤ 16 → IsClean (take n s) → Reads front_of (take 16 s) n v
front-reads s a r v n h e l short clean =
    let p = bound (cut 46 a) _ (v, r) e in
    let d = bound (decimal_from 0 p.0.0) _ (v, r) p.2 in
    let w = when ((length p.0.0 == 0) || nat_lt 12 (length p.0.0)) (Some (d.0, p.0.1)) (v, r) d.2 in
    let is : (d.0, p.0.1) ≡ (v, r) = some_is _ _ w.1 in
    let digits = p.0.0 in
    let f = cut-found 46 a digits p.0.1 p.1 in
    let whole : s ≡ (40 ∷ digits ++ 46 ∷ []) ++ r = after-some 40 s a h ∙ ap (λ t. 40 ∷ t) f.1 ∙ ap (λ t. 40 ∷ (digits ++ 46 ∷ t)) (ap (λ (q : ℕ × List ℕ). q.1) is) ∙ ap (λ t. 40 ∷ t) (sym (append_assoc digits (46 ∷ []) r)) in
    let count : length s ≡ length (40 ∷ digits ++ 46 ∷ []) + length r = ap length whole ∙ length-append (40 ∷ digits ++ 46 ∷ []) r in
    let same : n ≡ length (40 ∷ digits ++ 46 ∷ []) = omega (arith, l, count) in
    let read : decimal_from 0 digits ≡ Some v = d.1 ∙ ap (λ (q : ℕ × List ℕ). Some q.0) is in
    let split : take n s ≡ 40 ∷ digits ++ 46 ∷ [] = ap₂ take same whole ∙ take-append_seam (40 ∷ digits ++ 46 ∷ []) r in
    let part : take n (take 16 s) ≡ take n s = take-less n 16 s short in record {
      is = λ t. ap (λ x. front_of (x ++ t)) (part ∙ split) ∙ ap (λ x. seconds_of x) (append_assoc digits (46 ∷ []) t) ∙ seconds-again digits t v f.0 w.0 read;
      clean = subst IsClean (sym part) clean;
    }

-- where the first n bytes of another text are the same
pub reads-same : (read : List ℕ → Option (ℕ × List ℕ)) (s t : List ℕ) (n v : ℕ) → take n t ≡ take n s → Reads read s n v → Reads read t n v
reads-same read s t n v e r = record {
  is = λ u. ap (λ x. read (x ++ u)) e ∙ r.is u;
  clean = subst IsClean (sym e) r.clean;
}

-- the first bytes of a vector that is kept
pub reads-stored : (read : List ℕ → Option (ℕ × List ℕ)) (s text : List ℕ) (n m v : ℕ) → n ≤ m → n ≤ 16 → take m (take 16 s) ≡ take m text → Reads read text n v → Reads read s n v
reads-stored read s text n m v le short e r =
    let same : take n s ≡ take n text = sym (take-less n 16 s short) ∙ sym (take-less n m (take 16 s) le) ∙ ap (take n) e ∙ take-less n m text le in
    reads-same read text s n v same r

-- DATA
bytes-is : (fd : Bool) (s bytes : List ℕ) → pairs_of s ≡ Some bytes → is_length fd (length bytes) ≡ true → bytes_of fd s ≡ Some bytes
bytes-is fd s bytes h e = ap (λ (o : Option (List ℕ)). o >>= (λ bytes. if is_length fd (length bytes) then Some bytes else None)) h ∙ sym (yes (is_length fd (length bytes)) (Some bytes) None e)

pub data-classic : (s bytes : List ℕ) → pairs_of s ≡ Some bytes → is_length false (length bytes) ≡ true → data_of (unflagged s) ≡ Some (Some bytes)
data-classic s bytes h e =
    ap data_of (unflagged-clean s (pairs-clean 32 s bytes refl h))
    ∙ ap (remote_or s) (after-none 82 s (pairs-clean 82 s bytes refl h))
    ∙ ap (hex_or s) (after-none 35 s (pairs-clean 35 s bytes refl h))
    ∙ ap (λ (o : Option (List ℕ)). o >>= (λ bytes. Some (Some bytes))) (bytes-is false s bytes h e)

pub data-fd : (f : ℕ) (s bytes : List ℕ) → nat_lt 15 (hex_digit f) ≡ false → pairs_of s ≡ Some bytes → is_length true (length bytes) ≡ true → data_of (unflagged (35 ∷ f ∷ s)) ≡ Some (Some bytes)
data-fd f s bytes d h e =
    ap data_of (unflagged-clean (35 ∷ f ∷ s) (cut-cons 32 35 (f ∷ s) refl (cut-cons 32 f s (apart (λ y. nat_lt 15 (hex_digit y)) f 32 d refl) (pairs-clean 32 s bytes refl h))))
    ∙ ap (λ (o : Option (List ℕ × List ℕ)). (o >>= (λ p. hex_from 0 p.0 >>= (λ flags. bytes_of true p.1))) >>= (λ bytes. Some (Some bytes))) (front-again 1 (f ∷ []) s refl)
    ∙ ap (λ (o : Option ℕ). (o >>= (λ flags. bytes_of true s)) >>= (λ bytes. Some (Some bytes))) (sym (no (nat_lt 15 (hex_digit f)) None (Some (0 * 16 + hex_digit f)) d))
    ∙ ap (λ (o : Option (List ℕ)). o >>= (λ bytes. Some (Some bytes))) (bytes-is true s bytes h e)

pub pairs-are-clean : (s bytes : List ℕ) → pairs_of s ≡ Some bytes → IsClean s
pairs-are-clean s bytes h = (pairs-clean 10 s bytes refl h, pairs-clean 13 s bytes refl h)

pub fd-is-clean : (f : ℕ) (s bytes : List ℕ) → nat_lt 15 (hex_digit f) ≡ false → pairs_of s ≡ Some bytes → IsClean (35 ∷ f ∷ s)
fd-is-clean f s bytes d h = (
  cut-cons 10 35 (f ∷ s) refl (cut-cons 10 f s (apart (λ y. nat_lt 15 (hex_digit y)) f 10 d refl) (pairs-clean 10 s bytes refl h)),
  cut-cons 13 35 (f ∷ s) refl (cut-cons 13 f s (apart (λ y. nat_lt 15 (hex_digit y)) f 13 d refl) (pairs-clean 13 s bytes refl h)),
)

-- the hex digits of these bytes, and nothing more
hex-alone : (s bytes : List ℕ) (n : ℕ) → IsHex s n bytes → pairs_of (take n s) ≡ Some bytes
hex-alone s bytes n f = ap pairs_of (sym (append-nil (take n s))) ∙ f [] ∙ ap Some (append-nil bytes)

pub classic-data : (s bytes : List ℕ) (n : ℕ) → IsHex s (2 * n) bytes → n ≡ length bytes → n ≤ 8 → get_or s (2 * n) 0 ≡ 10 → IsData s (2 * n) bytes
classic-data s bytes n h e le end =
    let p = hex-alone s bytes (2 * n) h in record {
      is = data-classic (take (2 * n) s) bytes p (ap (is_length false) (sym e) ∙ fits n le);
      clean = pairs-are-clean (take (2 * n) s) bytes p;
      end = end;
    }
  where
    fits : (n : ℕ) → n ≤ 8 → nat_le n 8 ≡ true
    fits n le = grind (arith, nat_tests)

pub fd-data : (s hex bytes : List ℕ) (n f : ℕ) → 2 ≤ length s → get_or s 0 0 ≡ 35 → get_or s 1 0 ≡ f → nat_lt 15 (hex_digit f) ≡ false → hex ≡ drop 2 s
    → IsHex hex (2 * n) bytes → n ≡ length bytes → is_length true n ≡ true → get_or hex (2 * n) 0 ≡ 10 → IsData s (2 * n + 2) bytes
fd-data s hex bytes n f two sharp flags digit rest h e fits end =
    let p = hex-alone hex bytes (2 * n) h in
    let front : s ≡ 35 ∷ f ∷ hex = drop-cons s 0 0 (omega (arith, two)) ∙ ap₂ (λ (x : ℕ) (t : List ℕ). x ∷ t) sharp (drop-cons s 1 0 (omega (arith, two)) ∙ ap₂ (λ (x : ℕ) (t : List ℕ). x ∷ t) flags (sym rest)) in
    let count : 2 * n + 2 ≡ suc (suc (2 * n)) = omega arith in
    let split : take (2 * n + 2) s ≡ 35 ∷ f ∷ take (2 * n) hex = ap₂ take count front in record {
      is = ap (λ t. data_of (unflagged t)) split ∙ data-fd f (take (2 * n) hex) bytes digit p (ap (is_length true) (sym e) ∙ fits);
      clean = subst IsClean (sym split) (fd-is-clean f (take (2 * n) hex) bytes digit p);
      end = ap₂ (λ k t. get_or t k 0) count front ∙ end;
    }

-- a line of these parts
form-is : (buses : List (List ℕ)) (p m b i d bytes : List ℕ) (seconds micros bus ident : ℕ)
    → ((t : List ℕ) → front_of (p ++ t) ≡ Some (seconds, t)) → ((t : List ℕ) → micros_of (m ++ t) ≡ Some (micros, t)) → ((t : List ℕ) → bus_in buses (b ++ t) ≡ Some (bus, t))
    → ((t : List ℕ) → ident_of 8 (i ++ t) ≡ Some (ident, t)) → ident ≤ 0x1FFF_FFFF → data_of (unflagged d) ≡ Some (Some bytes)
    → form_of buses (p ++ (m ++ (b ++ (i ++ d)))) ≡ Some (Frame (seconds * 1_000_000 + micros) bus ident bytes)
form-is buses p m b i d bytes seconds micros bus ident hp hm hb hi le hd =
    let text = p ++ (m ++ (b ++ (i ++ d))) in
    let x = bound (after 40 text) seconds_of (seconds, m ++ (b ++ (i ++ d))) (hp (m ++ (b ++ (i ++ d)))) in
    let y = bound (bus_of (b ++ (i ++ d))) (λ name. bus_at buses name.0 >>= (λ bus. Some (bus, name.1))) (bus, i ++ d) (hb (i ++ d)) in
    let z = bound (bus_at buses y.0.0) (λ bus. Some (bus, y.0.1)) (bus, i ++ d) y.2 in
    let same : (z.0, y.0.1) ≡ (bus, i ++ d) = some_is _ _ z.2 in
    let moment = seconds * 1_000_000 + micros in
    let rest : y.0.1 ≡ i ++ d = ap (λ (q : ℕ × List ℕ). q.1) same in
    let at : bus_at buses y.0.0 ≡ Some bus = z.1 ∙ ap (λ (q : ℕ × List ℕ). Some q.0) same in
    ap (λ (o : Option (List ℕ)). o >>= (λ a. seconds_of a >>= (λ seconds. micros_of seconds.1 >>= (λ micros. bus_of micros.1 >>= (λ bus. behind_bus buses (seconds.0 * 1_000_000 + micros.0) bus.0 bus.1))))) x.1
    ∙ ap (λ (o : Option (ℕ × List ℕ)). o >>= (λ seconds. micros_of seconds.1 >>= (λ micros. bus_of micros.1 >>= (λ bus. behind_bus buses (seconds.0 * 1_000_000 + micros.0) bus.0 bus.1)))) x.2
    ∙ ap (λ (o : Option (ℕ × List ℕ)). o >>= (λ micros. bus_of micros.1 >>= (λ bus. behind_bus buses (seconds * 1_000_000 + micros.0) bus.0 bus.1))) (hm (b ++ (i ++ d)))
    ∙ ap (λ (o : Option (List ℕ × List ℕ)). o >>= (λ bus. behind_bus buses moment bus.0 bus.1)) y.1
    ∙ ap (λ (t : List ℕ). behind_bus buses moment y.0.0 t) rest
    ∙ ap (λ (o : Option (ℕ × List ℕ)). behind_ident buses moment y.0.0 (i ++ d) o) (hi d)
    ∙ ap (λ (o : Option (Option (List ℕ))). o >>= (λ bytes. Some (frame_of buses moment y.0.0 ident bytes))) hd
    ∙ ap Some (sym (no (nat_lt 0x1FFF_FFFF ident) Nothing (frame_on moment ident bytes (bus_at buses y.0.0)) (above ident le)))
    ∙ ap (λ (o : Option ℕ). Some (frame_on moment ident bytes o)) at
  where
    above : (v : ℕ) → v ≤ 0x1FFF_FFFF → nat_lt 0x1FFF_FFFF v ≡ false
    above v h = grind (arith, nat_tests)

said-is : (buses : List (List ℕ)) (line : List ℕ) (said : Said) → 0 < length line → length line ≤ 4096 → cut 13 line ≡ None → form_of buses line ≡ Some said → said_of buses line ≡ said
said-is buses line said some short clean form =
    sym (no (nat_lt 4096 (length line)) NoForm (said_of_text buses (without_return line)) (within (length line) short))
    ∙ ap (said_of_text buses) (without_return-clean line clean)
    ∙ sym (no (length line == 0) Nothing (unwrap_or (form_of buses line) NoForm) (above (length line) some))
    ∙ ap (λ (o : Option Said). unwrap_or o NoForm) form
  where
    within : (n : ℕ) → n ≤ 4096 → nat_lt 4096 n ≡ false
    within n h = grind (arith, nat_tests)

    above : (n : ℕ) → 0 < n → (n == 0) ≡ false
    above n h = grind (arith, nat_tests)

-- a newline behind clean bytes
pub line-at : (w : List ℕ) (q : ℕ) → q < length w → get_or w q 0 ≡ 10 → cut 10 (take q w) ≡ None → IsLine w q
line-at w q l e clean =
    let next : suc q ≡ q + 1 = omega arith in
    let rest : drop q w ≡ 10 ∷ drop (q + 1) w = drop-cons w q 0 l ∙ ap₂ (λ (x : ℕ) (k : ℕ). x ∷ drop k w) e next in
    (l, ap (cut 10) (sym (take-append-drop q w) ∙ ap (λ t. take q w ++ t) rest) ∙ cut-at 10 (take q w) (drop (q + 1) w) clean)

pub record IsSeen (buses : List (List ℕ)) (w : List ℕ) (q : ℕ) (said : Said) : Type 0 where
  pub line : IsLine w q
  pub said_is : said_of buses (take q w) ≡ said

-- the parts of a line, one behind the other
pub seen-is : (buses : List (List ℕ)) (w s1 s2 s3 s4 bytes : List ℕ) (k n m q seconds micros bus ident : ℕ) → s1 ≡ drop k w → s2 ≡ drop 8 s1 → s3 ≡ drop n s2 → s4 ≡ drop 9 s3
    → Reads front_of w k seconds → Reads micros_of s1 8 micros → Reads (bus_in buses) s2 n bus → Reads (ident_of 8) s3 9 ident → ident ≤ 0x1FFF_FFFF → IsData s4 m bytes
    → q ≡ k + (8 + (n + (9 + m))) → q < length w → length w ≡ 256 → IsSeen buses w q (Frame (seconds * 1_000_000 + micros) bus ident bytes)
seen-is buses w s1 s2 s3 s4 bytes k n m q seconds micros bus ident e1 e2 e3 e4 rf rm rb ri le hex total within wide =
    let text = take k w ++ (take 8 s1 ++ (take n s2 ++ (take 9 s3 ++ take m s4))) in
    let split : take q w ≡ text = ap (λ x. take x w) total ∙ take-add k (8 + (n + (9 + m))) w ∙ ap (λ t. take k w ++ take (8 + (n + (9 + m))) t) (sym e1)
    ∙ ap (λ t. take k w ++ t) (take-add 8 (n + (9 + m)) s1 ∙ ap (λ t. take 8 s1 ++ take (n + (9 + m)) t) (sym e2)
    ∙ ap (λ t. take 8 s1 ++ t) (take-add n (9 + m) s2 ∙ ap (λ t. take n s2 ++ take (9 + m) t) (sym e3)
    ∙ ap (λ t. take n s2 ++ t) (take-add 9 m s3 ∙ ap (λ t. take 9 s3 ++ take m t) (sym e4)))) in
    let clean : IsClean text = clean-both (take k w) _ rf.clean (clean-both (take 8 s1) _ rm.clean (clean-both (take n s2) _ rb.clean (clean-both (take 9 s3) (take m s4) ri.clean hex.clean))) in
    let here : IsClean (take q w) = subst IsClean (sym split) clean in
    let end : get_or w q 0 ≡ 10 = ap (λ x. get_or w x 0) total
    ∙ sym (get_or-drop k w (8 + (n + (9 + m))) 0) ∙ ap (λ t. get_or t (8 + (n + (9 + m))) 0) (sym e1)
    ∙ sym (get_or-drop 8 s1 (n + (9 + m)) 0) ∙ ap (λ t. get_or t (n + (9 + m)) 0) (sym e2)
    ∙ sym (get_or-drop n s2 (9 + m) 0) ∙ ap (λ t. get_or t (9 + m) 0) (sym e3)
    ∙ sym (get_or-drop 9 s3 m 0) ∙ ap (λ t. get_or t m 0) (sym e4) ∙ hex.end in
    let count : length (take q w) ≡ q = length-front q w (omega (arith, within)) in record {
      line = line-at w q within end here.0;
      said_is = said-is buses (take q w) _ (omega (arith, count, total)) (omega (arith, count, within, wide)) here.1
          (ap (form_of buses) split ∙ form-is buses (take k w) (take 8 s1) (take n s2) (take 9 s3) (take m s4) bytes seconds micros bus ident rf.is rm.is rb.is ri.is le hex.is);
    }

seam : (p t : List ℕ) (x : ℕ) → get_or (p ++ x ∷ t) (length p) 0 ≡ x
seam [] t x = refl
seam (y ∷ p) t x = seam p t x

pub record Agrees (w h : List ℕ) (i : ℕ) : Type 0 where
  pub line : IsLine h i
  pub same : take i w ≡ take i h

-- a line of a window is one of the bytes that are kept, where it and its newline stand among them
pub line-kept : (w h : List ℕ) (i : ℕ) → IsLine w i → i < length h → take (i + 1) w ≡ take (i + 1) h → Agrees w h i
line-kept w h i is l e =
    let f = cut-found 10 w (take i w) (drop (i + 1) w) is.1 in
    let count : length (take i w) ≡ i = length-front i w (omega (arith, is.0)) in
    let newline : get_or w i 0 ≡ 10 = ap (λ t. get_or t i 0) f.1 ∙ ap (λ n. get_or (take i w ++ 10 ∷ drop (i + 1) w) n 0) (sym count) ∙ seam (take i w) (drop (i + 1) w) 10 in
    let there : get_or h i 0 ≡ 10 = sym (get_or-take (i + 1) h i 0 (omega arith)) ∙ ap (λ t. get_or t i 0) (sym e) ∙ get_or-take (i + 1) w i 0 (omega arith) ∙ newline in
    let same : take i w ≡ take i h = sym (take-less i (i + 1) w (omega arith)) ∙ ap (take i) e ∙ take-less i (i + 1) h (omega arith) in record {
      line = line-at h i l there (ap (cut 10) (sym same) ∙ f.0);
      same = same;
    }
