-- Lemmas on the log behind the bytes that are kept.
use Rattle.std.proofs.Common.{◌≡◌, ◌∙◌, ◌==◌, ◌<◌, ◌≤◌, ℕ, suc, ◌+◌, Bool, true, false, List, [], ◌∷◌, ◌++◌, Option, Some, None, refl, sym, ap, subst, length, take, drop, arith, append-nil, append_assoc, length-append, ◌⊎◌, inl, inr}
use Rattle.frame_log.specs.Input.{Took}
use Rattle.std.specs.Prelude.{if◌then◌else◌, nat_lt}
use Rattle.std.proofs.lemmas.Grind.{common_steps}
use Rattle.std.proofs.lemmas.Bool.Decides.{nat_tests}
use Rattle.tail_frame.specs.declared.logged.Record.{Record}
use Rattle.frame_log.specs.declared.error.LogError.TheVariants as error
use Rattle.frame_log.specs.declared.reader.step.Step.{Step}
use Rattle.frame_log.specs.declared.reader.step.Step.TheVariants as step
use Rattle.frame_log.specs.Line.{Said, NoForm, cut, said_of_text, without_return, ◌>>=◌}
use Rattle.frame_log.specs.Log.{Log, Place, Given, Skip, Take, Refuse, given, given_by, followed, ended, with_record, log_of_lines, lines_of, with_byte, last_line, log_from}
use Rattle.frame_log.specs.declared.reader.turn.Turn.{Turn}
use Rattle.frame_log.specs.Steps.{IsLine, IsGiven, IsStep, IsTurn}
use Rattle.frame_log.proofs.LineLemmas.{yes, no, some_is}
use Rattle.frame_log.proofs.CutLemmas.{longer}

-- the log of split lines, where there are more bytes than count or not
abbrev pub parts : List (List ℕ) → Bool → List (List ℕ) × List ℕ → Place → Log
parts buses more lines at = (if more
    then log_of_lines buses (Some error.LogLong) (lines.0 ++ last_line 4096 lines.1) at
    else log_of_lines buses None (lines.0 ++ last_line 0 lines.1) at)

take-past : (r : ℕ) (s rest : List ℕ) → take (r + length s) (s ++ rest) ≡ s ++ take r rest
take-past r [] rest = let e : r + 0 ≡ r = omega arith in ap (λ n. take n rest) e
take-past r (x ∷ xs) rest =
    let e : r + length (x ∷ xs) ≡ suc (r + length xs) = omega arith in
    ap (λ n. take n (x ∷ (xs ++ rest))) e ∙ ap (λ (t : List ℕ). x ∷ t) (take-past r xs rest)

-- bytes that count stand before the others
pub log_from-kept : (buses : List (List ℕ)) (r : ℕ) (s rest : List ℕ) (at : Place)
    → log_from buses (r + length s) (s ++ rest) at ≡ parts buses (nat_lt r (length rest)) (lines_of (s ++ take r rest)) at
log_from-kept buses r s rest at =
    let t : take (r + length s) (s ++ rest) ≡ s ++ take r rest = take-past r s rest in
    let l : length (s ++ rest) ≡ length s + length rest = length-append s rest in
    let b : nat_lt (r + length s) (length (s ++ rest)) ≡ nat_lt r (length rest) = test r (length s) (length rest) (length (s ++ rest)) l in
    ap (λ (x : List ℕ). parts buses (nat_lt (r + length s) (length (s ++ rest))) (lines_of x) at) t
    ∙ ap (λ (v : Bool). parts buses v (lines_of (s ++ take r rest)) at) b
  where
    test : (r a b c : ℕ) → c ≡ a + b → nat_lt (r + a) c ≡ nat_lt r b
    test r a b c e = grind (arith, nat_tests)

-- the first of split lines
parts-line : (buses : List (List ℕ)) (more : Bool) (line : List ℕ) (ls : List (List ℕ)) (tail : List ℕ) (at : Place)
    → parts buses more (line ∷ ls, tail) at ≡ followed (given buses at line) (λ new. parts buses more (ls, tail) new)
parts-line buses true line ls tail at = refl
parts-line buses false line ls tail at = refl

-- a line in front
abbrev pub with_line : List ℕ → List (List ℕ) × List ℕ → List (List ℕ) × List ℕ
with_line line p = (line ∷ p.0, p.1)

pub record CutAt (x : ℕ) (xs line behind : List ℕ) : Type 0 where
  pub more : List ℕ
  pub line_is : line ≡ x ∷ more
  pub rest : cut 10 xs ≡ Some (more, behind)

pub further : (x : ℕ) (xs line behind : List ℕ) (o : Option (List ℕ × List ℕ)) → cut 10 xs ≡ o → (o >>= longer x) ≡ Some (line, behind) → CutAt x xs line behind
further x xs line behind None e h = absurd cc
further x xs line behind (Some p) e h = let k : (x ∷ p.0, p.1) ≡ (line, behind) = some_is _ _ h in record {
  more = p.0;
  line_is = sym (ap (λ (q : List ℕ × List ℕ). q.0) k);
  rest = e ∙ ap (λ t. Some (p.0, t)) (ap (λ (q : List ℕ × List ℕ). q.1) k);
}

pub lines_of-newline : (x : ℕ) (s : List ℕ) → (x == 10) ≡ true → lines_of (x ∷ s) ≡ with_line [] (lines_of s)
lines_of-newline x s h = sym (yes (x == 10) (with_line [] (lines_of s)) (with_byte x (lines_of s)) h)

pub lines_of-byte : (x : ℕ) (s : List ℕ) → (x == 10) ≡ false → lines_of (x ∷ s) ≡ with_byte x (lines_of s)
lines_of-byte x s h = sym (no (x == 10) (with_line [] (lines_of s)) (with_byte x (lines_of s)) h)

pub lines_of-line : (s line behind rest : List ℕ) → cut 10 s ≡ Some (line, behind) → lines_of (s ++ rest) ≡ with_line line (lines_of (behind ++ rest))
lines_of-line [] line behind rest h = absurd cc
lines_of-line (x ∷ xs) line behind rest h = go (λ m k. lines_of-line xs m behind rest k) (x == 10) refl
  where
    go : ((m : List ℕ) → cut 10 xs ≡ Some (m, behind) → lines_of (xs ++ rest) ≡ with_line m (lines_of (behind ++ rest))) → (v : Bool) → (x == 10) ≡ v → lines_of ((x ∷ xs) ++ rest) ≡ with_line line (lines_of (behind ++ rest))
    go more true e =
        let k : Some (([], xs)) ≡ Some (line, behind) = yes (x == 10) (Some (([], xs))) (cut 10 xs >>= longer x) e ∙ h in
        let p : ([], xs) ≡ (line, behind) = some_is _ _ k in
        lines_of-newline x (xs ++ rest) e ∙ ap (λ (q : List ℕ × List ℕ). with_line q.0 (lines_of (q.1 ++ rest))) p
    go more false e =
        let k : (cut 10 xs >>= longer x) ≡ Some (line, behind) = no (x == 10) (Some (([], xs))) (cut 10 xs >>= longer x) e ∙ h in
        let c = further x xs line behind (cut 10 xs) refl k in
        lines_of-byte x (xs ++ rest) e ∙ ap (with_byte x) (more c.more c.rest) ∙ ap (λ (l : List ℕ). with_line l (lines_of (behind ++ rest))) (sym c.line_is)

-- bytes without a newline go to the front of what follows
abbrev with_front : List ℕ → List (List ℕ) × List ℕ → List (List ℕ) × List ℕ
with_front s p = first p.0
  where
    first : List (List ℕ) → List (List ℕ) × List ℕ
    first [] = ([], s ++ p.1)
    first (l ∷ ls) = ((s ++ l) ∷ ls, p.1)

with_byte-front : (x : ℕ) (s : List ℕ) (ls : List (List ℕ)) (tail : List ℕ) → with_byte x (with_front s (ls, tail)) ≡ with_front (x ∷ s) (ls, tail)
with_byte-front x s [] tail = refl
with_byte-front x s (l ∷ ls) tail = refl

with_front-none : (ls : List (List ℕ)) (tail : List ℕ) → (ls, tail) ≡ with_front [] (ls, tail)
with_front-none [] tail = refl
with_front-none (l ∷ ls) tail = refl

lines_of-front : (s rest : List ℕ) → cut 10 s ≡ None → lines_of (s ++ rest) ≡ with_front s (lines_of rest)
lines_of-front [] rest h = with_front-none (lines_of rest).0 (lines_of rest).1
lines_of-front (x ∷ xs) rest h = go (λ k. lines_of-front xs rest k) (x == 10) refl
  where
    not_none : (p : List ℕ × List ℕ) → Some p ≡ None → ⊥
    not_none p h = cc

    none : (o : Option (List ℕ × List ℕ)) → (o >>= longer x) ≡ None → o ≡ None
    none None e = refl
    none (Some p) e = absurd cc

    go : (cut 10 xs ≡ None → lines_of (xs ++ rest) ≡ with_front xs (lines_of rest)) → (v : Bool) → (x == 10) ≡ v → lines_of ((x ∷ xs) ++ rest) ≡ with_front (x ∷ xs) (lines_of rest)
    go more true e = absurd (not_none ([], xs) (yes (x == 10) (Some (([], xs))) (cut 10 xs >>= longer x) e ∙ h))
    go more false e =
        let k : (cut 10 xs >>= longer x) ≡ None = no (x == 10) (Some (([], xs))) (cut 10 xs >>= longer x) e ∙ h in
        lines_of-byte x (xs ++ rest) e ∙ ap (with_byte x) (more (none _ k)) ∙ with_byte-front x xs (lines_of rest).0 (lines_of rest).1

-- the first line of what is kept
pub log_from-line : (buses : List (List ℕ)) (r : ℕ) (s rest : List ℕ) (i : ℕ) (at : Place) → IsLine s i
    → log_from buses (r + length s) (s ++ rest) at ≡ followed (given buses at (take i s)) (λ new. log_from buses (r + length (drop (i + 1) s)) (drop (i + 1) s ++ rest) new)
log_from-line buses r s rest i at h =
    let t = take r rest in
    log_from-kept buses r s rest at
    ∙ ap (λ (p : List (List ℕ) × List ℕ). parts buses (nat_lt r (length rest)) p at) (lines_of-line s (take i s) (drop (i + 1) s) t h.1)
    ∙ parts-line buses (nat_lt r (length rest)) (take i s) (lines_of (drop (i + 1) s ++ t)).0 (lines_of (drop (i + 1) s ++ t)).1 at
    ∙ same (given buses at (take i s)) (λ new. parts buses (nat_lt r (length rest)) (lines_of (drop (i + 1) s ++ t)) new) (λ new. log_from buses (r + length (drop (i + 1) s)) (drop (i + 1) s ++ rest) new)
    (λ new. sym (log_from-kept buses r (drop (i + 1) s) rest new))
  where
    same : (x : Given) (f g : Place → Log) → ((new : Place) → f new ≡ g new) → followed x f ≡ followed x g
    same (Skip at) f g h = h at
    same (Take r at) f g h = ap (with_record r) (h at)
    same (Refuse e) f g h = refl

-- a step by what a line gives
pub step-given : (x : Given) (q : Step) (w : Record) (new : Place) (f : Place → Log) (before : Log) → IsGiven x q w new → before ≡ followed x f → IsStep before q w (f new)
step-given (Skip at) step.Skipped w new f before h e = e ∙ ap f (sym h)
step-given (Skip at) step.NoLine w new f before h e = absurd h
step-given (Skip at) step.Record w new f before h e = absurd h
step-given (Skip at) (step.Refused r) w new f before h e = absurd h
step-given (Take r at) step.Record w new f before h e = e ∙ ap (λ p. with_record p (f at)) (sym h.0) ∙ ap (λ p. with_record w (f p)) (sym h.1)
step-given (Take r at) step.NoLine w new f before h e = absurd h
step-given (Take r at) step.Skipped w new f before h e = absurd h
step-given (Take r at) (step.Refused q) w new f before h e = absurd h
step-given (Refuse x) (step.Refused q) w new f before h e = e ∙ ap (λ p. ended (Some p)) (sym h)
step-given (Refuse x) step.NoLine w new f before h e = absurd h
step-given (Refuse x) step.Skipped w new f before h e = absurd h
step-given (Refuse x) step.Record w new f before h e = absurd h

-- a line of more than 4,096 bytes
given-long : (buses : List (List ℕ)) (at : Place) (line : List ℕ) → 4096 < length line → given buses at line ≡ Refuse (error.BadLine (at.lines + 1))
given-long buses at line h = ap (λ (x : Said). given_by at (at.lines + 1) x) (sym (yes (nat_lt 4096 (length line)) NoForm (said_of_text buses (without_return line)) (test (length line) h)))
  where
    test : (n : ℕ) → 4096 < n → nat_lt 4096 n ≡ true
    test n h = grind (arith, nat_tests)

-- a last line that counts, or doesn't
last_line-counts : (n : ℕ) (s : List ℕ) → n < length s → last_line n s ≡ s ∷ []
last_line-counts n s h = sym (yes (nat_lt n (length s)) (s ∷ []) [] (test n (length s) h))
  where
    test : (n k : ℕ) → n < k → nat_lt n k ≡ true
    test n k h = grind (arith, nat_tests)

last_line-not : (n : ℕ) (s : List ℕ) → length s ≤ n → last_line n s ≡ []
last_line-not n s h = sym (no (nat_lt n (length s)) (s ∷ []) [] (test n (length s) h))
  where
    test : (n k : ℕ) → k ≤ n → nat_lt n k ≡ false
    test n k h = grind (arith, nat_tests)

parts-long : (buses : List (List ℕ)) (more : Bool) (s : List ℕ) (ls : List (List ℕ)) (tail : List ℕ) (at : Place) → 4096 < length s
    → parts buses more (with_front s (ls, tail)) at ≡ ended (Some (error.BadLine (at.lines + 1)))
parts-long buses true s [] tail at h =
    let l : 4096 < length (s ++ tail) = omega (arith, length-append s tail) in
    ap (λ x. log_of_lines buses (Some error.LogLong) x at) (last_line-counts 4096 (s ++ tail) l) ∙ ap (λ g. followed g (λ new. ended (Some error.LogLong))) (given-long buses at (s ++ tail) l)
parts-long buses false s [] tail at h =
    let l : 4096 < length (s ++ tail) = omega (arith, length-append s tail) in
    ap (λ x. log_of_lines buses None x at) (last_line-counts 0 (s ++ tail) (omega arith)) ∙ ap (λ g. followed g (λ new. ended None)) (given-long buses at (s ++ tail) l)
parts-long buses more s (x ∷ xs) tail at h =
    let l : 4096 < length (s ++ x) = omega (arith, length-append s x) in
    parts-line buses more (s ++ x) xs tail at ∙ ap (λ g. followed g (λ new. parts buses more (xs, tail) new)) (given-long buses at (s ++ x) l)

-- more than 4,096 bytes without a newline
pub log_from-long : (buses : List (List ℕ)) (r : ℕ) (s rest : List ℕ) (at : Place) → cut 10 s ≡ None → 4096 < length s
    → log_from buses (r + length s) (s ++ rest) at ≡ ended (Some (error.BadLine (at.lines + 1)))
log_from-long buses r s rest at none h =
    log_from-kept buses r s rest at
    ∙ ap (λ (p : List (List ℕ) × List ℕ). parts buses (nat_lt r (length rest)) p at) (lines_of-front s (take r rest) none)
    ∙ parts-long buses (nat_lt r (length rest)) s (lines_of (take r rest)).0 (lines_of (take r rest)).1 at h

-- the end: what is kept is the last line
pub log_from-end : (buses : List (List ℕ)) (r : ℕ) (s : List ℕ) (at : Place) → cut 10 s ≡ None → 0 < length s
    → log_from buses (r + length s) (s ++ []) at ≡ followed (given buses at s) (λ new. ended None)
log_from-end buses r s at none h =
    log_from-kept buses r s [] at
    ∙ ap (λ (x : List ℕ). parts buses (nat_lt r 0) (lines_of (s ++ x)) at) (nothing r)
    ∙ ap (λ (p : List (List ℕ) × List ℕ). parts buses (nat_lt r 0) p at) (lines_of-front s [] none)
    ∙ ap (λ (v : Bool). parts buses v ([], s ++ []) at) (test r)
    ∙ ap (λ (x : List ℕ). log_of_lines buses None (last_line 0 x) at) (append-nil s)
    ∙ ap (λ x. log_of_lines buses None x at) (last_line-counts 0 s h)
  where
    nothing : (r : ℕ) → take {A = ℕ} r [] ≡ []
    nothing r = grind (arith, common_steps)

    test : (r : ℕ) → nat_lt r 0 ≡ false
    test r = grind (arith, nat_tests)

pub log_from-none : (buses : List (List ℕ)) (r : ℕ) (at : Place) → log_from buses r [] at ≡ ended None
log_from-none buses r at =
    ap (λ (x : List ℕ). parts buses (nat_lt r 0) (lines_of x) at) (nothing r) ∙ ap (λ (v : Bool). parts buses v ([], []) at) (test r)
  where
    nothing : (r : ℕ) → take {A = ℕ} r [] ≡ []
    nothing r = grind (arith, common_steps)

    test : (r : ℕ) → nat_lt r 0 ≡ false
    test r = grind (arith, nat_tests)

-- more bytes than count
pub log_from-past : (buses : List (List ℕ)) (s rest : List ℕ) (at : Place) → cut 10 s ≡ None → length s ≤ 4096 → 0 < length rest
    → log_from buses (0 + length s) (s ++ rest) at ≡ ended (Some error.LogLong)
log_from-past buses s rest at none h more =
    log_from-kept buses 0 s rest at
    ∙ ap (λ (p : List (List ℕ) × List ℕ). parts buses (nat_lt 0 (length rest)) p at) (lines_of-front s (take 0 rest) none)
    ∙ ap (λ (v : Bool). parts buses v ([], s ++ []) at) (test (length rest) more)
    ∙ ap (λ (x : List ℕ). log_of_lines buses (Some error.LogLong) (last_line 4096 x) at) (append-nil s)
    ∙ ap (λ x. log_of_lines buses (Some error.LogLong) x at) (last_line-not 4096 s h)
  where
    test : (n : ℕ) → 0 < n → nat_lt 0 n ≡ true
    test n h = grind (arith, nat_tests)

-- the log depends on the buses, the room and the bytes alone
pub log_from-same : (b d : List (List ℕ)) (r q : ℕ) (s t rest : List ℕ) (at : Place) → d ≡ b → q ≡ r → t ≡ s
    → log_from b (r + length s) (s ++ rest) at ≡ log_from d (q + length t) (t ++ rest) at
log_from-same b d r q s t rest at hb hr hs =
    ap (λ x. log_from x (r + length s) (s ++ rest) at) (sym hb)
    ∙ ap (λ x. log_from d (x + length s) (s ++ rest) at) (sym hr)
    ∙ ap (λ (x : List ℕ). log_from d (q + length x) (x ++ rest) at) (sym hs)

-- a step that found no line
pub step-no_line : (before after : Log) (s : Step) (w : Record) → (s ≡ step.Skipped) ⊎ (s ≡ step.NoLine) → IsStep before s w after → before ≡ after
step-no_line before after step.NoLine w is h = h
step-no_line before after step.Skipped w is h = h
step-no_line before after step.Record w (inl e) h = absurd cc
step-no_line before after step.Record w (inr e) h = absurd cc
step-no_line before after (step.Refused r) w (inl e) h = absurd cc
step-no_line before after (step.Refused r) w (inr e) h = absurd cc

pub is_no_line : (s : Step) → (s ≡ step.Skipped) ⊎ (s ≡ step.NoLine) → (s ≡ step.Skipped → ⊥) → s ≡ step.NoLine
is_no_line s (inl e) h = absurd (h e)
is_no_line s (inr e) h = e

-- nothing came
pub Took-none : (left : Option (List ℕ)) → Took left left []
Took-none None = refl
Took-none (Some l) = refl

pub Took-more : (a b c : Option (List ℕ)) (x y : List ℕ) → Took a b x → Took b c y → Took a c (x ++ y)
Took-more None b c x y h k = subst (λ (o : Option (List ℕ)). Took o c y) h k
Took-more (Some l) None c x y h k = absurd h
Took-more (Some l) (Some m) None x y h k = absurd k
Took-more (Some l) (Some m) (Some n) x y h k = h ∙ ap (λ (t : List ℕ). x ++ t) k ∙ sym (append_assoc x y n)

-- bytes that came in two calls
joined : (f m : List ℕ → Log) (x y rest : List ℕ) → ((r : List ℕ) → f (x ++ r) ≡ m r) → f ((x ++ y) ++ rest) ≡ m (y ++ rest)
joined f m x y rest h = ap f (append_assoc x y rest) ∙ h (y ++ rest)

-- some bytes came, and with them this holds
abbrev pub Came : Option (List ℕ) → Option (List ℕ) → (List ℕ → Type 0) → Type 0
Came a b P = (came : List ℕ) × Took a b came × P came

-- a turn behind bytes that gave nothing
pub came-turn : (a b c : Option (List ℕ)) (f m n : List ℕ → Log) (End : List ℕ → Type 0) (t : Turn) (w : Record)
    → Came a b (λ came. (rest : List ℕ) → f (came ++ rest) ≡ m rest)
    → Came b c (λ came. (rest : List ℕ) → End rest → IsTurn (m (came ++ rest)) t w (n rest))
    → Came a c (λ came. (rest : List ℕ) → End rest → IsTurn (f (came ++ rest)) t w (n rest))
came-turn a b c f m n End t w x y = (
  x.0 ++ y.0,
  Took-more a b c x.0 y.0 x.1 y.1,
  λ rest e. subst (λ (l : Log). IsTurn l t w (n rest)) (sym (joined f m x.0 y.0 rest x.2)) (y.2 rest e),
)
