-- The lines that end among the bytes that were taken.
use Rattle.std.proofs.Common.{◌≡◌, ◌∙◌, ◌⊎◌, inl, inr, ℕ, ◌+◌, ◌-◌, ◌<◌, ◌≤◌, suc, zero, Bool, true, false, List, [], ◌∷◌, ◌++◌, length, take, Option, Some, None, refl, sym, ap, subst, append-nil, length-append, arith}
use Rattle.std.specs.Prelude.{⊤, ◌==◌, if◌then◌else◌, nat_lt}
use Rattle.std.proofs.lemmas.Bool.{ltb-true, ltb-false, lt-ltb}
use Rattle.std.proofs.lemmas.List.{take_all, take-append-le}
use Rattle.std.proofs.Math.Seq.{take-append-add}
use Rattle.frame_log.specs.Line.{◌>>=◌, cut, said_of_text, without_return, NoForm}
use Rattle.frame_log.specs.Log.{Log, Place, Given, Skip, Take, Refuse, followed, given, given_by, log_of_lines, lines_of, with_byte, last_line, log_from}
use Rattle.frame_log.specs.declared.error.LogError.{LogError}
use Rattle.frame_log.specs.declared.error.LogError.TheVariants as error

-- bytes without a newline
abbrev pub IsPlain : List ℕ → Type 0
IsPlain [] = ⊤
IsPlain (b ∷ s) = ((b == 10) ≡ false) × IsPlain s

-- so many bytes without a newline
pub fill : ℕ → List ℕ
fill zero = []
fill (suc n) = 120 ∷ fill n

pub plain_fill : (n : ℕ) → IsPlain (fill n)
unfolding fill
plain_fill zero = tt
plain_fill (suc n) = (refl, plain_fill n)

pub length_fill : (n : ℕ) → length (fill n) ≡ n
unfolding fill
length_fill zero = refl
length_fill (suc n) = ap suc (length_fill n)

if_false : {A : Type 0} (t : Bool) (x y : A) → t ≡ false → (if t then x else y) ≡ y
if_false true x y e = absurd cc
if_false false x y e = refl

plain_take : (n : ℕ) (s : List ℕ) → IsPlain s → IsPlain (take n s)
plain_take zero [] p = tt
plain_take zero (b ∷ s) p = tt
plain_take (suc n) [] p = tt
plain_take (suc n) (b ∷ s) p = (p.0, plain_take n s p.1)

lines_of_plain : (s : List ℕ) → IsPlain s → lines_of s ≡ ([], s)
lines_of_plain [] p = refl
lines_of_plain (b ∷ s) p = if_false (b == 10) _ _ p.0 ∙ ap (with_byte b) (lines_of_plain s p.1)

byte_before : (b : ℕ) (ls : List (List ℕ)) (r s : List ℕ) → with_byte b (ls, r ++ s) ≡ ((with_byte b (ls, r)).0, (with_byte b (ls, r)).1 ++ s)
byte_before b [] r s = refl
byte_before b (l ∷ ls) r s = refl

newline_before : (t : Bool) (b : ℕ) (ls : List (List ℕ)) (r s : List ℕ) → (if t then ([] ∷ ls, r ++ s) else with_byte b (ls, r ++ s)) ≡ ((if t then ([] ∷ ls, r) else with_byte b (ls, r)).0, (if t then ([] ∷ ls, r) else with_byte b (ls, r)).1 ++ s)
newline_before true b ls r s = refl
newline_before false b ls r s = byte_before b ls r s

-- bytes without a newline lengthen the last part
pub lines_of_more : (c s : List ℕ) → IsPlain s → lines_of (c ++ s) ≡ ((lines_of c).0, (lines_of c).1 ++ s)
lines_of_more [] s p = lines_of_plain s p
lines_of_more (b ∷ c) s p =
    ap (λ (l : List (List ℕ) × List ℕ). if b == 10 then ([] ∷ l.0, l.1) else with_byte b l) (lines_of_more c s p) ∙ newline_before (b == 10) b (lines_of c).0 (lines_of c).1 s

-- no line, or one that is too long
abbrev IsTail : List (List ℕ) → Type 0
IsTail tail = (tail ≡ []) ⊎ ((line : List ℕ) × (tail ≡ line ∷ []) × (4096 < length line))

by_given : (g : Given) (f h : Place → Log) → ((at : Place) → (f at).records ≡ (h at).records) → (followed g f).records ≡ (followed g h).records
by_given (Skip at) f h e = e at
by_given (Take r at) f h e = ap (λ t. r ∷ t) (e at)
by_given (Refuse err) f h e = refl

long_given : (names : List (List ℕ)) (at : Place) (line : List ℕ) → 4096 < length line → given names at line ≡ Refuse (error.BadLine (at.lines + 1))
long_given names at line h = ap (λ (t : Bool). given_by at (at.lines + 1) (if t then NoForm else said_of_text names (without_return line))) (lt-ltb 4096 (length line) h)

records_tail : (names : List (List ℕ)) (r o : Option LogError) (lines tail : List (List ℕ)) (at : Place) → IsTail tail → (log_of_lines names r (lines ++ tail) at).records ≡ (log_of_lines names o lines at).records
records_tail names r o [] tail at (inl e) = ap (λ t. (log_of_lines names r t at).records) e
records_tail names r o [] tail at (inr l) = ap (λ t. (log_of_lines names r t at).records) l.1 ∙ ap (λ g. (followed g (λ new. log_of_lines names r [] new)).records) (long_given names at l.0 l.2)
records_tail names r o (l ∷ lines) tail at t = by_given (given names at l) _ _ (λ new. records_tail names r o lines tail new t)

tail_long : (t : Bool) (rest : List ℕ) → nat_lt 4096 (length rest) ≡ t → IsTail (if t then rest ∷ [] else [])
tail_long true rest e = inr (rest, refl, ltb-true 4096 (length rest) e)
tail_long false rest e = inl refl

tail_some : (t : Bool) (rest : List ℕ) → 4096 < length rest → nat_lt 0 (length rest) ≡ t → IsTail (if t then rest ∷ [] else [])
tail_some true rest h e = inr (rest, refl, h)
tail_some false rest h e = let none : length rest ≤ 0 = ltb-false 0 (length rest) e in absurd (omega arith)

take_more : (n : ℕ) (a b : List ℕ) → take n (a ++ b) ≡ take n a ++ take (n - length a) b
take_more n a b = by_length (nat_lt (length a) n) refl
  where
    none : (m : ℕ) (l : List ℕ) → m ≡ 0 → take m l ≡ []
    none m [] e = ap (λ k. take k []) e
    none m (x ∷ l) e = ap (λ k. take k (x ∷ l)) e

    by_length : (t : Bool) → nat_lt (length a) n ≡ t → take n (a ++ b) ≡ take n a ++ take (n - length a) b
    by_length true e =
        let more : length a < n = ltb-true (length a) n e in
        let sum : n ≡ length a + (n - length a) = omega arith in
        ap (λ k. take k (a ++ b)) sum ∙ (take-append-add a b (n - length a) ∙ ap (λ t. t ++ take (n - length a) b) (sym (take_all n a (omega arith))))
    by_length false e =
        let within : n ≤ length a = ltb-false (length a) n e in
        take-append-le n a b within ∙ (sym (append-nil (take n a)) ∙ ap (λ t. take n a ++ t) (sym (none (n - length a) b (omega arith))))

-- the log of lines, by whether there are more bytes than count
abbrev of_lines : List (List ℕ) → Place → List (List ℕ) × List ℕ → Bool → Log
of_lines names at lines t = (if t then log_of_lines names (Some error.LogLong) (lines.0 ++ last_line 4096 lines.1) at else log_of_lines names None (lines.0 ++ last_line 0 lines.1) at)

by_room : (names : List (List ℕ)) (room : ℕ) (bytes tail : List ℕ) (at : Place) (lines : List (List ℕ)) (last : List ℕ) (t : Bool) → 4096 < length tail → nat_lt room (length (bytes ++ tail)) ≡ t
    → (of_lines names at (lines, last ++ take (room - length bytes) tail) t).records ≡ (log_of_lines names None lines at).records
by_room names room bytes tail at lines last true h e =
    let rest = last ++ take (room - length bytes) tail in records_tail names (Some error.LogLong) None lines (last_line 4096 rest) at (tail_long (nat_lt 4096 (length rest)) rest refl)
by_room names room bytes tail at lines last false h e =
    let within : length (bytes ++ tail) ≤ room = ltb-false room (length (bytes ++ tail)) e in
    let sum : length (bytes ++ tail) ≡ length bytes + length tail = length-append bytes tail in
    let all : take (room - length bytes) tail ≡ tail = take_all (room - length bytes) tail (omega arith) in
    let rest = last ++ take (room - length bytes) tail in
    let long : 4096 < length rest = subst (λ (s : List ℕ). 4096 < length (last ++ s)) (sym all) (let two : length (last ++ tail) ≡ length last + length tail = length-append last tail in omega arith) in
    records_tail names None None lines (last_line 0 rest) at (tail_some (nat_lt 0 (length rest)) rest long refl)

-- where so many bytes without a newline come behind that they are no line, the records are those of the lines before
pub records_whole : (names : List (List ℕ)) (room : ℕ) (bytes tail : List ℕ) (at : Place) → IsPlain tail → 4096 < length tail
    → (log_from names room (bytes ++ tail) at).records ≡ (log_of_lines names None (lines_of (take room bytes)).0 at).records
records_whole names room bytes tail at p h =
    let split : lines_of (take room (bytes ++ tail)) ≡ ((lines_of (take room bytes)).0, (lines_of (take room bytes)).1 ++ take (room - length bytes) tail) =
    ap lines_of (take_more room bytes tail) ∙ lines_of_more (take room bytes) (take (room - length bytes) tail) (plain_take (room - length bytes) tail p) in
    ap (λ (l : List (List ℕ) × List ℕ). (of_lines names at l (nat_lt room (length (bytes ++ tail)))).records) split
    ∙ by_room names room bytes tail at (lines_of (take room bytes)).0 (lines_of (take room bytes)).1 (nat_lt room (length (bytes ++ tail))) h refl

-- no line ends among bytes without a newline
no_lines : (n : ℕ) (s : List ℕ) → IsPlain s → (lines_of (take n s)).0 ≡ []
no_lines n s p = ap (λ (l : List (List ℕ) × List ℕ). l.0) (lines_of_plain (take n s) (plain_take n s p))

pub none_behind : (names : List (List ℕ)) (room : ℕ) (kept tail : List ℕ) (at : Place) → IsPlain kept → IsPlain tail → 4096 < length tail → (log_from names room (kept ++ tail) at).records ≡ []
none_behind names room kept tail at q p h = records_whole names room kept tail at p h ∙ ap (λ ls. (log_of_lines names None ls at).records) (no_lines room kept q)

cut_here : {A : Type 0} (t : Bool) (x : A) (o : Option A) → (if t then Some x else o) ≡ None → (t ≡ false) × (o ≡ None)
cut_here true x o e = absurd cc
cut_here false x o e = (refl, e)

by_bind : {A B : Type 0} (o : Option A) (f : A → B) → (o >>= (λ p. Some (f p))) ≡ None → o ≡ None
by_bind None f e = refl
by_bind (Some p) f e = absurd cc

abbrev with_first : ℕ → List ℕ × List ℕ → List ℕ × List ℕ
with_first b p = (b ∷ p.0, p.1)

-- bytes that have no line's end are without a newline
pub plain_cut : (s : List ℕ) → cut 10 s ≡ None → IsPlain s
plain_cut [] e = tt
plain_cut (b ∷ s) e = let h = cut_here (b == 10) _ _ e in (h.0, plain_cut s (by_bind (cut 10 s) (with_first b) h.1))
