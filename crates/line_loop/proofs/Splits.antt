-- The lines of bytes that are put together.
use Rattle.std.proofs.Common.{◌≡◌, ◌∙◌, ◌==◌, ◌<◌, ◌≤◌, ◌+◌, ℕ, zero, suc, Bool, true, false, List, [], ◌∷◌, ◌++◌, length, take, drop, get_or, refl, sym, ap, subst, length-append, arith}
use Rattle.std.specs.Prelude.{if◌then◌else◌, nat_lt}
use Rattle.std.proofs.lemmas.Bool.Decides.{nat_tests}
use Rattle.memchr.specs.Find.{Nowhere, Passes, is_byte}
use Rattle.line_loop.specs.Lines.{Lines, lines_of, with_byte, front_byte, last_line, with_last}
use Rattle.line_loop.specs.Steps.{in_front}

pub yes : {X : Type 0} (t : Bool) (a b : X) → t ≡ true → (if t then a else b) ≡ a
yes true a b h = refl
yes false a b h = absurd cc

pub no : {X : Type 0} (t : Bool) (a b : X) → t ≡ false → (if t then a else b) ≡ b
no true a b h = absurd cc
no false a b h = refl

not_true : (t : Bool) → (t ≡ true → ⊥) → t ≡ false
not_true true h = absurd (h refl)
not_true false h = refl

-- the first i bytes are no newline
abbrev pub IsClearTo : List ℕ → ℕ → Type 0
IsClearTo s i = Nowhere (Passes (is_byte 10) s) 0 i

clear_head : (b : ℕ) (s : List ℕ) (i : ℕ) → IsClearTo (b ∷ s) (suc i) → (b == 10) ≡ false
clear_head b s i h = not_true (b == 10) (h 0 (omega arith) (omega arith))

clear_tail : (b : ℕ) (s : List ℕ) (i : ℕ) → IsClearTo (b ∷ s) (suc i) → IsClearTo s i
clear_tail b s i h k low high = h (suc k) (omega arith) (omega arith)

newline : (b : ℕ) (lines : Lines) → (b == 10) ≡ true → with_byte b lines ≡ in_front ([] ∷ []) lines
newline b lines h = yes (b == 10) (record lines { ended = [] ∷ lines.ended }) (front_byte b lines.ended lines.rest) h

other : (b : ℕ) (lines : Lines) → (b == 10) ≡ false → with_byte b lines ≡ front_byte b lines.ended lines.rest
other b lines h = no (b == 10) (record lines { ended = [] ∷ lines.ended }) (front_byte b lines.ended lines.rest) h

-- bytes with no newline
pub clear_lines : (s : List ℕ) → IsClearTo s (length s) → lines_of s ≡ record { ended = []; rest = s }
clear_lines [] h = refl
clear_lines (b ∷ s) h =
    ap (with_byte b) (clear_lines s (clear_tail b s (length s) h)) ∙ other b (record { ended = []; rest = s }) (clear_head b s (length s) h)

-- a line, its newline, and what stands behind
pub line_parts : (s : List ℕ) (i : ℕ) → i < length s → s ≡ take i s ++ (get_or s i 0 ∷ drop (i + 1) s)
line_parts [] i h = absurd (omega arith)
line_parts (b ∷ s) zero h = refl
line_parts (b ∷ s) (suc i) h =
    let e : suc (i + 1) ≡ suc i + 1 = omega arith in
    ap (λ t. b ∷ t) (line_parts s i (omega arith)) ∙ ap (λ n. b ∷ (take i s ++ (get_or s i 0 ∷ drop n (b ∷ s)))) e

pub line_split : (s : List ℕ) (i : ℕ) → i < length s → IsClearTo s i → (get_or s i 0 == 10) ≡ true
    → (others : List ℕ) → lines_of ((take i s ++ (get_or s i 0 ∷ [])) ++ others) ≡ in_front (take i s ∷ []) (lines_of others)
line_split [] i h clear t others = absurd (omega arith)
line_split (b ∷ s) zero h clear t others = newline b (lines_of others) t
line_split (b ∷ s) (suc i) h clear t others =
    ap (with_byte b) (line_split s i (omega arith) (clear_tail b s i clear) t others)
    ∙ other b (in_front (take i s ∷ []) (lines_of others)) (clear_head b s i clear)

-- bytes with no newline in front of others belong to the first of their lines
abbrev pub put_front : List ℕ → List (List ℕ) → List ℕ → Lines
put_front s [] rest = record { ended = []; rest = s ++ rest }
put_front s (line ∷ lines) rest = record { ended = (s ++ line) ∷ lines; rest = rest }

front_put : (b : ℕ) (s : List ℕ) (lines : List (List ℕ)) (rest : List ℕ) → front_byte b (put_front s lines rest).ended (put_front s lines rest).rest ≡ put_front (b ∷ s) lines rest
front_put b s [] rest = refl
front_put b s (line ∷ lines) rest = refl

put_none : (lines : List (List ℕ)) (rest : List ℕ) → record { ended = lines; rest = rest } ≡ put_front [] lines rest
put_none [] rest = refl
put_none (line ∷ lines) rest = refl

pub clear_front : (s t : List ℕ) → IsClearTo s (length s) → lines_of (s ++ t) ≡ put_front s (lines_of t).ended (lines_of t).rest
clear_front [] t h = put_none (lines_of t).ended (lines_of t).rest
clear_front (b ∷ s) t h =
    let l = lines_of t in
    ap (with_byte b) (clear_front s t (clear_tail b s (length s) h))
    ∙ (other b (put_front s l.ended l.rest) (clear_head b s (length s) h) ∙ front_put b s l.ended l.rest)

pub long_last : (most : ℕ) (rest : List ℕ) → most < length rest → last_line most rest ≡ rest ∷ []
long_last most rest h = yes (nat_lt most (length rest)) (rest ∷ []) [] (grind (arith, nat_tests))

pub short_last : (most : ℕ) (rest : List ℕ) → length rest ≤ most → last_line most rest ≡ []
short_last most rest h = no (nat_lt most (length rest)) (rest ∷ []) [] (grind (arith, nat_tests))

-- a first line, and those behind it
pub record IsFirstLine (lines : List (List ℕ)) (least : ℕ) : Type 0 where
  pub line : List ℕ
  pub behind : List (List ℕ)
  pub parts : lines ≡ line ∷ behind
  pub long : least < length line

put_long : (s : List ℕ) (most least : ℕ) (lines : List (List ℕ)) (rest : List ℕ) → most ≤ least → least < length s → IsFirstLine (with_last most (put_front s lines rest)) least
put_long s most least [] rest h long =
    let size : length (s ++ rest) ≡ length s + length rest = length-append s rest in record {
      line = s ++ rest;
      behind = [];
      parts = long_last most (s ++ rest) (omega arith);
      long = omega arith;
    }
put_long s most least (line ∷ lines) rest h long =
    let size : length (s ++ line) ≡ length s + length line = length-append s line in record {
      line = s ++ line;
      behind = lines ++ last_line most rest;
      parts = refl;
      long = omega arith;
    }

-- so many bytes with no newline are the front of a line that is as long, whatever stands behind
-- them
pub first_long : (s t : List ℕ) (most least : ℕ) → IsClearTo s (length s) → most ≤ least → least < length s → IsFirstLine (with_last most (lines_of (s ++ t))) least
first_long s t most least clear h long =
    subst (λ (l : Lines). IsFirstLine (with_last most l) least) (sym (clear_front s t clear)) (put_long s most least (lines_of t).ended (lines_of t).rest h long)

-- Fronts.

byte_before : (b : ℕ) (front : List (List ℕ)) (tail : List ℕ) (whole : List (List ℕ)) (rest : List ℕ) (more : List (List ℕ))
    → whole ≡ front ++ more → (others : List (List ℕ)) × ((front_byte b whole rest).ended ≡ (front_byte b front tail).ended ++ others)
byte_before b [] tail whole rest more e = ((front_byte b whole rest).ended, refl)
byte_before b (l ∷ ls) tail [] rest more e = absurd cc
byte_before b (l ∷ ls) tail (m ∷ ms) rest more e =
    let head : m ≡ l = cc in
    let others : ms ≡ ls ++ more = cc in (more, ap (λ (x : List ℕ). (b ∷ x) ∷ ms) head ∙ ap (λ t. (b ∷ l) ∷ t) others)

either_before : (b : ℕ) (front whole : Lines) (more : List (List ℕ)) → whole.ended ≡ front.ended ++ more → (t : Bool) → (b == 10) ≡ t
    → (others : List (List ℕ)) × ((with_byte b whole).ended ≡ (with_byte b front).ended ++ others)
either_before b front whole more e true t =
    (more, ap (λ (l : Lines). l.ended) (newline b whole t) ∙ (ap (λ ls. [] ∷ ls) e ∙ ap (λ (l : Lines). l.ended ++ more) (sym (newline b front t))))
either_before b front whole more e false t =
    let i = byte_before b front.ended front.rest whole.ended whole.rest more e in
    (i.0, ap (λ (l : Lines). l.ended) (other b whole t) ∙ (i.1 ∙ ap (λ (l : Lines). l.ended ++ i.0) (sym (other b front t))))

-- the lines that end in a front are the first of all
pub lines_before : (front k : List ℕ) → (more : List (List ℕ)) × ((lines_of (front ++ k)).ended ≡ (lines_of front).ended ++ more)
lines_before [] k = ((lines_of k).ended, refl)
lines_before (b ∷ front) k = let i = lines_before front k in either_before b (lines_of front) (lines_of (front ++ k)) i.0 i.1 (b == 10) refl

-- a front with more behind it than a whole has behind its own front is a front of that one
pub front_within : (front more whole rest : List ℕ) → front ++ more ≡ whole ++ rest → length rest ≤ length more → (k : List ℕ) × (whole ≡ front ++ k)
front_within [] more whole rest e h = (whole, refl)
front_within (x ∷ front) more [] rest e h =
    let size : length (x ∷ (front ++ more)) ≡ length rest = ap (λ (l : List ℕ). length l) e in
    let sum : length (front ++ more) ≡ length front + length more = length-append front more in absurd (omega arith)
front_within (x ∷ front) more (y ∷ whole) rest e h =
    let same : x ≡ y = cc in
    let tails : front ++ more ≡ whole ++ rest = cc in
    let k = front_within front more whole rest tails h in (k.0, ap (λ b. b ∷ whole) (sym same) ∙ ap (λ t. x ∷ t) k.1)
