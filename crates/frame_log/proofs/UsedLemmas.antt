-- Lemmas on the bytes that a reader uses.
use Rattle.std.proofs.Common.{◌≡◌, ◌∙◌, ◌==◌, ◌≤◌, ◌+◌, ℕ, Bool, true, false, List, [], ◌∷◌, ◌++◌, Option, Some, Err, refl, sym, ap, ap₂, subst, length, append-nil, append_assoc, length-append, arith}
use Rattle.std.proofs.lemmas.Bool.{eqb-true}
use Rattle.tail_frame.specs.declared.logged.Record.{Record}
use Rattle.frame_log.specs.declared.reader.step.Step.{Step}
use Rattle.frame_log.specs.declared.reader.step.Step.TheVariants as step
use Rattle.frame_log.specs.declared.reader.turn.Turn.{Turn}
use Rattle.frame_log.specs.declared.reader.turn.Turn.TheVariants as turn
use Rattle.frame_log.specs.declared.reader.LogReader.{LogReader}
use Rattle.frame_log.specs.declared.error.LogError.{LogError}
use Rattle.frame_log.specs.declared.error.LogError.TheVariants as error
use Rattle.frame_log.specs.Reader.{saw_end}
use Rattle.frame_log.specs.Input.{Took}
use Rattle.frame_log.specs.Line.{cut, ◌>>=◌}
use Rattle.frame_log.specs.Log.{Place, Given, Skip, Take, Refuse, given, followed, lines_of, log_of_lines, with_byte}
use Rattle.frame_log.specs.Steps.{IsGiven}
use Rattle.frame_log.specs.Used.{Passes, Uses, IsBefore, beyond}
use Rattle.frame_log.specs.UsedSteps.{IsUsed, IsBeforeTurn, beyond_turn}
use Rattle.frame_log.proofs.LineLemmas.{yes, no, some_is}
use Rattle.frame_log.proofs.CutLemmas.{longer, cut-other}
use Rattle.frame_log.proofs.LogLemmas.{with_line, further, lines_of-newline, lines_of-byte, lines_of-line, Took-more}

byte_whole : (x : ℕ) (ls : List (List ℕ)) (tail : List ℕ) → (with_byte x (ls, tail)).1 ≡ [] → tail ≡ []
byte_whole x [] tail h = absurd cc
byte_whole x (l ∷ ls) tail h = h

byte_more : (x : ℕ) (ls : List (List ℕ)) (tail : List ℕ) (t : List (List ℕ) × List ℕ) → (with_byte x (ls, tail)).1 ≡ [] → with_byte x (ls ++ t.0, t.1) ≡ ((with_byte x (ls, tail)).0 ++ t.0, t.1)
byte_more x [] tail t h = absurd cc
byte_more x (l ∷ ls) tail t h = refl

-- the lines of whole lines, and of what stands behind them
pub lines_of-whole : (s t : List ℕ) → (lines_of s).1 ≡ [] → lines_of (s ++ t) ≡ ((lines_of s).0 ++ (lines_of t).0, (lines_of t).1)
lines_of-whole [] t h = refl
lines_of-whole (x ∷ xs) t h = go (λ k. lines_of-whole xs t k) (x == 10) refl
  where
    go : ((lines_of xs).1 ≡ [] → lines_of (xs ++ t) ≡ ((lines_of xs).0 ++ (lines_of t).0, (lines_of t).1)) → (v : Bool) → (x == 10) ≡ v → lines_of ((x ∷ xs) ++ t) ≡ ((lines_of (x ∷ xs)).0 ++ (lines_of t).0, (lines_of t).1)
    go more true e =
        let a : lines_of (x ∷ xs) ≡ with_line [] (lines_of xs) = lines_of-newline x xs e in
        let k : (lines_of xs).1 ≡ [] = sym (ap (λ (p : List (List ℕ) × List ℕ). p.1) a) ∙ h in
        lines_of-newline x (xs ++ t) e ∙ ap (with_line []) (more k) ∙ ap (λ (p : List (List ℕ) × List ℕ). (p.0 ++ (lines_of t).0, (lines_of t).1)) (sym a)
    go more false e =
        let a : lines_of (x ∷ xs) ≡ with_byte x (lines_of xs) = lines_of-byte x xs e in
        let k : (with_byte x (lines_of xs)).1 ≡ [] = sym (ap (λ (p : List (List ℕ) × List ℕ). p.1) a) ∙ h in
        lines_of-byte x (xs ++ t) e ∙ ap (with_byte x) (more (byte_whole x (lines_of xs).0 (lines_of xs).1 k))
        ∙ byte_more x (lines_of xs).0 (lines_of xs).1 (lines_of t) k ∙ ap (λ (p : List (List ℕ) × List ℕ). (p.0 ++ (lines_of t).0, (lines_of t).1)) (sym a)

-- what was cut is a line, its newline, and the bytes behind it
pub cut-parts : (s line behind : List ℕ) → cut 10 s ≡ Some (line, behind) → s ≡ line ++ 10 ∷ behind
cut-parts [] line behind h = absurd cc
cut-parts (x ∷ xs) line behind h = go (λ m k. cut-parts xs m behind k) (x == 10) refl
  where
    go : ((m : List ℕ) → cut 10 xs ≡ Some (m, behind) → xs ≡ m ++ 10 ∷ behind) → (v : Bool) → (x == 10) ≡ v → x ∷ xs ≡ line ++ 10 ∷ behind
    go more true e =
        let k : Some (([], xs)) ≡ Some (line, behind) = yes (x == 10) (Some (([], xs))) (cut 10 xs >>= longer x) e ∙ h in
        ap (λ n. n ∷ xs) (eqb-true x 10 e) ∙ ap (λ (q : List ℕ × List ℕ). q.0 ++ 10 ∷ q.1) (some_is _ _ k)
    go more false e =
        let k : (cut 10 xs >>= longer x) ≡ Some (line, behind) = no (x == 10) (Some (([], xs))) (cut 10 xs >>= longer x) e ∙ h in
        let c = further x xs line behind (cut 10 xs) refl k in
        ap (λ t. x ∷ t) (more c.more c.rest) ∙ ap (λ (l : List ℕ). l ++ 10 ∷ behind) (sym c.line_is)

-- a line that was cut is cut again, whatever stands behind it
cut-again : (s line behind t : List ℕ) → cut 10 s ≡ Some (line, behind) → cut 10 (line ++ 10 ∷ t) ≡ Some (line, t)
cut-again [] line behind t h = absurd cc
cut-again (x ∷ xs) line behind t h = go (λ m k. cut-again xs m behind t k) (x == 10) refl
  where
    go : ((m : List ℕ) → cut 10 xs ≡ Some (m, behind) → cut 10 (m ++ 10 ∷ t) ≡ Some (m, t)) → (v : Bool) → (x == 10) ≡ v → cut 10 (line ++ 10 ∷ t) ≡ Some (line, t)
    go more true e =
        let k : Some (([], xs)) ≡ Some (line, behind) = yes (x == 10) (Some (([], xs))) (cut 10 xs >>= longer x) e ∙ h in
        subst (λ (l : List ℕ). cut 10 (l ++ 10 ∷ t) ≡ Some (l, t)) (ap (λ (q : List ℕ × List ℕ). q.0) (some_is _ _ k)) refl
    go more false e =
        let k : (cut 10 xs >>= longer x) ≡ Some (line, behind) = no (x == 10) (Some (([], xs))) (cut 10 xs >>= longer x) e ∙ h in
        let c = further x xs line behind (cut 10 xs) refl k in
        subst (λ (l : List ℕ). cut 10 (l ++ 10 ∷ t) ≡ Some (l, t)) (sym c.line_is)
        (cut-other 10 x (c.more ++ 10 ∷ t) e ∙ ap (λ (o : Option (List ℕ × List ℕ)). o >>= longer x) (more c.more c.rest))

-- one line, with its newline
pub lines_of-one : (s line behind : List ℕ) → cut 10 s ≡ Some (line, behind) → lines_of (line ++ 10 ∷ []) ≡ (line ∷ [], [])
lines_of-one s line behind h =
    ap lines_of (sym (append-nil (line ++ 10 ∷ []))) ∙ lines_of-line (line ++ 10 ∷ []) line [] [] (cut-again s line behind [] h)

-- no line is passed, one is, two parts are, and more bytes may come behind
pub passes-none : (buses : List (List ℕ)) (at : Place) (bytes : List ℕ) → Passes buses at bytes at bytes
passes-none buses at bytes = record { skipped = []; parts = refl; whole = refl; leads = λ refusal behind. refl }

pub passes-line : (buses : List (List ℕ)) (at new : Place) (bytes line behind : List ℕ) → cut 10 bytes ≡ Some (line, behind) → given buses at line ≡ Skip new → Passes buses at bytes new behind
passes-line buses at new bytes line behind h e =
    let one = lines_of-one bytes line behind h in record {
      skipped = line ++ 10 ∷ [];
      parts = cut-parts bytes line behind h ∙ sym (append_assoc line (10 ∷ []) behind);
      whole = ap (λ (p : List (List ℕ) × List ℕ). p.1) one;
      leads = λ refusal ls. ap (λ (p : List (List ℕ) × List ℕ). log_of_lines buses refusal (p.0 ++ ls) at) one
          ∙ ap (λ (g : Given). followed g (λ p. log_of_lines buses refusal ls p)) e;
    }

pub passes-more : (buses : List (List ℕ)) (at mid new : Place) (x y z : List ℕ) → Passes buses at x mid y → Passes buses mid y new z → Passes buses at x new z
passes-more buses at mid new x y z p q =
    let both = lines_of-whole p.skipped q.skipped p.whole in
    let first = (lines_of p.skipped).0 in
    let second = (lines_of q.skipped).0 in record {
      skipped = p.skipped ++ q.skipped;
      parts = p.parts ∙ ap (λ t. p.skipped ++ t) q.parts ∙ sym (append_assoc p.skipped q.skipped z);
      whole = ap (λ (l : List (List ℕ) × List ℕ). l.1) both ∙ q.whole;
      leads = λ refusal ls. ap (λ (l : List (List ℕ) × List ℕ). log_of_lines buses refusal (l.0 ++ ls) at) both
          ∙ ap (λ (l : List (List ℕ)). log_of_lines buses refusal l at) (append_assoc first second ls) ∙ p.leads refusal (second ++ ls) ∙ q.leads refusal ls;
    }

pub passes-came : (buses : List (List ℕ)) (at new : Place) (bytes behind came : List ℕ) → Passes buses at bytes new behind → Passes buses at (bytes ++ came) new (behind ++ came)
passes-came buses at new bytes behind came p = record { skipped = p.skipped; parts = ap (λ t. t ++ came) p.parts ∙ append_assoc p.skipped behind came; whole = p.whole; leads = p.leads }

-- what stands behind lines that were passed is used
pub uses-later : (buses : List (List ℕ)) (at mid : Place) (x y : List ℕ) (There : Place → List ℕ → Type 0) → Passes buses at x mid y → Uses buses mid y There → Uses buses at x There
uses-later buses at mid x y There p u = record { at = u.at; behind = u.behind; passes = passes-more buses at mid u.at x y u.behind p u.passes; near = u.near; there = u.there }

pub uses-here : (buses : List (List ℕ)) (at : Place) (bytes : List ℕ) (There : Place → List ℕ → Type 0) → length bytes ≤ 8192 → There at bytes → Uses buses at bytes There
uses-here buses at bytes There h t = record { at = at; behind = bytes; passes = passes-none buses at bytes; near = h; there = t }

-- what holds where the first holds
pub uses-same : (buses : List (List ℕ)) (at : Place) (bytes : List ℕ) (P Q : Place → List ℕ → Type 0) → ((p : Place) (b : List ℕ) → P p b → Q p b) → Uses buses at bytes P → Uses buses at bytes Q
uses-same buses at bytes P Q f u = record { at = u.at; behind = u.behind; passes = u.passes; near = u.near; there = f u.at u.behind u.there }

-- nothing came
pub uses-none : (buses : List (List ℕ)) (at : Place) (bytes : List ℕ) (There : Place → List ℕ → Type 0) → Uses buses at bytes There → Uses buses at (bytes ++ []) There
uses-none buses at bytes There u = subst (λ (b : List ℕ). Uses buses at b There) (sym (append-nil bytes)) u

-- what stands behind is this
pub passes-to : (buses : List (List ℕ)) (at new : Place) (bytes behind : List ℕ) → Uses buses at bytes (λ p b. (p ≡ new) × (b ≡ behind)) → Passes buses at bytes new behind
passes-to buses at new bytes behind u =
    subst (λ p. Passes buses at bytes p behind) u.there.0 (subst (λ (b : List ℕ). Passes buses at bytes u.at b) u.there.1 u.passes)

-- at the end no record stands in front of what is kept
pub before-end : (t : Turn) (w : Record) (new : LogReader) (at : Place) (bytes : List ℕ) → (t ≡ turn.Again → ⊥) → (t ≡ turn.Failed → ⊥) → saw_end new ≡ true → IsBeforeTurn t w new at bytes
before-end turn.Again w new at bytes a f e = absurd (a refl)
before-end turn.Failed w new at bytes a f e = absurd (f refl)
before-end turn.Record w new at bytes a f e = λ g. absurd (differ (sym e ∙ g))
  where
    differ : true ≡ false → ⊥
    differ h = cc
before-end turn.Whole w new at bytes a f e = tt
before-end (turn.Refused r) w new at bytes a f e = tt

-- a refusal tells of no bytes
pub before-refused : (e : LogError) (new : LogReader) (at : Place) (bytes : List ℕ) → (e ≡ error.Failed → ⊥) → IsBefore (Err e) new at bytes
before-refused (error.BadLine n) new at bytes h = tt
before-refused (error.TimeBack n) new at bytes h = tt
before-refused (error.UnknownBus n) new at bytes h = tt
before-refused (error.TooFar n) new at bytes h = tt
before-refused error.LogLong new at bytes h = tt
before-refused error.Failed new at bytes h = absurd (h refl)

-- a refusal lets a call take what it lets a turn take
pub beyond-refused : (e : LogError) → beyond_turn (turn.Refused e) ≤ beyond (Err e)
beyond-refused (error.BadLine n) = omega arith
beyond-refused (error.TimeBack n) = omega arith
beyond-refused (error.UnknownBus n) = omega arith
beyond-refused (error.TooFar n) = omega arith
beyond-refused error.LogLong = omega arith
beyond-refused error.Failed = omega arith

-- what came behind bytes that were passed is used, and taken off the room
pub came-uses : (a b c : Option (List ℕ)) (buses : List (List ℕ)) (at mid : Place) (kept rest : List ℕ) (There : Place → List ℕ → Type 0) (room left last more : ℕ)
    → ((x : List ℕ) × Took a b x × Passes buses at (kept ++ x) mid rest × (length x + left ≤ room)) → ((y : List ℕ) × Took b c y × Uses buses mid (rest ++ y) There × (length y + last ≤ left + more))
    → (z : List ℕ) × Took a c z × Uses buses at (kept ++ z) There × (length z + last ≤ room + more)
came-uses a b c buses at mid kept rest There room left last more x y = (
  x.0 ++ y.0,
  Took-more a b c x.0 y.0 x.1 y.1,
  subst (λ (t : List ℕ). Uses buses at t There) (append_assoc kept x.0 y.0)
      (uses-later buses at mid ((kept ++ x.0) ++ y.0) (rest ++ y.0) There (passes-came buses at mid (kept ++ x.0) rest y.0 x.2) y.2),
  omega (arith, length-append x.0 y.0, x.3, y.3),
)

-- the same, of a reader with the same buses, where what holds there is less
pub came-later : (a b c : Option (List ℕ)) (buses same : List (List ℕ)) (at mid : Place) (kept rest : List ℕ) (P Q : Place → List ℕ → Type 0) (room left last more most : ℕ) → more ≤ most → same ≡ buses
    → ((x : List ℕ) × Took a b x × Passes buses at (kept ++ x) mid rest × (length x + left ≤ room)) → ((y : List ℕ) × Took b c y × Uses same mid (rest ++ y) P × (length y + last ≤ left + more)) → ((p : Place) (t : List ℕ) → P p t → Q p t)
    → (z : List ℕ) × Took a c z × Uses buses at (kept ++ z) Q × (length z + last ≤ room + most)
came-later a b c buses same at mid kept rest P Q room left last more most h e x y f =
    came-uses a b c buses at mid kept rest Q room left last most x (y.0, y.1, uses-same buses mid (rest ++ y.0) P Q f (subst (λ (d : List (List ℕ)). Uses d mid (rest ++ y.0) P) e y.2), omega (arith, h, y.3))

-- a step by what its line gives
pub used-given : (g : Given) (q : Step) (w : Record) (buses : List (List ℕ)) (at new : Place) (bytes line behind : List ℕ) → cut 10 bytes ≡ Some (line, behind) → given buses at line ≡ g → IsGiven g q w new → IsUsed buses at bytes q w new behind
used-given (Skip p) step.Skipped w buses at new bytes line behind h e is = passes-line buses at new bytes line behind h (e ∙ ap Skip (sym is))
used-given (Take r p) step.Record w buses at new bytes line behind h e is = record { line = line; first = h; takes = e ∙ ap₂ Take (sym is.0) (sym is.1) }
used-given (Skip p) step.NoLine w buses at new bytes line behind h e is = tt
used-given (Skip p) step.Record w buses at new bytes line behind h e is = absurd is
used-given (Skip p) (step.Refused f) w buses at new bytes line behind h e is = tt
used-given (Take r p) step.NoLine w buses at new bytes line behind h e is = tt
used-given (Take r p) step.Skipped w buses at new bytes line behind h e is = absurd is
used-given (Take r p) (step.Refused f) w buses at new bytes line behind h e is = tt
used-given (Refuse f) step.NoLine w buses at new bytes line behind h e is = tt
used-given (Refuse f) step.Skipped w buses at new bytes line behind h e is = absurd is
used-given (Refuse f) step.Record w buses at new bytes line behind h e is = absurd is
used-given (Refuse f) (step.Refused q) w buses at new bytes line behind h e is = tt
