-- What a client does at an event, case by case
use Rattle.std.proofs.Common.{◌≡◌, ◌≢◌, ℕ, ◌+◌, ◌<◌, ◌≤◌, cond, eqb, ltb, List, ◌++◌, length, ◌∙◌}
use Rattle.std.proofs.lemmas.Bool.{eqb-true, eqb-false, eq-eqb, ne_eqb, ltb-true, ltb-false, lt-ltb, le-ltb, cond-true, cond-false, cond_both}
use Rattle.file_client.specs.Fetch.{State, tid_of, offset_of, ask, finish, on_late, on_piece, on_answer, on_reply}
use Rattle.file_client.specs.declared.event.FetchOut.{FetchOut}
use Rattle.file_client.specs.declared.event.FetchOut.TheVariants.{Wait, Done, Refused, GaveUp, TooLong}

-- the state in which one more request was late, and those with more bytes
abbrev pub later : State → State
later s = record s { lates = s.lates + 1 }

abbrev pub ended_by : State → List ℕ → State
ended_by s bytes = record s { file = s.file ++ bytes }

abbrev pub grown_by : State → List ℕ → State
grown_by s bytes = record s { file = s.file ++ bytes; lates = 0 }

pub late_cases : (s : State) (P : State × FetchOut → Type 0)
    → (s.lates + 1 ≡ 8 → P (finish s (GaveUp (offset_of s))))
    → (s.lates + 1 ≢ 8 → P (ask (later s)))
    → P (on_late s)
late_cases s P last again =
    cond_both (eqb (s.lates + 1) 8) (finish s (GaveUp (offset_of s))) (ask (later s)) P
    (λ e. last (eqb-true (s.lates + 1) 8 e)) (λ n. again (eqb-false (s.lates + 1) 8 n))

pub piece_cases : (limit : ℕ) (s : State) (bytes : List ℕ) (P : State × FetchOut → Type 0)
    → (limit < offset_of s + length bytes → P (finish s (TooLong (offset_of s + length bytes))))
    → (offset_of s + length bytes ≤ limit → length bytes < 256 → P (finish (ended_by s bytes) Done))
    → (offset_of s + length bytes ≤ limit → 256 ≤ length bytes → P (ask (grown_by s bytes)))
    → P (on_piece limit s bytes)
piece_cases limit s bytes P long last more =
    let n = offset_of s + length bytes in
    cond_both (ltb limit n) (finish s (TooLong n)) (cond (ltb (length bytes) 256) (finish (ended_by s bytes) Done) (ask (grown_by s bytes))) P
    (λ e. long (ltb-true limit n e))
    (λ within. cond_both (ltb (length bytes) 256) (finish (ended_by s bytes) Done) (ask (grown_by s bytes)) P
    (λ e. last (ltb-false limit n within) (ltb-true (length bytes) 256 e))
    (λ e. more (ltb-false limit n within) (ltb-false (length bytes) 256 e)))

pub reply_cases : (limit : ℕ) (s : State) (tid code : ℕ) (bytes : List ℕ) (P : State × FetchOut → Type 0)
    → (tid ≢ tid_of s → P (s, Wait))
    → (tid ≡ tid_of s → code ≢ 0 → P (finish s (Refused code)))
    → (tid ≡ tid_of s → code ≡ 0 → P (on_piece limit s bytes))
    → P (on_reply limit s tid code bytes)
reply_cases limit s tid code bytes P old refused taken =
    cond_both (eqb tid (tid_of s)) (on_answer limit s code bytes) (s, Wait) P
    (λ e. cond_both (eqb code 0) (on_piece limit s bytes) (finish s (Refused code)) P
    (λ z. taken (eqb-true tid (tid_of s) e) (eqb-true code 0 z))
    (λ z. refused (eqb-true tid (tid_of s) e) (eqb-false code 0 z)))
    (λ n. old (eqb-false tid (tid_of s) n))

-- each case by itself, where it is known
pub late_again : (s : State) → s.lates + 1 ≢ 8 → on_late s ≡ ask (later s)
late_again s n = cond-false (eqb (s.lates + 1) 8) (finish s (GaveUp (offset_of s))) (ask (later s)) (ne_eqb (s.lates + 1) 8 n)

pub late_last : (s : State) → s.lates + 1 ≡ 8 → on_late s ≡ finish s (GaveUp (offset_of s))
late_last s e = cond-true (eqb (s.lates + 1) 8) (finish s (GaveUp (offset_of s))) (ask (later s)) (eq-eqb (s.lates + 1) 8 e)

pub piece_long : (limit : ℕ) (s : State) (bytes : List ℕ) → limit < offset_of s + length bytes → on_piece limit s bytes ≡ finish s (TooLong (offset_of s + length bytes))
piece_long limit s bytes l =
    let n = offset_of s + length bytes in
    cond-true (ltb limit n) (finish s (TooLong n)) (cond (ltb (length bytes) 256) (finish (ended_by s bytes) Done) (ask (grown_by s bytes))) (lt-ltb limit n l)

piece_within : (limit : ℕ) (s : State) (bytes : List ℕ) → offset_of s + length bytes ≤ limit → on_piece limit s bytes ≡ cond (ltb (length bytes) 256) (finish (ended_by s bytes) Done) (ask (grown_by s bytes))
piece_within limit s bytes l =
    let n = offset_of s + length bytes in
    cond-false (ltb limit n) (finish s (TooLong n)) (cond (ltb (length bytes) 256) (finish (ended_by s bytes) Done) (ask (grown_by s bytes))) (le-ltb limit n l)

pub piece_last : (limit : ℕ) (s : State) (bytes : List ℕ) → offset_of s + length bytes ≤ limit → length bytes < 256 → on_piece limit s bytes ≡ finish (ended_by s bytes) Done
piece_last limit s bytes l short =
    piece_within limit s bytes l ∙ cond-true (ltb (length bytes) 256) (finish (ended_by s bytes) Done) (ask (grown_by s bytes)) (lt-ltb (length bytes) 256 short)

pub piece_more : (limit : ℕ) (s : State) (bytes : List ℕ) → offset_of s + length bytes ≤ limit → 256 ≤ length bytes → on_piece limit s bytes ≡ ask (grown_by s bytes)
piece_more limit s bytes l full =
    piece_within limit s bytes l ∙ cond-false (ltb (length bytes) 256) (finish (ended_by s bytes) Done) (ask (grown_by s bytes)) (le-ltb (length bytes) 256 full)

pub reply_taken : (limit : ℕ) (s : State) (tid code : ℕ) (bytes : List ℕ) → tid ≡ tid_of s → code ≡ 0 → on_reply limit s tid code bytes ≡ on_piece limit s bytes
reply_taken limit s tid code bytes e z =
    cond-true (eqb tid (tid_of s)) (on_answer limit s code bytes) (s, Wait) (eq-eqb tid (tid_of s) e)
    ∙ cond-true (eqb code 0) (on_piece limit s bytes) (finish s (Refused code)) (eq-eqb code 0 z)
