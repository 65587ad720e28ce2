-- When each end comes, over every list of events
use Rattle.std.proofs.Common.{◌≡◌, ℕ, ◌+◌, ◌<◌, ◌≤◌, cond, eqb, List, [], ◌∷◌, ◌++◌, length, Option, Some, None, refl, sym, ap, ◌∙◌, subst, length-append, arith}
use Rattle.std.proofs.lemmas.Bool.{eq-eqb, ne_eqb, cond-true, cond-false}
use Rattle.file_client.specs.Fetch.{Event, reply, late, State, tid_of, offset_of, on_late, on_reply, on_event, step_after, fetched, answer}
use Rattle.file_client.specs.Laws.{offset_after, end_after, one_if_late, lates_since, PassesLimit, end_of}
use Rattle.file_client.specs.declared.event.FetchOut.{FetchOut}
use Rattle.file_client.specs.declared.event.FetchOut.TheVariants.{Ask, Wait, Done, Refused, GaveUp, TooLong}
use Rattle.file_client.proofs.Steps.{late_cases, piece_cases, reply_cases, late_last, piece_long, reply_taken}

-- before an end a step is that of the event
step_open : (limit : ℕ) (e : Event) (past : List Event) → end_after limit past ≡ None → step_after limit (end_after limit past) (fetched limit past) e ≡ on_event limit (fetched limit past) e
step_open limit e past none = ap (λ o. step_after limit o (fetched limit past) e) none

-- the Lates after an event, from those before it
abbrev lates_then : State → Event → ℕ → State → ℕ
lates_then s e m after = cond (eqb (offset_of after) (offset_of s)) (one_if_late e + m) 0

same_offset : (k m : ℕ) (s : State) → k + m ≡ cond (eqb (offset_of s) (offset_of s)) (k + m) 0
same_offset k m s = sym (cond-true (eqb (offset_of s) (offset_of s)) (k + m) 0 (eq-eqb (offset_of s) (offset_of s) refl))

more_offset : (m : ℕ) (s : State) (bytes : List ℕ) → 256 ≤ length bytes → 0 ≡ cond (eqb (length (s.file ++ bytes)) (offset_of s)) m 0
more_offset m s bytes full =
    let long = length-append s.file bytes in
    sym (cond-false (eqb (length (s.file ++ bytes)) (offset_of s)) m 0 (ne_eqb (length (s.file ++ bytes)) (offset_of s) (λ e. omega (arith, long, full, e))))

abbrev Counts : State → Event → ℕ → State × FetchOut → Type 0
Counts s e m v = v.0.end ≡ None → v.0.lates ≡ lates_then s e m v.0

reply_counts : (limit : ℕ) (s : State) (tid code : ℕ) (bytes : List ℕ) (m : ℕ) → s.lates ≡ m → Counts s (reply tid code bytes) m (on_reply limit s tid code bytes)
reply_counts limit s tid code bytes m is =
    let P = Counts s (reply tid code bytes) m in
    reply_cases limit s tid code bytes P
    (λ _ _. omega (arith, is) ∙ same_offset 0 m s)
    (λ _ _ e. cc)
    (λ _ _. piece_cases limit s bytes P (λ _ e. cc) (λ _ _ e. cc) (λ _ full _. more_offset (0 + m) s bytes full))

late_counts : (s : State) (m : ℕ) → s.lates ≡ m → Counts s late m (on_late s)
late_counts s m is =
    late_cases s (Counts s late m) (λ _ e. cc) (λ _ _. omega (arith, is) ∙ same_offset 1 m s)

counts_after : (limit : ℕ) (o : Option FetchOut) (s : State) (e : Event) (m : ℕ) → s.end ≡ o → (s.end ≡ None → s.lates ≡ m) → Counts s e m (step_after limit o s e)
counts_after limit None s (reply tid code bytes) m none is = reply_counts limit s tid code bytes m (is none)
counts_after limit None s late m none is = late_counts s m (is none)
counts_after limit (Some out) s e m some is = λ none. cc

-- before an end the state counts the Lates
counted : (limit : ℕ) (past : List Event) → end_after limit past ≡ None → (fetched limit past).lates ≡ lates_since limit past
counted limit [] none = refl
counted limit (e ∷ past) none = counts_after limit (end_after limit past) (fetched limit past) e (lates_since limit past) refl (counted limit past) none

abbrev GivesUp : State → Event → ℕ → ℕ → State × FetchOut → Type 0
GivesUp s e m offset v = v.1 ≡ GaveUp offset → (e ≡ late) × (lates_then s e m v.0 ≡ 8) × (offset ≡ offset_of s)

up_inj : (a b : ℕ) → GaveUp a ≡ GaveUp b → b ≡ a
up_inj a b e = cc

on_event_gives_up : (limit : ℕ) (s : State) (e : Event) (m offset : ℕ) → s.lates ≡ m → GivesUp s e m offset (on_event limit s e)
on_event_gives_up limit s (reply tid code bytes) m offset is =
    let P = GivesUp s (reply tid code bytes) m offset in
    reply_cases limit s tid code bytes P (λ _ e. cc) (λ _ _ e. cc)
    (λ _ _. piece_cases limit s bytes P (λ _ e. cc) (λ _ _ e. cc) (λ _ _ e. cc))
on_event_gives_up limit s late m offset is =
    late_cases s (GivesUp s late m offset)
    (λ last e. (refl, sym (same_offset 1 m s) ∙ omega (arith, last, is), up_inj (offset_of s) offset e))
    (λ _ e. cc)

pub gave_up : (limit : ℕ) (e : Event) (past : List Event) (offset : ℕ) → end_after limit past ≡ None → answer limit e past ≡ GaveUp offset → (e ≡ late) × (lates_since limit (e ∷ past) ≡ 8) × (offset ≡ offset_after limit past)
gave_up limit e past offset none up =
    let s = fetched limit past in
    let m = lates_since limit past in
    subst (GivesUp s e m offset) (sym (step_open limit e past none)) (on_event_gives_up limit s e m offset (counted limit past none)) up

late_offset : (s : State) → offset_of (on_late s).0 ≡ offset_of s
late_offset s = late_cases s (λ v. offset_of v.0 ≡ offset_of s) (λ _. refl) (λ _. refl)

pub gives_up : (limit : ℕ) (past : List Event) → end_after limit past ≡ None → lates_since limit (late ∷ past) ≡ 8 → answer limit late past ≡ GaveUp (offset_after limit past)
gives_up limit past none eight =
    let s = fetched limit past in
    let m = lates_since limit past in
    let open_now = step_open limit late past none in
    let at : offset_after limit (late ∷ past) ≡ offset_of s = ap (λ v. offset_of v.0) open_now ∙ late_offset s in
    let one_more : 1 + m ≡ 8 = sym (cond-true (eqb (offset_after limit (late ∷ past)) (offset_of s)) (1 + m) 0 (eq-eqb (offset_after limit (late ∷ past)) (offset_of s) at)) ∙ eight in
    ap (λ v. v.1) (open_now ∙ late_last s (omega (arith, counted limit past none, one_more)))

long_inj : (a b : ℕ) → TooLong a ≡ TooLong b → b ≡ a
long_inj a b e = cc

passes : (limit : ℕ) (past : List Event) (tid code : ℕ) (bytes : List ℕ) (n : ℕ) → tid ≡ tid_of (fetched limit past) → code ≡ 0 → limit < offset_after limit past + length bytes → n ≡ offset_after limit past + length bytes → PassesLimit limit past (reply tid code bytes) n
passes limit past tid code bytes n same zero_code above is = record {
  bytes = bytes;
  is_reply = ap (λ t. reply t code bytes) same ∙ ap (λ c. reply (tid_of (fetched limit past)) c bytes) zero_code;
  length_is = is;
  above = subst (λ k. limit < k) (sym is) above;
}

on_event_too_long : (limit : ℕ) (e : Event) (past : List Event) (n : ℕ) → (on_event limit (fetched limit past) e).1 ≡ TooLong n → PassesLimit limit past e n
on_event_too_long limit (reply tid code bytes) past n =
    let s = fetched limit past in
    let P : State × FetchOut → Type 0 = λ v. v.1 ≡ TooLong n → PassesLimit limit past (reply tid code bytes) n in
    reply_cases limit s tid code bytes P (λ _ e. cc) (λ _ _ e. cc)
    (λ same zero_code. piece_cases limit s bytes P
    (λ above e. passes limit past tid code bytes n same zero_code above (long_inj (offset_of s + length bytes) n e))
    (λ _ _ e. cc) (λ _ _ e. cc))
on_event_too_long limit late past n =
    late_cases (fetched limit past) (λ v. v.1 ≡ TooLong n → PassesLimit limit past late n) (λ _ e. cc) (λ _ e. cc)

pub was_too_long : (limit : ℕ) (e : Event) (past : List Event) (n : ℕ) → end_after limit past ≡ None → answer limit e past ≡ TooLong n → PassesLimit limit past e n
was_too_long limit e past n none long = on_event_too_long limit e past n (sym (ap (λ v. v.1) (step_open limit e past none)) ∙ long)

pub is_too_long : (limit : ℕ) (e : Event) (past : List Event) (n : ℕ) → end_after limit past ≡ None → PassesLimit limit past e n → answer limit e past ≡ TooLong n
is_too_long limit e past n none p =
    let s = fetched limit past in
    ap (λ v. v.1) (step_open limit e past none ∙ (ap (on_event limit s) p.is_reply
    ∙ (reply_taken limit s (tid_of s) 0 p.bytes refl refl ∙ piece_long limit s p.bytes (subst (λ k. limit < k) p.length_is p.above))))
    ∙ ap (λ k. TooLong k) (sym p.length_is)

abbrev HasEnd : State × FetchOut → Type 0
HasEnd v = v.0.end ≡ end_of v.1

end_after_step : (limit : ℕ) (o : Option FetchOut) (s : State) (e : Event) → s.end ≡ o → ((out : FetchOut) → s.end ≡ Some out → end_of out ≡ Some out) → HasEnd (step_after limit o s e)
end_after_step limit None s (reply tid code bytes) none own =
    reply_cases limit s tid code bytes HasEnd (λ _. none) (λ _ _. refl)
    (λ _ _. piece_cases limit s bytes HasEnd (λ _. refl) (λ _ _. refl) (λ _ _. none))
end_after_step limit None s late none own = late_cases s HasEnd (λ _. refl) (λ _. none)
end_after_step limit (Some out) s e is own = is ∙ sym (own out is)

same_end : (a out : FetchOut) → Some a ≡ Some out → end_of a ≡ Some a → end_of out ≡ Some out
same_end a out e own = let same : a ≡ out = cc in subst (λ x. end_of x ≡ Some x) same own

-- an end is the end that it is as an answer
own_end : (a out : FetchOut) → end_of a ≡ Some out → end_of out ≡ Some out
own_end (Ask tid offset) out e = cc
own_end Wait out e = cc
own_end Done out e = same_end Done out e refl
own_end (Refused code) out e = same_end (Refused code) out e refl
own_end (GaveUp offset) out e = same_end (GaveUp offset) out e refl
own_end (TooLong n) out e = same_end (TooLong n) out e refl

is_end : (limit : ℕ) (past : List Event) (out : FetchOut) → end_after limit past ≡ Some out → end_of out ≡ Some out
is_end limit [] out e = cc
is_end limit (e ∷ past) out at =
    own_end (answer limit e past) out (sym (end_after_step limit (end_after limit past) (fetched limit past) e refl (is_end limit past)) ∙ at)

pub end_is : (limit : ℕ) (e : Event) (past : List Event) → end_after limit (e ∷ past) ≡ end_of (answer limit e past)
end_is limit e past = end_after_step limit (end_after limit past) (fetched limit past) e refl (is_end limit past)

pub stays : (limit : ℕ) (e : Event) (past : List Event) (out : FetchOut) → end_after limit past ≡ Some out → (answer limit e past ≡ out) × (fetched limit (e ∷ past) ≡ fetched limit past)
stays limit e past out is =
    let done = ap (λ o. step_after limit o (fetched limit past) e) is in
    (ap (λ v. v.1) done, ap (λ v. v.0) done)
