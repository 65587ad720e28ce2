-- Every file within the limit can be fetched: each request answered in turn
use Rattle.std.proofs.Common.{◌≡◌, ℕ, zero, suc, ◌+◌, ◌-◌, ◌*◌, ◌<◌, ◌≤◌, min, List, [], ◌∷◌, ◌++◌, length, take, drop, None, refl, sym, ap, ◌∙◌, inl, inr, length-append, length-take, length-drop, arith}
use Rattle.std.proofs.lemmas.Bool.{cases_lt}
use Rattle.file_client.specs.Fetch.{Event, reply, State, tid_of, offset_of, on_piece, step, step_after, fetched}
use Rattle.file_client.specs.Laws.{IsFairReply, IsFair, FairToDone, offset_after, end_after}
use Rattle.file_client.proofs.Steps.{piece_last, piece_more, reply_taken}
use Rattle.file_client.proofs.Fair.{Served, served}

module _ (file : List ℕ) (limit : ℕ) where
  answered : (s : State) → s.end ≡ None → Served file limit s → IsFairReply file s (tid_of s) 0 (take 256 (drop (offset_of s) file))
  answered s none sv = record {
    newer = 0;
    code_is = refl;
    recent = omega arith;
    made = sv.asked;
    tid_is = omega arith;
    bytes_are = ap (λ o. take 256 (drop o file)) (sym (sv.out none));
  }

  -- a reply to the request that is out brings its bytes
  taken : (past : List Event) (bytes : List ℕ) → end_after limit past ≡ None → step limit (fetched limit past) (reply (tid_of (fetched limit past)) 0 bytes) ≡ on_piece limit (fetched limit past) bytes
  taken past bytes none =
      let s = fetched limit past in
      ap (λ o. step_after limit o s (reply (tid_of s) 0 bytes)) none ∙ reply_taken limit s (tid_of s) 0 bytes refl refl

  -- n more replies are enough where 256 times n bytes reach past the file
  go : (n : ℕ) (past : List Event) → length file ≤ limit → IsFair file limit past → end_after limit past ≡ None → length file < offset_after limit past + 256 * n → FairToDone file limit
  go zero past within f none far =
      let so_far : offset_after limit past ≡ min (offset_after limit past) (length file) = ap length (served file limit past f).front ∙ length-take (offset_after limit past) file in
      absurd (omega (arith, so_far, far))
  go (suc n) past within f none far =
      let s = fetched limit past in
      let sv = served file limit past f in
      let bytes = take 256 (drop (offset_of s) file) in
      let so_far : offset_of s ≡ min (offset_of s) (length file) = ap length sv.front ∙ length-take (offset_of s) file in
      let came : length bytes ≡ min 256 (length file - offset_of s) = length-take 256 (drop (offset_of s) file) ∙ ap (min 256) (length-drop (offset_of s) file) in
      let fits : offset_of s + length bytes ≤ limit = omega (arith, so_far, came, within) in
      let fair = answered s none sv in
      elim (cases_lt (length bytes) 256) [
        | inl short ↦ record {
          past = reply (tid_of s) 0 bytes ∷ past;
          fair = (fair, f);
          done = ap (λ v. v.0.end) (taken past bytes none ∙ piece_last limit s bytes fits short);
        }
        | inr full ↦
            let next = taken past bytes none ∙ piece_more limit s bytes fits full in
            let at : offset_after limit (reply (tid_of s) 0 bytes ∷ past) ≡ length (s.file ++ bytes) = ap (λ v. offset_of v.0) next in
            go n (reply (tid_of s) 0 bytes ∷ past) within (fair, f) (ap (λ v. v.0.end) next ∙ none) (omega (arith, at, length-append s.file bytes, came, full, far))
      ]

  pub can_be_fetched : length file ≤ limit → FairToDone file limit
  can_be_fetched within = go (length file + 1) [] within _ refl (omega arith)
