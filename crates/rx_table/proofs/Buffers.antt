-- A buffer that keeps the front of the bytes put into it
use Rattle.std.proofs.Common.{◌≡◌, ℕ, ◌+◌, ◌-◌, ◌^◌, ◌<◌, ◌≤◌, List, [], ◌++◌, length, take, drop, sym, ap, ◌∙◌, inl, inr, append-nil, le_refl, take_all, take-take, length-append, length-take, arith}
use Rattle.std.proofs.lemmas.Bool.{cases_lt}
use Rattle.std.proofs.lemmas.List.{append_assoc, drop_all, take-append-le}
use Rattle.std.proofs.Math.Seq.{take-append-add}
use Rattle.cy_bits.specs.Put.{put_at}
use Rattle.rx_session.specs.Session.{capped}
use Rattle.rx_session.proofs.Buffers.{length_put}
use Rattle.rx_table.specs.Stands.{Holds}

-- the front, then what is put and what stays behind it
put_grouped : (buffer : List ℕ) (n : ℕ) (bytes : List ℕ) → put_at buffer n bytes ≡ take n buffer ++ (take (length buffer - n) bytes ++ drop (n + length bytes) buffer)
put_grouped buffer n bytes = append_assoc (take n buffer) (take (length buffer - n) bytes) (drop (n + length bytes) buffer)

-- past its end nothing is put
put_past : (buffer : List ℕ) (n : ℕ) (bytes : List ℕ) → length buffer ≤ n → put_at buffer n bytes ≡ buffer
put_past buffer n bytes le =
    let none : length buffer - n ≡ 0 = omega arith in
    let far : length buffer ≤ n + length bytes = omega arith in
    put_grouped buffer n bytes
    ∙ (ap (λ a. a ++ (take (length buffer - n) bytes ++ drop (n + length bytes) buffer)) (take_all n buffer le)
    ∙ (ap (λ k. buffer ++ (take k bytes ++ drop (n + length bytes) buffer)) none
    ∙ (ap (λ a. buffer ++ ([] ++ a)) (drop_all (n + length bytes) buffer far) ∙ append-nil buffer)))

take_both : (n : ℕ) (xs ys : List ℕ) → length xs ≤ n → take n (xs ++ ys) ≡ xs ++ take (n - length xs) ys
take_both n xs ys le =
    let at : n ≡ length xs + (n - length xs) = omega arith in
    ap (λ k. take k (xs ++ ys)) at ∙ take-append-add xs ys (n - length xs)

-- as many as there are of what was cut and what stands behind it
take_cut : (k : ℕ) (more rest : List ℕ) → (k < length more → rest ≡ []) → take (length more) (take k more ++ rest) ≡ take k more
take_cut k more rest f =
    elim (cases_lt k (length more)) [
      | inl l ↦
          let short = length-take k more in
          ap (λ r. take (length more) (take k more ++ r)) (f l) ∙ (ap (take (length more)) (append-nil (take k more)) ∙ take_all (length more) (take k more) (omega arith))
      | inr g ↦
          let whole = take_all k more g in
          ap (λ m. take (length more) (m ++ rest)) whole ∙ (take-append-le (length more) more rest (le_refl (length more)) ∙ (take_all (length more) more (le_refl (length more)) ∙ sym whole))
    ]

-- the front stays, and more bytes stand behind it
pub holds_put : (buffer bytes more : List ℕ) → Holds buffer bytes → Holds (put_at buffer (length bytes) more) (bytes ++ more)
holds_put buffer bytes more h =
    let n = length bytes in
    let same = length_put buffer n more in
    let long = length-append bytes more in
    ap (λ k. take k (bytes ++ more)) same
    ∙ (elim (cases_lt n (length buffer)) as (λ _. take (length buffer) (bytes ++ more) ≡ take (n + length more) (put_at buffer n more)) [
      | inr past ↦
          take-append-le (length buffer) bytes more past ∙ (h ∙ (take_all n buffer past
          ∙ sym (ap (take (n + length more)) (put_past buffer n more past) ∙ take_all (n + length more) buffer (omega arith))))
      | inl in_reach ↦
          let front : take n buffer ≡ bytes = sym h ∙ take_all (length buffer) bytes (omega arith) in
          let rest = take (length buffer - n) more ++ drop (n + length more) buffer in
          let more_at : n + length more - n ≡ length more = omega arith in
          take_both (length buffer) bytes more (omega arith)
          ∙ sym (ap (take (n + length more)) (put_grouped buffer n more) ∙ (ap (λ b. take (n + length more) (b ++ rest)) front
          ∙ (take_both (n + length more) bytes rest (omega arith)
          ∙ ap (λ b. bytes ++ b) (ap (λ k. take k rest) more_at ∙ take_cut (length buffer - n) more (drop (n + length more) buffer) (λ l. drop_all (n + length more) buffer (omega arith))))))
    ]
    ∙ ap (λ k. take k (put_at buffer n more)) (sym long))

pub holds_first : (buffer bytes : List ℕ) → Holds (put_at buffer 0 bytes) bytes
holds_first buffer bytes = holds_put buffer [] bytes (take_all (length buffer) [] (omega arith))

take_swap : (a b : ℕ) (xs : List ℕ) → a ≤ b → take a (take b xs) ≡ take b (take a xs)
take_swap a b xs le = let short = length-take a xs in take-take a b xs le ∙ sym (take_all b (take a xs) (omega arith))

-- all but the last bytes are lent from the buffer
pub holds_front : (buffer bytes : List ℕ) (n : ℕ) → Holds buffer bytes → n ≤ length bytes → take n buffer ≡ take (length buffer) (take n bytes)
holds_front buffer bytes n h le =
    sym (take-take n (length bytes) buffer le) ∙ (ap (take n) (sym h)
    ∙ elim (cases_lt n (length buffer)) [ inl l ↦ take_swap n (length buffer) bytes (omega arith) | inr g ↦ sym (take_swap (length buffer) n bytes g) ])

-- a count that was capped is past the buffer's end as the count is
pub put_capped : (buffer : List ℕ) (n : ℕ) (bytes : List ℕ) → length buffer + 2 < 2 ^ 64 → put_at buffer (capped n) bytes ≡ put_at buffer n bytes
put_capped buffer n bytes small =
    elim (cases_lt n (2 ^ 64)) [
      | inl l ↦ (let same : capped n ≡ n = omega arith in ap (λ k. put_at buffer k bytes) same)
      | inr g ↦ put_past buffer (capped n) bytes (omega arith) ∙ sym (put_past buffer n bytes (omega arith))
    ]

pub take_capped : (buffer : List ℕ) (n : ℕ) → length buffer + 2 < 2 ^ 64 → take (capped n - 2) buffer ≡ take (n - 2) buffer
take_capped buffer n small =
    elim (cases_lt n (2 ^ 64)) [
      | inl l ↦ (let same : capped n ≡ n = omega arith in ap (λ k. take (k - 2) buffer) same)
      | inr g ↦ take_all (capped n - 2) buffer (omega arith) ∙ sym (take_all (n - 2) buffer (omega arith))
    ]
