-- The frames that are left are cut from the bytes that are left.
use Rattle.std.proofs.Common.{◌≡◌, ℕ, zero, suc, ◌+◌, ◌-◌, ◌*◌, ◌<◌, Bool, false, not, eqb, List, [], ◌∷◌, ◌++◌, length, take, drop, inl, inr, refl, sym, ap, ◌∙◌, subst, add-one, le_refl, arith}
use Rattle.std.proofs.lemmas.Bool.{ne_eqb, cases_lt}
use Rattle.tail_frame.specs.Frames.{tail_byte}
use Rattle.std.proofs.lemmas.List.{drop-drop, length-drop, nil_from_length}
use Rattle.std.proofs.Math.ListN.{drop_of_length-le}
use Rattle.frag.specs.Wire.{stream, last_frame, is_even, frame_at, frames_from}
use Rattle.frag.specs.Cut.{cut}

-- bytes from two lists in a row
pub take_two : (n : ℕ) (xs ys : List ℕ) → take n (xs ++ ys) ≡ take n xs ++ take (n - length xs) ys
take_two zero xs ys = let e : zero ≡ zero - length xs = omega arith in ap (λ k. take k ys) e
take_two (suc n) [] ys = let e : suc n ≡ suc n - 0 = omega arith in ap (λ k. take k ys) e
take_two (suc n) (x ∷ xs) ys =
    let e : n - length xs ≡ suc n - suc (length xs) = omega arith in
    ap (λ t. x ∷ t) (take_two n xs ys ∙ ap (λ k. take n xs ++ take k ys) e)

pub drop_two : (n : ℕ) (xs ys : List ℕ) → drop n (xs ++ ys) ≡ drop n xs ++ drop (n - length xs) ys
drop_two zero xs ys = let e : zero ≡ zero - length xs = omega arith in ap (λ k. xs ++ drop k ys) e
drop_two (suc n) [] ys = let e : suc n ≡ suc n - 0 = omega arith in ap (λ k. drop k ys) e
drop_two (suc n) (x ∷ xs) ys =
    let e : n - length xs ≡ suc n - suc (length xs) = omega arith in
    drop_two n xs ys ∙ ap (λ k. drop n xs ++ drop k ys) e

-- the first frame that is left, and the others
pub cut_step : (room tid : ℕ) (bytes : List ℕ) (start toggle : Bool) (left : ℕ) → 0 < left → cut room tid bytes start toggle left ≡ (take room bytes ++ tail_byte (record { start = start; end = eqb (left - 1) 0; toggle = toggle; tid = tid }) ∷ []) ∷ cut room tid (drop room bytes) false (not toggle) (left - 1)
cut_step room tid bytes start toggle zero l = absurd (omega arith)
cut_step room tid bytes start toggle (suc n) l =
    let e : n ≡ suc n - 1 = omega arith in
    ap (λ k. (take room bytes ++ tail_byte (record { start = start; end = eqb k 0; toggle = toggle; tid = tid }) ∷ []) ∷ cut room tid (drop room bytes) false (not toggle) k) e

same_end : (i n last : ℕ) → i + suc n ≡ last + 1 → eqb n 0 ≡ eqb i last
same_end i n last e = grind arith

next_place : (i n : ℕ) → i * n + n ≡ (i + 1) * n
next_place i n = omega arith

not_first : (i : ℕ) → eqb (i + 1) 0 ≡ false
not_first i = ne_eqb (i + 1) 0 (omega arith)

turned : (i : ℕ) → is_even (i + 1) ≡ not (is_even i)
turned i = ap is_even (add-one i)

-- frames cut from a transfer's bytes are its frames
pub cut_frames : (m : ℕ) (payload : List ℕ) (tid i n : ℕ) → i + n ≡ last_frame m payload + 1 → cut (m - 1) tid (drop (i * (m - 1)) (stream m payload)) (eqb i 0) (is_even i) n ≡ frames_from m payload tid i n
cut_frames m payload tid i zero e = refl
cut_frames m payload tid i (suc n) e =
    let bytes = stream m payload in
    let dropped : drop (m - 1) (drop (i * (m - 1)) bytes) ≡ drop ((i + 1) * (m - 1)) bytes =
    drop-drop (m - 1) (i * (m - 1)) bytes ∙ ap (λ k. drop k bytes) (next_place i (m - 1)) in
    let later = ap (λ b. cut (m - 1) tid (drop ((i + 1) * (m - 1)) bytes) b (not (is_even i)) n) (sym (not_first i)) in
    let other = ap (λ b. cut (m - 1) tid (drop ((i + 1) * (m - 1)) bytes) (eqb (i + 1) 0) b n) (sym (turned i)) in
    ap (λ b. (take (m - 1) (drop (i * (m - 1)) bytes) ++ tail_byte (record { start = eqb i 0; end = b; toggle = is_even i; tid = tid }) ∷ []) ∷ cut (m - 1) tid (drop (m - 1) (drop (i * (m - 1)) bytes)) false (not (is_even i)) n) (same_end i n (last_frame m payload) e)
    ∙ ap (λ rest. frame_at m payload tid i ∷ rest) (ap (λ b. cut (m - 1) tid b false (not (is_even i)) n) dropped ∙ (later ∙ (other ∙ cut_frames m payload tid (i + 1) n (omega arith))))

-- a list without its first item is shorter
pub fewer : (xs : List (List ℕ)) (x : List ℕ) (ys : List (List ℕ)) → xs ≡ x ∷ ys → length ys < length xs
fewer xs x ys e = subst (λ zs. length ys < length zs) (sym e) (le_refl (suc (length ys)))

-- what is left of a list, found by its length
pub last_part : (k : ℕ) (xs rest : List ℕ) → rest ≡ drop k xs → drop (length xs - length rest) xs ≡ rest
last_part k xs rest e =
    elim (cases_lt k (length xs)) [
      | inl l ↦ (let same : length xs - length rest ≡ k = (let size = ap length e ∙ length-drop k xs in omega arith) in ap (λ n. drop n xs) same ∙ sym e)
      | inr g ↦ (let none : length rest ≡ 0 = (let size = ap length e ∙ length-drop k xs in omega arith) in ap (λ n. drop (length xs - n) xs) none ∙ (drop_of_length-le xs (omega arith) ∙ sym (nil_from_length rest none)))
    ]

-- the bytes of one frame, appended to none in two steps
pub both_parts : (room more place : ℕ) (payload trailer row none first bytes : List ℕ) → none ≡ [] → first ≡ none ++ take room payload → bytes ≡ first ++ take more row → more ≡ room - length payload → row ≡ drop place trailer → bytes ≡ take room payload ++ take (room - length payload) (drop place trailer)
both_parts room more place payload trailer row none first bytes n f b m r =
    b ∙ (ap (λ xs. xs ++ take more row) (f ∙ ap (λ xs. xs ++ take room payload) n) ∙ (ap (λ k. take room payload ++ take k row) m ∙ ap (λ xs. take room payload ++ take (room - length payload) xs) r))

pub rest_part : (room more place : ℕ) (payload trailer row rest : List ℕ) → rest ≡ drop more row → more ≡ room - length payload → row ≡ drop place trailer → rest ≡ drop (room - length payload) (drop place trailer)
rest_part room more place payload trailer row rest e m r = e ∙ (ap (λ k. drop k row) m ∙ ap (λ xs. drop (room - length payload) xs) r)

-- the bytes of one frame from a payload and what stands behind it, and what is left of both
pub next_frame : (room tid place left : ℕ) (payload trailer : List ℕ) (start toggle : Bool) (bytes rest : List ℕ) (tail : ℕ) → 0 < left
    → bytes ≡ take room payload ++ take (room - length payload) (drop place trailer)
    → rest ≡ drop (room - length payload) (drop place trailer)
    → tail ≡ tail_byte (record { start = start; end = eqb (left - 1) 0; toggle = toggle; tid = tid })
    → cut room tid (payload ++ drop place trailer) start toggle left ≡ (bytes ++ tail ∷ []) ∷ cut room tid (drop room payload ++ drop (length trailer - length rest) trailer) false (not toggle) (left - 1)
next_frame room tid place left payload trailer start toggle bytes rest tail l bytes_are rest_is tail_is =
    let behind = drop place trailer in
    let taken : take room (payload ++ behind) ≡ bytes = take_two room payload behind ∙ sym bytes_are in
    let dropped : drop room (payload ++ behind) ≡ drop room payload ++ drop (length trailer - length rest) trailer =
    drop_two room payload behind
    ∙ ap (λ xs. drop room payload ++ xs) (sym rest_is ∙ sym (last_part (place + (room - length payload)) trailer rest (rest_is ∙ drop-drop (room - length payload) place trailer))) in
    cut_step room tid (payload ++ behind) start toggle left l
    ∙ (ap (λ xs. (xs ++ tail_byte (record { start = start; end = eqb (left - 1) 0; toggle = toggle; tid = tid }) ∷ []) ∷ cut room tid (drop room (payload ++ behind)) false (not toggle) (left - 1)) taken
    ∙ (ap (λ t. (bytes ++ t ∷ []) ∷ cut room tid (drop room (payload ++ behind)) false (not toggle) (left - 1)) (sym tail_is)
    ∙ ap (λ xs. (bytes ++ tail ∷ []) ∷ cut room tid xs false (not toggle) (left - 1)) dropped))
