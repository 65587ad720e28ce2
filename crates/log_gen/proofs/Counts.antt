-- The number of a transfer's frames.
use Rattle.std.proofs.Common.{◌≡◌, ℕ, zero, suc, ◌+◌, ◌-◌, ◌≤◌, List, ◌∷◌, length, refl, sym, ap, ◌∙◌, subst, inl, inr, arith}
use Rattle.std.proofs.lemmas.Bool.{cases_lt}
use Rattle.frag.specs.Wire.{last_frame, frame_at, frames_from, frames}
use Rattle.frag.proofs.Sizes.{one_frame, more_frames}

count_from : (m : ℕ) (payload : List ℕ) (tid i n : ℕ) → length (frames_from m payload tid i n) ≡ n
count_from m payload tid i zero = refl
count_from m payload tid i (suc n) = ap suc (count_from m payload tid (i + 1) n)

pub frames_count : (m : ℕ) (payload : List ℕ) (tid : ℕ) → length (frames m payload tid) ≡ last_frame m payload + 1
frames_count m payload tid = count_from m payload tid 0 (last_frame m payload + 1)

-- all that stand in a list of frames
pub frames_left : (m : ℕ) (payload : List ℕ) (tid : ℕ) (all : List (List ℕ)) → all ≡ frames m payload tid → all ≡ frames_from m payload tid 0 (length all)
frames_left m payload tid all e = e ∙ ap (frames_from m payload tid 0) (sym (ap length e ∙ frames_count m payload tid))

-- a payload of the log has at most six frames
pub few_frames : (payload : List ℕ) → length payload ≤ 39 → last_frame 8 payload ≤ 5
few_frames payload most =
    elim (cases_lt (8 - 1) (length payload)) [
      | inl l ↦ (let e = more_frames 8 payload (inl refl) l in omega arith)
      | inr g ↦ (let e = one_frame 8 payload (inl refl) g in omega arith)
    ]

-- the first of them, and the others
pub first_frame : (m : ℕ) (payload : List ℕ) (tid i : ℕ) (bytes : List ℕ) (all rest : List (List ℕ)) → all ≡ frames_from m payload tid i (length all) → all ≡ bytes ∷ rest → (bytes ≡ frame_at m payload tid i) × (rest ≡ frames_from m payload tid (i + 1) (length rest))
first_frame m payload tid i bytes all rest left e =
    let P : List (List ℕ) → Type 0 = λ xs. xs ≡ frames_from m payload tid i (length xs) in
    let all_of : bytes ∷ rest ≡ frame_at m payload tid i ∷ frames_from m payload tid (i + 1) (length rest) = subst P e left in ((cc), (cc))
