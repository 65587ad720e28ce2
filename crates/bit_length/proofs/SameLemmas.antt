-- Runs that are the same, one by one.
use Rattle.std.proofs.Common.{◌≡◌, ℕ, ◌+◌, ◌<◌, Bool, true, false, ◌&&◌, List, [], ◌∷◌, ◌++◌, length, take, get_or, refl, sym, ap, ◌∙◌, arith}
use Rattle.std.proofs.lemmas.Bool.{eqb-true, false≢true}
use Rattle.std.proofs.lemmas.List.{take_more}
use Rattle.bit_length.specs.declared.run.Run.{Run}
use Rattle.bit_length.specs.Runs.{is_same, members_of}
use Rattle.bit_length.proofs.SetLemmas.{no_run}

three : (a b c : Bool) → (a && (b && c)) ≡ true → (a ≡ true) × (b ≡ true) × (c ≡ true)
three true true true e = (refl, refl, refl)
three true true false e = absurd (false≢true e)
three true false c e = absurd (false≢true e)
three false b c e = absurd (false≢true e)

pub one_run : (a b : Run) → is_same a b ≡ true → a ≡ b
one_run a b e =
    let w = three _ _ _ e in
    let f = eqb-true a.residue b.residue w.0 in
    let g = eqb-true a.first b.first w.1 in
    let h = eqb-true a.last b.last w.2 in
    ap (λ t. record { residue = t; first = a.first; last = a.last }) f ∙ ap (λ t. record { residue = b.residue; first = t; last = a.last }) g ∙ ap (λ t. record { residue = b.residue; first = b.first; last = t }) h

-- one more that is the same
pub same_more : (xs ys : List Run) (i : ℕ) → i < length xs → length xs ≡ length ys → take i xs ≡ take i ys → is_same (get_or xs i no_run) (get_or ys i no_run) ≡ true → take (i + 1) xs ≡ take (i + 1) ys
same_more xs ys i lt len e same =
    take_more xs i no_run lt ∙ ap (λ l. l ++ get_or xs i no_run ∷ []) e ∙ ap (λ r. take i ys ++ r ∷ []) (one_run (get_or xs i no_run) (get_or ys i no_run) same) ∙ sym (take_more ys i no_run (omega arith))

pub kept_as : (s t : ℕ) (xs ys : List Run) (a b : Run) (v w : List ℕ) → s ≡ t → is_same a b ≡ true → xs ≡ ys → members_of s (xs ++ a ∷ []) ≡ v → members_of t (ys ++ b ∷ []) ≡ w → v ≡ w
kept_as s t xs ys a b v w e f g p q =
    sym p ∙ ap (λ x. members_of x (xs ++ a ∷ [])) e ∙ ap (λ x. members_of t (x ++ a ∷ [])) g ∙ ap (λ x. members_of t (ys ++ x ∷ [])) (one_run a b f) ∙ q
