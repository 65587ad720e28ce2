-- What was taken of an input.
use Rattle.std.proofs.Common.{◌≡◌, ◌∙◌, ℕ, List, [], ◌++◌, take, drop, Option, Some, None, refl, sym, ap, subst, append_assoc}
use Rattle.std.proofs.lemmas.List.{take-append-drop}
use Rattle.cy_outside.specs.Outside.{Takes}
use Rattle.line_loop.specs.Input.{IsTaken, Took, IsEnd}

pub took_none : (left : Option (List ℕ)) → Took left left []
took_none None = ([], refl)
took_none (Some l) = (l, (refl, refl))

pub took_more : (a b c : Option (List ℕ)) (x y : List ℕ) → Took a b x → Took b c y → Took a c (x ++ y)
took_more None b c x y h k = ([], rest h.1 k.1)
  where
    rest : b ≡ None → IsTaken b c y k.0 → c ≡ None
    rest e t = subst (λ (o : Option (List ℕ)). IsTaken o c y k.0) e t
took_more (Some l) b c x y h k = (k.0, both (subst (λ (o : Option (List ℕ)). IsTaken o c y k.0) h.1.1 k.1))
  where
    both : (h.0 ≡ y ++ k.0) × (c ≡ Some k.0) → (l ≡ (x ++ y) ++ k.0) × (c ≡ Some k.0)
    both t = (h.1.0 ∙ (ap (λ (s : List ℕ). x ++ s) t.0 ∙ sym (append_assoc x y k.0)), t.1)

-- what a read takes
pub took_read : (left new : Option (List ℕ)) (before after : List ℕ) (n : ℕ) → Takes left new before after n → Took left new (take n after)
took_read None new before after n h = ([], h)
took_read (Some l) new before after n h = (drop n l, (sym (take-append-drop n l) ∙ ap (λ (s : List ℕ). s ++ drop n l) (sym h.1), h.2))

-- at the end nothing stands behind
pub taken_end : (left new : Option (List ℕ)) (x : List ℕ) → Took left new x → IsEnd new → IsTaken left new x []
taken_end None new x h e = h.1
taken_end (Some l) new x h e =
    let rest : h.0 ≡ [] = subst (λ (o : Option (List ℕ)). IsEnd o) h.1.1 e in
    (h.1.0 ∙ ap (λ (s : List ℕ). x ++ s) rest, h.1.1 ∙ ap Some rest)
