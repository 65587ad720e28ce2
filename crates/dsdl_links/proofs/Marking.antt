-- Marking files one after the other
use Rattle.std.proofs.Common.{◌≡◌, ◌≢◌, ℕ, zero, suc, ◌<◌, ◌==◌, Bool, true, false, List, [], ◌∷◌, ◌++◌, length, set, ◌⊎◌, inl, inr, refl, sym, ap, ◌∙◌, subst, arith, eq-eqb}
use Rattle.std.proofs.lemmas.Bool.{false≢true, eqb-true}
use Rattle.std.proofs.lemmas.List.{get_or-set_same, get_or-set_other, length-append}
use Rattle.dsdl_links.specs.Order.{is_among}
use Rattle.dsdl_links.specs.Marks.{is_marked, unmarked, Marks}
use Rattle.dsdl_links.proofs.Among.{decide, among_front, among_last, among_push, each, from_each, all_push}

pub differs : (k x : ℕ) → (k == x) ≡ false → k ≢ x
differs k x h e = false≢true (sym h ∙ eq-eqb k x e)

pub now_marked : (marks : List Bool) (x : ℕ) → x < length marks → is_marked (set marks x true) x ≡ true
now_marked marks x lt = get_or-set_same marks x true false lt

pub stays_marked : (marks : List Bool) (x k : ℕ) → x < length marks → is_marked marks k ≡ true → is_marked (set marks x true) k ≡ true
stays_marked marks x k lt h = at (decide (k == x))
  where
    at : ((k == x) ≡ true) ⊎ ((k == x) ≡ false) → is_marked (set marks x true) k ≡ true
    at (inl e) = subst (λ n. is_marked (set marks x true) n ≡ true) (sym (eqb-true k x e)) (now_marked marks x lt)
    at (inr e) = get_or-set_other marks x k true false (differs k x e) ∙ h

pub was_marked : (marks : List Bool) (x k : ℕ) → is_marked (set marks x true) k ≡ true → (is_marked marks k ≡ true) ⊎ (k ≡ x)
was_marked marks x k h = at (decide (k == x))
  where
    at : ((k == x) ≡ true) ⊎ ((k == x) ≡ false) → (is_marked marks k ≡ true) ⊎ (k ≡ x)
    at (inl e) = inr (eqb-true k x e)
    at (inr e) = inl (sym (get_or-set_other marks x k true false (differs k x e)) ∙ h)

one_fewer : (marks : List Bool) (x : ℕ) → x < length marks → is_marked marks x ≡ false → suc (unmarked (set marks x true)) ≡ unmarked marks
one_fewer [] x lt h = absurd (omega arith)
one_fewer (true ∷ marks) zero lt h = absurd (false≢true (sym h))
one_fewer (false ∷ marks) zero lt h = refl
one_fewer (true ∷ marks) (suc x) lt h = one_fewer marks x (omega arith) h
one_fewer (false ∷ marks) (suc x) lt h = ap (λ n. suc n) (one_fewer marks x (omega arith) h)

pub mark_none : (marks : List Bool) (waits : List ℕ) → Marks [] marks marks waits waits
mark_none marks waits = record {
  all = refl;
  kept = λ k h. h;
  no_more = λ k h. inl h;
  still = λ k h. h;
  waiting = λ k h. inl h;
  count = refl;
}

module _ (files : List ℕ) (x : ℕ) (old new : List Bool) (waited waits : List ℕ) (m : Marks files old new waited waits) where
  pub mark_marked : is_marked new x ≡ true → Marks (files ++ x ∷ []) old new waited waits
  mark_marked h = record {
    all = all_push (is_marked new) files x m.all h;
    kept = m.kept;
    no_more = λ k e. elim (m.no_more k e) [ inl p ↦ inl p | inr p ↦ inr (among_front files (x ∷ []) k p.0, p.1) ];
    still = m.still;
    waiting = λ k e. elim (m.waiting k e) [ inl p ↦ inl p | inr p ↦ inr (among_front files (x ∷ []) k p) ];
    count = m.count;
  }

  pub mark_new : x < length new → is_marked new x ≡ false → Marks (files ++ x ∷ []) old (set new x true) waited (waits ++ x ∷ [])
  mark_new lt h = record {
    all = all_push (is_marked (set new x true)) files x (from_each (is_marked (set new x true)) files (λ k e. stays_marked new x k lt (each (is_marked new) files k m.all e))) (now_marked new x lt);
    kept = λ k e. stays_marked new x k lt (m.kept k e);
    no_more = λ k e. elim (was_marked new x k e) [
      | inl p ↦ elim (m.no_more k p) [ inl q ↦ inl q | inr q ↦ inr (among_front files (x ∷ []) k q.0, among_front waits (x ∷ []) k q.1) ]
      | inr p ↦ inr (subst (λ n. is_among (files ++ x ∷ []) n ≡ true) (sym p) (among_last files x), subst (λ n. is_among (waits ++ x ∷ []) n ≡ true) (sym p) (among_last waits x))
    ];
    still = λ k e. among_front waits (x ∷ []) k (m.still k e);
    waiting = λ k e. elim (among_push waits x k e) [
      | inl p ↦ elim (m.waiting k p) [ inl q ↦ inl q | inr q ↦ inr (among_front files (x ∷ []) k q) ]
      | inr p ↦ inr (subst (λ n. is_among (files ++ x ∷ []) n ≡ true) (sym p) (among_last files x))
    ];
    count = omega (arith, m.count, one_fewer new x lt h, length-append waits (x ∷ []));
  }
