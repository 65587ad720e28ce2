-- The files that one file reaches, with a stack of those whose references aren't followed yet
use Rattle.std.proofs.Common.{◌≡◌, ℕ, zero, suc, ◌<◌, ◌+◌, Bool, true, false, List, [], ◌∷◌, ◌++◌, length, replicate, ◌⊎◌, inl, inr, refl, sym, ◌∙◌, subst, arith, MatchBool}
use Rattle.std.proofs.lemmas.Bool.{false≢true}
use Rattle.std.proofs.lemmas.List.{length-append}
use Rattle.dsdl_links.specs.Order.{is_among, links_at, Reaches, refers, through}
use Rattle.dsdl_links.specs.Marks.{is_marked, are_marked, unmarked, Marks}
use Rattle.dsdl_links.proofs.Among.{among_front, among_last, among_push, each, from_each}

pub record Follows (links : List (List ℕ)) (file : ℕ) (reached : List Bool) (waits : List ℕ) : Type 0 where
  pub sound : (k : ℕ) → is_marked reached k ≡ true → Reaches links file k
  pub from : (k : ℕ) → is_among waits k ≡ true → (k ≡ file) ⊎ Reaches links file k
  pub followed : (k : ℕ) → (k ≡ file) ⊎ (is_marked reached k ≡ true) → (is_among waits k ≡ true) ⊎ (are_marked reached (links_at links k) ≡ true)
  pub within : (k : ℕ) → is_among waits k ≡ true → k < length links

none_marked : (n k : ℕ) → is_marked (replicate n false) k ≡ false
none_marked zero k = refl
none_marked (suc n) zero = refl
none_marked (suc n) (suc k) = none_marked n k

pub follow_none : (links : List (List ℕ)) (file n : ℕ) → file < length links → Follows links file (replicate n false) (file ∷ [])
follow_none links file n lt = record {
  sound = λ k h. absurd (false≢true (sym (none_marked n k) ∙ h));
  from = λ k h. elim (among_push [] file k h) [ inl e ↦ absurd (false≢true e) | inr e ↦ inl e ];
  followed = λ k h. elim h [ inl e ↦ inl (subst (λ i. is_among (file ∷ []) i ≡ true) (sym e) (among_last [] file)) | inr e ↦ absurd (false≢true (sym (none_marked n k) ∙ e)) ];
  within = λ k h. elim (among_push [] file k h) [ inl e ↦ absurd (false≢true e) | inr e ↦ subst (λ i. i < length links) (sym e) lt ];
}

pub further : (links : List (List ℕ)) (file i j : ℕ) → (i ≡ file) ⊎ Reaches links file i → is_among (links_at links i) j ≡ true → Reaches links file j
further links file i j (inl e) m = subst (λ k. Reaches links k j) e (refers m)
further links file i j (inr r) m = onward r
  where
    onward : {k : ℕ} → Reaches links k i → Reaches links k j
    onward (refers a) = through a (refers m)
    onward (through a r) = through a (onward r)

module _ (links : List (List ℕ)) (file x : ℕ) (reached marks : List Bool) (rest waits : List ℕ) (f : Follows links file reached (rest ++ x ∷ [])) (m : Marks (links_at links x) reached marks rest waits)
    (closed : (j : ℕ) → is_among (links_at links x) j ≡ true → j < length links) where
  from_x : (x ≡ file) ⊎ Reaches links file x
  from_x = f.from x (among_last rest x)

  old_followed : (k : ℕ) → (k ≡ file) ⊎ (is_marked reached k ≡ true) → (is_among waits k ≡ true) ⊎ (are_marked marks (links_at links k) ≡ true)
  old_followed k h = elim (f.followed k h) [
    | inl e ↦ elim (among_push rest x k e) [ inl p ↦ inl (m.still k p) | inr p ↦ inr (subst (λ i. are_marked marks (links_at links i) ≡ true) (sym p) m.all) ]
    | inr e ↦ inr (from_each (is_marked marks) (links_at links k) (λ j a. m.kept j (each (is_marked reached) (links_at links k) j e a)))
  ]

  pub follow_more : Follows links file marks waits
  follow_more = record {
    sound = λ k h. elim (m.no_more k h) [ inl e ↦ f.sound k e | inr e ↦ further links file x k from_x e.0 ];
    from = λ k h. elim (m.waiting k h) [ inl e ↦ f.from k (among_front rest (x ∷ []) k e) | inr e ↦ inr (further links file x k from_x e) ];
    followed = λ k h. elim h [ inl e ↦ old_followed k (inl e) | inr e ↦ elim (m.no_more k e) [ inl p ↦ old_followed k (inr p) | inr p ↦ inl p.1 ] ];
    within = λ k h. elim (m.waiting k h) [ inl e ↦ f.within k (among_front rest (x ∷ []) k e) | inr e ↦ closed k e ];
  }

  pub fewer_left : unmarked marks + length waits < unmarked reached + length (rest ++ x ∷ [])
  fewer_left = omega (arith, m.count, length-append rest (x ∷ []))

pub waits_within : (links : List (List ℕ)) (file x : ℕ) (reached : List Bool) (rest : List ℕ) → Follows links file reached (rest ++ x ∷ []) → x < length links
waits_within links file x reached rest f = f.within x (among_last rest x)

module _ (links : List (List ℕ)) (file : ℕ) (reached : List Bool) (f : Follows links file reached []) where
  next_marked : (k j : ℕ) → (k ≡ file) ⊎ (is_marked reached k ≡ true) → is_among (links_at links k) j ≡ true → is_marked reached j ≡ true
  next_marked k j h a = elim (f.followed k h) [ inl e ↦ absurd (false≢true e) | inr e ↦ each (is_marked reached) (links_at links k) j e a ]

  all_marked : {k j : ℕ} → (k ≡ file) ⊎ (is_marked reached k ≡ true) → Reaches links k j → is_marked reached j ≡ true
  all_marked {k} {j} h (refers a) = next_marked k j h a
  all_marked {k} h (through {i} {k = m} {j} a r) = all_marked (inr (next_marked k m h a)) r

  told : (b : Bool) → is_marked reached file ≡ b → MatchBool b (Reaches links file file) (Reaches links file file → ⊥)
  told true h = f.sound file h
  told false h = λ r. false≢true (sym h ∙ all_marked (inl refl) r)

  pub follow_end : MatchBool (is_marked reached file) (Reaches links file file) (Reaches links file file → ⊥)
  follow_end = told (is_marked reached file) refl
