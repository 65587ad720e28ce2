-- Who is admitted stays so, and who was refused stays out.
use Rattle.std.proofs.Common.{◌≡◌, ◌∙◌, ℕ, zero, suc, ◌≤◌, true, false, not, ◌&&◌, eqb, List, [], ◌∷◌, ◌++◌, length, take, refl, sym, ap, subst, inl, inr, append-nil, length-take, arith}
use Rattle.std.proofs.lemmas.Bool.{or_parts, or_from, or_left, or_right, or_cases, cond_both, both_ways, true≢false}
use Rattle.std.proofs.lemmas.List.{append_assoc}
use Rattle.can_id.specs.declared.key.Kind.{Kind}
use Rattle.rx_table.specs.Keys.{KeyedFrame}
use Rattle.rx_table.specs.Admitted.{has, is_on, sources, admitted}
use Rattle.rx_table.specs.Laws.{AdmittedLasts}

-- a longer log adds sources behind those of before
sources_grow : (kind : Kind) (port : ℕ) (newer log : List KeyedFrame) → (more : List ℕ) × (sources kind port (newer ++ log) ≡ sources kind port log ++ more)
sources_grow kind port [] log = ([], sym (append-nil (sources kind port log)))
sources_grow kind port (f ∷ newer) log =
    let now = sources kind port (newer ++ log) in
    let before = sources_grow kind port newer log in
    cond_both (is_on kind port f && (f.rec.start && not (has f.key.source now))) (now ++ f.key.source ∷ []) now (λ ss. (more : List ℕ) × (ss ≡ sources kind port log ++ more))
    (λ _. (before.0 ++ f.key.source ∷ [], ap (λ ss. ss ++ f.key.source ∷ []) before.1 ∙ append_assoc (sources kind port log) before.0 (f.key.source ∷ [])))
    (λ _. before)

has_longer : (s n : ℕ) (xs ys : List ℕ) → has s (take n xs) ≡ true → has s (take n (xs ++ ys)) ≡ true
has_longer s zero xs ys h = absurd (true≢false (sym h))
has_longer s (suc n) [] ys h = absurd (true≢false (sym h))
has_longer s (suc n) (x ∷ xs) ys h =
    elim (or_cases (eqb x s) (has s (take n xs)) h) [
      | inl e ↦ or_left (eqb x s) (has s (take n (xs ++ ys))) e
      | inr t ↦ or_right (eqb x s) (has s (take n (xs ++ ys))) (has_longer s n xs ys t)
    ]

lacks_longer : (s n : ℕ) (xs ys : List ℕ) → has s xs ≡ true → has s (take n xs) ≡ false → has s (take n (xs ++ ys)) ≡ false
lacks_longer s zero xs ys h l = refl
lacks_longer s (suc n) [] ys h l = absurd (true≢false (sym h))
lacks_longer s (suc n) (x ∷ xs) ys h l =
    let p = or_parts (eqb x s) (has s (take n xs)) l in
    let rest = elim (or_cases (eqb x s) (has s xs) h) as (λ _. has s xs ≡ true) [ inl e ↦ absurd (both_ways (eqb x s) p.0 e) | inr t ↦ t ] in
    or_from (eqb x s) (has s (take n (xs ++ ys))) p.0 (lacks_longer s n xs ys rest p.1)

pub admitted_lasts : AdmittedLasts
admitted_lasts = record {
  stays = λ kind port count source newer log h.
      let grown = sources_grow kind port newer log in
      subst (λ ss. has source (take count ss) ≡ true) (sym grown.1) (has_longer source count (sources kind port log) grown.0 h);
  stays_out = λ kind port count source newer log h l.
      let grown = sources_grow kind port newer log in
      subst (λ ss. has source (take count ss) ≡ false) (sym grown.1) (lacks_longer source count (sources kind port log) grown.0 h l);
}

pub admitted_few : (kind : Kind) (port count : ℕ) (log : List KeyedFrame) → length (admitted kind port count log) ≤ count
admitted_few kind port count log = omega (arith, length-take count (sources kind port log))
