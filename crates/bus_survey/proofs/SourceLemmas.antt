-- The nodes that sent frames, by truths.
use Rattle.std.proofs.Common.{◌≡◌, ◌∙◌, ℕ, zero, suc, ◌+◌, ◌<◌, ◌≤◌, Bool, true, false, ◌||◌, List, length, get_or-set_same, get_or-set_other, set, nat_eq, eqb-true, refl, sym, ap, ap₂, arith}
use Rattle.std.specs.Prelude.{slice_index_or}
use Rattle.std.proofs.lemmas.Bool.{eqb-false}
use Rattle.bus_survey.specs.Sources.{count_below}
use Rattle.bus_survey.specs.Starts.{one_if}
use Rattle.bus_survey.proofs.CountLemmas.{one_low}

pub count_none : (test : ℕ → Bool) → count_below test 0 ≡ 0
unfolding count_below
count_none test = refl

count_next : (test : ℕ → Bool) (n : ℕ) → count_below test (suc n) ≡ count_below test n + one_if (test n)
unfolding count_below
count_next test n = refl

pub count_more : (test : ℕ → Bool) (n : ℕ) → count_below test (n + 1) ≡ count_below test n + one_if (test n)
count_more test n = let same : n + 1 ≡ suc n = omega arith in ap (count_below test) same ∙ count_next test n

-- a count that goes on
pub counts_on : (test : ℕ → Bool) (n count new : ℕ) (b : Bool) → count ≡ count_below test n → test n ≡ b → new ≡ count + one_if b → new ≡ count_below test (n + 1)
counts_on test n count new b is at more = more ∙ ap₂ (λ m t. m + one_if t) is (sym at) ∙ sym (count_more test n)

-- tests that agree below n
pub count_same : (f g : ℕ → Bool) (n : ℕ) → ((k : ℕ) → k < n → f k ≡ g k) → count_below f n ≡ count_below g n
count_same f g zero same = count_none f ∙ sym (count_none g)
count_same f g (suc n) same =
    count_next f n ∙ ap₂ (λ a b. a + one_if b) (count_same f g n (λ k low. same k (omega arith))) (same n (omega arith)) ∙ sym (count_next g n)

pub count_low : (f : ℕ → Bool) (n : ℕ) → count_below f n ≤ n
count_low f zero = omega (arith, count_none f)
count_low f (suc n) = omega (arith, count_next f n, count_low f n, one_low (f n))

-- a node is marked
pub marks : (heard : List Bool) (n node : ℕ) (b : Bool) → n < length heard → slice_index_or heard node false ≡ b → slice_index_or (set heard n true) node false ≡ nat_eq n node || b
marks heard n node b low is = at (nat_eq n node) refl
  where
    at : (same : Bool) → nat_eq n node ≡ same → slice_index_or (set heard n true) node false ≡ nat_eq n node || b
    at true e =
        ap (λ k. slice_index_or (set heard n true) k false) (sym (eqb-true n node e)) ∙ get_or-set_same heard n true false low ∙ sym (ap (λ c. c || b) e)
    at false e =
        get_or-set_other heard n node true false (λ same. eqb-false n node e (sym same)) ∙ is ∙ sym (ap (λ c. c || b) e)
