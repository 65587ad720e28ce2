-- What is there of the numbers below a bound.
use Rattle.std.proofs.Common.{◌≡◌, ℕ, zero, suc, ◌+◌, ◌<◌, ◌≤◌, [], ◌∷◌, ◌++◌, map, length, length-append, Option, Some, None, option_map, refl, sym, ap, ◌∙◌, append-nil, arith}
use Rattle.std.proofs.lemmas.List.{map-append}
use Rattle.net_monitor.specs.Online.{gathered, listed}

pub gathered_step : {X : Type 0} (f : ℕ → Option X) (k : ℕ) → gathered f (suc k) ≡ gathered f k ++ listed (f k)
unfolding gathered
gathered_step f k = refl

pub gathered_zero : {X : Type 0} (f : ℕ → Option X) → gathered f 0 ≡ []
unfolding gathered
gathered_zero f = refl

next : {X : Type 0} (f : ℕ → Option X) (k : ℕ) → gathered f (k + 1) ≡ gathered f k ++ listed (f k)
next f k = let same : k + 1 ≡ suc k = omega arith in ap (gathered f) same ∙ gathered_step f k

pub gathered_some : {X : Type 0} (f : ℕ → Option X) (k : ℕ) (x : X) → f k ≡ Some x → gathered f (k + 1) ≡ gathered f k ++ x ∷ []
gathered_some f k x e = next f k ∙ ap (λ o. gathered f k ++ listed o) e

pub gathered_none : {X : Type 0} (f : ℕ → Option X) (k : ℕ) → f k ≡ None → gathered f (k + 1) ≡ gathered f k
gathered_none f k e = next f k ∙ ap (λ o. gathered f k ++ listed o) e ∙ append-nil (gathered f k)

-- what agrees below k gives the same list
pub gathered_same : {X : Type 0} (f g : ℕ → Option X) (k : ℕ) → ((n : ℕ) → n < k → f n ≡ g n) → gathered f k ≡ gathered g k
gathered_same f g zero same = gathered_zero f ∙ sym (gathered_zero g)
gathered_same f g (suc k) same =
    gathered_step f k
    ∙ ap (λ o. gathered f k ++ listed o) (same k (omega arith))
    ∙ ap (λ xs. xs ++ listed (g k)) (gathered_same f g k (λ n h. same n (omega arith)))
    ∙ sym (gathered_step g k)

listed_length : {X : Type 0} (o : Option X) → length (listed o) ≤ 1
listed_length None = omega arith
listed_length (Some x) = omega arith

pub gathered_length : {X : Type 0} (f : ℕ → Option X) (k : ℕ) → length (gathered f k) ≤ k
gathered_length f zero = omega (arith, ap length (gathered_zero f))
gathered_length f (suc k) = omega (arith, ap length (gathered_step f k), length-append (gathered f k) (listed (f k)), listed_length (f k), gathered_length f k)

-- where nothing is there, nothing is gathered
pub gathered_nothing : {X : Type 0} (f : ℕ → Option X) (k : ℕ) → ((n : ℕ) → n < k → f n ≡ None) → gathered f k ≡ []
gathered_nothing f zero none = gathered_zero f
gathered_nothing f (suc k) none =
    gathered_step f k
    ∙ ap (λ o. gathered f k ++ listed o) (none k (omega arith))
    ∙ append-nil (gathered f k)
    ∙ gathered_nothing f k (λ n h. none n (omega arith))

listed_map : {X Y : Type 0} (g : X → Y) (o : Option X) → map g (listed o) ≡ listed (option_map g o)
listed_map g None = refl
listed_map g (Some x) = refl

-- what is made of each that is gathered
pub gathered_map : {X Y : Type 0} (g : X → Y) (f : ℕ → Option X) (k : ℕ) → map g (gathered f k) ≡ gathered (λ n. option_map g (f n)) k
gathered_map g f zero = ap (map g) (gathered_zero f) ∙ sym (gathered_zero (λ n. option_map g (f n)))
gathered_map g f (suc k) =
    ap (map g) (gathered_step f k)
    ∙ map-append g (gathered f k) (listed (f k))
    ∙ ap (λ xs. xs ++ map g (listed (f k))) (gathered_map g f k)
    ∙ ap (λ xs. gathered (λ n. option_map g (f n)) k ++ xs) (listed_map g (f k))
    ∙ sym (gathered_step (λ n. option_map g (f n)) k)
