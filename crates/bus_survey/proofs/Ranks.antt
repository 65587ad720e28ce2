-- Flows come in the order of their numbers.
use Rattle.std.proofs.Common.{◌≡◌, ◌∙◌, ℕ, ◌+◌, ◌*◌, ◌<◌, ◌==◌, nat_eq, nat_lt, true, false, Option, Some, None, Ordering, Less, Equal, Greater, is_eq, refl, sym, ap, ap₂, arith}
use Rattle.std.specs.Cmp.{Equal-is}
use Rattle.std.specs.Option.{option_cmp}
use Rattle.std.specs.Ordering.{nat_cmp, ordering_then}
use Rattle.std.proofs.lemmas.Bool.Decides.{nat_tests}
use Rattle.std.proofs.lemmas.Cmp.{by_ranked, ranked}
use Rattle.bus_survey.specs.Flows.{flow_order, kind_number, sender_order}
use Rattle.bus_survey.specs.Ranks.{rank, receiver_number, sender_number, IsRanked, IsSender}
use Rattle.bus_survey.specs.declared.flow.Flow.{Flow}
use Rattle.bus_survey.specs.declared.flow.Sender.{Sender}
use Rattle.bus_survey.specs.declared.flow.Sender.TheVariants.{Node, Anonymous}
use Rattle.bus_survey.proofs.Orders.{flow_order_exact}

less : (x y : ℕ) → x < y → nat_cmp x y ≡ Less
less x y lt = let t : nat_lt x y ≡ true = grind (arith, nat_tests) in rw t refl

equal : (x y : ℕ) → x ≡ y → nat_cmp x y ≡ Equal
equal x y f =
    let t : nat_lt x y ≡ false = grind (arith, nat_tests) in
    let u : (x == y) ≡ true = grind (arith, nat_tests) in rw (t, u) refl

greater : (x y : ℕ) → y < x → nat_cmp x y ≡ Greater
greater x y gt =
    let t : nat_lt x y ≡ false = grind (arith, nat_tests) in
    let u : (x == y) ≡ false = grind (arith, nat_tests) in rw (t, u) refl

-- numbers of which x and y are the parts that count first
first : (x y n m : ℕ) (o : Ordering) → (x < y → n < m) → (y < x → m < n) → (x ≡ y → nat_cmp n m ≡ o) → nat_cmp n m ≡ ordering_then (nat_cmp x y) o
first x y n m o low high tie =
    by_ranked (x < y) (x ≡ y) (y < x) (nat_cmp x y) (ranked x y (nat_cmp x y) refl)
    (λ e l. less n m (low l) ∙ ap (λ c. ordering_then c o) (sym e))
    (λ e l. tie l ∙ ap (λ c. ordering_then c o) (sym e))
    (λ e l. greater n m (high l) ∙ ap (λ c. ordering_then c o) (sym e))

then_equal : (o : Ordering) → ordering_then o Equal ≡ o
then_equal Less = refl
then_equal Equal = refl
then_equal Greater = refl

-- numbers with one part alone that counts
only : (x y n m : ℕ) → (x < y → n < m) → (y < x → m < n) → (x ≡ y → n ≡ m) → nat_cmp n m ≡ nat_cmp x y
only x y n m low high tie = first x y n m Equal low high (λ e. equal n m (tie e)) ∙ then_equal (nat_cmp x y)

parts : (k p s d b l q t e c : ℕ) → p < 65536 → q < 65536 → s < 512 → t < 512 → d < 512 → e < 512 → b < 256 → c < 256
    → nat_cmp ((((k * 65536 + p) * 512 + s) * 512 + d) * 256 + b) ((((l * 65536 + q) * 512 + t) * 512 + e) * 256 + c)
    ≡ ordering_then (nat_cmp k l) (ordering_then (nat_cmp p q) (ordering_then (nat_cmp s t) (ordering_then (nat_cmp d e) (nat_cmp b c))))
parts k p s d b l q t e c p_low q_low s_low t_low d_low e_low b_low c_low =
    let n = (((k * 65536 + p) * 512 + s) * 512 + d) * 256 + b in
    let m = (((l * 65536 + q) * 512 + t) * 512 + e) * 256 + c in
    first k l n m _ (λ lt. omega arith) (λ lt. omega arith) (λ kinds.
    first p q n m _ (λ lt. omega arith) (λ lt. omega arith) (λ ports.
    first s t n m _ (λ lt. omega arith) (λ lt. omega arith) (λ senders.
    first d e n m _ (λ lt. omega arith) (λ lt. omega arith) (λ receivers.
    only b c n m (λ lt. omega arith) (λ lt. omega arith) (λ buses. omega arith)))))

senders : (a b : Sender) → IsSender a → IsSender b → nat_cmp (sender_number a) (sender_number b) ≡ sender_order a b
senders (Node a) (Node b) s t = refl
senders (Node a) Anonymous s t = less a 256 s
senders Anonymous (Node b) s t = greater 256 b t
senders Anonymous Anonymous s t = equal 256 256 refl

receivers : (a b : Option ℕ) → nat_cmp (receiver_number a) (receiver_number b) ≡ option_cmp nat_cmp a b
receivers None None = equal 0 0 refl
receivers None (Some b) = less 0 (b + 1) (omega arith)
receivers (Some a) None = greater (a + 1) 0 (omega arith)
receivers (Some a) (Some b) = only a b (a + 1) (b + 1) (λ lt. omega arith) (λ lt. omega arith) (λ e. omega arith)

sender_low : (s : Sender) → IsSender s → sender_number s < 512
sender_low (Node node) low = omega arith
sender_low Anonymous low = omega arith

-- the order of flows is that of their numbers
pub ranks_agree : (a b : Flow) → IsRanked a → IsRanked b → nat_cmp (rank a) (rank b) ≡ flow_order a b
ranks_agree a b p q =
    parts (kind_number a.kind) a.port (sender_number a.sender) (receiver_number a.destination) a.bus
    (kind_number b.kind) b.port (sender_number b.sender) (receiver_number b.destination) b.bus
    p.0 q.0 (sender_low a.sender p.1) (sender_low b.sender q.1) p.2 q.2 p.3 q.3
    ∙ ap₂ (λ s d. ordering_then (nat_cmp (kind_number a.kind) (kind_number b.kind)) (ordering_then (nat_cmp a.port b.port) (ordering_then s (ordering_then d (nat_cmp a.bus b.bus)))))
    (senders a.sender b.sender p.1 q.1) (receivers a.destination b.destination)

pub eq_from_cmp : (x y : ℕ) → nat_eq x y ≡ is_eq (nat_cmp x y)
eq_from_cmp x y = grind (arith, nat_tests)

-- two numbers are equal where the order doesn't tell their flows apart, and then the flows are too
pub numbers_agree : (a b : Flow) → IsRanked a → IsRanked b → nat_eq (rank a) (rank b) ≡ is_eq (flow_order a b)
numbers_agree a b p q = eq_from_cmp (rank a) (rank b) ∙ ap is_eq (ranks_agree a b p q)

pub same_flow : (a b : Flow) → is_eq (flow_order a b) ≡ true → a ≡ b
same_flow a b e = flow_order_exact a b ((Equal-is (flow_order a b)).0 e)
