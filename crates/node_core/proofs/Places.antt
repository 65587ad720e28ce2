-- A node keeps a list for each bus of its plan, with its places.
use Rattle.std.proofs.Common.{◌≡◌, ◌∙◌, ◌++◌, ℕ, Bool, true, false, List, [], ◌∷◌, map, refl, sym, ap, ap₂}
use Rattle.std.specs.Prelude.{if◌then◌else◌}
use Rattle.tx_queue.specs.Waiting.{out_frames}
use Rattle.node_plan.specs.declared.plan.Plan.{Plan}
use Rattle.node_core.specs.Keeps.{HasQueues, emptied, keeps}
use Rattle.node_core.specs.Queues.{Queue, Sends, push, takes}
use Rattle.node_core.specs.Steps.{Kept, empty_queue}
use Rattle.node_core.specs.declared.node.Node.{Node}

-- what waits is all that a transfer changes in a list
pushed_one : (x : Sends) (q : Queue) → emptied (push x q) ≡ emptied q
pushed_one x q = go (takes x q)
  where
    go : (b : Bool) → emptied (if b then record q { waiting = q.waiting ++ out_frames x.ident q.mtu x.payload x.tid } else q) ≡ emptied q
    go true = refl
    go false = refl

pushed_each : (x : Sends) (qs : List Queue) → map emptied (map (push x) qs) ≡ map emptied qs
pushed_each x [] = refl
pushed_each x (q ∷ qs) = ap₂ (λ (e : Queue) (t : List Queue). e ∷ t) (pushed_one x q) (pushed_each x qs)

-- whatever its port
pub pushed_all : (ident tid : ℕ) (payload : List ℕ) (old new : List Queue) → new ≡ map (push (record { ident = ident; tid = tid; port = 0; payload = payload })) old → map emptied new ≡ map emptied old
pushed_all ident tid payload old new e = ap (map emptied) e ∙ pushed_each (record { ident = ident; tid = tid; port = 0; payload = payload }) old

-- lists with the places that they had
pub queues_stay : (old new : Node) → new.plan ≡ old.plan → map emptied (keeps new).queues ≡ map emptied (keeps old).queues → HasQueues old → HasQueues new
queues_stay old new plan_is same h = same ∙ (h ∙ ap (λ (p : Plan). map (empty_queue p.queue) p.buses) (sym plan_is))

-- so where it keeps all
pub kept_stay : (old new : Node) → new.plan ≡ old.plan → keeps new ≡ keeps old → HasQueues old → HasQueues new
kept_stay old new plan_is same = queues_stay old new plan_is (ap (λ (k : Kept). map emptied k.queues) same)
