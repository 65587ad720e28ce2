-- The bytes of the buffers of sessions, and how a frame adds to them.
use Rattle.std.proofs.Common.{◌≡◌, ◌∙◌, ℕ, ◌+◌, min, List, [], ◌∷◌, ◌++◌, zero, suc, Some, length, slice_get, slice_set, refl, sym, ap, arith}
use Rattle.std.proofs.lemmas.List.{length-replicate}
use Rattle.std.specs.Map.{values_of}
use Rattle.indexmap.specs.IndexMap.{set_value_at}
use Rattle.rx_session.specs.declared.session.Session.{Session}
use Rattle.rx_session.specs.Session.{Session as Kept}
use Rattle.rx_session.specs.Seen.{kept, fresh}
use Rattle.rx_table.specs.Ports.{buffered, held_of}
use Rattle.rx_table.specs.declared.port.Port as code
use Rattle.rx_table.specs.Table.{entries_of, states, held_in}

some_is : {X : Type 0} (x y : X) → Some x ≡ Some y → x ≡ y
some_is x y h = cc

behind : (a b c n : ℕ) → b ≡ c + n → a + b ≡ a + c + n
behind a b c n h = omega arith

-- one session more
buffered-append : {S : Type 0} (es : List (ℕ × Session S)) (k : ℕ) (w : Session S) → buffered (entries_of (es ++ (k, w) ∷ [])) ≡ buffered (entries_of es) + length w.buffer
buffered-append [] k w = omega arith
buffered-append (e ∷ es) k w = behind _ _ _ _ (buffered-append es k w)

pub buffered-last : {S : Type 0} (es new : List (ℕ × Session S)) (k extent : ℕ) (s w : Session S) → kept s ≡ fresh extent → length w.buffer ≡ length s.buffer → new ≡ es ++ (k, w) ∷ []
    → buffered (entries_of new) ≡ buffered (entries_of es) + extent
buffered-last {S} es new k extent s w opened same e =
    let size : length s.buffer ≡ extent = ap (λ (x : Kept). length x.buffer) opened ∙ length-replicate extent 0 in
    ap (λ (t : List (ℕ × Session S)). buffered (entries_of t)) e ∙ (buffered-append es k w ∙ ap (λ n. buffered (entries_of es) + n) (same ∙ size))

-- a session whose buffer keeps its length
pub buffered-step : {S : Type 0} (es : List (ℕ × Session S)) (i : ℕ) (w v : Session S) → slice_get (values_of es) i ≡ Some v → length w.buffer ≡ length v.buffer
    → buffered (entries_of (set_value_at es i w)) ≡ buffered (entries_of es)
buffered-step [] i w v h k = refl
buffered-step {S} (e ∷ es) zero w v h k = ap (λ n. n + buffered (entries_of es)) (k ∙ ap (λ (x : Session S). length x.buffer) (sym (some_is _ _ h)))
buffered-step (e ∷ es) (suc i) w v h k = ap (λ n. length e.1.buffer + n) (buffered-step es i w v h k)

-- all ports, where one of them got more
pub held_in-set : {S : Type 0} (ports : List (code.Port S)) (i n : ℕ) (p q : code.Port S) → slice_get ports i ≡ Some p → buffered (entries_of q.sessions.entries) ≡ buffered (entries_of p.sessions.entries) + n
    → held_in (slice_set ports i q) ≡ held_in ports + n
held_in-set [] i n p q h e = absurd cc
held_in-set {S} (o ∷ ports) zero n p q h e =
    let same : buffered (entries_of o.sessions.entries) ≡ buffered (entries_of p.sessions.entries) = ap (λ (x : code.Port S). buffered (entries_of x.sessions.entries)) (some_is _ _ h) in
    omega arith
held_in-set (o ∷ ports) (suc i) n p q h e = behind _ _ _ _ (held_in-set ports i n p q h e)

-- a port with no source behind the others
pub held_in-append : {S : Type 0} (ports : List (code.Port S)) (p : code.Port S) → p.sessions.entries ≡ [] → held_in (ports ++ p ∷ []) ≡ held_in ports
held_in-append {S} [] p e = ap (λ (t : List (ℕ × Session S)). buffered (entries_of t) + 0) e
held_in-append (o ∷ ports) p e = ap (λ n. buffered (entries_of o.sessions.entries) + n) (held_in-append ports p e)

pub held_of-states : {S : Type 0} (extent : S → ℕ) (ports : List (code.Port S)) → held_of (states extent ports) ≡ held_in ports
held_of-states extent [] = refl
held_of-states extent (p ∷ ports) = ap (λ n. buffered (entries_of p.sessions.entries) + n) (held_of-states extent ports)

-- a sum that stays at its top
pub capped-more : (m n a s top : ℕ) → a ≡ min m top → s ≡ min (a + n) top → s ≡ min (m + n) top
capped-more m n a s top e h = omega arith
