-- Lemmas on what holds of the plan so far.
use Rattle.std.proofs.Common.{◌≡◌, ◌<◌, ◌≤◌, ◌≢◌, ◌∙◌, ◌^◌, zero, suc, ℕ, true, false, List, [], ◌∷◌, ◌++◌, Option, Some, None, refl, arith, length, get_or, ap, sym, subst, set}
use Rattle.std.specs.Prelude.{map, replicate, slice_get, unwrap_or}
use Rattle.std.specs.List.{All, AllPairs}
use Rattle.std.specs.Option.{ForSome}
use Rattle.std_types.specs.Held.{IsUniqueId}
use Rattle.std.specs.Str.{bytes_eq}
use Rattle.std.proofs.lemmas.Grind.{common_steps}
use Rattle.std.proofs.lemmas.List.Elements.{All-cons, All-map, All-nil, All-push, All-set}
use Rattle.std.proofs.lemmas.List.Kept.{AllPairs-cons}
use Rattle.std.proofs.lemmas.List.{length-map}
use Rattle.std.proofs.lemmas.List.Quantifiers.{all_pairs_push}
use Rattle.std.proofs.lemmas.Option.{slice_get_read}
use Rattle.std.proofs.lemmas.Slice.Eq.{bytes_eq-Decides}
use Rattle.node_plan.specs.declared.draft.Draft.{Draft}
use Rattle.node_plan.specs.declared.plan.BusPlan.{BusPlan}
use Rattle.node_plan.specs.Draft.{has_bus, has_register, limited, no_status, on_bus, plan_with}
use Rattle.node_plan.specs.Info.{blank_info}
use Rattle.node_plan.specs.IsPlan.{IsBus, IsDraft, IsInfo, IsMtu, IsPlan, IsRate, IsStatus}
use Rattle.node_plan.specs.Registers.{IsRegister, can_limit}
use Rattle.std_types.specs.declared.registers.Limits.{Limits}
use Rattle.std_types.specs.declared.registers.Register.{Register}
use Rattle.node_plan.proofs.NameLemmas.{fails_at, differ}

-- another name
other_name : (a b : List ℕ) → bytes_eq a b ≡ false → a ≢ b
other_name a b h e = differ (bytes_eq a b) ((bytes_eq-Decides a b).1 e) h

pub IsDraft-bus : (d : Draft) (bus : BusPlan) → IsDraft d → IsBus bus → length d.buses < 3 → has_bus bus.name d.buses ≡ false
    → IsDraft (record d { buses = d.buses ++ bus ∷ [] })
IsDraft-bus d bus h fits few new = record {
  node = h.node;
  few_buses = grind (arith, common_steps);
  buses = All-push IsBus d.buses bus h.buses fits;
  names = all_pairs_push (λ a b. a.name ≢ b.name) d.buses bus h.names
      (λ k b l. other_name (get_or d.buses k b).name bus.name (fails_at (λ b. bytes_eq b.name bus.name) d.buses new k b l));
  mtu = h.mtu;
  rate = h.rate;
  timeout = h.timeout;
  few_subs = h.few_subs;
  subs = h.subs;
  subjects = h.subjects;
  clients = h.clients;
  status = h.status;
  info = h.info;
  few_registers = h.few_registers;
  registers = h.registers;
  register_names = h.register_names;
  serve = h.serve;
  queue = h.queue;
}

-- ---- registers

abbrev Apart : Register → Register → Type 0
Apart a b = a.name ≢ b.name

pub IsDraft-register : (d : Draft) (r : Register) → IsDraft d → IsRegister r → length d.registers < 256 → has_register r.name d.registers ≡ false
    → IsDraft (record d { registers = d.registers ++ r ∷ [] })
IsDraft-register d r h fits few new = record {
  node = h.node;
  few_buses = h.few_buses;
  buses = h.buses;
  names = h.names;
  mtu = h.mtu;
  rate = h.rate;
  timeout = h.timeout;
  few_subs = h.few_subs;
  subs = h.subs;
  subjects = h.subjects;
  clients = h.clients;
  status = h.status;
  info = h.info;
  few_registers = grind (arith, common_steps);
  registers = All-push IsRegister d.registers r h.registers fits;
  register_names = all_pairs_push Apart d.registers r h.register_names
      (λ k x l. other_name (get_or d.registers k x).name r.name (fails_at (λ x. bytes_eq x.name r.name) d.registers new k x l));
  serve = h.serve;
  queue = h.queue;
}

-- a register that takes the place of one of the same name
set_other : (x : Register) (xs : List Register) (i : ℕ) (r y : Register) → slice_get xs i ≡ Some r → r.name ≡ y.name → All (Apart x) xs → All (Apart x) (set xs i y)
set_other x [] i r y e same h = h
set_other x (z ∷ zs) zero r y e same h =
    let is : z ≡ r = cc in
    All-cons (Apart x) y zs (λ n. h 0 y (omega arith) (n ∙ sym same ∙ ap (λ (w : Register). w.name) (sym is))) (λ k t less. h (suc k) t (omega arith))
set_other x (z ∷ zs) (suc i) r y e same h = All-cons (Apart x) z (set zs i y) (h 0 y (omega arith)) (set_other x zs i r y e same (λ k t less. h (suc k) t (omega arith)))

set_apart : (xs : List Register) (i : ℕ) (r y : Register) → slice_get xs i ≡ Some r → r.name ≡ y.name → AllPairs Apart xs → AllPairs Apart (set xs i y)
set_apart [] i r y e same h = h
set_apart (x ∷ xs) zero r y e same h =
    let is : x ≡ r = cc in
    AllPairs-cons Apart y xs (λ k t less n. h 0 (suc k) t (omega arith) (omega arith) (ap (λ (w : Register). w.name) is ∙ same ∙ n))
    (λ i j t less low. h (suc i) (suc j) t (omega arith) (omega arith))
set_apart (x ∷ xs) (suc i) r y e same h =
    AllPairs-cons Apart x (set xs i y) (set_other x xs i r y e same (λ k t less. h 0 (suc k) t (omega arith) (omega arith)))
    (set_apart xs i r y e same (λ i j t less low. h (suc i) (suc j) t (omega arith) (omega arith)))

-- a register that was read at its place
pub register_at : (read xs : List Register) (i : ℕ) (r : Register) → read ≡ xs → i < length xs → r ≡ get_or read i r → slice_get xs i ≡ Some r
register_at read xs i r e less h = slice_get_read xs (length xs) i r refl less (h ∙ ap (λ l. get_or l i r) e)

held_at : (xs : List Register) (i : ℕ) (r : Register) → slice_get xs i ≡ Some r → All IsRegister xs → IsRegister r
held_at [] i r e h = absurd cc
held_at (x ∷ xs) zero r e h = let is : x ≡ r = cc in subst IsRegister is (h 0 x (omega arith))
held_at (x ∷ xs) (suc i) r e h = held_at xs i r e (λ k t less. h (suc k) t (omega arith))

set_length : (xs : List Register) (i : ℕ) (y : Register) → length (set xs i y) ≡ length xs
set_length [] i y = refl
set_length (x ∷ xs) zero y = refl
set_length (x ∷ xs) (suc i) y = ap suc (set_length xs i y)

pub IsDraft-limits : (d : Draft) (place : ℕ) (limits : Limits) (r : Register) → IsDraft d → slice_get d.registers place ≡ Some r → can_limit limits r.value ≡ true
    → IsDraft (record d { registers = limited d.registers place limits r })
IsDraft-limits d place limits r h e can =
    let was = held_at d.registers place r e h.registers in
    let new : Register = record r { limits = Some limits } in
    let fits : IsRegister new = record { some_byte = was.some_byte; bytes = was.bytes; value = was.value; within = can } in record {
      node = h.node;
      few_buses = h.few_buses;
      buses = h.buses;
      names = h.names;
      mtu = h.mtu;
      rate = h.rate;
      timeout = h.timeout;
      few_subs = h.few_subs;
      subs = h.subs;
      subjects = h.subjects;
      clients = h.clients;
      status = h.status;
      info = h.info;
      few_registers = subst (λ n. n ≤ 256) (sym (set_length d.registers place new)) h.few_registers;
      registers = All-set IsRegister d.registers place new fits h.registers;
      register_names = set_apart d.registers place r new e refl h.register_names;
      serve = h.serve;
      queue = h.queue;
    }

-- ---- the plan of a draft

-- what isn't empty has an item
pub some_item : (buses : List BusPlan) → (buses ≡ [] → false ≡ true) → 1 ≤ length buses
some_item [] h = let e : false ≡ true = h refl in absurd cc
some_item (b ∷ bs) h = omega arith

-- what holds of a value that was said, and of what counts where nothing is said
or_default : {X : Type 0} (P : X → Type 0) (o : Option X) (d : X) → ForSome o P → P d → P (unwrap_or o d)
or_default P None d h k = k
or_default P (Some x) d h k = h x refl

IsBus-on : (mtu rate : Option ℕ) → ForSome mtu IsMtu → ForSome rate IsRate → (bus : BusPlan) → IsBus bus → IsBus (on_bus mtu rate bus)
IsBus-on mtu rate m r bus h =
    let rates : IsRate (unwrap_or rate bus.rate) = or_default IsRate rate bus.rate r (h.some_rate, h.low_rate) in record {
      some_byte = h.some_byte;
      bytes = h.bytes;
      mtu = or_default IsMtu mtu bus.mtu m h.mtu;
      some_rate = rates.0;
      low_rate = rates.1;
    }

IsBuses-on : (mtu rate : Option ℕ) → ForSome mtu IsMtu → ForSome rate IsRate → (buses : List BusPlan) → All IsBus buses → All IsBus (map (on_bus mtu rate) buses)
IsBuses-on mtu rate m r buses h = All-map IsBus (on_bus mtu rate) buses (λ k b less. IsBus-on mtu rate m r (get_or buses k b) (h k b less))

-- a map that keeps names keeps them apart
names-on : (mtu rate : Option ℕ) (buses : List BusPlan) → AllPairs (λ a b. a.name ≢ b.name) buses → AllPairs (λ a b. a.name ≢ b.name) (map (on_bus mtu rate) buses)
names-on mtu rate [] h = λ i j d less low. absurd (omega arith)
names-on mtu rate (b ∷ bs) h = AllPairs-cons (λ (a b : BusPlan). a.name ≢ b.name) (on_bus mtu rate b) (map (on_bus mtu rate) bs)
    (All-map (λ (c : BusPlan). b.name ≢ c.name) (on_bus mtu rate) bs (λ k c less. h 0 (suc k) c (omega arith) (omega arith)))
    (names-on mtu rate bs (λ i j c less low. h (suc i) (suc j) c (omega arith) (omega arith)))

IsUniqueId-zeros : IsUniqueId (replicate 16 0)
IsUniqueId-zeros = (refl, λ k d less. grind (arith, common_steps))

IsInfo-blank : IsInfo blank_info
IsInfo-blank = record {
  fits = ((omega arith, omega arith), (omega arith, omega arith), (omega arith, omega arith), omega arith, IsUniqueId-zeros, (omega arith, All-nil (λ n. n < 2 ^ 8)), (omega arith, All-nil (λ n. n < 2 ^ 64)), (omega arith, All-nil (λ n. n < 2 ^ 8)));
  protocol = refl;
  no_crc = refl;
  no_certificate = refl;
}

pub IsPlan-with : (d : Draft) (node : ℕ) → IsDraft d → node < 128 → 1 ≤ length d.buses → IsPlan (plan_with d node)
IsPlan-with d node h low some =
    let clients : (1 ≤ unwrap_or d.clients 4) × (unwrap_or d.clients 4 ≤ 128) = or_default (λ n. (1 ≤ n) × (n ≤ 128)) d.clients 4 h.clients (omega arith, omega arith) in
    let timeout : (1 ≤ unwrap_or d.timeout 2_000_000) × (unwrap_or d.timeout 2_000_000 ≤ 60_000_000) = or_default (λ n. (1 ≤ n) × (n ≤ 60_000_000)) d.timeout 2_000_000 h.timeout (omega arith, omega arith) in
    let queue : (1 ≤ unwrap_or d.queue 64) × (unwrap_or d.queue 64 ≤ 4096) = or_default (λ n. (1 ≤ n) × (n ≤ 4096)) d.queue 64 h.queue (omega arith, omega arith) in
    let same : length (map (on_bus d.mtu d.rate) d.buses) ≡ length d.buses = length-map d.buses (on_bus d.mtu d.rate) in record {
      node = low;
      some_bus = omega arith;
      few_buses = let few : length d.buses ≤ 3 = h.few_buses in omega arith;
      buses = IsBuses-on d.mtu d.rate h.mtu h.rate d.buses h.buses;
      names = names-on d.mtu d.rate d.buses h.names;
      some_timeout = timeout.0;
      short_timeout = timeout.1;
      few_subs = h.few_subs;
      subs = h.subs;
      subjects = h.subjects;
      some_client = clients.0;
      few_clients = clients.1;
      status = or_default IsStatus d.status no_status h.status (record { health = omega arith; mode = omega arith; code = omega arith });
      info = or_default IsInfo d.info blank_info h.info IsInfo-blank;
      few_registers = h.few_registers;
      registers = h.registers;
      register_names = h.register_names;
      serve = h.serve;
      some_place = queue.0;
      few_places = queue.1;
    }
