-- What a line makes of the draft of a text of version 1, and what its migrated line makes of that of version 2.
use Rattle.std.proofs.Common.{◌≡◌, ◌∙◌, ◌==◌, ℕ, Bool, true, false, List, [], ◌∷◌, ◌++◌, Option, Some, None, length, refl, sym, ap, subst}
use Rattle.std.specs.Prelude.{◌||◌, Result, Ok, Err, codes, if◌then◌else◌, is_some, map, nat_le}
use Rattle.std.specs.Str.{bytes_eq}
use Rattle.std.proofs.lemmas.List.{length-map, map-append}
use Rattle.node_plan.specs.declared.draft.Draft.{Draft}
use Rattle.node_plan.specs.declared.line.PlanVersion.TheVariants as version
use Rattle.node_plan.specs.declared.line.Said.{Said}
use Rattle.node_plan.specs.declared.line.Said.TheVariants as said
use Rattle.node_plan.specs.declared.plan.BusPlan.{BusPlan}
use Rattle.node_plan.specs.declared.plan.PlanWhy.{PlanWhy}
use Rattle.node_plan.specs.declared.plan.PlanWhy.TheVariants as why
use Rattle.node_plan.specs.declared.words.Number.{Number}
use Rattle.node_plan.specs.declared.words.Number.TheVariants as number
use Rattle.node_plan.specs.Draft.{has_bus, has_register, has_subject, on_bus, once, step, with_line, with_version}
use Rattle.node_plan.specs.Line.{said_of_bus, said_of_mtu, said_of_rate, said_of_version}
use Rattle.node_plan.specs.Names.{is_bus_name}
use Rattle.node_plan.proofs.PlainLines.{Plain}

-- the draft of the migrated text
abbrev pub two_of : ℕ → ℕ → Draft → Draft
two_of m r d = record {
  version = Some version.Two;
  node = d.node;
  buses = map (on_bus (Some m) (Some r)) d.buses;
  mtu = None;
  rate = None;
  timeout = d.timeout;
  silent = d.silent;
  subs = d.subs;
  clients = d.clients;
  status = d.status;
  info = d.info;
  registers = d.registers;
  serve = d.serve;
  queue = d.queue;
}

-- a bus of version 1 before `mtu` and `rate` count
abbrev pub first_bus : List ℕ → BusPlan
first_bus name = record { name = name; mtu = 8; rate = 4096 }

-- the version stays, and so do the buses
pub record Kept (d new : Draft) : Type 0 where
  pub version : new.version ≡ d.version
  pub buses : new.buses ≡ d.buses

-- ---- answers that are Ok

-- a draft that is taken once
pub once_ok : (t : Bool) (x new : Draft) → once t x ≡ Ok new → (t ≡ false) × (x ≡ new)
once_ok true x new h = absurd cc
once_ok false x new h = (refl, cc)

once_two : (m r : ℕ) (t : Bool) (d x new : Draft) → Kept d x → once t x ≡ Ok new → (once t (two_of m r x) ≡ Ok (two_of m r new)) × Kept d new
once_two m r true d x new k h = absurd cc
once_two m r false d x new k h = let e : x ≡ new = cc in (ap (λ y. Ok (two_of m r y)) e, subst (Kept d) e k)

within_two : (m r : ℕ) (u t : Bool) (d x new : Draft) → Kept d x → (if u then Err why.Range else once t x) ≡ Ok new
    → ((if u then Err why.Range else once t (two_of m r x)) ≡ Ok (two_of m r new)) × Kept d new
within_two m r true t d x new k h = absurd cc
within_two m r false t d x new k h = once_two m r t d x new k h

never : (u t : Bool) (a b c : PlanWhy) (new : Draft) → (if u then Err a else (if t then Err b else Err c)) ≡ Ok new → ⊥
never true t a b c new h = cc
never false true a b c new h = cc
never false false a b c new h = cc

-- a line behind that of the version
behind : (t : Bool) (r : Result Draft PlanWhy) (new : Draft) → t ≡ true → (if t then r else Err why.Line) ≡ Ok new → r ≡ Ok new
behind true r new e h = h
behind false r new e h = absurd cc

-- ---- a line that says nothing of a bus

abbrev Same : ℕ → ℕ → Draft → Draft → Said → Type 0
Same m r d new s = (step (two_of m r d) s ≡ Ok (two_of m r new)) × Kept d new

pub plain_step : (m r : ℕ) (d new : Draft) → d.version ≡ Some version.One → (s : Said) → Plain false s → step d s ≡ Ok new → Same m r d new s
plain_step m r d new v said.NoForm p h = absurd cc
plain_step m r d new v said.Outside p h = absurd (let e : Err why.Range ≡ Ok new = behind (is_some d.version) (Err why.Range) new (ap is_some v) h in cc)
plain_step m r d new v said.Nothing p h = absurd p
plain_step m r d new v (said.Version w) p h = absurd p
plain_step m r d new v (said.Bus bus) p h = absurd cc
plain_step m r d new v (said.Mtu n) p h = absurd cc
plain_step m r d new v (said.Rate n) p h = absurd cc
plain_step m r d new v (said.Node n) p h =
    once_two m r (is_some d.node) d (record d { node = Some n }) new (record { version = refl; buses = refl }) (behind (is_some d.version) (with_line d (said.Node n)) new (ap is_some v) h)
plain_step m r d new v (said.Timeout n) p h =
    once_two m r (is_some d.timeout) d (record d { timeout = Some n }) new (record { version = refl; buses = refl }) (behind (is_some d.version) (with_line d (said.Timeout n)) new (ap is_some v) h)
plain_step m r d new v said.Silent p h =
    once_two m r d.silent d (record d { silent = true }) new (record { version = refl; buses = refl }) (behind (is_some d.version) (with_line d said.Silent) new (ap is_some v) h)
plain_step m r d new v (said.Sub s) p h =
    within_two m r (nat_le 64 (length d.subs)) (has_subject s.port d.subs) d (record d { subs = d.subs ++ s ∷ [] }) new (record { version = refl; buses = refl })
    (behind (is_some d.version) (with_line d (said.Sub s)) new (ap is_some v) h)
plain_step m r d new v (said.UnknownType port) p h =
    absurd (never (nat_le 64 (length d.subs)) (has_subject port d.subs) why.Range why.Repeated why.UnknownType new (behind (is_some d.version) (with_line d (said.UnknownType port)) new (ap is_some v) h))
plain_step m r d new v (said.LongType port) p h =
    absurd (never (nat_le 64 (length d.subs)) (has_subject port d.subs) why.Range why.Repeated why.Range new (behind (is_some d.version) (with_line d (said.LongType port)) new (ap is_some v) h))
plain_step m r d new v (said.Clients n) p h =
    once_two m r (is_some d.clients) d (record d { clients = Some n }) new (record { version = refl; buses = refl }) (behind (is_some d.version) (with_line d (said.Clients n)) new (ap is_some v) h)
plain_step m r d new v (said.Status s) p h =
    once_two m r (is_some d.status) d (record d { status = Some s }) new (record { version = refl; buses = refl }) (behind (is_some d.version) (with_line d (said.Status s)) new (ap is_some v) h)
plain_step m r d new v (said.Info i) p h =
    once_two m r (is_some d.info) d (record d { info = Some i }) new (record { version = refl; buses = refl }) (behind (is_some d.version) (with_line d (said.Info i)) new (ap is_some v) h)
plain_step m r d new v (said.Queue n) p h =
    once_two m r (is_some d.queue) d (record d { queue = Some n }) new (record { version = refl; buses = refl }) (behind (is_some d.version) (with_line d (said.Queue n)) new (ap is_some v) h)
plain_step m r d new v (said.Register s) p h =
    within_two m r (nat_le 256 (length d.registers)) (has_register s.name d.registers) d (record d { registers = d.registers ++ s ∷ [] }) new (record { version = refl; buses = refl })
    (behind (is_some d.version) (with_line d (said.Register s)) new (ap is_some v) h)
plain_step m r d new v (said.Limits name limits) p h = absurd cc
plain_step m r d new v (said.Serve path) p h =
    once_two m r (is_some d.serve) d (record d { serve = Some path }) new (record { version = refl; buses = refl }) (behind (is_some d.version) (with_line d (said.Serve path)) new (ap is_some v) h)

-- ---- `plan N` behind the line of the version

pub version_step : (d new : Draft) → d.version ≡ Some version.One → (value : List ℕ) → step d (said_of_version value) ≡ Ok new → ⊥
version_step d new v value h = of_tests (bytes_eq value (codes "1")) (bytes_eq value (codes "2")) h
  where
    of_tests : (t u : Bool) → step d (if t then said.Version version.One else (if u then said.Version version.Two else said.NoForm)) ≡ Ok new → ⊥
    of_tests true u h = let e : Err why.Repeated ≡ Ok new = sym (ap (λ was. with_version d was version.One) v) ∙ h in cc
    of_tests false true h = let e : Err why.Line ≡ Ok new = sym (ap (λ was. with_version d was version.Two) v) ∙ h in cc
    of_tests false false h = cc

-- ---- `mtu N` and `rate N`: nothing is left of them

abbrev Gone : ℕ → ℕ → Draft → Draft → Type 0
Gone m r d new = (two_of m r d ≡ two_of m r new) × Kept d new

gone : (m r : ℕ) (t : Bool) (d x new : Draft) → two_of m r d ≡ two_of m r x → Kept d x → once t x ≡ Ok new → Gone m r d new
gone m r t d x new same k h = let e : x ≡ new = (once_ok t x new h).1 in (same ∙ ap (two_of m r) e, subst (Kept d) e k)

no_number : (d new : Draft) → d.version ≡ Some version.One → step d said.Outside ≡ Ok new → ⊥
no_number d new v h = let e : Err why.Range ≡ Ok new = behind (is_some d.version) (Err why.Range) new (ap is_some v) h in cc

pub mtu_step : (m r : ℕ) (d new : Draft) → d.version ≡ Some version.One → (n : Number) → step d (said_of_mtu n) ≡ Ok new → Gone m r d new
mtu_step m r d new v number.NoNumber h = absurd cc
mtu_step m r d new v number.Outside h = absurd (no_number d new v h)
mtu_step m r d new v (number.Within n) h =
    gone m r (is_some d.mtu) d (record d { mtu = Some n }) new refl (record { version = refl; buses = refl }) (behind (is_some d.version) (with_line d (said.Mtu n)) new (ap is_some v) h)

pub rate_step : (m r : ℕ) (d new : Draft) → d.version ≡ Some version.One → (n : Number) → step d (said_of_rate n) ≡ Ok new → Gone m r d new
rate_step m r d new v number.NoNumber h = absurd cc
rate_step m r d new v number.Outside h = absurd (no_number d new v h)
rate_step m r d new v (number.Within n) h =
    gone m r (is_some d.rate) d (record d { rate = Some n }) new refl (record { version = refl; buses = refl }) (behind (is_some d.version) (with_line d (said.Rate n)) new (ap is_some v) h)

-- ---- `bus NAME`

has_bus-on : (mtu rate : Option ℕ) (name : List ℕ) (buses : List BusPlan) → has_bus name (map (on_bus mtu rate) buses) ≡ has_bus name buses
has_bus-on mtu rate name [] = refl
has_bus-on mtu rate name (b ∷ bs) = ap (λ t. bytes_eq b.name name || t) (has_bus-on mtu rate name bs)

abbrev Bused : ℕ → ℕ → Draft → Draft → List ℕ → Said → Type 0
Bused m r d new name s = (step (two_of m r d) s ≡ Ok (two_of m r new)) × (new.version ≡ d.version) × (new.buses ≡ d.buses ++ first_bus name ∷ [])

pub bus_step : (m r : ℕ) (d new : Draft) → d.version ≡ Some version.One → (name : List ℕ)
    → step d (said_of_bus name (number.Within 8) (number.Within 4096)) ≡ Ok new → Bused m r d new name (said_of_bus name (number.Within m) (number.Within r))
bus_step m r d new v name h = of_tests (length name == 0) (is_bus_name name) h
  where
    of_once : (u t : Bool) → (if u then Err why.Range else once t (record d { buses = d.buses ++ first_bus name ∷ [] })) ≡ Ok new
        → ((if u then Err why.Range else once t (two_of m r (record d { buses = d.buses ++ first_bus name ∷ [] }))) ≡ Ok (two_of m r new))
        × (new.version ≡ d.version) × (new.buses ≡ d.buses ++ first_bus name ∷ [])
    of_once true t h = absurd cc
    of_once false true h = absurd cc
    of_once false false h =
        let e : record d { buses = d.buses ++ first_bus name ∷ [] } ≡ new = cc in
        (ap (λ y. Ok (two_of m r y)) e, ap (λ (y : Draft). y.version) (sym e), ap (λ (y : Draft). y.buses) (sym e))

    of_tests : (t u : Bool)
        → step d (if t then said.NoForm else (if u then said.Bus (first_bus name) else said.Outside)) ≡ Ok new
        → Bused m r d new name (if t then said.NoForm else (if u then said.Bus (record { name = name; mtu = m; rate = r }) else said.Outside))
    of_tests true u h = absurd cc
    of_tests false false h = absurd (no_number d new v h)
    of_tests false true h =
        let taken = of_once (nat_le 3 (length d.buses)) (has_bus name d.buses) (behind (is_some d.version) (with_line d (said.Bus (first_bus name))) new (ap is_some v) h) in
        let on : BusPlan → BusPlan = on_bus (Some m) (Some r) in
        let bus : BusPlan = record { name = name; mtu = m; rate = r } in
        let next : List BusPlan → Draft = λ bs. record (two_of m r d) { buses = bs } in (
          ap (λ n. if nat_le 3 n then Err why.Range else once (has_bus name (map on d.buses)) (next (map on d.buses ++ bus ∷ []))) (length-map d.buses on)
              ∙ ap (λ t. if nat_le 3 (length d.buses) then Err why.Range else once t (next (map on d.buses ++ bus ∷ []))) (has_bus-on (Some m) (Some r) name d.buses)
              ∙ ap (λ bs. if nat_le 3 (length d.buses) then Err why.Range else once (has_bus name d.buses) (next bs)) (sym (map-append on d.buses (first_bus name ∷ [])))
              ∙ taken.0,
          taken.1,
          taken.2,
        )
