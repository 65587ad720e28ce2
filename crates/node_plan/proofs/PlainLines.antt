-- Lines that say neither a version nor nothing, and lines that say nothing of a bus.
use Rattle.std.proofs.Common.{◌≡◌, ◌∙◌, ℕ, Bool, true, false, List, Option, Some, None, ap, refl, subst, sym}
use Rattle.std.specs.Prelude.{IfSome, codes, if◌then◌else◌}
use Rattle.std.specs.Str.{bytes_eq}
use Rattle.dsdl_types.specs.declared.namespace.Namespace.{Namespace}
use Rattle.node_plan.specs.declared.line.Said.{Said}
use Rattle.node_plan.specs.declared.line.Said.TheVariants as said
use Rattle.node_plan.specs.declared.plan.SubShape.{SubShape}
use Rattle.node_plan.specs.Line.{said_of_all, said_of_clients, said_of_four, said_of_node, said_of_queue, said_of_serve, said_of_timeout, said_of_two, said_of_value, said_of_version, RegisterText, SaysEither}
use Rattle.node_plan.specs.Types.{shape_named}
use Rattle.node_plan.specs.Words.{number_in}
use Rattle.node_plan.proofs.SaidTables.{Holds, HoldsOfBuses, both, of_all, of_four, of_register, of_serve, of_value}

-- what is said is neither a version nor nothing, and says something of buses or limits only where `buses` is true
abbrev pub Plain : Bool → Said → Type 0
Plain buses said.Nothing = ⊥
Plain buses (said.Version v) = ⊥
Plain buses (said.Bus bus) = buses ≡ true
Plain buses (said.Mtu n) = buses ≡ true
Plain buses (said.Rate n) = buses ≡ true
Plain buses (said.Limits name limits) = buses ≡ true
Plain buses other = Unit {0}

-- nothing is asked of a subscription's shape
abbrev pub AnyShape : SubShape → Type 0
AnyShape shape = Unit {0}

any_shape : (o : Option SubShape) → IfSome o AnyShape
any_shape None = tt
any_shape (Some s) = tt

pub plain : (buses : Bool) → Holds (Plain buses) AnyShape
plain buses = record {
  no_form = tt;
  outside = tt;
  node = λ n. tt;
  timeout = λ n. tt;
  silent = tt;
  raw = λ p s n. tt;
  sub = λ s t. tt;
  unknown_type = λ p. tt;
  long_type = λ p. tt;
  clients = λ n. tt;
  status = λ s. tt;
  info = λ i. tt;
  queue = λ n. tt;
  register = λ r. tt;
  serve = λ p. tt;
}

plain_buses : HoldsOfBuses (Plain true)
plain_buses = record { bus = λ b. refl; mtu = λ n. refl; rate = λ n. refl }

-- in version 1
pub plain_four : (buses : Bool) (names : Namespace) (word a b c : List ℕ) → Plain buses (said_of_four names false word a b c)
plain_four buses names word a b c = of_four (Plain buses) AnyShape (plain buses) names false word a b c (any_shape (shape_named names c)) tt

-- a line of two words of version 1 whose first isn't `plan`
pub plain_two : (word value : List ℕ) → bytes_eq word (codes "plan") ≡ false → Plain true (said_of_two false word value)
plain_two word value h =
    both (Plain true) AnyShape (plain true) (bytes_eq word (codes "serve")) (said_of_serve value) (said_of_value false word value) (of_serve (Plain true) AnyShape (plain true) value)
    (subst (Plain true)
    (sym (ap (λ test. if test then said_of_version value
    else (if bytes_eq word (codes "node") then said_of_node (number_in 0 127 value)
    else (if bytes_eq word (codes "timeout") then said_of_timeout (number_in 1 60_000_000 value)
    else (if bytes_eq word (codes "clients") then said_of_clients (number_in 1 128 value)
    else (if bytes_eq word (codes "queue") then said_of_queue (number_in 1 4096 value) else said_of_all word value))))) h))
    (of_value (Plain true) AnyShape (plain true) word value (said_of_all word value) (of_all (Plain true) AnyShape (plain true) plain_buses word value)))

-- what a line says, where what it says otherwise is plain
pub plain_either : (buses : Bool) (o : Option RegisterText) (p s : Said) → Plain buses p → SaysEither o p s → Plain buses s
plain_either buses None p s h e = subst (Plain buses) (sym e) h
plain_either buses (Some w) p s h e = subst (Plain buses) (sym e.2) (of_register (Plain buses) AnyShape (plain buses) w.name w.access w.text e.0)

-- the same where it says otherwise the same
pub either_same : (o : Option RegisterText) (p q s : Said) → (s ≡ p → p ≡ q) → SaysEither o p s → SaysEither o q s
either_same None p q s f e = e ∙ f e
either_same (Some w) p q s f e = e
