-- The memory bound of a plan.
use Rattle.std.specs.Prelude.{ℕ, ◌*◌, sum_by}
use Rattle.node_plan.specs.declared.plan.Plan.{Plan}
use Rattle.node_plan.specs.declared.plan.Sub.{Sub}
use Rattle.node_plan.specs.declared.services.Service.{Service}
use Rattle.node_plan.specs.Ports.{PlanPort, extent_of, ports, service_extent}
pub use Rattle.node_plan.specs.Ports.{extent_of}

-- what a port may hold at most, in bytes
abbrev pub port_bound : PlanPort → ℕ
port_bound p = p.sources * p.extent

-- what a subscription may hold at most, in bytes
abbrev pub sub_bound : Sub → ℕ
sub_bound s = s.sources * extent_of s.shape

-- what the requests of a service may hold at most, in bytes
abbrev pub service_bound : Service → ℕ
service_bound s = s.sources * service_extent s

-- what all ports of a plan may hold at most, in bytes
abbrev pub bound_of : Plan → ℕ
bound_of plan = sum_by port_bound (ports plan)
