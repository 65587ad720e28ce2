-- The extent of a schema that keeps the rules.
use Rattle.std.proofs.Common.{◌≤◌, ◌^◌, arith}
use Rattle.dsdl_types.specs.Rules.{IsSchema}
use Rattle.dsdl_types.specs.Schemas.{Sch, Simple, Fixed, Var, Struct, Union, extent_of}

pub extent_low : (s : Sch) → IsSchema s → extent_of s ≤ 2 ^ 32
extent_low (Simple t) rules = omega arith
extent_low (Fixed s n) rules = omega arith
extent_low (Var s n) rules = omega arith
extent_low (Struct fs o) rules = rules.0.0.1
extent_low (Union fs o) rules = rules.0.0.1
