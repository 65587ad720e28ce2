-- The ports of a table have the types of a plan's.
use Rattle.std.proofs.Common.{◌≡◌, ◌∙◌, ℕ, eqb, ◌&&◌, List, [], ◌∷◌, ◌++◌, map, Some, refl, sym, ap, inl, inr}
use Rattle.std.specs.Option.{option_and_then}
use Rattle.std.proofs.lemmas.Bool.{cond-true, cond-false, cases_Bool}
use Rattle.std.proofs.lemmas.List.{map-append}
use Rattle.can_id.specs.declared.key.Kind.{Kind}
use Rattle.node_plan.specs.Ports.{PlanPort}
use Rattle.rx_table.specs.Keys.{same_kind}
use Rattle.rx_table.specs.Ports.{Port, ports_of as ports_in}
use Rattle.rx_table.specs.Table.{port_of, states, shape_at}
use Rattle.rx_table.specs.declared.port.Port as code_port
use Rattle.rx_table.specs.declared.table.Table.{Table}
use Rattle.node_core.specs.Heard.{table_port}
use Rattle.node_core.specs.Shapes.{port_schema, port_type, shape_extent}
use Rattle.node_core.specs.Types.{HasTypes, schema_by, type_among}
use Rattle.node_core.specs.declared.port_shape.PortShape.{PortShape}

abbrev Ports : Type 0
Ports = List (code_port.Port PortShape)

-- the first port of a kind and number has the type of the first of these ports that is
pub first_type : (kind : Kind) (port : ℕ) (ports : Ports) (ps : List PlanPort)
    → ports_in (states shape_extent ports) ≡ map table_port ps
    → map (λ p. port_type p.shape) ports ≡ map (λ p. p.type) ps
    → option_and_then port_type (shape_at kind port ports) ≡ type_among kind port ps
first_type kind port [] [] e h = refl
first_type kind port [] (q ∷ ps) e h = cc
first_type kind port (p ∷ ports) [] e h = cc
first_type kind port (p ∷ ports) (q ∷ ps) e h =
    let same : port_of shape_extent p ≡ table_port q = cc in
    let others : ports_in (states shape_extent ports) ≡ map table_port ps = cc in
    let type_is : port_type p.shape ≡ q.type = cc in
    let types_are : map (λ p. port_type p.shape) ports ≡ map (λ p. p.type) ps = cc in
    let is_port = same_kind kind p.kind && eqb port p.port in
    let is_next = same_kind kind q.kind && eqb port q.port in
    let tests : is_port ≡ is_next = ap (λ (t : Port). same_kind kind t.kind && eqb port t.port) same in
    elim (cases_Bool is_port) [
      | inl y ↦
          ap (option_and_then port_type) (cond-true is_port (Some p.shape) (shape_at kind port ports) y)
          ∙ (type_is ∙ sym (cond-true is_next q.type (type_among kind port ps) (sym tests ∙ y)))
      | inr n ↦
          ap (option_and_then port_type) (cond-false is_port (Some p.shape) (shape_at kind port ports) n)
          ∙ (first_type kind port ports ps others types_are
          ∙ sym (cond-false is_next q.type (type_among kind port ps) (sym tests ∙ n)))
    ]

-- What shapes have.
module _ {X : Type 0} (of_shape : PortShape → X) where
  of_shapes : (ports : Ports) → map (λ p. of_shape p.shape) ports ≡ map of_shape (map (λ p. p.shape) ports)
  of_shapes [] = refl
  of_shapes (p ∷ ports) = ap (λ (t : List X). of_shape p.shape ∷ t) (of_shapes ports)

  -- shapes that stay have it as before
  stay : (xs : List X) (old new : Ports) → map (λ p. p.shape) new ≡ map (λ p. p.shape) old
      → map (λ p. of_shape p.shape) old ≡ xs → map (λ p. of_shape p.shape) new ≡ xs
  stay xs old new e h = of_shapes new ∙ (ap (map of_shape) e ∙ (sym (of_shapes old) ∙ h))

  -- and of one more it is put behind the others
  more : (of_port : PlanPort → X) (ps : List PlanPort) (p : PlanPort) (old new : Ports) (shape : PortShape) → of_shape shape ≡ of_port p
      → map (λ p. of_shape p.shape) old ≡ map of_port ps → map (λ p. p.shape) new ≡ map (λ p. p.shape) old ++ shape ∷ []
      → map (λ p. of_shape p.shape) new ≡ map of_port (ps ++ p ∷ [])
  more of_port ps p old new shape is h e =
      of_shapes new
      ∙ (ap (map of_shape) e
      ∙ (map-append of_shape (map (λ p. p.shape) old) (shape ∷ [])
      ∙ (ap (λ (t : List X). t ++ of_shape shape ∷ []) (sym (of_shapes old) ∙ h)
      ∙ (ap (λ (t : X). map of_port ps ++ t ∷ []) is
      ∙ sym (map-append of_port ps (p ∷ []))))))

-- a table that keeps its shapes keeps its types
pub types_stay : (ps : List PlanPort) (old new : Table PortShape) → map (λ p. p.shape) new.ports.items ≡ map (λ p. p.shape) old.ports.items
    → HasTypes ps old → HasTypes ps new
types_stay ps old new e h = record {
  types = stay port_type (map (λ p. p.type) ps) old.ports.items new.ports.items e h.types;
  schemas = stay port_schema (map (λ p. schema_by p.extent p.type) ps) old.ports.items new.ports.items e h.schemas;
}

-- a port that is put behind the others has its shape's type
pub types_more : (ps : List PlanPort) (p : PlanPort) (old new : Table PortShape) (shape : PortShape) → port_type shape ≡ p.type
    → port_schema shape ≡ schema_by p.extent p.type → HasTypes ps old
    → map (λ p. p.shape) new.ports.items ≡ map (λ p. p.shape) old.ports.items ++ shape ∷ []
    → HasTypes (ps ++ p ∷ []) new
types_more ps p old new shape type_is schema_is h e = record {
  types = more port_type (λ p. p.type) ps p old.ports.items new.ports.items shape type_is h.types e;
  schemas = more port_schema (λ p. schema_by p.extent p.type) ps p old.ports.items new.ports.items shape schema_is h.schemas e;
}
