-- A port has the extent of its type, which keeps the rules.
use Rattle.std.proofs.Common.{◌≡◌, ◌∙◌, ℕ, ◌/◌, true, ◌&&◌, ◌++◌, eqb, List, [], ◌∷◌, map, Option, Some, None, option_map, refl, sym, subst, inl, inr}
use Rattle.std.proofs.lemmas.Bool.{cond-true, cond-false, cases_Bool}
use Rattle.std.specs.List.{AllByRecursion}
use Rattle.can_id.specs.declared.key.Kind.{Kind}
use Rattle.dsdl_types.specs.Rules.{IsSchema}
use Rattle.dsdl_types.specs.Schemas.{Sch, is_composite}
use Rattle.dsdl_types.specs.Schemas as S
use Rattle.dsdl_types.specs.Views.{sch}
use Rattle.std_types.specs.Types.{schema_of}
use Rattle.std_types.specs.declared.std_name.StdName.{StdName}
use Rattle.rx_session.specs.Extents.{bytes_of}
use Rattle.rx_table.specs.Keys.{same_kind}
use Rattle.rx_table.specs.Ports.{Port, port_at}
use Rattle.node_plan.specs.IsPlan.{IsShape}
use Rattle.node_plan.specs.Ports.{PlanPort, extent_of, type_in, port_of_sub, port_of_service, request_extent, services, ports}
use Rattle.node_plan.specs.declared.plan.Plan.{Plan}
use Rattle.node_plan.specs.declared.plan.Sub.{Sub}
use Rattle.node_plan.specs.declared.plan.SubShape.{SubShape}
use Rattle.node_plan.specs.declared.plan.SubShape.TheVariants as shape
use Rattle.node_plan.specs.declared.services.Service.{Service}
use Rattle.node_core.specs.Heard.{table_port}
use Rattle.node_core.specs.Types.{type_among}

pub record HasType (extent : ℕ) (s : Sch) : Type 0 where
  pub extent_is : extent ≡ bytes_of s
  pub rules : IsSchema s
  pub composite : is_composite s ≡ true

-- if a port has a type, it is its own
abbrev IsTyped : PlanPort → Type 0
IsTyped p = (s : Sch) → p.type ≡ Some s → HasType p.extent s

abbrev AreTyped : List PlanPort → Type 0
AreTyped ps = AllByRecursion IsTyped ps

of_shape : (t : SubShape) (s : Sch) → type_in t ≡ Some s → IsShape t → HasType (extent_of t) s
of_shape (shape.Raw n) s e h = cc
of_shape (shape.Named id t) s e h = let is : sch t ≡ s = cc in subst (HasType (S.extent_of (sch t) / 8)) is (record { extent_is = refl; rules = h.0; composite = h.1 })

module _ (rules : (name : StdName) → IsSchema (schema_of name)) (composite : (name : StdName) → is_composite (schema_of name) ≡ true) where
  request_typed : (request : Option StdName) (s : Sch) → option_map schema_of request ≡ Some s → HasType (request_extent request) s
  request_typed None s e = cc
  request_typed (Some name) s e =
      let is : schema_of name ≡ s = cc in
      subst (HasType (S.extent_of (schema_of name) / 8)) is (record { extent_is = refl; rules = rules name; composite = composite name })

  service_typed : (service : Service) → IsTyped (port_of_service service)
  service_typed service s e = request_typed service.request s e

  services_typed : (ss : List Service) → AreTyped (map port_of_service ss)
  services_typed [] = tt
  services_typed (service ∷ ss) = (service_typed service, services_typed ss)

  subs_typed : (subs : List Sub) (ss : List Service) → AllByRecursion (λ sub. IsShape sub.shape) subs → AreTyped (map port_of_sub subs ++ map port_of_service ss)
  subs_typed [] ss h = services_typed ss
  subs_typed (sub ∷ subs) ss h = (λ s e. of_shape sub.shape s e h.0, subs_typed subs ss h.1)

  pub ports_typed : (plan : Plan) → AllByRecursion (λ sub. IsShape sub.shape) plan.subs → AreTyped (ports plan)
  ports_typed plan h = subs_typed plan.subs (services plan) h

pub typed_port : (kind : Kind) (port : ℕ) (ps : List PlanPort) (p : Port) (s : Sch) → AllByRecursion IsTyped ps → port_at kind port (map table_port ps) ≡ Some p → type_among kind port ps ≡ Some s → HasType p.extent s
typed_port kind port [] p s h e f = cc
typed_port kind port (q ∷ ps) p s h e f =
    let here = same_kind kind q.kind && eqb port q.port in
    let others = map table_port ps in
    elim (cases_Bool here) [
      | inl y ↦
          let found : Some (table_port q) ≡ Some p = sym (cond-true here (Some (table_port q)) (port_at kind port others) y) ∙ e in
          let is : table_port q ≡ p = cc in
          let typed : q.type ≡ Some s = sym (cond-true here q.type (type_among kind port ps) y) ∙ f in
          subst (λ (r : Port). HasType r.extent s) is (h.0 s typed)
      | inr n ↦
          typed_port kind port ps p s h.1 (sym (cond-false here (Some (table_port q)) (port_at kind port others) n) ∙ e)
          (sym (cond-false here q.type (type_among kind port ps) n) ∙ f)
    ]
