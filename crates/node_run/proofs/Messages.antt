-- The message that a name stands for keeps the rules.
use Rattle.std.proofs.Common.{◌≡◌, ℕ, suc, Bool, true, false, List, [], ◌∷◌, Option, Some, None, option_map, Result, Ok, Err, refl, subst, arith}
use Rattle.std.specs.Prelude.{if◌then◌else◌}
use Rattle.std.specs.List.{All}
use Rattle.dsdl_names.specs.declared.TypeId.{TypeId}
use Rattle.dsdl_names.specs.declared.NameError.{NameError}
use Rattle.dsdl_types.specs.Definitions.{AreTypes, IsDefinition, IsNamespace}
use Rattle.dsdl_types.specs.Finding.{same_id, definition_of}
use Rattle.dsdl_types.specs.Rules.{IsSchema}
use Rattle.dsdl_types.specs.Schemas.{Sch}
use Rattle.dsdl_types.specs.Views.{sch}
use Rattle.dsdl_types.specs.declared.definition.Definition.{Definition}
use Rattle.dsdl_types.specs.declared.definition.Parts.{Parts}
use Rattle.dsdl_types.specs.declared.definition.Parts.TheVariants as parts
use Rattle.dsdl_types.specs.declared.namespace.Namespace.{Namespace}
use Rattle.node_run.specs.NamedTypes.{parts_at, requests_of, responses_of, named_by, named, message_of, message_named, without_end}
use Rattle.std.specs.Prelude.{codes}
use Rattle.dsdl_names.specs.Names.{type_id_of}

by_first : (same : Bool) (f : Definition) (rest : Option Definition) (d : Definition) → IsDefinition f → (rest ≡ Some d → IsDefinition d) → (if same then Some f else rest) ≡ Some d → IsDefinition d
by_first true f rest d h k e = let s : f ≡ d = cc in subst (λ (x : Definition). IsDefinition x) s h
by_first false f rest d h k e = k e

-- what is found in a namespace is one of its definitions
definition_rules : (ds : List Definition) (id : TypeId) (d : Definition) → All IsDefinition ds → definition_of ds id ≡ Some d → IsDefinition d
definition_rules [] id d h e = absurd cc
definition_rules (f ∷ ds) id d h e =
    let more : All IsDefinition ds = λ k x less. h (suc k) x (omega arith) in
    by_first (same_id f.id id) f (definition_of ds id) d (h 0 f (omega arith)) (λ r. definition_rules ds id d more r) e

-- the rules are kept by what was found, if anything
abbrev KeepRules : Option Parts → Type 0
KeepRules found = (p : Parts) → found ≡ Some p → AreTypes p

of_definition : (found : Option Definition) → ((d : Definition) → found ≡ Some d → IsDefinition d) → KeepRules (option_map (λ (d : Definition). d.parts) found)
of_definition None h p e = absurd cc
of_definition (Some d) h p e = let s : d.parts ≡ p = cc in subst (λ (x : Parts). AreTypes x) s (h d refl).rules

at_rules : (names : Namespace) → IsNamespace names → (id : Result TypeId NameError) → KeepRules (parts_at names id)
at_rules names rules (Ok id) = of_definition (definition_of names.definitions id) (λ d e. definition_rules names.definitions id d rules e)
at_rules names rules (Err error) = λ p e. absurd cc

requests_rules : (found : Option Parts) → KeepRules found → KeepRules (requests_of found)
requests_rules None h p e = absurd cc
requests_rules (Some (parts.Message s)) h p e = absurd cc
requests_rules (Some (parts.Service request response)) h p e =
    let s : parts.Message request ≡ p = cc in subst (λ (x : Parts). AreTypes x) s (h (parts.Service request response) refl).0

responses_rules : (found : Option Parts) → KeepRules found → KeepRules (responses_of found)
responses_rules None h p e = absurd cc
responses_rules (Some (parts.Message s)) h p e = absurd cc
responses_rules (Some (parts.Service request response)) h p e =
    let s : parts.Message response ≡ p = cc in subst (λ (x : Parts). AreTypes x) s (h (parts.Service request response) refl).1

by_rules : (names : Namespace) → IsNamespace names → (name : List ℕ) (request response : Option (List ℕ)) → KeepRules (named_by names name request response)
by_rules names rules name (Some service) other = requests_rules (parts_at names (type_id_of service)) (at_rules names rules (type_id_of service))
by_rules names rules name None (Some service) = responses_rules (parts_at names (type_id_of service)) (at_rules names rules (type_id_of service))
by_rules names rules name None None = at_rules names rules (type_id_of name)

pub named_rules : (names : Namespace) → IsNamespace names → (name : List ℕ) → KeepRules (named names name)
named_rules names rules name = by_rules names rules name (without_end (codes ".Request") name) (without_end (codes ".Response") name)

of_message : (found : Option Parts) → KeepRules found → (s : Sch) → message_of found ≡ Some s → IsSchema s
of_message None h s e = absurd cc
of_message (Some (parts.Message m)) h s e = let same : sch m ≡ s = cc in subst IsSchema same (h (parts.Message m) refl).0
of_message (Some (parts.Service request response)) h s e = absurd cc

pub message_rules : (names : Namespace) → IsNamespace names → (name : List ℕ) (s : Sch) → message_named names name ≡ Some s → IsSchema s
message_rules names rules name s e = of_message (named names name) (named_rules names rules name) s e
