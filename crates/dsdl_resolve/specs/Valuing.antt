-- The files are valued one after the other, each with what those before it define.
use Rattle.std.specs.Prelude.{◌==◌, ℕ, Bool, false, List, [], ◌∷◌, ◌++◌, map, filter, flat_map}
use Rattle.std.specs.Prelude.{filter_map, find, slice_get, Option, Some, None, option_map}
use Rattle.std.specs.Prelude.{option_and_then, Result, Ok, Err}
use Rattle.std.specs.List.{range_with_len}
use Rattle.const_expr.specs.declared.scope.Scope.{Scope}
use Rattle.const_expr.specs.declared.scope.TypeConsts.{TypeConsts}
use Rattle.dsdl_links.specs.Links.{file_of}
use Rattle.dsdl_links.specs.declared.source.Source.{Source}
use Rattle.dsdl_types.specs.declared.definition.Definition.{Definition}
use Rattle.dsdl_types.specs.declared.namespace.Print.{Print}
use Rattle.dsdl_resolve.specs.Judged.{outcome}
use Rattle.dsdl_resolve.specs.Reads.{Read, sources_of}
use Rattle.dsdl_resolve.specs.declared.outcome.Outcome.{Outcome}
use Rattle.dsdl_resolve.specs.declared.outcome.Refused.{Refused}

-- a file that is valued: its number in path order, counted from 0, and what it is valued to
pub record Done : Type 0 where
  pub number : ℕ
  pub outcome : Outcome

-- the file at which valuing stops, by its number, with the line and the cause
pub record Stop : Type 0 where
  pub number : ℕ
  pub refused : Refused

-- a number is this one
abbrev pub is_number : ℕ → Option ℕ → Bool
is_number n None = false
is_number n (Some m) = m == n

-- the file of this number is the first one in path order that defines its type: references mean
-- this one
abbrev pub is_first : List Source → ℕ → Bool
is_first sources n = is_number n (option_and_then (λ file. file_of sources file.id) (slice_get sources n))

abbrev pub is_meant : List Source → Done → Bool
is_meant sources d = is_first sources d.number

-- those that references mean, in the order of valuing
abbrev pub meant : List Source → List Done → List Done
meant sources done = filter (is_meant sources) done

abbrev pub definition_of : Done → Definition
definition_of d = d.outcome.definition

-- the constants of a type
abbrev pub members_of : Done → TypeConsts
members_of d = record { id = d.outcome.definition.id; constants = d.outcome.constants }

-- what is known of other files where a file is valued behind these
abbrev pub scope_of : List Source → List Done → Read → Scope
scope_of sources done r = record {
  constants = [];
  offset = None;
  namespace = record { definitions = map definition_of (meant sources done); prints = [] };
  own = r.name.id.name;
  members = map members_of (meant sources done);
}

-- what a file is valued to behind these
abbrev pub outcome_behind : List Source → List Done → Read → Result Outcome Refused
outcome_behind sources done r = outcome (scope_of sources done r) r.path r.name r.lines

-- one file more is valued
abbrev pub with_done : List Done → ℕ → Outcome → List Done
with_done done n o = done ++ record { number = n; outcome = o } ∷ []

-- what follows a file that is valued; a refusal ends it
abbrev pub with_outcome : (List Done → Result (List Done) Stop) → List Done → ℕ
    → Result Outcome Refused → Result (List Done) Stop
with_outcome next done n (Ok o) = next (with_done done n o)
with_outcome next done n (Err refused) = Err (record { number = n; refused = refused })

abbrev pub with_file : (List Done → Result (List Done) Stop) → List Source → List Done → ℕ
    → Option Read → Result (List Done) Stop
with_file next sources done n None = next done
with_file next sources done n (Some r) = with_outcome next done n (outcome_behind sources done r)

-- the files of these numbers valued in this order behind those that are, or the first refusal
abbrev pub valued_behind : List Read → List Done → List ℕ → Result (List Done) Stop
valued_behind reads done [] = Ok done
valued_behind reads done (n ∷ order) = with_file (λ more. valued_behind reads more order) (sources_of reads) done n (slice_get reads n)

abbrev pub valued : List Read → List ℕ → Result (List Done) Stop
valued reads order = valued_behind reads [] order

-- the definition of the file of this number
abbrev pub definition_at : List Done → ℕ → Option Definition
definition_at done n = option_map definition_of (find (λ d. d.number == n) done)

-- the definitions of so many files, in path order
abbrev pub in_path_order : ℕ → List Done → List Definition
in_path_order count done = filter_map (definition_at done) (range_with_len 0 count)

-- what `@print` wrote, in the order of valuing
abbrev pub prints_of : List Done → List Print
prints_of done = flat_map (λ d. d.outcome.prints) done
