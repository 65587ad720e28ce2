use Rattle.std.proofs.Common.{◌++◌, ◌∷◌, [], refl, ap, ◌∙◌, rules}
use Rattle.const_expr.specs.declared.scope.TypeConsts.{TypeConsts}
use Rattle.dsdl_names.specs.declared.TypeId.{TypeId}
use Rattle.dsdl_resolve.proofs.PlaceLemmas.{places_more}
use Rattle.dsdl_resolve.proofs.progress.Progress.add_type.Goals as goal

pub returns : goal.returns
returns c =
    let old = c.args.self.now in
    let entry : TypeId → TypeConsts = λ id. record { id = id; constants = c.args.constants } in
    let members = c.in_ok-push.ensures.ok ∙ ap (λ id. old.scope.members ++ entry id ∷ []) c.in_ok-copy-2.ensures in
    record {
      definitions = c.in_ok-push-2.ensures.ok;
      members = members;
      no_prints = refl;
      places = λ large h.
          places_more old.scope _ old.places c.add.new.self c.args.definition c.args.constants c.args.counts c.in_ok-copy.field-0 c.in_ok-copy.ensures c.in_ok-push-2.ensures.ok members c.in_ok-add.ensures.counts
          c.in_ok-add.ensures.types large h;
      numbers = search rules;
      doubles = refl;
      double_numbers = refl;
      prints = refl;
    }
