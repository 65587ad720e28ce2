use Rattle.std.proofs.Common.{sym, subst}
use Rattle.const_expr.specs.Member.{AreConstants}
use Rattle.dsdl_resolve.proofs.Filing.{finished_message, finished_service, none_kept}
use Rattle.dsdl_resolve.proofs.file.OpenFile.finish.Goals as goal

pub close-requires : goal.close-requires
close-requires c = record { ready = c.requires.ready }

pub returns-in-None-clause-done : goal.returns-in-None-clause-done
returns-in-None-clause-done c = λ S lines h.
    finished_message S c.args.name.now lines c.args.self c.args.scope.now.constants c.replace-constants.result c.in_ok-schema.field-0 c.in_ok-id.id h c.in-None.is (c.in_ok-schema.ensures.schema c.args.scope.now.constants)
    c.in_ok-schema.ensures.types c.in_ok-id.ensures c.replace-constants.ensures.value

pub returns-in_ok-joined-in-Some-clause-done : goal.returns-in_ok-joined-in-Some-clause-done
returns-in_ok-joined-in-Some-clause-done c = λ S lines h.
    finished_service S c.args.name.now lines c.args.self c.args.scope.now.constants c.new-in-Some.result c.in-Some.request c.in_ok-schema.field-0 c.in_ok-id.id c.in_ok-joined-in-Some.field-0 h c.in-Some.is
    (c.in_ok-schema.ensures.schema c.args.scope.now.constants) c.in_ok-schema.ensures.types c.in_ok-id.ensures c.new-in-Some.ensures c.in_ok-joined-in-Some.ensures

pub returns-in-None-clause-kept : goal.returns-in-None-clause-kept
returns-in-None-clause-kept c = subst AreConstants (sym c.replace-constants.ensures.value) c.requires.constants

pub returns-in_ok-joined-in-Some-clause-kept : goal.returns-in_ok-joined-in-Some-clause-kept
returns-in_ok-joined-in-Some-clause-kept c = subst AreConstants (sym c.new-in-Some.ensures) none_kept

pub returns-in-None-clause-parts : goal.returns-in-None-clause-parts
returns-in-None-clause-parts c = λ constants. c.in_ok-schema.ensures.schema constants
