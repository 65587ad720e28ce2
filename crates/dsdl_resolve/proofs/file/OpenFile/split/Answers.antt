use Rattle.std.proofs.Common.{sym, subst, ap, ◌∙◌, refl, arith}
use Rattle.dsdl_resolve.specs.Opens.{IsReady, said_of}
use Rattle.dsdl_resolve.specs.Judged.{composite_of}
use Rattle.dsdl_resolve.specs.declared.open_section.OpenSection.{OpenSection}
use Rattle.dsdl_resolve.proofs.Filing as filing
use Rattle.dsdl_resolve.proofs.file.OpenFile.split.Goals as goal

pub returns-in-Err-clause-split : goal.returns-in-Err-clause-split
returns-in-Err-clause-split c = λ S front h types. filing.split_refused S front c.args.behind.now c.args.self.now c.args.scope.now.constants c.in-Err.error h c.in-Err.ensures.refused

pub with-standing-requires : goal.with-standing-requires
with-standing-requires c = omega (arith, c.requires.ready.within.variants, c.requires.ready.counted)

pub close-requires : goal.close-requires
close-requires c = record { ready = subst IsReady (sym c.replace-closed.ensures.value) c.requires.ready }

pub returns-clause-split : goal.returns-clause-split
returns-clause-split c = λ S front h types.
    filing.split_done S types c.args.self.now c.args.scope.now.constants front c.args.behind.now h c.args.statement.now c.requires.split c.in-Ok.judged c.in-Ok.ensures.judged c.with-standing.result c.with-standing.ensures
    c.begin-next.result c.begin-next.ensures c.in_ok-close.field-0 (λ ks. c.in_ok-close.ensures.schema ks ∙ ap (λ (x : OpenSection). composite_of (said_of x ks)) c.replace-closed.ensures.value)
    (c.in_ok-close.ensures.types ∙ ap (λ (x : OpenSection). x.types) c.replace-closed.ensures.value) _ c.replace-closed.ensures.after refl _ c.new.ensures
