use Rattle.std.proofs.Common.{◌++◌, sym, ap, ◌∙◌, subst}
use Rattle.dsdl_resolve.specs.Progressing.{Holds, IsSound}
use Rattle.dsdl_resolve.specs.Valuing.{with_done}
use Rattle.dsdl_resolve.specs.declared.progress.Progress.{Progress}
use Rattle.dsdl_resolve.proofs.Progresses.{holds_type, holds_double, on_ok_from, sound_type, sound_double, sound_prints, on_ok}
use Rattle.dsdl_resolve.proofs.progress.Progress.add.Goals as goal
use Rattle.dsdl_resolve.proofs.progress.Progress.add.Goals.{then-first+in_ok-add_type, else-first+in_ok-add_double}

pub returns-clause-holds : goal.returns-clause-holds
returns-clause-holds c =
    let number = c.args.number in
    let done = c.args.done.outcome in
    let prints = c.append.new.prints in
    on_ok_from c.append.result c.append.ensures
    (λ more sources before first holds.
    elim c.if-first.branch [
      | then-first+in_ok-add_type w ↦
          subst (λ (p : Progress). Holds sources (with_done before number done) (record p { prints = prints })) (sym w.self-is)
          (holds_type sources before c.args.self.now w.add_type.new.self number done prints holds (more ∙ ap (λ (p : Progress). p.prints ++ done.prints) w.self-is) c.args.done.counts w.in_ok-add_type.ensures (sym first ∙ w.if-first.true))
      | else-first+in_ok-add_double w ↦
          subst (λ (p : Progress). Holds sources (with_done before number done) (record p { prints = prints })) (sym w.self-is)
          (holds_double sources before c.args.self.now w.add_double.new.self number done prints holds (more ∙ ap (λ (p : Progress). p.prints ++ done.prints) w.self-is) w.in_ok-add_double.ensures (sym first ∙ w.if-first.false))
    ])

pub returns-clause-sound : goal.returns-clause-sound
returns-clause-sound c =
    on_ok c.append.result
    (λ sound keeps ascend large.
    sound_prints c.if-first.self c.append.new.prints
    (elim c.if-first.branch [
      | then-first+in_ok-add_type w ↦ subst IsSound (sym w.self-is) (sound_type c.args.self.now w.add_type.new.self c.args.number c.args.done.outcome.definition c.args.done.outcome.constants c.args.done.counts w.in_ok-add_type.ensures sound keeps ascend large)
      | else-first+in_ok-add_double w ↦ subst IsSound (sym w.self-is) (sound_double c.args.self.now w.add_double.new.self c.args.number c.args.done.outcome.definition w.in_ok-add_double.ensures sound keeps)
    ]))
