use Rattle.std.proofs.Common.{◌≡◌, ◌⊎◌, false, true, inl, map, refl, subst, string_bytes, Option}
use Rattle.std.specs.Option.{option_map}
use Rattle.node_run.specs.declared.status.Status.TheVariants as status
use Rattle.cyphal.specs.Cause.{is_refused}
use Rattle.cyphal.specs.Expected.{job_for, job_asked}
use Rattle.cyphal.specs.Job.{CallsAtMost}
use Rattle.cyphal.specs.Words.{Command, asked_by, command_of}
use Rattle.cyphal.specs.declared.words.Accepted.{Accepted}
use Rattle.cyphal.proofs.CarriedOut.{read_out}
use Rattle.cyphal.proofs.statuses.Among.{memory_among}
use Rattle.cyphal.proofs.work.work.Goals as goal

pub returns-in-Err-clause-done : goal.returns-in-Err-clause-done
returns-in-Err-clause-done g c =
    let words = map string_bytes c.args.words.now in
    read_out (job_for words) _ status.NoMemory _ _ refl c.nothing-in-Err.result c.nothing-in-Err.ensures g.L.Source.left _ _ _ ⊥ refl
    (λ h. absurd cc)
    (memory_among (command_of words))
    (record {
      read = λ e. absurd cc;
      untaken = λ e. refl;
      refused = λ e. refl;
      early = λ _. refl;
      write = λ e. absurd cc;
      unread = λ _. refl;
      unwritten = λ _. refl;
      unserved = λ s e. refl;
    })
    (inl (record { nothing = record { written = refl; not_settled = refl; not_write = λ e. cc }; source = refl; tree = λ e. absurd cc; kept = λ _. refl }))
    (λ d. absurd d)

pub returns-clause-called : goal.returns-clause-called
returns-clause-called g c h =
    let asks = subst (λ (given : Option Accepted). option_map asked_by given ≡ command_of (map string_bytes c.args.words.now)) c.in-Ok-Some.field-0-is c.in-Ok-Some.ensures.is in
    subst (λ (asked : Option Command). ((job_asked asked).serves ≡ false) ⊎ (is_refused c.carry_out.result.status ≡ true) → CallsAtMost (job_asked asked).needs (g.T.Tree.files c.args.tree.now) (g.T.Tree.calls c.args.tree.now) (g.T.Tree.calls c.carry_out.new.tree))
    asks c.carry_out.ensures.called h

pub returns-clause-needed : goal.returns-clause-needed
returns-clause-needed g c fault still =
    let asks = subst (λ (given : Option Accepted). option_map asked_by given ≡ command_of (map string_bytes c.args.words.now)) c.in-Ok-Some.field-0-is c.in-Ok-Some.ensures.is in
    subst (λ (asked : Option Command). CallsAtMost (job_asked asked).needs (g.T.Tree.files c.args.tree.now) (g.T.Tree.calls c.args.tree.now) (g.T.Tree.calls c.carry_out.new.tree))
    asks (c.carry_out.ensures.needed fault still)
