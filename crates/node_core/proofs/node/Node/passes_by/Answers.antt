use Rattle.std.proofs.Common.{◌≡◌, ◌∙◌, Bool, true, false, not, refl, sym}
use Rattle.std.specs.Bool.{OnFalse, OnTrue}
use Rattle.node_core.proofs.Subjects.{elsewhere, has_port}
use Rattle.node_core.proofs.node.Node.passes_by.Goals as goal

if_not : (P : Type 0) (taken : Bool) → (taken ≡ false → P) → OnTrue (not taken) P
if_not P true h = tt
if_not P false h = h refl

if_so : (P : Type 0) (taken : Bool) → (taken ≡ true → P) → OnFalse (not taken) P
if_so P true h = h refl
if_so P false h = tt

pub returns-in-Some-clause-elsewhere : goal.returns-in-Some-clause-elsewhere
returns-in-Some-clause-elsewhere c =
    if_not _ c.takes.result (λ none. elsewhere _ c.args.rec.now c.in-Some.subject (sym c.in-Some.ensures) (sym c.takes.ensures ∙ none))

pub returns-in-Some-clause-port : goal.returns-in-Some-clause-port
returns-in-Some-clause-port c =
    if_so _ c.takes.result (λ some. has_port c.args.self.now c.args.rec.now c.in-Some.subject (sym c.in-Some.ensures) (sym c.takes.ensures ∙ some))
