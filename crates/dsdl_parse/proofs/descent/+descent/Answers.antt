use Rattle.std.proofs.Common.{true, Some, codes, refl, ap, sym, ◌∙◌}
use Rattle.std.proofs.lemmas.Bool.{OnTrue_at}
use Rattle.std.proofs.lemmas.Result.{err_from_is_err_and}
use Rattle.dsdl_parse.specs.Words.{seen, just, plus_minus}
use Rattle.dsdl_parse.specs.Trees.{set_of}
use Rattle.dsdl_parse.specs.Reading as r
use Rattle.dsdl_parse.proofs.Turns as turns
use Rattle.dsdl_parse.proofs.AloneReads.{alone_operand}
use Rattle.dsdl_parse.proofs.descent.+descent.Goals as goal

pub braces-returns-in_default-clause-value : goal.braces-returns-in_default-clause-value
braces-returns-in_default-clause-value t c =
    rw (turns.within_none c.args.depth c.in_default.ensures) refl

pub braces-returns-in-Some-take_sign-clause-value : goal.braces-returns-in-Some-take_sign-clause-value
braces-returns-in-Some-take_sign-clause-value t c =
    rw (turns.within_more c.args.depth c.in-Some.below c.in-Some.ensures) (turns.braces_empty true (r.expression_of (r.within c.in-Some.below)) (seen c.args.from) (seen c.in-Some-take_sign.to) _ _ refl c.in-Some-take_sign.ensures.taken.0 c.in-Some-take_sign.ensures.taken.1
    ∙ ap (λ x. Some (x, c.take_sign.new.self)) (sym (c.set_of.ensures ∙ ap (λ l. set_of (seen c.args.from) l (seen c.in-Some-take_sign.to)) c.empty.ensures)))

pub braces-returns-in_err-members-clause-value : goal.braces-returns-in_err-members-clause-value
braces-returns-in_err-members-clause-value t c =
    let p = err_from_is_err_and c.from_residual.result c.from_residual.ensures.1 in
    rw (p.1, p.2, turns.within_more c.args.depth c.in-Some.below c.in-Some.ensures)
    (turns.refuses_along c.in_err-members.field-0.0 (r.read_items (r.expression_of (r.within c.in-Some.below)) c.take_sign.new.self) _
    (λ n. turns.braces_fail true (r.expression_of (r.within c.in-Some.below)) (seen c.args.from) c.args.words.now refl c.in_default-take_sign.ensures.taken.1 (ap (r.read_items (r.expression_of (r.within c.in-Some.below))) (sym c.in_default-take_sign.ensures.taken.0) ∙ n)) c.in_err-members.ensures.value)

pub braces-returns-in-Some-take_sign-2-clause-value : goal.braces-returns-in-Some-take_sign-2-clause-value
braces-returns-in-Some-take_sign-2-clause-value t c =
    rw (turns.within_more c.args.depth c.in-Some.below c.in-Some.ensures) (turns.braces_some true (r.expression_of (r.within c.in-Some.below)) (seen c.args.from) (seen c.in-Some-take_sign-2.to) c.args.words.now _ _ c.in_ok-members.members refl c.in_default-take_sign.ensures.taken.1
    (ap (r.read_items (r.expression_of (r.within c.in-Some.below))) (sym c.in_default-take_sign.ensures.taken.0) ∙ c.in_ok-members.ensures.value) c.in-Some-take_sign-2.ensures.taken.0 c.in-Some-take_sign-2.ensures.taken.1
    ∙ ap (λ x. Some (x, c.take_sign-2.new.self)) (sym c.set_of-in-Some-take_sign-2.ensures))

pub braces-returns-in-None-clause-value : goal.braces-returns-in-None-clause-value
braces-returns-in-None-clause-value t c =
    rw (turns.within_more c.args.depth c.in-Some.below c.in-Some.ensures) (turns.braces_open true (r.expression_of (r.within c.in-Some.below)) (seen c.args.from) c.args.words.now _ c.in_ok-members.members refl c.in_default-take_sign.ensures.taken.1
    (ap (r.read_items (r.expression_of (r.within c.in-Some.below))) (sym c.in_default-take_sign.ensures.taken.0) ∙ c.in_ok-members.ensures.value) c.in-None.ensures.taken.1)

pub not-returns-in_default-deeper-clause-value : goal.not-returns-in_default-deeper-clause-value
not-returns-in_default-deeper-clause-value t c =
    rw (turns.within_none c.args.depth c.in_default-deeper.ensures)
    (turns.prefixed_none (just (codes "!")) r.nothing (r.compare_of r.nothings) c.args.words.now (seen c.in-Some.op) _ c.in-Some.ensures.taken.0 c.in-Some.ensures.taken.1 refl)

pub not-returns-in_err-inner-clause-value : goal.not-returns-in_err-inner-clause-value
not-returns-in_err-inner-clause-value t c =
    let p = err_from_is_err_and c.from_residual.result c.from_residual.ensures.1 in
    rw (p.1, p.2, turns.within_more c.args.depth c.in-Some-deeper.below c.in-Some-deeper.ensures)
    (turns.refuses_along c.in_err-inner.field-0.0 (r.not_of (r.within c.in-Some-deeper.below) c.take_sign.new.self) _
    (λ n. turns.prefixed_none (just (codes "!")) (r.not_of (r.within c.in-Some-deeper.below)) (r.compare_of (r.around (r.within c.in-Some-deeper.below))) c.args.words.now (seen c.in-Some.op) _ c.in-Some.ensures.taken.0 c.in-Some.ensures.taken.1 n) c.in_err-inner.ensures.value)

pub not-returns-clause-value : goal.not-returns-clause-value
not-returns-clause-value t c =
    rw (turns.within_more c.args.depth c.in-Some-deeper.below c.in-Some-deeper.ensures)
    (turns.prefixed_some (just (codes "!")) (r.not_of (r.within c.in-Some-deeper.below)) (r.compare_of (r.around (r.within c.in-Some-deeper.below))) c.args.words.now _ (seen c.in-Some.op) c.in_ok-inner.inner _ c.in-Some.ensures.taken.0 c.in-Some.ensures.taken.1 c.in_ok-inner.ensures.value
    ∙ ap (λ x. Some (x, c.not.new.words)) (sym c.in_ok-unary.ensures))

pub parens-returns-in_default-clause-value : goal.parens-returns-in_default-clause-value
parens-returns-in_default-clause-value t c =
    rw (turns.within_none c.args.depth c.in_default.ensures) refl

pub parens-returns-in_err-inner-clause-value : goal.parens-returns-in_err-inner-clause-value
parens-returns-in_err-inner-clause-value t c =
    let p = err_from_is_err_and c.from_residual.result c.from_residual.ensures.1 in
    rw (p.1, p.2, turns.within_more c.args.depth c.in-Some.below c.in-Some.ensures)
    (turns.refuses_along c.in_err-inner.field-0.0 (r.expression_of (r.within c.in-Some.below) c.args.words.now) _ (λ n. turns.parens_fail true (r.expression_of (r.within c.in-Some.below)) c.args.words.now n) c.in_err-inner.ensures.value)

pub parens-returns-in-Some-take_sign-clause-value : goal.parens-returns-in-Some-take_sign-clause-value
parens-returns-in-Some-take_sign-clause-value t c =
    rw (turns.within_more c.args.depth c.in-Some.below c.in-Some.ensures) (turns.parens_some true (r.expression_of (r.within c.in-Some.below)) c.args.words.now _ _ c.in_ok-inner.inner (seen c.in-Some-take_sign.field-0) c.in_ok-inner.ensures.value c.in-Some-take_sign.ensures.taken.0 c.in-Some-take_sign.ensures.taken.1)

pub parens-returns-in-None-clause-value : goal.parens-returns-in-None-clause-value
parens-returns-in-None-clause-value t c =
    rw (turns.within_more c.args.depth c.in-Some.below c.in-Some.ensures) (turns.parens_open true (r.expression_of (r.within c.in-Some.below)) c.args.words.now _ c.in_ok-inner.inner c.in_ok-inner.ensures.value c.in-None.ensures.taken.1)

pub power-returns-in_default-deeper-clause-value : goal.power-returns-in_default-deeper-clause-value
power-returns-in_default-deeper-clause-value t c =
    turns.power_none (r.read_member (r.atom_of (r.within c.args.depth))) (r.within c.args.depth).sign c.args.words.now _ _ c.in_ok-left.left (seen c.in-Some.op) c.in_ok-left.ensures.value c.in-Some.ensures.taken.0 c.in-Some.ensures.taken.1
    (rw (turns.within_none c.args.depth c.in_default-deeper.ensures) refl)

pub power-returns-in_err-right-clause-value : goal.power-returns-in_err-right-clause-value
power-returns-in_err-right-clause-value t c =
    let p = err_from_is_err_and c.from_residual-in_err-right.result c.from_residual-in_err-right.ensures.1 in
    rw (p.1, p.2)
    (turns.refuses_along c.in_err-right.field-0.0 (r.sign_of (r.within c.in-Some-deeper.below) c.take_sign.new.self) _
    (λ n. turns.power_none (r.read_member (r.atom_of (r.within c.args.depth))) (r.within c.args.depth).sign c.args.words.now _ _ c.in_ok-left.left (seen c.in-Some.op) c.in_ok-left.ensures.value c.in-Some.ensures.taken.0 c.in-Some.ensures.taken.1
    (rw (turns.within_more c.args.depth c.in-Some-deeper.below c.in-Some-deeper.ensures) n)) c.in_err-right.ensures.value)

pub power-returns-clause-value : goal.power-returns-clause-value
power-returns-clause-value t c =
    turns.power_some (r.read_member (r.atom_of (r.within c.args.depth))) (r.within c.args.depth).sign c.args.words.now _ _ _ c.in_ok-left.left c.in_ok-right.right (seen c.in-Some.op) c.in_ok-left.ensures.value c.in-Some.ensures.taken.0 c.in-Some.ensures.taken.1
    (rw (turns.within_more c.args.depth c.in-Some-deeper.below c.in-Some-deeper.ensures) c.in_ok-right.ensures.value)
    ∙ ap (λ x. Some (x, c.sign.new.words)) (sym c.in_ok-binary.ensures)

pub set_members-returns-in_err-chain-clause-value : goal.set_members-returns-in_err-chain-clause-value
set_members-returns-in_err-chain-clause-value t c =
    let p = err_from_is_err_and c.from_residual.result c.from_residual.ensures.1 in
    rw (p.1, p.2)
    (turns.refuses_along c.in_err-chain.field-0.0 (r.expression_of (r.within c.args.depth) c.loop-members.words) _ (λ n. turns.items_fail (r.expression_of (r.within c.args.depth)) c.args.words.now c.loop-members.words c.loop-members.members c.loop-members.invariant n) c.in_err-chain.ensures.value)

pub set_members-loop-members-preserved : goal.set_members-loop-members-preserved
set_members-loop-members-preserved t c =
    rw (c.in_ok-push.ensures.ok)
    (turns.items_go_on (r.expression_of (r.within c.args.depth)) c.args.words.now c.loop-members.words _ _ c.loop-members.members c.in_ok-chain.field-0 (seen c.in-Some.field-0) c.loop-members.invariant c.in_ok-chain.ensures.value c.in_ok-chain.ensures.shorter c.in-Some.ensures.taken.0 c.in-Some.ensures.taken.1)

pub set_members-returns-in_default-clause-value : goal.set_members-returns-in_default-clause-value
set_members-returns-in_default-clause-value t c =
    rw (c.in_ok-push.ensures.ok)
    (turns.items_end (r.expression_of (r.within c.args.depth)) c.args.words.now c.loop-members.words _ _ c.loop-members.members c.in_ok-chain.field-0 c.loop-members.invariant c.in_ok-chain.ensures.value c.in_default.ensures.taken.0 c.in_default.ensures.taken.1)

pub sign-returns-in_default-deeper-clause-value : goal.sign-returns-in_default-deeper-clause-value
sign-returns-in_default-deeper-clause-value t c =
    rw (turns.within_none c.args.depth c.in_default-deeper.ensures)
    (turns.prefixed_none plus_minus r.nothing (r.power_of r.nothings) c.args.words.now (seen c.in-Some.op) _ c.in-Some.ensures.taken.0 c.in-Some.ensures.taken.1 refl)

pub sign-returns-in_err-inner-clause-value : goal.sign-returns-in_err-inner-clause-value
sign-returns-in_err-inner-clause-value t c =
    let p = err_from_is_err_and c.from_residual.result c.from_residual.ensures.1 in
    rw (p.1, p.2, turns.within_more c.args.depth c.in-Some-deeper.below c.in-Some-deeper.ensures)
    (turns.refuses_along c.in_err-inner.field-0.0 (r.power_of (r.within c.in-Some-deeper.below) c.take.new.words) _
    (λ n. turns.prefixed_none plus_minus (r.power_of (r.within c.in-Some-deeper.below)) (r.power_of (r.around (r.within c.in-Some-deeper.below))) c.args.words.now (seen c.in-Some.op) _ c.in-Some.ensures.taken.0 c.in-Some.ensures.taken.1 n) c.in_err-inner.ensures.value)

pub sign-returns-clause-value : goal.sign-returns-clause-value
sign-returns-clause-value t c =
    rw (turns.within_more c.args.depth c.in-Some-deeper.below c.in-Some-deeper.ensures)
    (turns.prefixed_some plus_minus (r.power_of (r.within c.in-Some-deeper.below)) (r.power_of (r.around (r.within c.in-Some-deeper.below))) c.args.words.now _ (seen c.in-Some.op) c.in_ok-inner.inner _ c.in-Some.ensures.taken.0 c.in-Some.ensures.taken.1 c.in_ok-inner.ensures.value
    ∙ ap (λ x. Some (x, c.power-2.new.words)) (sym c.in_ok-unary.ensures))

pub member-returns-then-not-is_name-clause-value : goal.member-returns-then-not-is_name-clause-value
member-returns-then-not-is_name-clause-value t c =
    turns.members_no_name (r.atom_of (r.within c.args.depth)) c.args.words.now c.loop-words.words _ _ c.loop-words.left (seen c.in-Some.field-0) (seen c.in-Some-next.name)
    c.loop-words.invariant c.in-Some.ensures.taken.0 c.in-Some.ensures.taken.1 c.in-Some-next.ensures.taken (sym c.is_name.ensures ∙ c.if-not-is_name.true)

pub member-returns-clause-value : goal.member-returns-clause-value
member-returns-clause-value t c =
    turns.members_end (r.atom_of (r.within c.args.depth)) c.args.words.now c.loop-words.words _ c.loop-words.left c.loop-words.invariant c.in_default.ensures.taken.0 c.in_default.ensures.taken.1

pub member-loop-words-preserved : goal.member-loop-words-preserved
member-loop-words-preserved t c =
    rw c.in_ok-left-2.ensures
    (turns.members_go_on (r.atom_of (r.within c.args.depth)) c.args.words.now c.loop-words.words _ _ c.loop-words.left (seen c.in-Some.field-0) (seen c.in-Some-next.name)
    c.loop-words.invariant c.in-Some.ensures.taken.0 c.in-Some.ensures.taken.1 c.in-Some-next.ensures.taken (sym c.is_name.ensures ∙ c.if-not-is_name.false))

pub operand-returns-then-is_one-clause-value : goal.operand-returns-then-is_one-clause-value
operand-returns-then-is_one-clause-value t c =
    rw (alone_operand (r.within c.args.depth) c.args.level c.args.words.now (OnTrue_at c.if-is_one.true c.is_one.ensures)) c.one.ensures.value
