use Rattle.std.proofs.Common.{◌≡◌, ◌+◌, ◌∷◌, ◌++◌, [], sym, ap, ◌∙◌, subst}
use Rattle.dsdl_lex.specs.declared.token.Token.{Token}
use Rattle.dsdl_lex.specs.declared.token.TokenKind.TheVariants as k
use Rattle.dsdl_lex.specs.Tokens.{Lexes, Stuck}
use Rattle.dsdl_lex.proofs.Going as going
use Rattle.dsdl_lex.proofs.Going.{Going}
use Rattle.dsdl_lex.proofs.line.put_tokens.Goals as goal

pub returns-in-Some-clause-tokens : goal.returns-in-Some-clause-tokens
returns-in-Some-clause-tokens c =
    let split : Token = record { kind = k.Split; from = c.in-Some.at; to = c.in-Some.at + c.in-Some.n } in
    subst (Lexes c.args.line.now 0) (sym (c.in_ok-push.ensures.ok ∙ ap (λ l. l ++ split ∷ []) c.requires.empty)) (going.split_lexes c.args.line.now c.in-Some.at c.in-Some.n c.in-Some.ensures.found)

pub returns-then-b-eq35-clause-tokens : goal.returns-then-b-eq35-clause-tokens
returns-then-b-eq35-clause-tokens c = going.at_comment c.args.line.now c.loop-at.tokens c.loop-at.at c.loop-at.clear c.loop-at.invariant c.loop-at-test.true c.if-b-eq35.true

pub loop-at-preserved-then-is_blank : goal.loop-at-preserved-then-is_blank
loop-at-preserved-then-is_blank c = going.go_blank c.args.line.now c.loop-at.tokens c.loop-at.at c.loop-at.clear c.loop-at.invariant c.loop-at-test.true (sym c.is_blank.ensures ∙ c.if-is_blank.true)

pub loop-at-preserved : goal.loop-at-preserved
loop-at-preserved c =
    let g = going.go_token c.args.line.now c.loop-at.tokens c.loop-at.at c.loop-at.clear c.loop-at.invariant c.in-Some-found_at.kind c.in-Some-found_at.n c.found_at.new.clear c.in-Some-found_at.ensures.found c.in-Some-found_at.ensures.clear in
    subst (λ l. Going c.args.line.now l (c.loop-at.at + c.in-Some-found_at.n) c.found_at.new.clear) (sym c.in_ok-push-in-Some-found_at.ensures.ok) g

pub returns-in-None-clause-refused : goal.returns-in-None-clause-refused
returns-in-None-clause-refused c column e =
    let same : c.loop-at.at ≡ column = cc in
    subst (λ n. Stuck c.args.line.now 0 n) same
    (going.refuse c.args.line.now c.loop-at.tokens c.loop-at.at c.loop-at.clear c.loop-at.invariant c.loop-at-test.true (sym c.is_blank.ensures ∙ c.if-is_blank.false) c.if-b-eq35.false c.in-None.ensures.none)

pub returns-clause-tokens : goal.returns-clause-tokens
returns-clause-tokens c = going.at_end c.args.line.now c.loop-at.tokens c.loop-at.at c.loop-at.clear c.loop-at.invariant c.loop-at-test.false
