-- The tokens of a line lie in it, and their bytes are of their kinds.
use Rattle.std.proofs.Common.{◌≡◌, ℕ, ◌+◌, ◌-◌, List, take, drop, subst, arith}
use Rattle.dsdl_lex.specs.declared.token.Token.{Token}
use Rattle.dsdl_lex.specs.Tokens.{IsKind, Lexes, ends, comment, blank, token}
use Rattle.dsdl_parse.specs.Words.{AreTokens}

behind : (at n : ℕ) → n ≡ (at + n) - at
behind at n = omega arith

pub are_tokens : (line : List ℕ) {at : ℕ} {ts : List Token} → Lexes line at ts → AreTokens line ts
are_tokens line (ends h) = tt
are_tokens line (comment h c) = tt
are_tokens line (blank h b d) = are_tokens line d
are_tokens line (token {at} {n} {ts} {kind} l d) =
    (omega arith, l.is_token.within, subst (λ m. IsKind kind (take m (drop at line))) (behind at n) l.is_token.is_kind, are_tokens line d)
