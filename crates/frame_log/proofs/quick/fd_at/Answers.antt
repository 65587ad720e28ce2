use Rattle.std.proofs.Common.{◌≡◌, ◌∙◌, ◌≤◌, ◌-◌, ◌*◌, ◌+◌, ap, sym, subst, take, drop, length, length-drop, get_or, List, ℕ, false, refl, arith}
use Rattle.std.specs.Prelude.{nat_lt}
use Rattle.std.proofs.lemmas.Bool.Decides.{nat_tests}
use Rattle.frame_log.specs.Reads.{IsHex}
use Rattle.frame_log.specs.Line.{hex_digit}
use Rattle.frame_log.proofs.PairLemmas.{rest-is, front-wider, within-front}
use Rattle.frame_log.proofs.ReadsLemmas.{fd-data}
use Rattle.frame_log.proofs.quick.fd_at.Goals as goal

long : (s : List ℕ) (n : ℕ) → 160 ≤ length s → 2 * n ≤ length (take 128 (drop 2 s)) → 2 * n + 16 ≤ length (take (length s - 2) (drop 2 s))
long s n h l = omega (arith, h, within-front (2 * n) 128 (drop 2 s) l, ap length (rest-is 2 s), length-drop 2 s)

pub last_block-requires-clause-wide : goal.last_block-requires-clause-wide
last_block-requires-clause-wide c = long c.args.s.now c.blocks-first.result c.requires.wide c.blocks-first.ensures.within

pub last_block-requires-clause-front : goal.last_block-requires-clause-front
last_block-requires-clause-front c =
    let s = c.args.s.now in
    subst (λ (t : List ℕ). IsHex t (2 * c.blocks-first.result) c.blocks-first.new.bytes) (sym (rest-is 2 s))
    (front-wider (drop 2 s) c.blocks-first.new.bytes (2 * c.blocks-first.result) 128 c.blocks-first.ensures.within c.blocks-first.ensures.value)

digit : (d v : ℕ) → v ≡ d → v ≤ 15 → nat_lt 15 d ≡ false
digit d v e h = grind (arith, nat_tests)

pub returns-clause-data : goal.returns-clause-data
returns-clause-data c =
    let s = c.args.s.now in
    let f = get_or s 1 0 in
    let e = c.in_ok-n.ensures in
    fd-data s (take (length s - 2) (drop 2 s)) c.last_block.new.bytes c.in_ok-n.n f (omega (arith, c.requires.wide)) c.if-s-ne35.false refl
    (digit (hex_digit f) c.hex_digit.result c.hex_digit.ensures c.if-hex_digit-gt15.false) (rest-is 2 s) e.value e.count (sym c.is_length.ensures ∙ c.if-not-is_length.false) c.if-hex-n-ne10.false
