use Rattle.std.proofs.Common.{◌+◌, ◌≤◌, length, sym, ap, ◌∙◌, subst, refl, arith}
use Rattle.file_client.specs.Fetch.{offset_of}
use Rattle.file_client.specs.Stands.{Keeps}
use Rattle.file_client.proofs.Put.{kept_put}
use Rattle.file_client.proofs.Steps.{ended_by, grown_by, piece_last, piece_more}
use Rattle.file_client.proofs.fetch.Fetch.piece.Goals as goal

pub returns-then-bytes-lt-PIECE-clause-keeps : goal.returns-then-bytes-lt-PIECE-clause-keeps
returns-then-bytes-lt-PIECE-clause-keeps c = λ limit s k.
    let bytes = c.args.bytes.now in
    let room : c.args.self.now.count + length bytes ≤ length c.args.self.now.buffer = omega (arith, c.if-length-len.false, c.len.ensures) in
    let within : offset_of s + length bytes ≤ limit = omega (arith, k.limit_is, k.count) in
    subst (λ v. Keeps limit v.0 c.finish-then-bytes-lt-PIECE.new.self) (sym (piece_last limit s bytes within c.if-bytes-lt-PIECE.true))
    (c.finish-then-bytes-lt-PIECE.ensures.keeps limit (ended_by s bytes)
    (kept_put limit s.lates s c.args.self.now _ bytes k room c.put_at.ensures.bytes c.put_at.ensures.len refl refl k.lates refl))

pub returns-clause-keeps : goal.returns-clause-keeps
returns-clause-keeps c = λ limit s k.
    let bytes = c.args.bytes.now in
    let room : c.args.self.now.count + length bytes ≤ length c.args.self.now.buffer = omega (arith, c.if-length-len.false, c.len.ensures) in
    let within : offset_of s + length bytes ≤ limit = omega (arith, k.limit_is, k.count) in
    subst (λ v. Keeps limit v.0 c.ask.new.self) (sym (piece_more limit s bytes within c.if-bytes-lt-PIECE.false))
    (c.ask.ensures.keeps limit (grown_by s bytes) (kept_put limit 0 s c.args.self.now _ bytes k room c.put_at.ensures.bytes c.put_at.ensures.len refl refl refl refl))

pub returns-clause-answer : goal.returns-clause-answer
returns-clause-answer c = λ limit s k.
    let bytes = c.args.bytes.now in
    let room : c.args.self.now.count + length bytes ≤ length c.args.self.now.buffer = omega (arith, c.if-length-len.false, c.len.ensures) in
    let within : offset_of s + length bytes ≤ limit = omega (arith, k.limit_is, k.count) in
    c.ask.ensures.answer limit (grown_by s bytes) (kept_put limit 0 s c.args.self.now _ bytes k room c.put_at.ensures.bytes c.put_at.ensures.len refl refl refl refl)
    ∙ sym (ap (λ v. v.1) (piece_more limit s bytes within c.if-bytes-lt-PIECE.false))
