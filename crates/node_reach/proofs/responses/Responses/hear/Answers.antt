use Rattle.std.proofs.Common.{◌≡◌, ◌∙◌, Some, None, sym, ap, option_map}
use Rattle.std.specs.Option.{option_and_then}
use Rattle.node_reach.specs.Fetched.{file_ears, reply_in}
use Rattle.node_reach.specs.Told.{owned}
use Rattle.node_reach.specs.Transfers.{transfer_at}
use Rattle.node_reach.proofs.Replies.{of_server, of_another}
use Rattle.node_reach.proofs.Results.{if_ok, on_any}
use Rattle.node_reach.proofs.responses.Responses.hear.Goals as goal

pub returns-in_default-clause-hears : goal.returns-in_default-clause-hears
returns-in_default-clause-hears c = (c.in_ok-heard.ensures {u = tt}).hears

pub returns-in_default-clause-reply : goal.returns-in_default-clause-reply
returns-in_default-clause-reply c = λ own past h.
    let none : None ≡ transfer_at (file_ears own) c.args.rec.now past =
    sym (ap (option_map owned) c.in_default.is) ∙ (c.transfer.ensures.told ∙ (c.in_ok-heard.ensures {u = tt}).told (file_ears own) past h) in
    ap (option_and_then (reply_in c.args.server)) none

pub returns-then-transfer-server-clause-hears : goal.returns-then-transfer-server-clause-hears
returns-then-transfer-server-clause-hears c = on_any _ c.read.result (c.in_ok-heard.ensures {u = tt}).hears

pub returns-then-transfer-server-clause-reply : goal.returns-then-transfer-server-clause-reply
returns-then-transfer-server-clause-reply c = if_ok _ _ c.read.result (λ response e own past h.
    let some : Some (owned c.in-Some.transfer) ≡ transfer_at (file_ears own) c.args.rec.now past =
    sym (ap (option_map owned) c.in-Some.is) ∙ (c.transfer.ensures.told ∙ (c.in_ok-heard.ensures {u = tt}).told (file_ears own) past h) in
    e ∙ of_server c.args.server (owned c.in-Some.transfer) _ some c.if-transfer-server.true) c.read.ensures

pub returns-else-transfer-server-clause-hears : goal.returns-else-transfer-server-clause-hears
returns-else-transfer-server-clause-hears c = (c.in_ok-heard.ensures {u = tt}).hears

pub returns-else-transfer-server-clause-reply : goal.returns-else-transfer-server-clause-reply
returns-else-transfer-server-clause-reply c = λ own past h.
    let some : Some (owned c.in-Some.transfer) ≡ transfer_at (file_ears own) c.args.rec.now past =
    sym (ap (option_map owned) c.in-Some.is) ∙ (c.transfer.ensures.told ∙ (c.in_ok-heard.ensures {u = tt}).told (file_ears own) past h) in
    of_another c.args.server (owned c.in-Some.transfer) _ some c.if-transfer-server.false
