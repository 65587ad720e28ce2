-- What a table tells of a transfer.
use Rattle.std.specs.Prelude.{Option, Some, None}
use Rattle.rx_session.specs.Session.{Outcome, Ignored, Held, BadCrc, Delivered}
use Rattle.rx_table.specs.Admitted.{key_of}
use Rattle.rx_table.specs.Keys.{SessionKey, KeyedFrame}
use Rattle.rx_table.specs.Ports.{Answer, NoPort, NoSession, OfSession, Anonymous}
use Rattle.node_reach.specs.Transfers.{Transfer}
use Rattle.node_reach.specs.declared.transfer.Transfer as lent

-- a transfer without its place in memory
abbrev pub owned : lent.Transfer → Transfer
owned t = record { key = key_of t.kind t.port t.source; tid = t.tid; moment = t.moment; payload = t.payload.now }

-- the transfer that an outcome tells
abbrev pub of_outcome : SessionKey → Outcome → Option Transfer
of_outcome key Ignored = None
of_outcome key Held = None
of_outcome key BadCrc = None
of_outcome key (Delivered bus priority tid first last moment payload) =
    Some (record { key = key; tid = tid; moment = moment; payload = payload })

abbrev pub of_answer : SessionKey → Answer → Option Transfer
of_answer key NoPort = None
of_answer key NoSession = None
of_answer key (OfSession outcome) = of_outcome key outcome
of_answer key (Anonymous outcome) = None

-- the transfer that the answer to a frame tells; an anonymous one is none
abbrev pub answered : Option KeyedFrame → Answer → Option Transfer
answered None answer = None
answered (Some k) answer = of_answer k.key answer
