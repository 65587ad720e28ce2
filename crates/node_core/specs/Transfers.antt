-- The transfers that the code sends.
use Rattle.node_core.specs.Queues.{Sends}
use Rattle.node_core.specs.declared.transfer.Transfer.{Transfer}

-- a transfer with its payload
abbrev pub sends_of : Transfer → Sends
sends_of t = record { ident = t.ident; tid = t.tid; port = t.port; payload = t.payload.now }
