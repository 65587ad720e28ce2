-- A client that can send its requests.
use Rattle.std.specs.Prelude.{◌≢◌, ◌≤◌, length}
use Rattle.node_reach.specs.declared.client.Client.{Client}

-- it and the server are two nodes, and the path fits into a request
abbrev pub IsClient : Client → Type 0
IsClient client = (client.own ≤ 127) × (client.server ≤ 127) × (client.server ≢ client.own) × (length client.path ≤ 255)
