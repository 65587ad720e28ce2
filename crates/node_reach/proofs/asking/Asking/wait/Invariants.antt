use Rattle.std.proofs.Common.{◌≡◌, List, ◌++◌}
use Rattle.file_client.specs.Fetch.{Event}
use Rattle.line_text.specs.Buffer.{text_of}
use Rattle.node_reach.specs.Fetched.{lates, lates_text}
use Rattle.node_reach.specs.Fetches.{HasAsked}
use Rattle.node_reach.proofs.asking.Asking.wait.Given as goal

-- so many Lates came, and what is said on them is gathered
abbrev pub invariant-loop-n : goal.invariant-loop-n
invariant-loop-n l = record {
  client : l.self.client ≡ l.fn.self.client;
  asked : (past : List Event) → HasAsked past l.fn.self → HasAsked (lates l.n past) l.self;
  text : (past : List Event) → HasAsked past l.fn.self
      → text_of l.gathered ≡ text_of l.fn.gathered ++ lates_text l.fn.self.client l.first l.tick l.n past;
}
