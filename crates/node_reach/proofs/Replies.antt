-- What a node hears of a file server.
use Rattle.std.proofs.Common.{◌≡◌, ◌≢◌, ◌∙◌, ℕ, ◌≤◌, eqb, length, Option, Some, None, sym, ap, subst}
use Rattle.std.proofs.lemmas.Bool.{eq-eqb, ne_eqb, cond-true, cond-false}
use Rattle.std.specs.Option.{option_and_then}
use Rattle.dsdl_types.specs.Schemas.{Sch}
use Rattle.dsdl_types.specs.Stored.{IsStored}
use Rattle.dsdl_types.specs.Values.{Val}
use Rattle.std_types.specs.FileLaws.{read_reply_forth}
use Rattle.std_types.specs.Files.{read_reply_of}
use Rattle.std_types.specs.Types.{schema_of}
use Rattle.std_types.specs.declared.std_name.StdName.TheVariants.{ReadReply as read_reply}
use Rattle.node_reach.specs.Fetched.{reply_of, reply_in}
use Rattle.node_reach.specs.Transfers.{Transfer}

-- a reply that was read has at most 256 bytes
pub short_reply : (s : Sch) → s ≡ schema_of read_reply → (v : Val) → IsStored s v → length (read_reply_of v).data ≤ 256
unfolding schema_of
short_reply s is v h =
    let stored : IsStored (schema_of read_reply) v = subst (λ (t : Sch). IsStored t v) is h in
    (read_reply_forth v stored).0.1.0

-- a transfer of the server is its reply, and one of another node is none
pub of_server : (server : ℕ) (t : Transfer) (o : Option Transfer) → Some t ≡ o → t.key.source ≡ server → reply_of t.tid t.payload ≡ option_and_then (reply_in server) o
of_server server t o is same =
    sym (cond-true (eqb t.key.source server) (reply_of t.tid t.payload) None (eq-eqb t.key.source server same))
    ∙ ap (option_and_then (reply_in server)) is

pub of_another : (server : ℕ) (t : Transfer) (o : Option Transfer) → Some t ≡ o → t.key.source ≢ server → None ≡ option_and_then (reply_in server) o
of_another server t o is other =
    sym (cond-false (eqb t.key.source server) (reply_of t.tid t.payload) None (ne_eqb t.key.source server other))
    ∙ ap (option_and_then (reply_in server)) is
