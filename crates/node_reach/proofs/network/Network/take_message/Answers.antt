use Rattle.std.proofs.Common.{◌≡◌, ◌∙◌, ℕ, ◌%◌, ◌^◌, ◌<◌, ◌≤◌, min, max, List, ◌∷◌, Option, Some, option_map, sym, ap, subst, arith}
use Rattle.dsdl_types.specs.Schemas.{Sch}
use Rattle.dsdl_types.specs.Values.{Val}
use Rattle.dsdl_types.specs.Views.{val}
use Rattle.wire_values.specs.Payloads.{payload_value}
use Rattle.std_types.specs.Types.{schema_of}
use Rattle.std_types.specs.declared.std_name.StdName.TheVariants.{Synchronization}
use Rattle.std_types.specs.declared.time.Synchronization as stored
use Rattle.time_sync.specs.Pairs.{Message}
use Rattle.time_sync.specs.Stands.{Stands}
use Rattle.node_reach.specs.Monitored.{latest_message, message_in, add_message}
use Rattle.node_reach.specs.Told.{owned}
use Rattle.node_reach.proofs.Stamps.{stamp_of, stamp_low}
use Rattle.node_reach.proofs.network.Network.take_message.Goals as goal

-- the greatest moment so far and its own
moment_is : (until moment before old began latest : ℕ) → moment ≤ until → old ≡ before → began ≡ min moment until → latest ≡ max old began → latest ≡ max before moment
moment_is until moment before old began latest early o b l = omega arith

same_tid : (tid : ℕ) → tid < 32 → tid % 32 ≡ tid
same_tid tid low = omega arith

same_stamp : (stamp : ℕ) → stamp < 2 ^ 56 → stamp % 2 ^ 56 ≡ stamp
same_stamp stamp low = omega arith

newest : (before moment latest : ℕ) → latest ≡ max before moment → latest ≡ max (max before moment) before
newest before moment latest e = omega arith

pub returns : goal.returns
returns c = record {
  learns = λ beats messages b k.
      let t = owned c.args.transfer in
      let payload = c.args.transfer.payload.now in
      let old = c.args.self.now in
      let v = val c.in-Some.value in
      let read : Some v ≡ payload_value (schema_of Synchronization) payload =
      ap (option_map val) (sym c.in-Some.is) ∙ ((c.in_ok-value.ensures {u = tt}).value ∙ ap (λ (s : Sch). payload_value s payload) k.message_typed) in
      let moment : c.max-latest.result ≡ max (latest_message messages) t.moment =
      moment_is c.args.moment t.moment (latest_message messages) old.latest_message c.min-began.result c.max-latest.result b.early k.latest_message_is c.min-began.ensures c.max-latest.ensures in
      let stamp : c.in_ok-message.message.previous_transmission_timestamp_microsecond % 2 ^ 56 ≡ stamp_of v =
      ap (λ (m : stored.Synchronization). m.previous_transmission_timestamp_microsecond % 2 ^ 56) (c.in_ok-message.ensures {u = tt}) ∙ same_stamp (stamp_of v) (stamp_low payload v read) in
      let made : Message = record { moment = c.max-latest.result; source = t.key.source; tid = t.tid % 32; stamp = c.in_ok-message.message.previous_transmission_timestamp_microsecond % 2 ^ 56 } in
      let made_is : made ≡ message_in t messages v = (λ i. record { moment = moment i; source = t.key.source; tid = same_tid t.tid b.tid i; stamp = stamp i }) in
      record {
        beats_are = k.beats_are;
        messages_are = subst (λ (ms : List Message). Stands ms c.hear.new.self) (ap (λ (m : Message). m ∷ messages) made_is ∙ ap (add_message t messages) read) (c.hear.ensures.stands messages k.messages_are);
        beat_typed = k.beat_typed;
        message_typed = k.message_typed;
        latest_beat_is = k.latest_beat_is;
        latest_message_is = newest (latest_message messages) t.moment c.max-latest.result moment ∙ ap (λ (o : Option Val). latest_message (add_message t messages o)) read;
      };
}
