-- From records as they were received to the records of a key.
use Rattle.std.proofs.Common.{◌≡◌, ◌∙◌, Bool, true, false, cond, List, [], ◌∷◌, Option, Some, None, refl, ap}
use Rattle.can_id.specs.declared.key.Key.{Key}
use Rattle.tail_frame.specs.declared.logged.Record.{Record}
use Rattle.rx_table.specs.Keys.{SessionKey, KeyedFrame, bears_on, history}
use Rattle.frag.specs.Raw.{IsRecordOf, AreRecordsOf}
use Rattle.frag.proofs.Seen.{same_length, explained_by_fields}
use Rattle.frag.specs.Sent.{pair_at}
use Rattle.rx_table.specs.Heard.{onto, is_of, frames_of, records_of}
use Rattle.delivery_theorems.specs.Raw.{WireExplainsFields}

module _ (keyed : Record → Option KeyedFrame) (are : (rec : Record) (f : KeyedFrame) → keyed rec ≡ Some f → IsRecordOf rec f.rec) (key : SessionKey) where
  more : (rec : Record) (recs : List Record) (log : List KeyedFrame) (o : Option KeyedFrame) → keyed rec ≡ o → AreRecordsOf recs (history key log) → AreRecordsOf (cond (is_of key o) (rec ∷ recs) recs) (history key (onto o log))
  more rec recs log None e a = a
  more rec recs log (Some f) e a = both (bears_on key f)
    where
      both : (b : Bool) → AreRecordsOf (cond b (rec ∷ recs) recs) (cond b (f.rec ∷ history key log) (history key log))
      both true = (are rec f e, a)
      both false = a

  pub records_are : (past : List Record) → AreRecordsOf (records_of keyed key past) (history key (frames_of keyed past))
  records_are [] = tt
  records_are (rec ∷ past) = more rec (records_of keyed key past) (frames_of keyed past) (keyed rec) refl (records_are past)

pub wire_explains_fields : WireExplainsFields
wire_explains_fields keyed are timeout sent key origin past x =
    let a = records_are keyed are key past in
    record {
      sent_list = x.sent_list;
      of_key = x.of_key;
      one_each = x.one_each ∙ same_length (records_of keyed key past) (history key (frames_of keyed past)) a;
      explained = explained_by_fields timeout sent key.source (pair_at origin) (records_of keyed key past) (history key (frames_of keyed past)) (ap (λ (k : Key). k.source) x.of_key) x.sent_list a x.explained;
      no_chance = x.no_chance;
    }
