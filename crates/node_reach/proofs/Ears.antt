-- A node that listens, one record further.
use Rattle.std.proofs.Common.{◌≡◌, ◌∙◌, ℕ, ◌≤◌, List, [], ◌∷◌, ◌++◌, Option, Some, None, refl, sym, ap, subst, arith}
use Rattle.can_id.specs.Identifiers.{key_of as key_of_ident}
use Rattle.can_id.specs.declared.key.Key.{Key}
use Rattle.tail_frame.specs.Frames.{FrameOf, key_record}
use Rattle.tail_frame.specs.declared.logged.Record.{Record}
use Rattle.rx_table.specs.Admitted.{key_of}
use Rattle.rx_table.specs.Heard.{frame_for, with_frame, frames}
use Rattle.rx_table.specs.Keys.{KeyedFrame}
use Rattle.rx_table.specs.Laws.{OutcomeTells}
use Rattle.rx_table.specs.Ports.{Answer, Port, PortState, ports_of}
use Rattle.rx_table.specs.Table.{StandsFor, keyed, with_source, logged, Told}
use Rattle.rx_table.specs.Views.{subscriptions}
use Rattle.node_reach.specs.declared.ear.Ear.{Ear}
use Rattle.node_reach.specs.Ears.{states_in, AllUpTo, Hears}
use Rattle.node_reach.specs.PortTypes.{type_schema}
use Rattle.node_reach.specs.Told.{answered}
use Rattle.node_reach.specs.Transfers.{Ears, of_frame, transfer_at}
use Rattle.node_reach.proofs.Answered.{told_transfer}

pub up_to_later : (m n : ℕ) (past : List Record) → m ≤ n → AllUpTo m past → AllUpTo n past
up_to_later m n [] le h = tt
up_to_later m n (rec ∷ past) le h = (let early = h.0 in omega arith, up_to_later m n past le h.1)

pub ports-append : (ps : List PortState) (p : PortState) → ports_of (ps ++ p ∷ []) ≡ ports_of ps ++ p.port ∷ []
ports-append [] p = refl
ports-append (q ∷ ps) p = ap (λ (t : List Port). q.port ∷ t) (ports-append ps p)

-- the frame of a key that a frame of a source is
pub keyed_some : (f : FrameOf) (key : Key) (source : ℕ) → key ≡ key_of_ident f.ident → key.source ≡ Some source → keyed f ≡ Some (record { key = key_of key.kind key.port source; rec = key_record f })
keyed_some f key source is e = ap (λ (k : Key). with_source k.kind k.port k.source f) (sym is) ∙ ap (λ (o : Option ℕ). with_source key.kind key.port o f) e

pub keyed_none : (f : FrameOf) (key : Key) → key ≡ key_of_ident f.ident → key.source ≡ None → keyed f ≡ None
keyed_none f key is e = ap (λ (k : Key). with_source k.kind k.port k.source f) (sym is) ∙ ap (λ (o : Option ℕ). with_source key.kind key.port o f) e

-- of a record that is no frame for the node it tells nothing
pub told_none : (ear : Ear) (rec : Record) (ears : Ears) (past : List Record) → Hears ears ear past → None ≡ frame_for ear.own rec → None ≡ transfer_at ears rec past
told_none ear rec ears past h is = ap (of_frame ears (frames ears.own past)) (is ∙ ap (λ n. frame_for n rec) h.own)

-- of one that is, it tells what its table tells
pub told_some : (ear : Ear) (rec : Record) (ears : Ears) (past : List Record) → Hears ears ear past → OutcomeTells → (f : FrameOf) (answer : Answer) → Some f ≡ frame_for ear.own rec
    → ((log : List KeyedFrame) → StandsFor ear.table.timeout log (states_in ear) → Told ear.table.timeout (subscriptions type_schema ear.table) f log answer)
    → answered (keyed f) answer ≡ transfer_at ears rec past
told_some ear rec ears past h tells f answer is says =
    let log = frames ears.own past in
    let theirs : frame_for ears.own rec ≡ Some f = ap (λ n. frame_for n rec) (sym h.own) ∙ sym is in
    let now : Told ear.table.timeout (subscriptions type_schema ear.table) f log answer = says log (subst (λ t. StandsFor t log (states_in ear)) (sym h.timeout) h.sessions) in
    let its : Told ears.timeout ears.ports f log answer = subst (λ (ps : List Port). Told ears.timeout ps f log answer) h.ports (subst (λ t. Told t (subscriptions type_schema ear.table) f log answer) h.timeout now) in
    told_transfer tells ears.timeout log answer ears.ports f its ∙ sym (ap (of_frame ears log) theirs)

-- an ear that took a record
pub record Stepped (old new : Ear) (rec : Record) : Type 0 where
  pub own : new.own ≡ old.own
  pub timeout : new.table.timeout ≡ old.table.timeout
  pub ports : subscriptions type_schema new.table ≡ subscriptions type_schema old.table
  pub latest : new.latest ≡ rec.moment
  pub behind : old.latest ≤ rec.moment

module _ (old new : Ear) (rec : Record) (takes : Stepped old new rec) (ears : Ears) (past : List Record) (h : Hears ears old past) where
  own_is : old.own ≡ ears.own
  own_is = h.own

  hears_with : (o : Option FrameOf) → o ≡ frame_for old.own rec → StandsFor ears.timeout (with_frame o (frames ears.own past)) (states_in new) → Hears ears new (rec ∷ past)
  hears_with o is s =
      let heard : o ≡ frame_for ears.own rec = is ∙ ap (λ n. frame_for n rec) h.own in record {
        own = takes.own ∙ h.own;
        timeout = takes.timeout ∙ h.timeout;
        ports = takes.ports ∙ h.ports;
        sessions = subst (λ (p : Option FrameOf). StandsFor ears.timeout (with_frame p (frames ears.own past)) (states_in new)) heard s;
        moments = (
          let e = takes.latest in omega arith,
          up_to_later old.latest new.latest past (let e = takes.latest in let b = takes.behind in omega arith) h.moments,
        );
      }

  -- that is no frame for the node
  pub hears_none : None ≡ frame_for old.own rec → states_in new ≡ states_in old → Hears ears new (rec ∷ past)
  hears_none is same = hears_with None is (subst (λ (ps : List PortState). StandsFor ears.timeout (frames ears.own past) ps) (sym same) h.sessions)

  -- that is one
  pub hears_some : (f : FrameOf) → Some f ≡ frame_for old.own rec → ((log : List KeyedFrame) → StandsFor old.table.timeout log (states_in old) → StandsFor old.table.timeout (logged f log) (states_in new)) → Hears ears new (rec ∷ past)
  hears_some f is step =
      let log = frames ears.own past in
      hears_with (Some f) is
      (subst (λ t. StandsFor t (logged f log) (states_in new)) h.timeout (step log (subst (λ t. StandsFor t log (states_in old)) (sym h.timeout) h.sessions)))
