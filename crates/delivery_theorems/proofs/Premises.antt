-- The premises can be met: a transfer of two frames on a classic bus, with the whole transfer in one frame of another
-- bus between them.
use Rattle.std.proofs.Common.{◌≡◌, ℕ, zero, suc, le_refl, zero-le, ◌≤◌, ◌<◌, true, false, Some, None, List, [], ◌∷◌, ◌++◌, refl, sym, ap, ◌∙◌, subst, inl, inr, arith}
use Rattle.std.proofs.lemmas.Bool.{and_parts, both_ways}
use Rattle.can_id.specs.declared.key.Kind.TheVariants.{Message}
use Rattle.can_id.specs.declared.ident.Ident.{Ident}
use Rattle.can_id.specs.declared.ident.Ident.TheVariants.{Message as Of}
use Rattle.tail_frame.specs.declared.logged.Record.{Record}
use Rattle.frag.specs.Raw.{WireExplained}
use Rattle.delivery_theorems.specs.Raw.{WireExample}
use Rattle.tail_frame.specs.Chains.{KeyRecord, follows, tip, chain_bytes, closes_at, without_crc}
use Rattle.rx_table.specs.Keys.{SessionKey, KeyedFrame, IsLog}
use Rattle.frag.specs.Wire.{IsFrameSize, fitting, last_size, padding}
use Rattle.frag.specs.Sent.{IsIdentOf, size_on, transfer_at, IsSentList, Explained, NoChanceAt, NoChance}
use Rattle.frag.specs.declared.sent.Pair.{Pair}
use Rattle.frag.specs.declared.sent.Sent.{Sent}
use Rattle.frag.specs.declared.sent.Transfer.{Transfer}
use Rattle.delivery_theorems.specs.Due.{Due, Names, SomeFromTo}
use Rattle.delivery_theorems.specs.Report.{Example}
use Rattle.frag.specs.Sent.{pair_at}
use Rattle.frag.proofs.Follows.{follows_parts}

abbrev key : SessionKey
key = record { kind = Message; port = 100; source = 1 }

abbrev x0 : Transfer
x0 = record { priority = 4; tid = 0; moment = 1000000; destination = None; payload = 0 ∷ 1 ∷ 2 ∷ 3 ∷ 4 ∷ 5 ∷ 6 ∷ 7 ∷ [] }

abbrev sent : Sent
sent = record { key = record { kind = Message; port = 100; source = Some 1 }; sizes = 8 ∷ 64 ∷ []; transfers = x0 ∷ [] }

abbrev r1 : KeyRecord
r1 = record { line = 1; moment = 1000000; bus = 0; priority = 4; start = true; end = false; toggle = true; tid = 0; body = 0 ∷ 1 ∷ 2 ∷ 3 ∷ 4 ∷ 5 ∷ 6 ∷ [] }

abbrev r2 : KeyRecord
r2 = record { line = 2; moment = 1000050; bus = 1; priority = 4; start = true; end = true; toggle = true; tid = 0; body = 0 ∷ 1 ∷ 2 ∷ 3 ∷ 4 ∷ 5 ∷ 6 ∷ 7 ∷ 0 ∷ 0 ∷ 0 ∷ [] }

abbrev r3 : KeyRecord
r3 = record { line = 3; moment = 1000100; bus = 0; priority = 4; start = false; end = true; toggle = false; tid = 0; body = 7 ∷ 0x17 ∷ 0x8D ∷ [] }

abbrev records : List KeyRecord
records = r3 ∷ r2 ∷ r1 ∷ []

abbrev log : List KeyedFrame
log = record { key = key; rec = r3 } ∷ record { key = key; rec = r2 } ∷ record { key = key; rec = r1 } ∷ []

abbrev origin : List Pair
origin = record { j = 0; i = 0 } ∷ record { j = 0; i = 0 } ∷ record { j = 0; i = 1 } ∷ []

sizes : (bus : ℕ) → IsFrameSize (size_on sent bus)
sizes zero = inl refl
sizes (suc zero) = inr refl
sizes (suc (suc n)) = inl refl

moments : (a b : ℕ) → a ≤ b → b < 1 → (transfer_at sent a).moment ≤ (transfer_at sent b).moment
moments zero zero l k = le_refl 1000000
moments (suc a) zero l k = absurd (omega arith)
moments zero (suc b) l k = absurd (omega arith)
moments (suc a) (suc b) l k = absurd (omega arith)

ranges : (j : ℕ) → j < 1 → ((transfer_at sent j).priority < 8) × ((transfer_at sent j).tid < 32)
ranges zero l = (omega arith, omega arith)
ranges (suc j) l = absurd (omega arith)

sent_list : IsSentList sent
sent_list = record { sizes = sizes; ranges = ranges; moments = moments }

is_log : IsLog log
is_log = (((omega arith, omega arith), ((omega arith, omega arith), tt)), ((((omega arith, omega arith), tt)), (tt, tt)))

explained : Explained 2000000 sent (pair_at origin) records
unfolding padding last_size fitting
explained = (
  record {
    is_sent = record { known = omega arith; frame = record { within = le_refl 1; priority = refl; tid = refl; start = refl; end = refl; toggle = refl; body = refl }; since = omega arith; until = omega arith };
    in_order = (λ e. absurd (omega arith), (λ _. inr (refl, omega arith), tt));
  },
  (
    record {
      is_sent = record { known = omega arith; frame = record { within = zero-le; priority = refl; tid = refl; start = refl; end = refl; toggle = refl; body = refl }; since = omega arith; until = omega arith };
      in_order = (λ e. absurd (omega arith), tt);
    },
    (
      record {
        is_sent = record { known = omega arith; frame = record { within = zero-le; priority = refl; tid = refl; start = refl; end = refl; toggle = refl; body = refl }; since = omega arith; until = omega arith };
        in_order = tt;
      },
      tt,
    ),
  ),
)

abbrev Stand : ℕ → Type 0
Stand i = SomeFromTo (Names (pair_at origin) 0 0 i) (r3 ∷ r2 ∷ []) r1 []

stand : (i : ℕ) → i ≤ 1 → Stand i
stand zero l = inr (inr (refl, refl, refl))
stand (suc zero) l = inl (refl, refl, refl)
stand (suc (suc i)) l = absurd (omega arith)

due : Due 2000000 sent (pair_at origin) 0 r1 [] r3 (r2 ∷ r1 ∷ [])
unfolding padding last_size fitting
due = record {
  seg = r3 ∷ r2 ∷ [];
  between = refl;
  bus = refl;
  begin_j = refl;
  begin_i = refl;
  end_j = refl;
  end_i = refl;
  is_first = (λ _ _ _. refl, (λ e _ _. absurd (omega arith), λ _ _ e. absurd (omega arith)));
  stands = stand;
  in_force = (refl, (refl, refl));
  fresh = inl refl;
}

head_is : (a b : KeyRecord) (s t : List KeyRecord) → a ∷ s ≡ b ∷ t → a ≡ b
head_is a b s t e = cc

tail_is : (a b : KeyRecord) (s t : List KeyRecord) → a ∷ s ≡ b ∷ t → s ≡ t
tail_is a b s t e = cc

no_start_closes : (a : KeyRecord) (between : List KeyRecord) (q : KeyRecord) → q.start ≡ true → closes_at a between q ≡ true → ⊥
no_start_closes a between q s c =
    let f = (and_parts (follows a (tip a between) q) q.end c).0 in
    both_ways q.start (follows_parts a (tip a between) q f).not_start s

at_r3 : NoChanceAt sent (pair_at origin) r3 (r2 ∷ r1 ∷ [])
unfolding padding last_size fitting
at_r3 a [] older e s c cl z =
    let b = (follows_parts a a r3 (and_parts (follows a a r3) true c).0).bus in
    let other : r3.bus ≡ r2.bus = b ∙ ap (λ (r : KeyRecord). r.bus) (sym (head_is r2 a (r1 ∷ []) older e)) in
    absurd (omega arith)
at_r3 a (r ∷ []) older e s c cl z =
    let is_r : r2 ≡ r = head_is r2 r (r1 ∷ []) (a ∷ older) e in
    let is_a : r1 ≡ a = head_is r1 a [] older (tail_is r2 r (r1 ∷ []) (a ∷ older) e) in
    subst (λ (b : KeyRecord). without_crc (chain_bytes b (r3 ∷ r ∷ [])) ≡ x0.payload) is_a (subst (λ (b : KeyRecord). without_crc (chain_bytes r1 (r3 ∷ b ∷ [])) ≡ x0.payload) is_r refl)
at_r3 a (r ∷ t ∷ between) older e s c cl z =
    let rest = tail_is r1 t [] (between ++ a ∷ older) (tail_is r2 r (r1 ∷ []) (t ∷ (between ++ a ∷ older)) e) in
    absurd (none_ends between a older rest)
  where
    none_ends : (between : List KeyRecord) (a : KeyRecord) (older : List KeyRecord) → [] ≡ between ++ a ∷ older → ⊥
    none_ends [] a older e = cc
    none_ends (b ∷ between) a older e = cc

no_chance : NoChance sent (pair_at origin) records
no_chance = (at_r3, (λ a between older e s c cl z. absurd (no_start_closes a between r2 refl c), (λ a between older e s c cl z. absurd (no_start_closes a between r1 refl c), tt)))

pub example : Example
example = record {
  timeout = 2000000;
  sent = sent;
  key = key;
  origin = origin;
  log = log;
  q = r3;
  is_log = is_log;
  explains = record { sent_list = sent_list; of_key = refl; one_each = refl; explained = explained; no_chance = no_chance };
  is_due = record { j = 0; p = r1; older = []; past = r2 ∷ r1 ∷ []; newer = []; split = refl; due = due };
}

-- the same log as it is received

abbrev raw1 : Record
raw1 = record { line = 1; moment = 1000000; bus = 0; ident = 0x10606401; bytes = 0 ∷ 1 ∷ 2 ∷ 3 ∷ 4 ∷ 5 ∷ 6 ∷ 0xA0 ∷ [] }

abbrev raw2 : Record
raw2 = record { line = 2; moment = 1000050; bus = 1; ident = 0x10606401; bytes = 0 ∷ 1 ∷ 2 ∷ 3 ∷ 4 ∷ 5 ∷ 6 ∷ 7 ∷ 0 ∷ 0 ∷ 0 ∷ 0xE0 ∷ [] }

abbrev raw3 : Record
raw3 = record { line = 3; moment = 1000100; bus = 0; ident = 0x10606401; bytes = 7 ∷ 0x17 ∷ 0x8D ∷ 0x40 ∷ [] }

abbrev past : List Record
past = raw3 ∷ raw2 ∷ raw1 ∷ []

abbrev message : Ident
message = Of 4 100 1

ident_is : IsIdentOf sent.key x0 message
ident_is = record { ranges = (omega arith, omega arith, omega arith); has_key = refl; has_priority = refl; has_destination = refl }

wire_explained : WireExplained 2000000 sent (pair_at origin) past
unfolding padding last_size fitting
wire_explained = (
  record {
    is_sent = record { known = omega arith; frame = record { within = le_refl 1; ident = message; ident_of = ident_is; identifier = refl; bytes = refl }; since = omega arith; until = omega arith };
    in_order = (λ e. absurd (omega arith), (λ _. inr (refl, omega arith), tt));
  },
  (
    record {
      is_sent = record { known = omega arith; frame = record { within = zero-le; ident = message; ident_of = ident_is; identifier = refl; bytes = refl }; since = omega arith; until = omega arith };
      in_order = (λ e. absurd (omega arith), tt);
    },
    (
      record {
        is_sent = record { known = omega arith; frame = record { within = zero-le; ident = message; ident_of = ident_is; identifier = refl; bytes = refl }; since = omega arith; until = omega arith };
        in_order = tt;
      },
      tt,
    ),
  ),
)

pub wire_example : WireExample
wire_example = record {
  timeout = 2000000;
  sent = sent;
  key = key;
  origin = origin;
  past = past;
  explains = record { sent_list = sent_list; of_key = refl; one_each = refl; explained = wire_explained; no_chance = no_chance };
  some_log = λ e. cc;
}
