-- The premises of the headline are met by a plan and a log.
use Rattle.std.proofs.Common.{◌≡◌, ℕ, zero, suc, le_refl, zero-le, ◌≤◌, ◌<◌, true, false, Some, None, List, [], ◌∷◌, ◌++◌, codes, refl, sym, ap, ◌∙◌, subst, inl, inr, arith}
use Rattle.std.proofs.lemmas.Bool.{and_parts, both_ways}
use Rattle.std.specs.FinMap as map
use Rattle.std.specs.Ordering.{nat_cmp}
use Rattle.std.specs.Cmp.Lexicographic.{slice_cmp}
use Rattle.can_id.specs.declared.key.Kind.TheVariants.{Message}
use Rattle.can_id.specs.declared.ident.Ident.{Ident}
use Rattle.can_id.specs.declared.ident.Ident.TheVariants.{Message as Of}
use Rattle.tail_frame.specs.declared.logged.Record.{Record}
use Rattle.tail_frame.specs.Chains.{KeyRecord, follows, tip, chain_bytes, closes_at, without_crc}
use Rattle.rx_table.specs.Keys.{SessionKey}
use Rattle.rx_table.specs.Ports.{Port}
use Rattle.frag.specs.Wire.{IsFrameSize, fitting, last_size, padding}
use Rattle.frag.specs.Sent.{IsIdentOf, size_on, transfer_at, IsSentList, NoChanceAt, NoChance}
use Rattle.frag.specs.declared.sent.Pair.{Pair}
use Rattle.frag.specs.Raw.{WireExplained}
use Rattle.delivery_theorems.specs.Raw.{WireExplains}
use Rattle.delivery_theorems.specs.Due.{Due, Names, SomeFromTo}
use Rattle.frag.specs.Sent.{pair_at}
use Rattle.frag.proofs.Follows.{follows_parts}
use Rattle.node_plan.specs.Info.{blank_info}
use Rattle.node_plan.specs.Limit.{begins_two}
use Rattle.node_plan.specs.declared.plan.Plan.{Plan}
use Rattle.node_plan.specs.declared.plan.SubShape.TheVariants.{Raw}
use Rattle.node_plan.specs.Laws.{PlainPlans}
use Rattle.node_plan.specs.PlainPlan.{plan_of}
use Rattle.node_plan.specs.Plan.{Good}
use Rattle.node_plan.specs.Types.{none}
use Rattle.node_run.specs.declared.form.Form.TheVariants.{Text}
use Rattle.node_run.specs.Loaded.{IsLoaded}
use Rattle.dsdl_resolve.specs.Passes.{Compiled}
use Rattle.dsdl_links.specs.Order.{begin}
use Rattle.session_lines.specs.Reported.{of_key, IsSession}
use Rattle.cyphal.specs.Job.{told_by}
use Rattle.rx_table.specs.Heard.{heard_as}
use Rattle.cyphal.specs.Headline.{Asked, logged_in}
use Rattle.cyphal.specs.Premises.{IsDueAt, plan_text, log_text, files, first, second, sent, PremisesCanBeMet}

abbrev plan : Plan
plan = record {
  node = 10;
  buses = record { name = codes "can0"; mtu = 8; rate = 4096 } ∷ record { name = codes "can1"; mtu = 8; rate = 4096 } ∷ [];
  timeout = 2000000;
  silent = true;
  subs = record { port = 100; sources = 4; shape = Raw 16 } ∷ [];
  clients = 4;
  status = record { health = 0; mode = 0; code = 0 };
  info = blank_info;
  registers = [];
  serve = None;
  queue = 64;
}

is_plan : plan_of none plan_text ≡ Good plan
unfolding begins_two
is_plan = refl

-- no files are compiled to the namespace without types
nothing_compiled : Compiled [] none
nothing_compiled = record {
  done = [];
  valued_all = record {
    reads = [];
    order = [];
    ordered = record {
      links = [];
      linked = record { passed = record { within = refl; read = tt }; linked = tt };
      ordered = record { valued = begin; all = refl };
    };
    valued_all = refl;
  };
  versions = refl;
  ports = refl;
  definitions = refl;
  prints = refl;
}

no_root : IsLoaded (codes "none") (Some files) none
no_root = record { files = []; are = refl; compiled = nothing_compiled }

abbrev key : SessionKey
key = record { kind = Message; port = 100; source = 1 }

abbrev port : Port
port = record { kind = Message; port = 100; sources = 4; extent = 16 }

abbrev raw1 : Record
raw1 = record { line = 1; moment = 1000000; bus = 0; ident = 0x10606401; bytes = 0 ∷ 1 ∷ 2 ∷ 3 ∷ 4 ∷ 5 ∷ 6 ∷ 0xA0 ∷ [] }

abbrev raw2 : Record
raw2 = record { line = 2; moment = 1000050; bus = 1; ident = 0x10606401; bytes = 0 ∷ 1 ∷ 2 ∷ 3 ∷ 4 ∷ 5 ∷ 6 ∷ 7 ∷ 0 ∷ 0 ∷ 0 ∷ 0xE0 ∷ [] }

abbrev raw3 : Record
raw3 = record { line = 3; moment = 1000100; bus = 0; ident = 0x10606401; bytes = 7 ∷ 0x17 ∷ 0x8D ∷ 0x40 ∷ [] }

abbrev raw4 : Record
raw4 = record { line = 4; moment = 5000000; bus = 1; ident = 0x10606401; bytes = 1 ∷ 2 ∷ 3 ∷ 4 ∷ 5 ∷ 6 ∷ 7 ∷ 0xE1 ∷ [] }

abbrev past : List Record
past = raw4 ∷ raw3 ∷ raw2 ∷ raw1 ∷ []

logged : logged_in plan log_text ≡ past
logged = refl

abbrev r1 : KeyRecord
r1 = record { line = 1; moment = 1000000; bus = 0; priority = 4; start = true; end = false; toggle = true; tid = 0; body = 0 ∷ 1 ∷ 2 ∷ 3 ∷ 4 ∷ 5 ∷ 6 ∷ [] }

abbrev r2 : KeyRecord
r2 = record { line = 2; moment = 1000050; bus = 1; priority = 4; start = true; end = true; toggle = true; tid = 0; body = 0 ∷ 1 ∷ 2 ∷ 3 ∷ 4 ∷ 5 ∷ 6 ∷ 7 ∷ 0 ∷ 0 ∷ 0 ∷ [] }

abbrev r3 : KeyRecord
r3 = record { line = 3; moment = 1000100; bus = 0; priority = 4; start = false; end = true; toggle = false; tid = 0; body = 7 ∷ 0x17 ∷ 0x8D ∷ [] }

abbrev r4 : KeyRecord
r4 = record { line = 4; moment = 5000000; bus = 1; priority = 4; start = true; end = true; toggle = true; tid = 1; body = 1 ∷ 2 ∷ 3 ∷ 4 ∷ 5 ∷ 6 ∷ 7 ∷ [] }

abbrev records : List KeyRecord
records = r4 ∷ r3 ∷ r2 ∷ r1 ∷ []

are_records : of_key plan key past ≡ records
are_records = refl

session : IsSession plan key past port
session = record { port = refl; admitted_there = refl }

abbrev origin : List Pair
origin = record { j = 0; i = 0 } ∷ record { j = 0; i = 0 } ∷ record { j = 0; i = 1 } ∷ record { j = 1; i = 0 } ∷ []

sizes : (bus : ℕ) → IsFrameSize (size_on sent bus)
sizes zero = inl refl
sizes (suc zero) = inr refl
sizes (suc (suc n)) = inl refl

ranges : (j : ℕ) → j < 2 → ((transfer_at sent j).priority < 8) × ((transfer_at sent j).tid < 32)
ranges zero l = (omega arith, omega arith)
ranges (suc zero) l = (omega arith, omega arith)
ranges (suc (suc j)) l = absurd (omega arith)

moments : (a b : ℕ) → a ≤ b → b < 2 → (transfer_at sent a).moment ≤ (transfer_at sent b).moment
moments zero zero l k = le_refl 1000000
moments zero (suc zero) l k = omega arith
moments (suc zero) (suc zero) l k = le_refl 5000000
moments (suc a) zero l k = absurd (omega arith)
moments (suc (suc a)) (suc zero) l k = absurd (omega arith)
moments a (suc (suc b)) l k = absurd (omega arith)

sent_list : IsSentList sent
sent_list = record { sizes = sizes; ranges = ranges; moments = moments }

abbrev message : Ident
message = Of 4 100 1

ident_of_first : IsIdentOf sent.key first message
ident_of_first = record { ranges = (omega arith, omega arith, omega arith); has_key = refl; has_priority = refl; has_destination = refl }

ident_of_second : IsIdentOf sent.key second message
ident_of_second = record { ranges = (omega arith, omega arith, omega arith); has_key = refl; has_priority = refl; has_destination = refl }

explained : WireExplained 2000000 sent (pair_at origin) past
unfolding padding last_size fitting
explained = (
  record {
    is_sent = record { known = omega arith; frame = record { within = zero-le; ident = message; ident_of = ident_of_second; identifier = refl; bytes = refl }; since = omega arith; until = omega arith };
    in_order = (λ e. absurd (omega arith), (λ _. inl (omega arith), (λ e. absurd (omega arith), tt)));
  },
  (
    record {
      is_sent = record { known = omega arith; frame = record { within = le_refl 1; ident = message; ident_of = ident_of_first; identifier = refl; bytes = refl }; since = omega arith; until = omega arith };
      in_order = (λ e. absurd (omega arith), (λ _. inr (refl, omega arith), tt));
    },
    (
      record {
        is_sent = record { known = omega arith; frame = record { within = zero-le; ident = message; ident_of = ident_of_first; identifier = refl; bytes = refl }; since = omega arith; until = omega arith };
        in_order = (λ e. absurd (omega arith), tt);
      },
      (
        record {
          is_sent = record { known = omega arith; frame = record { within = zero-le; ident = message; ident_of = ident_of_first; identifier = refl; bytes = refl }; since = omega arith; until = omega arith };
          in_order = tt;
        },
        tt,
      ),
    ),
  ),
)

head_is : (a b : KeyRecord) (s t : List KeyRecord) → a ∷ s ≡ b ∷ t → a ≡ b
head_is a b s t e = cc

tail_is : (a b : KeyRecord) (s t : List KeyRecord) → a ∷ s ≡ b ∷ t → s ≡ t
tail_is a b s t e = cc

no_start_closes : (a : KeyRecord) (between : List KeyRecord) (q : KeyRecord) → q.start ≡ true → closes_at a between q ≡ true → ⊥
no_start_closes a between q s c =
    let f = (and_parts (follows a (tip a between) q) q.end c).0 in
    both_ways q.start (follows_parts a (tip a between) q f).not_start s

at_r3 : NoChanceAt sent (pair_at origin) r3 (r2 ∷ r1 ∷ [])
unfolding padding last_size fitting
at_r3 a [] older e s c cl z =
    let b = (follows_parts a a r3 (and_parts (follows a a r3) true c).0).bus in
    let other : r3.bus ≡ r2.bus = b ∙ ap (λ (r : KeyRecord). r.bus) (sym (head_is r2 a (r1 ∷ []) older e)) in
    absurd (omega arith)
at_r3 a (r ∷ []) older e s c cl z =
    let is_r : r2 ≡ r = head_is r2 r (r1 ∷ []) (a ∷ older) e in
    let is_a : r1 ≡ a = head_is r1 a [] older (tail_is r2 r (r1 ∷ []) (a ∷ older) e) in
    subst (λ (b : KeyRecord). without_crc (chain_bytes b (r3 ∷ r ∷ [])) ≡ first.payload) is_a (subst (λ (b : KeyRecord). without_crc (chain_bytes r1 (r3 ∷ b ∷ [])) ≡ first.payload) is_r refl)
at_r3 a (r ∷ t ∷ between) older e s c cl z =
    let rest = tail_is r1 t [] (between ++ a ∷ older) (tail_is r2 r (r1 ∷ []) (t ∷ (between ++ a ∷ older)) e) in
    absurd (none_ends between a older rest)
  where
    none_ends : (between : List KeyRecord) (a : KeyRecord) (older : List KeyRecord) → [] ≡ between ++ a ∷ older → ⊥
    none_ends [] a older e = cc
    none_ends (b ∷ between) a older e = cc

no_chance : NoChance sent (pair_at origin) records
no_chance = (
  λ a between older e s c cl z. absurd (no_start_closes a between r4 refl c),
  (at_r3, (λ a between older e s c cl z. absurd (no_start_closes a between r2 refl c), (λ a between older e s c cl z. absurd (no_start_closes a between r1 refl c), tt))),
)

explains : WireExplains (heard_as 10) 2000000 sent key origin past
explains = record { sent_list = sent_list; of_key = refl; one_each = refl; explained = explained; no_chance = no_chance }

stands_first : (i : ℕ) → i ≤ 1 → SomeFromTo (Names (pair_at origin) 0 0 i) (r3 ∷ r2 ∷ []) r1 []
stands_first zero l = inr (inr (refl, refl, refl))
stands_first (suc zero) l = inl (refl, refl, refl)
stands_first (suc (suc i)) l = absurd (omega arith)

due_first : Due 2000000 sent (pair_at origin) 0 r1 [] r3 (r2 ∷ r1 ∷ [])
unfolding padding last_size fitting
due_first = record {
  seg = r3 ∷ r2 ∷ [];
  between = refl;
  bus = refl;
  begin_j = refl;
  begin_i = refl;
  end_j = refl;
  end_i = refl;
  is_first = (λ _ _ _. refl, (λ e _ _. absurd (omega arith), λ _ _ e. absurd (omega arith)));
  stands = stands_first;
  in_force = (refl, (refl, refl));
  fresh = inl refl;
}

stands_second : (i : ℕ) → i ≤ 0 → SomeFromTo (Names (pair_at origin) 1 1 i) [] r4 (r3 ∷ r2 ∷ r1 ∷ [])
stands_second zero l = (refl, refl, refl)
stands_second (suc i) l = absurd (omega arith)

due_second : Due 2000000 sent (pair_at origin) 1 r4 (r3 ∷ r2 ∷ r1 ∷ []) r4 (r3 ∷ r2 ∷ r1 ∷ [])
unfolding padding last_size fitting
due_second = record {
  seg = [];
  between = refl;
  bus = refl;
  begin_j = refl;
  begin_i = refl;
  end_j = refl;
  end_i = refl;
  is_first = λ _ _ _. refl;
  stands = stands_second;
  in_force = refl;
  fresh = inl refl;
}

due : (j : ℕ) → j < 2 → IsDueAt 2000000 sent origin records j
due zero l = record { last = r3; due = record { j = 0; p = r1; older = []; past = r2 ∷ r1 ∷ []; newer = r4 ∷ []; split = refl; due = due_first }; is = refl }
due (suc zero) l = record { last = r4; due = record { j = 1; p = r4; older = r3 ∷ r2 ∷ r1 ∷ []; past = r3 ∷ r2 ∷ r1 ∷ []; newer = []; split = refl; due = due_second }; is = refl }
due (suc (suc j)) l = absurd (omega arith)

is_there : map.get files (codes "plan") ≡ Some plan_text
is_there = map.get-from_sorted (slice_cmp nat_cmp) ((codes "plan", plan_text) ∷ []) (codes "plan") tt

asked : PlainPlans → Asked (codes "run" ∷ codes "none" ∷ codes "plan" ∷ []) (told_by (Some files) (Some log_text) (Some [])) plan log_text
asked plain = record {
  form = Text;
  root = codes "none";
  path = codes "plan";
  command = refl;
  tree = files;
  is_tree = refl;
  is_plan = record { names = none; is = no_root; gives = (plan_text, is_there, plain none plan_text plan is_plan) };
  is_input = refl;
}

pub premises : PlainPlans → PremisesCanBeMet
premises plain = record {
  plan = plan;
  bytes = log_text;
  key = key;
  port = port;
  origin = origin;
  asked = asked plain;
  session = subst (λ (t : List Record). IsSession plan key t port) (sym logged) session;
  explains = subst (λ (t : List Record). WireExplains (heard_as 10) 2000000 sent key origin t) (sym logged) explains;
  due = λ j l. subst (λ (t : List Record). IsDueAt 2000000 sent origin (of_key plan key t) j) (sym logged) (due j l);
}
