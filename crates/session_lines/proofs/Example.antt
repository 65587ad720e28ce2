-- The premises can be met: a health and a mode are sent to a node that sends itself, whose port's type has the health
-- alone.
use Rattle.std.proofs.Common.{◌≡◌, ◌∙◌, ℕ, zero, suc, zero-le, le_refl, ◌≤◌, ◌<◌, true, false, Some, None, List, [], ◌∷◌, ◌++◌, codes, replicate, refl, sym, ap, subst, inl, arith}
use Rattle.std.specs.Prelude.{pos}
use Rattle.std.proofs.lemmas.List.Elements.{All-nil, All-cons}
use Rattle.can_id.specs.declared.key.Kind.TheVariants.{Message}
use Rattle.cy_bits.specs.Bits.{bits_of, number}
use Rattle.dsdl_types.specs.Laws.{encoding}
use Rattle.dsdl_types.specs.Newer.{newer_struct, newer_field, newer_simple, added}
use Rattle.dsdl_types.specs.Rules.{IsSchema}
use Rattle.dsdl_types.specs.Schemas.{Sch, Outline, PUint, Simple, Struct, Field, End, is_composite}
use Rattle.dsdl_types.specs.Sound.{IsSound}
use Rattle.dsdl_types.specs.Values.{Val, Parts, More, Empty, Num}
use Rattle.dsdl_types.specs.Views.{sch, Kind, in_order, type_of as schema_of}
use Rattle.dsdl_types.specs.declared.schema.Body.{roll-Body}
use Rattle.dsdl_types.specs.declared.schema.Cast.TheVariants.{Saturated}
use Rattle.dsdl_types.specs.declared.schema.Field.{roll-Field}
use Rattle.dsdl_types.specs.declared.schema.Schema.{Schema}
use Rattle.dsdl_types.specs.declared.schema.Schema.TheVariants as S
use Rattle.dsdl_types.proofs.Equations.{kind_struct, kind_uint, named_field}
use Rattle.tail_frame.specs.Chains.{KeyRecord}
use Rattle.rx_table.specs.Keys.{SessionKey}
use Rattle.frag.specs.Wire.{IsFrameSize, fitting, last_size, padding}
use Rattle.frag.specs.Sent.{size_on, transfer_at, pair_at, Explained}
use Rattle.frag.specs.declared.sent.Pair.{Pair}
use Rattle.frag.specs.declared.sent.Sent.{Sent}
use Rattle.delivery_theorems.specs.Due.{Due, Names, SomeFromTo}
use Rattle.delivery_theorems.specs.Report.{Explains}
use Rattle.node_plan.specs.IsPlan.{IsShape, TypesKeepRules}
use Rattle.node_plan.specs.declared.plan.Plan.{Plan}
use Rattle.node_plan.specs.declared.plan.Sub.{Sub}
use Rattle.node_plan.specs.declared.plan.SubShape.TheVariants.{Named}
use Rattle.node_core.specs.Heard.{table_port}
use Rattle.node_plan.specs.Ports.{port_of_sub}
use Rattle.std_types.specs.declared.node.NodeInfo.{NodeInfo}
use Rattle.node_core.specs.Steps.{Step, Heard, Tick, records}
use Rattle.node_core.specs.declared.file_reply.FileReply.TheVariants.{NoFile}
use Rattle.session_lines.specs.Example.{ValuesExample}
use Rattle.session_lines.specs.Values.{IsSentTo}

-- ---- the types

abbrev outline : Outline
outline = record { extent = 64; sealed = false }

abbrev byte : Sch
byte = Simple (PUint 8 true)

abbrev old_type : Sch
old_type = Struct (Field (codes "health") byte End) outline

abbrev new_type : Sch
new_type = Struct (Field (codes "health") byte (Field (codes "mode") byte End)) outline

old_rules : IsSchema old_type
old_rules = ((((omega arith, refl), omega arith), ((omega arith, omega arith), tt)), omega arith, omega arith, ((refl, tt, tt), (tt, tt)))

new_sound : IsSound new_type
new_sound = ((omega arith, omega arith), ((omega arith, omega arith), ((omega arith, omega arith), tt)))

abbrev old_schema : Schema
old_schema = S.Struct (roll-Body (record { fields = roll-Field (record { name = codes "health"; schema = S.Uint 8 Saturated }) ∷ []; extent = 64; sealed = false }))

is_old : sch old_schema ≡ old_type
is_old =
    let field = roll-Field (record { name = codes "health"; schema = S.Uint 8 Saturated }) in
    ap schema_of (kind_struct (field ∷ []) 64 false)
    ∙ ap (λ (f : List ℕ × Kind). Struct (in_order (f ∷ [])) outline) (named_field (codes "health") (S.Uint 8 Saturated) ∙ ap (λ k. (codes "health", k)) (kind_uint 8 Saturated))

-- ---- the plan and the log

abbrev sub : Sub
sub = record { port = 100; sources = 4; shape = Named (record { name = codes "demo.State"; major = 1; minor = 0 }) old_schema }

abbrev info : NodeInfo
info = record {
  protocol_version = record { major = 1; minor = 0 };
  hardware_version = record { major = 0; minor = 0 };
  software_version = record { major = 0; minor = 0 };
  software_vcs_revision_id = 0;
  unique_id = replicate 16 0;
  name = [];
  software_image_crc = [];
  certificate_of_authenticity = [];
}

abbrev plan : Plan
plan = record {
  node = 10;
  buses = record { name = codes "can0"; mtu = 8; rate = 4096 } ∷ [];
  timeout = 2000000;
  silent = false;
  subs = sub ∷ [];
  clients = 4;
  status = record { health = 0; mode = 0; code = 0 };
  info = info;
  registers = [];
  serve = None;
  queue = 64;
}

plan_rules : TypesKeepRules plan
plan_rules =
    All-cons (λ s. IsShape s.shape) sub [] (subst (λ (s : Sch). IsSchema s × (is_composite s ≡ true)) (sym is_old) (old_rules, refl)) (All-nil (λ s. IsShape s.shape))

abbrev key : SessionKey
key = record { kind = Message; port = 100; source = 1 }

abbrev steps : List Step
steps = Heard (record { line = 1; moment = 1000000; bus = 0; ident = 0x10606401; bytes = 7 ∷ 1 ∷ 0xE0 ∷ [] }) NoFile ∷ Tick 0 1000000 ∷ []

abbrev r : KeyRecord
r = record { line = 1; moment = 1000000; bus = 0; priority = 4; start = true; end = true; toggle = true; tid = 0; body = 7 ∷ 1 ∷ [] }

-- ---- what was sent

abbrev sent : Sent
sent = record {
  key = record { kind = Message; port = 100; source = Some 1 };
  sizes = 8 ∷ [];
  transfers = record { priority = 4; tid = 0; moment = 1000000; destination = None; payload = 7 ∷ 1 ∷ [] } ∷ [];
}

abbrev origin : List Pair
origin = record { j = 0; i = 0 } ∷ []

abbrev value : Val
value = Parts (More (Num (pos 7)) (More (Num (pos 1)) Empty))

is_encoding : 7 ∷ 1 ∷ [] ≡ encoding new_type value
unfolding bits_of number
is_encoding = refl

sizes : (bus : ℕ) → IsFrameSize (size_on sent bus)
sizes zero = inl refl
sizes (suc n) = inl refl

ranges : (j : ℕ) → j < 1 → ((transfer_at sent j).priority < 8) × ((transfer_at sent j).tid < 32)
ranges zero l = (omega arith, omega arith)
ranges (suc j) l = absurd (omega arith)

moments : (a b : ℕ) → a ≤ b → b < 1 → (transfer_at sent a).moment ≤ (transfer_at sent b).moment
moments zero zero l k = le_refl 1000000
moments (suc a) zero l k = absurd (omega arith)
moments a (suc b) l k = absurd (omega arith)

none_ends : (between : List KeyRecord) (a : KeyRecord) (older : List KeyRecord) → [] ≡ between ++ a ∷ older → ⊥
none_ends [] a older e = cc
none_ends (b ∷ between) a older e = cc

explained : Explained 2000000 sent (pair_at origin) (r ∷ [])
unfolding padding last_size fitting
explained = (
  record {
    is_sent = record { known = omega arith; frame = record { within = zero-le; priority = refl; tid = refl; start = refl; end = refl; toggle = refl; body = refl }; since = omega arith; until = omega arith };
    in_order = tt;
  },
  tt,
)

explains : Explains 2000000 sent key origin (r ∷ [])
explains = record {
  sent_list = record { sizes = sizes; ranges = ranges; moments = moments };
  of_key = refl;
  one_each = refl;
  explained = explained;
  no_chance = (λ a between older e s c cl z. absurd (none_ends between a older e), tt);
}

sent_to : IsSentTo plan key (records steps) (table_port (port_of_sub sub)) old_type sent origin
sent_to = record {
  rules = plan_rules;
  session = record { port = refl; admitted_there = refl };
  typed = ap Some is_old;
  log = (tt, tt);
  explains = explains;
}

stands : (i : ℕ) → i ≤ 0 → SomeFromTo (Names (pair_at origin) 0 0 i) [] r []
stands zero l = (refl, refl, refl)
stands (suc i) l = absurd (omega arith)

due : Due 2000000 sent (pair_at origin) 0 r [] r []
unfolding padding last_size fitting
due = record {
  seg = [];
  between = refl;
  bus = refl;
  begin_j = refl;
  begin_i = refl;
  end_j = refl;
  end_i = refl;
  is_first = λ _ _ _. refl;
  stands = stands;
  in_force = refl;
  fresh = inl refl;
}

types_differ : new_type ≡ old_type → ⊥
types_differ e = cc

pub example : ValuesExample
example = record {
  plan = plan;
  key = key;
  steps = steps;
  p = table_port (port_of_sub sub);
  port = old_type;
  sent = sent;
  origin = origin;
  q = r;
  sender = new_type;
  value = value;
  sent_to = sent_to;
  due = record { j = 0; p = r; older = []; past = []; newer = []; split = refl; due = due };
  is_newer = newer_struct refl (newer_field newer_simple added);
  differ = types_differ;
  sound = new_sound;
  fits = (omega arith, (omega arith, tt));
  payload = is_encoding;
}
