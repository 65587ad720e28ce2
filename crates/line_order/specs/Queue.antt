-- What a queue of lines holds.
use Rattle.std.specs.Prelude.{ℕ, List, drop}
use Rattle.line_text.specs.Buffer.{text_of}
use Rattle.line_order.specs.Order.{Entry}
use Rattle.line_order.specs.Row.{row_of, size_of}
use Rattle.line_order.specs.declared.line_queue.LineQueue.{LineQueue}

-- the entries that are held
abbrev pub queued : LineQueue → List Entry
queued q = row_of (drop q.first q.lines.items) (drop q.start (text_of q.text))

-- how many bytes of lines that went are kept
abbrev pub gone_of : LineQueue → ℕ
gone_of q = q.start

-- how many bytes the lines that are held have
abbrev pub held_size : LineQueue → ℕ
held_size q = size_of (drop q.first q.lines.items)
