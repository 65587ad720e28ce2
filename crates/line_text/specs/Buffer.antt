-- What a buffer of text holds.
use Rattle.std.specs.Prelude.{◌≡◌, ◌++◌, ℕ, ◌-◌, List, length, take}
use Rattle.line_text.specs.declared.text_buffer.TextBuffer.{TextBuffer}

-- the text
unfoldable pub text_of : TextBuffer → List ℕ
text_of b = take b.len b.bytes.items

-- how many bytes can be put without memory
unfoldable pub room_of : TextBuffer → ℕ
room_of b = length b.bytes.items - b.len

-- these bytes are put behind what a buffer holds
abbrev pub Puts : List ℕ → TextBuffer → TextBuffer → Type 0
Puts bytes old new = text_of new ≡ text_of old ++ bytes
