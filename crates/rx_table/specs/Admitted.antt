-- The sources that have a session: the first ones with a start frame, as many as the port takes.
use Rattle.std.specs.Prelude.{ℕ, Bool, false, not, ◌&&◌, ◌||◌, ◌==◌, if◌then◌else◌, List, [], ◌∷◌}
use Rattle.std.specs.Prelude.{◌++◌, take}
use Rattle.can_id.specs.declared.key.Kind.{Kind}
use Rattle.rx_table.specs.Keys.{SessionKey, KeyedFrame, same_kind}

-- whether a source is one of these
abbrev pub has : ℕ → List ℕ → Bool
has s [] = false
has s (x ∷ xs) = (x == s) || has s xs

-- whether a frame is on a port
abbrev pub is_on : Kind → ℕ → KeyedFrame → Bool
is_on kind port f = same_kind f.key.kind kind && (f.key.port == port)

-- the distinct sources with a start frame on a port, in the order of their first ones; the log has
-- the newest first
abbrev pub sources : Kind → ℕ → List KeyedFrame → List ℕ
sources kind port [] = []
sources kind port (f ∷ log) =
    if is_on kind port f && (f.rec.start && not (has f.key.source (sources kind port log)))
    then sources kind port log ++ f.key.source ∷ []
    else sources kind port log

-- the first `count` of them
abbrev pub admitted : Kind → ℕ → ℕ → List KeyedFrame → List ℕ
admitted kind port count log = take count (sources kind port log)

abbrev pub key_of : Kind → ℕ → ℕ → SessionKey
key_of kind port source = record { kind = kind; port = port; source = source }
