-- What an `info` line says.
use Rattle.std.specs.Prelude.{ℕ, Bool, List, [], ◌∷◌, ◌==◌, ◌&&◌, ◌||◌, Option, Some, None, Result}
use Rattle.std.specs.Prelude.{Ok, Err, if◌then◌else◌, length, nat_le, replicate}
use Rattle.std.specs.Int.{w64, from_be_bytes}
use Rattle.std.specs.List.{list_all}
use Rattle.hex.specs.Hex.{decode_sized}
use Rattle.hex.specs.declared.error.FromHexError.{FromHexError}
use Rattle.std_types.specs.Node.{FitsVersion}
use Rattle.std_types.specs.declared.node.NodeInfo.{NodeInfo}
use Rattle.std_types.specs.declared.node.Version.{Version}
use Rattle.node_plan.specs.declared.info.VersionWord.{VersionWord}
use Rattle.node_plan.specs.declared.info.VersionWord.TheVariants as version
use Rattle.node_plan.specs.declared.line.Said.{Said}
use Rattle.node_plan.specs.declared.line.Said.TheVariants as said
use Rattle.node_plan.specs.declared.words.Number.{Number}
use Rattle.node_plan.specs.declared.words.Number.TheVariants as number
use Rattle.node_plan.specs.Words.{number_in, parts_of}

-- `a.b`, where a and b stand
abbrev pub version_of : Number → Number → VersionWord
version_of number.NoNumber minor = version.NoVersion
version_of major number.NoNumber = version.NoVersion
version_of (number.Within a) (number.Within b) = version.Within (record { major = a; minor = b })
version_of major minor = version.Outside

-- a version has two numbers
abbrev pub version_of_parts : List (List ℕ) → VersionWord
version_of_parts (a ∷ b ∷ []) = version_of (number_in 0 255 a) (number_in 0 255 b)
version_of_parts other = version.NoVersion

-- a word, where a version `a.b` stands
abbrev pub version_in : List ℕ → VersionWord
version_in word = version_of_parts (parts_of 46 word)

-- a version that was found lies in its ranges
abbrev pub IsVersionWord : VersionWord → Type 0
IsVersionWord (version.Within v) = FitsVersion v
IsVersionWord other = Unit {0}

-- the number of 16 hex digits, high ones first
abbrev pub revision_in : List ℕ → Option ℕ
revision_in word = of_bytes (decode_sized word 8)
  where
    of_bytes : Result (List ℕ) FromHexError → Option ℕ
    of_bytes (Ok bytes) = Some (from_be_bytes w64 bytes)
    of_bytes (Err e) = None

-- the 16 bytes of 32 hex digits, in order
abbrev pub unique_id_in : List ℕ → Option (List ℕ)
unique_id_in word = of_bytes (decode_sized word 16)
  where
    of_bytes : Result (List ℕ) FromHexError → Option (List ℕ)
    of_bytes (Ok bytes) = Some bytes
    of_bytes (Err e) = None

-- a byte from 20 to 7E hex
abbrev pub is_printable : ℕ → Bool
is_printable b = nat_le 32 b && nat_le b 126

-- a name of a node has at most 50 such bytes
abbrev pub is_node_name : List ℕ → Bool
is_node_name name = nat_le (length name) 50 && list_all is_printable name

-- what a node is, by what is said of it: the protocol is 1.0
abbrev pub info_with : Version → Version → ℕ → List ℕ → List ℕ → NodeInfo
info_with hardware software revision unique_id name = record {
  protocol_version = record { major = 1; minor = 0 };
  hardware_version = hardware;
  software_version = software;
  software_vcs_revision_id = revision;
  unique_id = unique_id;
  name = name;
  software_image_crc = [];
  certificate_of_authenticity = [];
}

-- the version 0.0
abbrev pub no_version : Version
no_version = record { major = 0; minor = 0 }

-- what a node is of which nothing is said
abbrev pub blank_info : NodeInfo
blank_info = info_with no_version no_version 0 (replicate 16 0) []

-- a revision, a unique id and a name, where each is in its range
abbrev pub said_of_parts : Version → Version → Option ℕ → Option (List ℕ) → List ℕ → Said
said_of_parts hardware software None unique_id name = said.Outside
said_of_parts hardware software revision None name = said.Outside
said_of_parts hardware software (Some r) (Some u) name =
    if is_node_name name then said.Info (info_with hardware software r u name) else said.Outside

-- versions, and the words of a revision and a unique id, and a name
abbrev pub said_of_versions : Version → Version → List ℕ → List ℕ → List ℕ → Said
said_of_versions hardware software revision unique_id name =
    said_of_parts hardware software (revision_in revision) (unique_id_in unique_id) name

-- what two words of versions and the others say
abbrev pub said_of_version_words : VersionWord → VersionWord → List ℕ → List ℕ → List ℕ
    → Said
said_of_version_words version.NoVersion software revision unique_id name = said.NoForm
said_of_version_words hardware version.NoVersion revision unique_id name = said.NoForm
said_of_version_words (version.Within h) (version.Within s) revision unique_id name =
    said_of_versions h s revision unique_id name
said_of_version_words hardware software revision unique_id name = said.Outside

-- `info HW SW VCS UID NAME`: no word is empty
abbrev pub said_of_info : VersionWord → VersionWord → List ℕ → List ℕ → List ℕ → Said
said_of_info hardware software revision unique_id name =
    if length revision == 0 || length unique_id == 0 || length name == 0 then said.NoForm
    else said_of_version_words hardware software revision unique_id name
