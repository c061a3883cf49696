-- What PAT and PMT sections have in common (ISO/IEC 13818-1, 2.4.4.3 and 2.4.4.8).
use Rattle.std.specs.Prelude.{◌≡◌, ℕ, ◌+◌, ◌-◌, ◌≤◌, List, [], ◌∷◌, ◌++◌, length, take, drop}
use Rattle.std.specs.Int.{w16, w32, to_be_bytes}
use Rattle.psi_tables.specs.declared.section.TheConstants.{SECTION_LENGTH_LEAST}
use Rattle.bit_lists.specs.Fields.{bits}
use Rattle.psi_tables.specs.Crc.{IsCrcOf}

-- ---- its elements, each by its first bit and its number of bits

-- the kind of a section
abbrev pub table_id : List ℕ → ℕ
table_id bytes = bits bytes 0 8

-- the number of bytes behind this element
abbrev pub section_length : List ℕ → ℕ
section_length bytes = bits bytes 12 12

-- transport_stream_id in a PAT section, program_number in a PMT section
abbrev pub table_id_extension : List ℕ → ℕ
table_id_extension bytes = bits bytes 24 16

-- 1 for a section that holds now
abbrev pub current_next_indicator : List ℕ → ℕ
current_next_indicator bytes = bits bytes 47 1

-- ---- what is read of it

-- the bytes begin as a current section of this table; past their end all bits are 0
pub record IsCurrent (table : ℕ) (bytes : List ℕ) : Type 0 where
  pub table_is : table_id bytes ≡ table
  pub current : current_next_indicator bytes ≡ 1

-- section_length counts the bytes behind it, the last five of the header and four of the CRC among them
pub record IsWholeSection (bytes : List ℕ) : Type 0 where
  pub size : length bytes ≡ 3 + section_length bytes
  pub room : SECTION_LENGTH_LEAST ≤ section_length bytes

-- the bytes between the header's eight and the CRC's four
abbrev pub content : List ℕ → List ℕ
content bytes = take (length bytes - 12) (drop 8 bytes)

-- the bytes are one item's after the other's, and nothing else
abbrev pub IsItemRow : {A : Type 0} → (A → List ℕ → Type 0) → List A → List ℕ → Type 0
IsItemRow spells [] bytes = bytes ≡ []
IsItemRow spells (item ∷ items) bytes = (front : List ℕ) × (behind : List ℕ) × (bytes ≡ front ++ behind) × spells item front × IsItemRow spells items behind

-- ---- how it is written

-- section_syntax_indicator and reserved bits set, version 0, current, the only section of its table
abbrev pub written_section_header : ℕ → ℕ → ℕ → List ℕ
written_section_header table size extension = table ∷ to_be_bytes w16 (0xB000 + size) ++ to_be_bytes w16 extension ++ (0xC1 ∷ 0 ∷ 0 ∷ [])

-- a PID behind three reserved bits, and a length behind four, all set
abbrev pub written_pid : ℕ → List ℕ
written_pid pid = to_be_bytes w16 (0xE000 + pid)

-- twelve bits of a length behind four set ones
abbrev pub written_length : ℕ → List ℕ
written_length n = to_be_bytes w16 (0xF000 + n)

-- the bytes and their CRC behind them
pub record IsWithCrc (front bytes : List ℕ) : Type 0 where
  pub crc : ℕ
  pub crc_is : IsCrcOf crc front
  pub joined : bytes ≡ front ++ to_be_bytes w32 crc
