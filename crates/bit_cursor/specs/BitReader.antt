-- What a reader of bits has left, and where it stands.
use Rattle.std.specs.Prelude.{◌≡◌, ℕ, ◌+◌, ◌-◌, ◌*◌, ◌≤◌, List, Option, ◌++◌}
use Rattle.std.specs.Borrow.{MutBor}
use Rattle.std.specs.Option.{option_map}
use Rattle.shelf_io.specs.declared.source.Source.{Ghosts}
use Rattle.shelf_io.specs.Source.{Takes}
use Rattle.bit_lists.specs.Bits.{bits_of}
use Rattle.bit_lists.specs.Fields.{bit_list}
use Rattle.bit_cursor.specs.Shown.{bytes_beyond}
use Rattle.bit_cursor.specs.declared.bit_reader.BitReader.{BitReader}

-- the source that it borrows
abbrev pub source_of : {S : Type 0} {g : Ghosts S} → BitReader S g → MutBor S
source_of reader = reader.source

-- how many bits were taken from the source and not yet given
abbrev pub bits_held : {S : Type 0} {g : Ghosts S} → BitReader S g → ℕ
bits_held reader = reader.held

-- these bits
abbrev pub held_bits : {S : Type 0} {g : Ghosts S} → BitReader S g → List ℕ
held_bits reader = bits_of reader.held reader.word

-- the bits that are left, where the source tells its bytes: the held ones, then those of the source
abbrev pub bits_left : {S : Type 0} {g : Ghosts S} → BitReader S g → Option (List ℕ)
bits_left {S} {g} reader = option_map (λ bytes. held_bits reader ++ bit_list bytes) (g.left (source_of reader).now)

-- the place of the next bit, in bits from the source's first
abbrev pub place : {S : Type 0} {g : Ghosts S} → BitReader S g → ℕ
place reader = 8 * reader.taken - reader.held

-- how many calls of the source have failed
abbrev pub faults_of : {S : Type 0} {g : Ghosts S} → BitReader S g → ℕ
faults_of {S} {g} reader = g.faults (source_of reader).now

-- how many calls of the source met something that isn't held
abbrev pub absences_of : {S : Type 0} {g : Ghosts S} → BitReader S g → ℕ
absences_of {S} {g} reader = g.absences (source_of reader).now

-- so many bytes went from the front of the source
abbrev pub TakesBytes : {S : Type 0} {g : Ghosts S} → BitReader S g → BitReader S g → ℕ → Type 0
TakesBytes {S} {g} old new count =
    Takes (g.left (source_of old).now) (g.left (source_of new).now) (g.most (source_of old).now) (g.most (source_of new).now) count

-- whole bytes of the source went into the held bits, none before a bit of it was asked for by n bits
pub record Fetches {S : Type 0} {g : Ghosts S} (n : ℕ) (old new : BitReader S g) : Type 0 where
  pub count : ℕ
  pub asked : count ≤ bytes_beyond (bits_held old) n
  pub held : bits_held new ≡ bits_held old + 8 * count
  pub taken : TakesBytes old new count

-- a later state borrows the same source, which keeps what it borrows itself, and whose counts didn't fall
pub record KeepsSource {S : Type 0} {g : Ghosts S} (old new : BitReader S g) : Type 0 where
  pub same_source : (source_of new).ghost_name ≡ (source_of old).ghost_name
  pub keeps : g.keeps (source_of old).now (source_of new).now
  pub faults : faults_of old ≤ faults_of new
  pub absences : absences_of old ≤ absences_of new
