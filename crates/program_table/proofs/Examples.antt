-- Worked examples of rows: what a check computes, beside what was counted by hand.
use Rattle.std.proofs.Common.{◌≡◌, ℕ, false, List, [], ◌∷◌, None, Some, replicate, refl}
use Rattle.version_table.specs.declared.table.AudioPacket.{AudioPacket}
use Rattle.version_table.specs.declared.table.Unit.{Unit as CodedUnit}
use Rattle.version_table.specs.declared.table.Version.{Version}
use Rattle.program_reader.specs.declared.program.AudioPiece.{AudioPiece}
use Rattle.program_reader.specs.declared.program.AudioSource.{AudioSource}
use Rattle.program_reader.specs.declared.program.UnitSource.{UnitSource}
use Rattle.program_reader.specs.declared.timed_picture.Role.TheVariants.{Frame}
use Rattle.version_maker.specs.declared.version.UnitVersion.{UnitVersion}
use Rattle.program_table.specs.Table.{audio_row, unit_rows}

-- ---- two units of a program of weight 3

abbrev version : (bytes distortion : ℕ) → UnitVersion
version bytes distortion = record { bytes = replicate bytes 0; distortion = distortion }

-- the first one has a PTS, so a header of 14 bytes, the second one no times, so one of 9
abbrev first : UnitSource
first = record { begin = 0; end = 40; times = record { pts = Some 90000; dts = None }; due = 27000000; kind = 1; role = Frame }

abbrev second : UnitSource
second = record { begin = 40; end = 50; times = record { pts = None; dts = None }; due = 27900900; kind = 3; role = Frame }

-- a third one whose DTS differs from its PTS, so with a header of 19 bytes
abbrev third : UnitSource
third = record { begin = 50; end = 60; times = record { pts = Some 99009; dts = Some 96006 }; due = 28801800; kind = 2; role = Frame }

-- bytes and distortion of a version in a table
abbrev cell : (bytes distortion : ℕ) → Version
cell bytes distortion = record { bytes = bytes; distortion = distortion }

abbrev coded : (due : ℕ) → List Version → CodedUnit
coded due versions = record { due = due; versions = record { items = versions } }

headers_and_weight : unit_rows 3 0 (first ∷ second ∷ third ∷ []) ((version 40 0 ∷ version 25 7 ∷ []) ∷ (version 10 0 ∷ version 11 2 ∷ []) ∷ (version 10 0 ∷ []) ∷ [])
    ≡ coded 27000000 (cell 54 0 ∷ cell 39 21 ∷ []) ∷ coded 27900900 (cell 19 0 ∷ cell 20 6 ∷ []) ∷ coded 28801800 (cell 29 0 ∷ []) ∷ []
headers_and_weight = refl

-- with a drift of 6 the first counts 3 times 14, since a P picture follows, the second 3 times 4 and the third 3 times 8
with_drift : unit_rows 3 6 (first ∷ second ∷ third ∷ []) ((version 40 0 ∷ version 25 7 ∷ []) ∷ (version 10 0 ∷ version 11 2 ∷ []) ∷ (version 10 1 ∷ []) ∷ [])
    ≡ coded 27000000 (cell 54 0 ∷ cell 39 294 ∷ []) ∷ coded 27900900 (cell 19 0 ∷ cell 20 24 ∷ []) ∷ coded 28801800 (cell 29 24 ∷ []) ∷ []
with_drift = refl

-- ---- an audio stream

abbrev packet : (due gone bytes : ℕ) → AudioPacket
packet due gone bytes = record { due = due; gone = gone; bytes = bytes }

abbrev piece : (at : ℕ) → AudioPacket → AudioPiece
piece at of = record { packet = of; start = false; at = at }

abbrev source : AudioSource
source = record { bytes = replicate 200 0; pieces = piece 0 (packet 100 200 184) ∷ piece 184 (packet 200 200 16) ∷ [] }

a_packet_for_each_piece : audio_row source ≡ packet 100 200 184 ∷ packet 200 200 16 ∷ []
a_packet_for_each_piece = refl
