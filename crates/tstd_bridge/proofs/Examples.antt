-- Worked examples of the definitions.
use Rattle.std.proofs.Common.{◌≡◌, ℕ, List, [], ◌∷◌, refl, arith}
use Rattle.std.proofs.lemmas.List.Sorted.{IsNonDecreasingBy-short, IsNonDecreasingBy-push}
use Rattle.slot_rule.specs.declared.queue_kind.QueueKind.TheVariants.{Video, Audio}
use Rattle.slot_rule.specs.declared.queued_packet.QueuedPacket.{QueuedPacket}
use Rattle.slot_rule.specs.declared.row.Row.{Row}
use Rattle.slot_rule.specs.declared.row.Row.TheVariants.{Reserved, Carries, Empty}
use Rattle.slot_rule.specs.declared.sent.Sent.TheVariants.{Pat, Pmt, Pcr}
use Rattle.tstd_bridge.specs.Arrivals.{Headers, arrival_in, arrivals_from}
use Rattle.tstd_bridge.specs.Mb.{mb_delay}
use Rattle.tstd_bridge.specs.Removals.{wanted_of_each, gone_of_each, IsAllowed}
use Rattle.tstd_bridge.specs.Sections.{sections_from}
use Rattle.tstd_model.specs.declared.decoder_input.Removal.{Removal}
use Rattle.tstd_model.specs.Decoder.{removed}

-- a packet of 184 bytes that is due at tick 900, and one of 2 bytes that is due at tick 1,000 and gone at tick 1,200
abbrev full : QueuedPacket
full = record { item = 0; piece = 0; payload = 184; due = 900; gone = 900 }

abbrev small : QueuedPacket
small = record { item = 1; piece = 0; payload = 2; due = 1000; gone = 1200 }

-- the first packet of a unit has 14 bytes of PES header
abbrev fourteen : Headers
fourteen packet = 14

abbrev one_each : Headers
one_each packet = 1

-- a period with two programs, then packets of two streams
abbrev rows : List Row
rows = Reserved Pat ∷ Reserved (Pmt 0) ∷ Reserved (Pmt 1) ∷ Reserved (Pcr 0) ∷ Reserved (Pcr 1) ∷ Carries 0 full ∷ Empty ∷ Carries 1 small ∷ []

-- the video of program 0 has its PCR packet, and its own packet
video_example : arrivals_from 0 0 (Video 0 2) fourteen rows ≡ record { slot_no = 3; header = 0; payload = 0 } ∷ record { slot_no = 5; header = 14; payload = 184 } ∷ []
unfolding arrival_in arrivals_from
video_example = refl

-- an audio stream has its own packet only
audio_example : arrivals_from 0 1 Audio one_each rows ≡ record { slot_no = 7; header = 1; payload = 2 } ∷ []
unfolding arrival_in arrivals_from
audio_example = refl

-- all payload of audio is removed, and of video what isn't PES header
audio_wanted : wanted_of_each Audio one_each (small ∷ []) ≡ 940000 ∷ 940000 ∷ []
audio_wanted = refl

audio_gone : gone_of_each Audio one_each (small ∷ []) ≡ 1128000 ∷ 1128000 ∷ []
audio_gone = refl

video_gone : gone_of_each (Video 0 2) one_each (small ∷ []) ≡ 1128000 ∷ []
video_gone = refl

delay_example : mb_delay ≡ 3564480
delay_example = refl

-- the decoder of program 1's sections has the PAT and the PMT of program 1
sections_example : sections_from 0 1 rows ≡ record { slot_no = 0; header = 0; payload = 184 } ∷ record { slot_no = 2; header = 0; payload = 184 } ∷ []
unfolding sections_from
sections_example = refl

-- ---- removals
-- an audio stream's two bytes are removed with two frames, the last one when the packet is gone
abbrev frames : List Removal
frames = record { due = 1100; bytes = 1 } ∷ record { due = 1200; bytes = 1 } ∷ []

frames_allowed : IsAllowed Audio one_each (small ∷ []) frames
unfolding removed
frames_allowed = record {
  in_order = IsNonDecreasingBy-push (λ (x : ℕ). x) (1100 ∷ []) 1200 (IsNonDecreasingBy-short (λ (x : ℕ). x) (1100 ∷ []) (omega arith)) (λ d some. omega arith);
  wanted = (omega arith, (omega arith, tt));
  gone = (omega arith, (omega arith, tt));
}

-- not a tick later
frames_late : IsAllowed Audio one_each (small ∷ []) (record { due = 1201; bytes = 2 } ∷ []) → ⊥
unfolding removed
frames_late allowed = let late = allowed.gone.0 in omega (arith, late)

-- nor with a byte too few
frames_short : IsAllowed Audio one_each (small ∷ []) (record { due = 1100; bytes = 1 } ∷ []) → ⊥
unfolding removed
frames_short allowed = allowed.wanted.1

-- a unit of 3 bytes, of which 1 is PES header, is removed when it is due
abbrev unit_packet : QueuedPacket
unit_packet = record { item = 0; piece = 0; payload = 3; due = 1000; gone = 1000 }

unit_allowed : IsAllowed (Video 0 2) one_each (unit_packet ∷ []) (record { due = 1000; bytes = 2 } ∷ [])
unfolding removed
unit_allowed = record {
  in_order = IsNonDecreasingBy-short (λ (x : ℕ). x) (1000 ∷ []) (omega arith);
  wanted = (omega arith, (omega arith, tt));
  gone = (omega arith, (omega arith, tt));
}

-- and not before
unit_early : IsAllowed (Video 0 2) one_each (unit_packet ∷ []) (record { due = 999; bytes = 2 } ∷ []) → ⊥
unfolding removed
unit_early allowed = let early = allowed.wanted.0 in omega (arith, early)
