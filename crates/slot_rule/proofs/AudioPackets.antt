-- The packets of an audio stream, by place.
use Rattle.std.proofs.Common.{◌≡◌, ℕ, ◌+◌, List, slice_get, Some, None, sym, ap, ◌∙◌, inl, inr, arith}
use Rattle.std.specs.Option.{option_map}
use Rattle.std.proofs.lemmas.Option.{none-some, same_Some, slice_get_cases}
use Rattle.version_table.specs.declared.table.AudioPacket.{AudioPacket}
use Rattle.slot_rule.specs.Queues.{QueuedPacket, audio_of}
use Rattle.slot_rule.proofs.Places.{slice_get-numbered}

-- the packet of this number that an audio packet makes
abbrev pub audio_packet_of : ℕ → AudioPacket → QueuedPacket
audio_packet_of item packet = record { item = item; piece = 0; payload = packet.bytes; due = packet.due; gone = packet.gone }

pub audio_of-at : (packets : List AudioPacket) (item : ℕ) → slice_get (audio_of packets).packets item ≡ option_map (audio_packet_of item) (slice_get packets item)
audio_of-at packets item =
    slice_get-numbered (λ x. audio_packet_of x.0 x.1) 0 packets item ∙ ap (λ n. option_map (audio_packet_of n) (slice_get packets item)) (let same : 0 + item ≡ item = omega arith in same)

pub audio_of-some : (packets : List AudioPacket) (item : ℕ) (packet : AudioPacket) → slice_get packets item ≡ Some packet
    → slice_get (audio_of packets).packets item ≡ Some (audio_packet_of item packet)
audio_of-some packets item packet e = audio_of-at packets item ∙ ap (option_map (audio_packet_of item)) e

pub audio_of-none : (packets : List AudioPacket) (item : ℕ) → slice_get packets item ≡ None → slice_get (audio_of packets).packets item ≡ None
audio_of-none packets item e = audio_of-at packets item ∙ ap (option_map (audio_packet_of item)) e

-- the packet at a place has its number
pub audio_of-item : (packets : List AudioPacket) (k : ℕ) (packet : QueuedPacket) → slice_get (audio_of packets).packets k ≡ Some packet → packet.item ≡ k
audio_of-item packets k packet got =
    elim (slice_get_cases packets k).1 as (λ _. packet.item ≡ k) [
      | inl at ↦ ap (λ (p : QueuedPacket). p.item) (same_Some packet (audio_packet_of k at.0) (sym got ∙ audio_of-some packets k at.0 at.2))
      | inr past ↦ absurd (none-some packet (sym (audio_of-none packets k past.1) ∙ got))
    ]
