use Rattle.std.proofs.Common.{◌≡◌, ◌≤◌, take, sum_by, count_by}
use Rattle.stream_constants.specs.declared.decoder.TheConstants.{AUDIO_BYTES}
use Rattle.buffer_windows.proofs.AudioBefore.{is_late}
use Rattle.buffer_windows.proofs.audio.longest_before.Given as goal

-- the packets so far can go before the first slot
abbrev pub invariant-loop-k : goal.invariant-loop-k
invariant-loop-k l =
    (l.bytes ≡ sum_by (λ packet. packet.bytes) (take l.k l.counted)) × (count_by (is_late l.slot l.window) (take l.k l.counted) ≡ 0) × (l.bytes ≤ AUDIO_BYTES)
