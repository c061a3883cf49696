-- The bytes of a video whose PES packets pass.
use Rattle.std.proofs.Common.{ℕ, zero, suc, Bool, true, false, cond, List, [], ◌∷◌, ◌++◌, Option, None, Some, IfSome, drop, sym, subst}
use Rattle.bit_lists.specs.Fields.{AreBytes}
use Rattle.bit_lists.proofs.ByteLemmas.{AreBytes-append, AreBytes-drop}
use Rattle.pes_units.specs.PesHeader.{header_length}
use Rattle.pes_units.specs.PesPackets.{is_dropped}
use Rattle.ts_demux.specs.declared.demuxed.PesUnit.{PesUnit}
use Rattle.elementary_streams.specs.Packets.{joined, pes_payload_of, taken}
use Rattle.pes_passing.specs.PassingPackets.{AreSplit}
use Rattle.passed_programs.specs.Private.TakenVideo.{AreBytesOf}

pub joined_bytes : (packets : List PesUnit) → AreBytesOf packets → AreBytes (joined packets)
joined_bytes [] are = tt
joined_bytes (packet ∷ packets) are =
    AreBytes-append (pes_payload_of packet) (joined packets) (AreBytes-drop (header_length packet.bytes) packet.bytes are.0) (joined_bytes packets are.1)

kept_or_not : (test : Bool) (packet : PesUnit) → AreBytes packet.bytes → AreBytesOf (cond test [] (packet ∷ []))
kept_or_not true packet are = tt
kept_or_not false packet are = (are, tt)

pub taken_bytes : (packets : List PesUnit) → AreBytesOf packets → AreBytesOf (taken true packets)
taken_bytes [] are = tt
taken_bytes (packet ∷ []) are = kept_or_not (is_dropped true packet.bytes) packet are.0
taken_bytes (packet ∷ next ∷ more) are = (are.0, taken_bytes (next ∷ more) are.1)

-- one PES packet more
pub one_more : (packets : List PesUnit) (packet : PesUnit) → AreBytesOf packets → AreBytes packet.bytes → AreBytesOf (packets ++ packet ∷ [])
one_more [] packet are bytes = (bytes, tt)
one_more (first ∷ packets) packet are bytes = (are.0, one_more packets packet are.1 bytes)

none_more : (packets : List PesUnit) → AreBytesOf packets → AreBytesOf (packets ++ [])
none_more [] are = tt
none_more (packet ∷ packets) are = (are.0, none_more packets are.1)

pub all_bytes : (packets all : List PesUnit) (last : Option PesUnit) → AreSplit all packets last → AreBytesOf packets → IfSome last (λ packet. AreBytes packet.bytes) → AreBytesOf all
all_bytes packets all None split are bytes = subst AreBytesOf (sym split.packets) (none_more packets are)
all_bytes packets all (Some last) split are bytes = subst AreBytesOf (sym split.packets) (one_more packets last are bytes)
