-- A fault of a packet or of a section, at its place in the file.
use Rattle.std.specs.Prelude.{◌≡◌, ℕ}
use Rattle.ts_packets.specs.declared.packet_fault.PacketFault.{PacketFault}
use Rattle.ts_packets.specs.declared.packet_fault.PacketFault.TheVariants as packet_faults
use Rattle.ts_packets.specs.declared.pid_fault.PidFault.{PidFault}
use Rattle.ts_packets.specs.declared.pid_fault.PidFault.TheVariants as pid_faults
use Rattle.psi_tables.specs.declared.section.SectionFault.{SectionFault}
use Rattle.psi_tables.specs.declared.section.SectionFault.TheVariants as section_faults
use Rattle.ts_demux.specs.declared.demux_fault.DemuxFault.{DemuxFault}
use Rattle.ts_demux.specs.declared.demux_fault.DemuxFault.TheVariants.{Sync, ErrorFlag, Scrambled, BadField, Discontinuity, Gap, BadSection, BadCrc, OutOfMemory}

-- what a packet is refused for
abbrev pub of_packet : ℕ → PacketFault → DemuxFault
of_packet at packet_faults.Sync = Sync at
of_packet at packet_faults.ErrorFlag = ErrorFlag at
of_packet at packet_faults.Scrambled = Scrambled at
of_packet at packet_faults.BadField = BadField at

-- what a packet is refused for behind the others of its PID
abbrev pub of_pid : ℕ → PidFault → DemuxFault
of_pid at (pid_faults.Refused fault) = of_packet at fault
of_pid at pid_faults.Discontinuity = Discontinuity at
of_pid at pid_faults.Gap = Gap at

-- what a section is refused for; TooLong is never one
abbrev pub of_section : ℕ → SectionFault → DemuxFault
of_section at section_faults.BadSection = BadSection at
of_section at section_faults.BadCrc = BadCrc at
of_section at section_faults.TooLong = BadSection at

-- memory was wanted
abbrev pub IsMemory : DemuxFault → Type 0
IsMemory fault = fault ≡ OutOfMemory
