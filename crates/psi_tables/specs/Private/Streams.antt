-- What the code asks of a stream before it keeps it.
use Rattle.std.specs.Prelude.{◌≤◌, length}
use Rattle.psi_tables.specs.declared.stream.TheConstants.{DESCRIPTOR_BYTES}
use Rattle.psi_tables.specs.Descriptors.{kept_bytes}
use Rattle.psi_tables.specs.Streams.{StreamInfo}

-- the bytes of its kept descriptors are no more than are kept
abbrev pub IsKeepable : StreamInfo → Type 0
IsKeepable info = length (kept_bytes info.descriptors) ≤ DESCRIPTOR_BYTES
