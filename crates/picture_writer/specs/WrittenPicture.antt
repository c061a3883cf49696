-- What a sink got of a picture, and the end of one.
use Rattle.std.specs.Prelude.{Bool, List, [], ℕ, if◌then◌else◌}
use Rattle.shelf_io.specs.Sink.{Told}
use Rattle.bit_cursor.specs.BitWriter.{GetsFront}
use Rattle.stream_constants.specs.declared.start_codes.TheConstants.{SEQUENCE_END}
use Rattle.picture_grammar.specs.StartCode.{start_code_bits}

-- a sink got whole bytes that are a front of these bits
abbrev pub AddsFront : Told → Told → List ℕ → Type 0
AddsFront told told_after bits = GetsFront told told_after [] bits

-- the sequence end code where it stands
abbrev pub written_end : Bool → List ℕ
written_end sequence_end = if sequence_end then start_code_bits SEQUENCE_END else []
