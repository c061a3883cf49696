-- Units one by one, as coded frames are counted among them.
use Rattle.std.specs.Prelude.{ℕ, ◌==◌, Bool, ◌&&◌, if◌then◌else◌}
use Rattle.syntax_types.specs.declared.picture.TheConstants.{I_PICTURE, P_PICTURE}
use Rattle.program_reader.specs.declared.program.UnitSource.{UnitSource}
use Rattle.program_reader.specs.Carry.{begins_frame}

-- a coded frame with an I picture begins
abbrev pub begins_i : UnitSource → Bool
begins_i unit = begins_frame unit.role && (unit.kind == I_PICTURE)

-- one where a coded frame with a P picture begins
abbrev pub p_more : UnitSource → ℕ
p_more unit = if begins_frame unit.role && (unit.kind == P_PICTURE) then 1 else 0
