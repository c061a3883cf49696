-- Units whose bytes were read again.
use Rattle.std.proofs.Common.{◌≡◌, ℕ, ◌++◌, List, Option, None, refl, ap, ◌∙◌}
use Rattle.picture_reader.specs.declared.fault.PictureFault.{PictureFault}
use Rattle.picture_reader.specs.declared.fault.PictureFault.TheVariants.{NoCode, TooMany, BadEscape, BadType, BadAddress, BadPattern, End, Uncovered, BadHeader, NotMpeg2, Profile, LowDelay, Size, OutOfMemory}
use Rattle.picture_reader.specs.PictureFault.{refusal_told}
use Rattle.syntax_types.specs.declared.picture.SeqState.{SeqState}
use Rattle.pes_units.specs.VideoHeader.{written_pes_header}
use Rattle.version_maker.specs.declared.version.UnitVersion.{UnitVersion}
use Rattle.version_maker.specs.Versions.{AreVersions, IsVersionAt}
use Rattle.version_source.proofs.PacketLemmas.{version-chosen}
use Rattle.file_pieces.specs.declared.unit_again.UnitPlan.{UnitPlan}
use Rattle.file_pieces.specs.UnitAgain.{packet_in}

-- where no refusal is told, memory was wanted
pub only_memory : (fault : PictureFault) → refusal_told fault ≡ None → fault ≡ OutOfMemory
only_memory (NoCode at) none = absurd cc
only_memory (TooMany at) none = absurd cc
only_memory (BadEscape at) none = absurd cc
only_memory (BadType at) none = absurd cc
only_memory (BadAddress at) none = absurd cc
only_memory (BadPattern at) none = absurd cc
only_memory (End at) none = absurd cc
only_memory (Uncovered at) none = absurd cc
only_memory (BadHeader at) none = absurd cc
only_memory (NotMpeg2 at) none = absurd cc
only_memory (Profile at) none = absurd cc
only_memory (LowDelay at) none = absurd cc
only_memory (Size at) none = absurd cc
only_memory OutOfMemory none = refl

-- a header before the version that was made is the packet that is planned
pub packet_made : (before : Option SeqState) (unit : List ℕ) (plan : UnitPlan) (version packet : List ℕ) (versions : List UnitVersion) → IsVersionAt before unit plan.coarser.now plan.index version
    → packet ≡ written_pes_header plan.times ++ version → AreVersions before unit plan.coarser.now versions → packet ≡ packet_in plan.times versions plan.index
packet_made before unit plan version packet versions is made are =
    made ∙ ap (λ (v : List ℕ). written_pes_header plan.times ++ v) (version-chosen before unit plan.coarser.now plan.index version versions is are)
