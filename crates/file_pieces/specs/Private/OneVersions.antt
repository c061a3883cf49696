-- There is one list of the versions of what streams send.
use mathlib.Core.HLevel.{Σ_prop_path}
use Rattle.std.specs.Prelude.{◌≡◌, List, [], ◌∷◌, Option, Some, None, refl}
use Rattle.std.proofs.Common.{ap₂, sym, ◌∙◌}
use Rattle.std.proofs.Math.Logic.{∥∥₁_elim}
use Rattle.shelf_io.specs.Files.{Files}
use Rattle.version_maker.specs.declared.version.UnitVersion.{UnitVersion}
use Rattle.version_source.specs.Private.Made.{versions-set}
use Rattle.version_source.specs.Private.OneVersions.{one-video}
use Rattle.file_pieces.specs.declared.lane.Lane.{Lane}
use Rattle.file_pieces.specs.declared.lane.Lane.TheVariants.{Audio, Video}
use Rattle.file_pieces.specs.FilePieces.{AreLaneVersions, AreLanesVersions, HaveLanesVersions, file_in}
use Rattle.file_pieces.specs.FileStream.{bytes_of}

-- of a stream
pub one-lane : (files : Files) (lane : Lane) (a b : List (List UnitVersion)) → AreLaneVersions files lane a → AreLaneVersions files lane b → a ≡ b
one-lane files (Video lane) a b p q = one-video (bytes_of lane.stream (file_in files lane.stream)) lane.coarser.now None lane.units.now a b p q
one-lane files (Audio lane) a b p q = p ∙ sym q

-- of all streams
pub one-lanes : (files : Files) (lanes : List Lane) (a b : List (List (List UnitVersion))) → AreLanesVersions files lanes a → AreLanesVersions files lanes b → a ≡ b
one-lanes files [] [] [] p q = refl
one-lanes files [] [] (v ∷ vs) p q = absurd q
one-lanes files [] (v ∷ vs) b p q = absurd p
one-lanes files (lane ∷ lanes) [] b p q = absurd p
one-lanes files (lane ∷ lanes) (v ∷ vs) [] p q = absurd q
one-lanes files (lane ∷ lanes) (v ∷ vs) (w ∷ ws) p q =
    ap₂ (λ (x : List (List UnitVersion)) (xs : List (List (List UnitVersion))). x ∷ xs) (one-lane files lane v w p.0 q.0) (one-lanes files lanes vs ws p.1 q.1)

-- the streams have at most one such list, where files are told
pub one-versions : (told : Option Files) (lanes : List Lane) → IsProp (HaveLanesVersions told lanes)
one-versions None lanes p q = refl
one-versions (Some files) lanes p q =
    Σ_prop_path {B = λ (versions : List (List (List UnitVersion))). ∥ AreLanesVersions files lanes versions ∥₁} (λ versions. hlevel) {u = p} {v = q}
    (∥∥₁_elim p.1 (versions-set p.0 q.0) (λ are. ∥∥₁_elim q.1 (versions-set p.0 q.0) (λ others. one-lanes files lanes p.0 q.0 are others)))
