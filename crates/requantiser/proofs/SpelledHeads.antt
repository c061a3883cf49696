-- Heads that some bits spell leave weights in force that aren't 0, and at most 120 columns.
use Rattle.std.proofs.Common.{ℕ, ◌≤◌, Option, List, arith}
use Rattle.syntax_types.specs.declared.picture.PicCoding.{PicCoding}
use Rattle.syntax_types.specs.declared.picture.SeqState.{SeqState}
use Rattle.picture_grammar.specs.declared.limits.TheConstants.{WIDTH_MOST}
use Rattle.picture_grammar.specs.Head.{head}
use Rattle.picture_grammar.specs.Picture.{MayPrecede, IsState}
use Rattle.picture_grammar.specs.Slice.{columns}
use Rattle.picture_laws.proofs.SpelledStates.{state-of_head}
use Rattle.requantiser.specs.Levels.{HasWeights}

-- a state of which levels can be made coarser
pub record IsUsable (seq : SeqState) : Type 0 where
  pub weights : HasWeights seq
  pub width : seq.width ≤ WIDTH_MOST

usable_state : (seq : SeqState) → IsState seq → IsUsable seq
usable_state seq is = record { weights = record { intra = is.intra; non_intra = is.non_intra }; width = is.width.1 }

-- the state in force for a picture
pub head-usable : (before : Option SeqState) (found : SeqState × PicCoding) (bits rest : List ℕ) → MayPrecede before → (head before).Spells found bits rest → IsUsable found.0
head-usable before found bits rest may spelled = usable_state found.0 (state-of_head before found bits rest may spelled)

pub columns-few : (seq : SeqState) → IsUsable seq → columns seq ≤ 120
columns-few seq is = omega (arith, is.width)
