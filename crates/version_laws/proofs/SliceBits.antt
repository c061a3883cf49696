-- How many bits slices are written in, beside the information in their headers.
use Rattle.std.proofs.Common.{◌≡◌, ℕ, ◌+◌, ◌-◌, ◌*◌, ◌%◌, ◌≤◌, List, [], ◌∷◌, ◌++◌, Option, Some, None, true, replicate, refl, sym, ◌∙◌, arith, length, append_assoc}
use Rattle.std.specs.Prelude.{◌==◌}
use Rattle.std.specs.List.{AllByRecursion, flat_map, sum_by}
use Rattle.std.proofs.lemmas.List.{length-append, length-replicate}
use Rattle.std.proofs.lemmas.List.Sums.{sum_by-cons}
use Rattle.syntax_types.specs.declared.macroblock.Macroblock.{Macroblock}
use Rattle.syntax_types.specs.declared.picture.PicCoding.{PicCoding}
use Rattle.syntax_types.specs.declared.picture.SeqState.{SeqState}
use Rattle.syntax_types.specs.declared.slice.Slice.{Slice}
use Rattle.syntax_types.specs.declared.slice.SliceInfo.{SliceInfo}
use Rattle.stream_constants.specs.declared.start_codes.TheConstants.{FIRST_SLICE}
use Rattle.picture_grammar.specs.Picture.{IsCoding}
use Rattle.picture_grammar.specs.Slice.{columns, columns_left}
use Rattle.picture_grammar.specs.StartCode.{start_code_bits}
use Rattle.stream_constants.specs.SliceCodes.{is_slice}
use Rattle.picture_grammar.specs.Written.{written_macroblock, written_slice, written_slice_info}
use Rattle.picture_laws.specs.Spellable.{HasSpellableMacroblocks}
use Rattle.requantiser.specs.Private.Shapes.{IsWalkableSlice}
use Rattle.requantiser.proofs.MacroblockSteps.{span_of}
use Rattle.macroblock_writer.specs.Private.WholeSlices.{written_whole_slice}
use Rattle.version_maker.proofs.Counts.{slice-length}
use Rattle.version_laws.proofs.MacroblockBits.{macroblock-short}

-- the bits of what a slice's header says besides
abbrev pub info_bits : Slice → ℕ
info_bits s = length (written_slice_info s.info)

-- the macroblocks of a slice that are coded
abbrev pub coded : Slice → ℕ
coded s = length s.macroblocks

-- there is at least one bit of it
pub info-some : (info : Option SliceInfo) → 1 ≤ length (written_slice_info info)
info-some None = omega arith
info-some (Some info) = omega arith

macroblocks-short : (seq : SeqState) (coding : PicCoding) (s : Slice) (front ms : List Macroblock) → s.macroblocks ≡ front ++ ms → IsCoding coding → HasSpellableMacroblocks seq coding s
    → length (flat_map (written_macroblock coding) ms) ≤ 14200 * length ms + sum_by span_of ms
macroblocks-short seq coding s front [] split is has = omega arith
macroblocks-short seq coding s front (m ∷ ms) split is has =
    let here : length (written_macroblock coding m) ≤ 14200 + (m.skipped_before + 1) =
    macroblock-short coding (length front == 0) (columns_left seq front) m is (has.each front ms m split) in
    let later : length (flat_map (written_macroblock coding) ms) ≤ 14200 * length ms + sum_by span_of ms =
    macroblocks-short seq coding s (front ++ m ∷ []) ms (split ∙ sym (append_assoc front (m ∷ []) ms)) is has in
    omega (arith, length-append (written_macroblock coding m) (flat_map (written_macroblock coding) ms), here, later, sum_by-cons span_of m ms)

whole-short : (coding : PicCoding) (s : Slice) → length (written_whole_slice coding s) ≤ 44 + info_bits s + length (flat_map (written_macroblock coding) s.macroblocks)
whole-short coding s =
    let bits : List ℕ = start_code_bits (s.row + FIRST_SLICE) ++ written_slice coding s in
    let fill : ℕ = (8 - length bits % 8) % 8 in
    omega (arith, length-append bits (replicate {A = ℕ} fill 0), length-replicate {A = ℕ} fill 0, slice-length coding s)

slice-short : (seq : SeqState) (coding : PicCoding) (s : Slice) → columns seq ≤ 45 → IsCoding coding → HasSpellableMacroblocks seq coding s → IsWalkableSlice (columns seq) s
    → length (written_whole_slice coding s) ≤ info_bits s + 14300 * coded s
slice-short seq coding s narrow is has walkable = omega (
  arith,
  whole-short coding s,
  macroblocks-short seq coding s [] s.macroblocks refl is has,
  walkable.within,
  narrow,
  has.some,
)

-- slices that some bits spell are written in at most 14,300 bits for each macroblock, and what their headers say besides
pub slices-short : (seq : SeqState) (coding : PicCoding) (slices : List Slice) → columns seq ≤ 45 → IsCoding coding
    → AllByRecursion (λ s. HasSpellableMacroblocks seq coding s × (is_slice (s.row + FIRST_SLICE) ≡ true)) slices → AllByRecursion (IsWalkableSlice (columns seq)) slices
    → length (flat_map (written_whole_slice coding) slices) ≤ sum_by info_bits slices + 14300 * sum_by coded slices
slices-short seq coding [] narrow is all walkable = omega arith
slices-short seq coding (s ∷ ss) narrow is all walkable = omega (
  arith,
  length-append (written_whole_slice coding s) (flat_map (written_whole_slice coding) ss),
  slice-short seq coding s narrow is all.0.0 walkable.0,
  slices-short seq coding ss narrow is all.1 walkable.1,
  sum_by-cons info_bits s ss,
  sum_by-cons coded s ss,
)
