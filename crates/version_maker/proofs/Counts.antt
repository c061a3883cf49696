-- Versions counted step by step.
use Rattle.std.proofs.Common.{◌≡◌, ℕ, ◌+◌, ◌-◌, ◌*◌, ◌/◌, ◌%◌, ◌^◌, ◌<◌, ◌≤◌, Option, Some, None, List, [], ◌∷◌, ◌++◌, Bool, true, false, refl, sym, ◌∙◌, ap, ap₂, subst, arith, length, get_or, replicate, unwrap_or}
use Rattle.std.specs.Prelude.{◌==◌, ◌&&◌, not, is_some, if◌then◌else◌}
use Rattle.std.specs.Option.{option_to_list}
use Rattle.std.specs.List.{flat_map, sum_by}
use Rattle.std.proofs.lemmas.Grind.{flat_map-append}
use Rattle.std.proofs.lemmas.Bool.{eq-eqb, ne_eqb}
use Rattle.std.proofs.lemmas.List.{length-append, length-replicate, map-append}
use Rattle.std.proofs.lemmas.List.Sums.{sum_by-append, sum_by-cons}
use Rattle.bit_lists.specs.Bits.{bits_of}
use Rattle.bit_lists.proofs.BitLemmas.{length-bits_of}
use Rattle.quant_math.specs.Scales.{IsMappedCode}
use Rattle.syntax_types.specs.declared.macroblock.Macroblock.{Macroblock}
use Rattle.syntax_types.specs.declared.picture.PicCoding.{PicCoding}
use Rattle.syntax_types.specs.declared.picture.SeqState.{SeqState}
use Rattle.syntax_types.specs.declared.slice.Slice.{Slice}
use Rattle.syntax_types.specs.declared.slice.SliceInfo.{SliceInfo}
use Rattle.stream_constants.specs.declared.start_codes.TheConstants.{FIRST_SLICE}
use Rattle.picture_grammar.specs.StartCode.{start_code_bits}
use Rattle.picture_grammar.specs.Written.{to_whole_bytes, written_macroblock, written_slice, written_slice_info}
use Rattle.requantiser.specs.declared.version_state.VersionState.{VersionState}
use Rattle.requantiser.specs.declared.tally.Tally.{Tally}
use Rattle.requantiser.specs.Tallies.{IsTallyOf}
use Rattle.requantiser.specs.Steps.{IsStep, Step, distortion_of, made_by, state_behind, taken_by}
use Rattle.requantiser.specs.VersionState.{IsStateBehind}
use Rattle.requantiser.proofs.MacroblockSteps.{span_of}
use Rattle.requantiser.proofs.Steps.{length-taken, one-more-step}
use Rattle.version_maker.specs.declared.slice_count.SliceCount.{SliceCount}
use Rattle.version_maker.specs.declared.slice_count.VersionCount.{VersionCount}
use Rattle.version_maker.specs.declared.slice_read.SliceRead.{SliceRead}
use Rattle.version_maker.specs.Private.Counts.{AreCounted, CanCount, CanCountBehind, IsCountedMacroblock, IsCountedSlice, IsStartCount, MayBeAll}
use Rattle.version_maker.specs.Private.Read.{IsSliceCounted}
use Rattle.picture_laws.proofs.WrittenPicture.{length-start_code}

pub state-behind : (start : VersionState) (steps : List Step) (step : Step) → state_behind start (steps ++ step ∷ []) ≡ step.behind
state-behind start [] step = refl
state-behind start (s ∷ ss) step = state-behind s.behind ss step

pub made-more : (steps : List Step) (step : Step) → made_by (steps ++ step ∷ []) ≡ made_by steps ++ option_to_list step.made
made-more steps step = flat_map-append (λ (s : Step). option_to_list s.made) steps (step ∷ []) ∙ ap (λ (ms : List Macroblock). made_by steps ++ ms) (nil-behind (option_to_list step.made))
  where
    nil-behind : (ms : List Macroblock) → ms ++ [] ≡ ms
    nil-behind [] = refl
    nil-behind (m ∷ ms) = ap (λ (xs : List Macroblock). m ∷ xs) (nil-behind ms)

pub skipped-behind : (from : Macroblock) (made : Option Macroblock) (before behind : VersionState) → IsStateBehind from made before behind → behind.skipped ≤ before.skipped + from.skipped_before + 1
skipped-behind from made before behind is = is-few made is.skipped
  where
    is-few : (made : Option Macroblock) → behind.skipped ≡ (if is_some made then 0 else before.skipped + from.skipped_before + 1) → behind.skipped ≤ before.skipped + from.skipped_before + 1
    is-few None e = omega (arith, e)
    is-few (Some to) e = omega (arith, e)

-- one more than so many is among as many as may be all, and the last one just where these are closed
before-all : (closed : Bool) (n more all : ℕ) → more ≡ n + 1 → MayBeAll closed more all → n < all
before-all true n more all e may = omega (arith, e, may)
before-all false n more all e may = omega (arith, e, may)

last-of-all : (closed : Bool) (n more all : ℕ) → more ≡ n + 1 → MayBeAll closed more all → (n + 1 == all) ≡ closed
last-of-all true n more all e may = eq-eqb (n + 1) all (omega (arith, e, may))
last-of-all false n more all e may = ne_eqb (n + 1) all (λ h. absurd (omega (arith, e, may, h)))

-- one more macroblock was counted
pub counted-more : (seq : SeqState) (coding : PicCoding) (start : VersionState) (ms : List Macroblock) (from : Macroblock) (inner closed : Bool) (before behind : VersionCount)
    → inner ≡ (not (length ms == 0) && not closed) → AreCounted seq coding start ms false before → IsCountedMacroblock seq coding inner from before behind
    → AreCounted seq coding start (ms ++ from ∷ []) closed behind
counted-more seq coding start ms from inner closed before behind is_inner was is =
    let step = is.step in
    let counted = is.counted in
    let count : length was.steps ≡ length ms = sym (length-taken was.steps) ∙ ap length was.taken in
    let more : length (ms ++ from ∷ []) ≡ length ms + 1 = length-append ms (from ∷ []) in
    let here : (all : ℕ) → MayBeAll closed (length (ms ++ from ∷ [])) all
    → IsStep seq coding (not (length was.steps == 0) && not (length was.steps + 1 == all)) (state_behind start was.steps) step = λ all may.
    subst (λ (s : VersionState). IsStep seq coding (not (length was.steps == 0) && not (length was.steps + 1 == all)) s step) (sym was.state)
    (subst (λ (n : ℕ). IsStep seq coding (not (n == 0) && not (n + 1 == all)) before.state step) (sym count)
    (subst (λ (b : Bool). IsStep seq coding b before.state step)
    (is_inner ∙ ap (λ (c : Bool). not (length ms == 0) && not c) (sym (last-of-all closed (length ms) (length (ms ++ from ∷ [])) all more may))) is.is)) in
    let one : taken_by (was.steps ++ step ∷ []) ≡ taken_by was.steps ++ step.from ∷ [] = map-append (λ (s : Step). s.from) was.steps (step ∷ []) in
    let bits : flat_map (written_macroblock coding) (made_by (was.steps ++ step ∷ []))
    ≡ flat_map (written_macroblock coding) (made_by was.steps) ++ flat_map (written_macroblock coding) (option_to_list step.made) =
    ap (flat_map (written_macroblock coding)) (made-more was.steps step) ∙ flat_map-append (written_macroblock coding) (made_by was.steps) (option_to_list step.made) in
    let sums : distortion_of (was.steps ++ step ∷ []) ≡ distortion_of was.steps + distortion_of (step ∷ []) = sum_by-append (λ (s : Step). s.distortion) was.steps (step ∷ []) in
    let last : distortion_of (step ∷ []) ≡ step.distortion + 0 = sum_by-cons (λ (s : Step). s.distortion) step [] in
    let spans : sum_by span_of (ms ++ from ∷ []) ≡ sum_by span_of ms + sum_by span_of (from ∷ []) = sum_by-append span_of ms (from ∷ []) in
    let span : sum_by span_of (from ∷ []) ≡ span_of from + 0 = sum_by-cons span_of from [] in
    let gap : step.behind.skipped ≤ before.state.skipped + step.from.skipped_before + 1 = skipped-behind step.from step.made before.state step.behind is.is.state in
    let from_gap : step.from.skipped_before ≡ from.skipped_before = ap (λ (m : Macroblock). m.skipped_before) is.same in
    let now : behind.state.skipped ≡ step.behind.skipped = ap (λ (s : VersionState). s.skipped) counted.state in
    record {
      steps = was.steps ++ step ∷ [];
      in_order = λ all may. one-more-step seq coding all start was.steps step
          (was.in_order all (before-all closed (length ms) (length (ms ++ from ∷ [])) all more may)) (here all may);
      taken = one ∙ ap₂ (λ (xs : List Macroblock) (x : Macroblock). xs ++ x ∷ []) was.taken is.same;
      state = state-behind start was.steps step ∙ sym counted.state;
      bits = counted.bits ∙ ap (λ (n : ℕ). n + length (flat_map (written_macroblock coding) (option_to_list step.made))) was.bits
          ∙ sym (length-append (flat_map (written_macroblock coding) (made_by was.steps)) (flat_map (written_macroblock coding) (option_to_list step.made)))
          ∙ sym (ap length bits);
      few = omega (arith, counted.few, was.few, more);
      distortion = omega (arith, counted.distortion, was.distortion, sums, last);
      small = omega (arith, counted.small, was.small, more);
      room = omega (arith, was.room, spans, span, gap, from_gap, now);
    }

-- ---- what stands around the macroblocks

info-bytes : (bytes : List ℕ) → length (flat_map (λ byte. 1 ∷ bits_of 8 byte) bytes) ≡ 9 * length bytes
info-bytes [] = refl
info-bytes (b ∷ bs) = omega (arith, length-append (1 ∷ bits_of 8 b) (flat_map (λ byte. 1 ∷ bits_of 8 byte) bs), length-bits_of 8 b, info-bytes bs)

pub info-length : (info : SliceInfo) → length (written_slice_info (Some info)) ≡ 10 + 9 * length info.bytes
info-length info =
    let bytes : List ℕ = flat_map (λ byte. 1 ∷ bits_of 8 byte) info.bytes in
    omega (arith, length-append (bits_of 7 info.reserved ++ bytes) (0 ∷ []), length-append (bits_of 7 info.reserved) bytes, length-bits_of 7 info.reserved, info-bytes info.bytes)

pub whole-length : (bits : List ℕ) (n : ℕ) → n ≡ length bits → 8 * ((n + 7) / 8) ≡ length (to_whole_bytes bits)
whole-length bits n is =
    let fill : ℕ = (8 - length bits % 8) % 8 in
    omega (arith, is, length-append bits (replicate {A = ℕ} fill 0), length-replicate {A = ℕ} fill 0)

pub slice-length : (coding : PicCoding) (slice : Slice) → length (start_code_bits (slice.row + FIRST_SLICE) ++ written_slice coding slice)
    ≡ 37 + length (written_slice_info slice.info) + length (flat_map (written_macroblock coding) slice.macroblocks)
unfolding written_slice
slice-length coding slice =
    let macroblocks : List ℕ = flat_map (written_macroblock coding) slice.macroblocks in
    omega (
      arith,
      length-append (start_code_bits (slice.row + FIRST_SLICE)) (bits_of 5 slice.code ++ written_slice_info slice.info ++ macroblocks),
      length-start_code (slice.row + FIRST_SLICE),
      length-append (bits_of 5 slice.code ++ written_slice_info slice.info) macroblocks,
      length-append (bits_of 5 slice.code) (written_slice_info slice.info),
      length-bits_of 5 slice.code,
    )

-- all macroblocks of a slice were counted: so was the slice
pub all-counted : (seq : SeqState) (coding : PicCoding) (m : ℕ) (from : Slice) (start : VersionState) (count : VersionCount) (bits info : ℕ) (made : SliceCount) → start.m ≡ m
    → start.source_code ≡ from.code → IsMappedCode coding.q_scale_type from.code m start.version_code → start.skipped ≡ 0
    → AreCounted seq coding start from.macroblocks true count → info ≡ length (written_slice_info from.info) → info ≤ 2 ^ 36
    → length from.macroblocks ≤ 65535 → bits ≡ 37 + info + count.bits → made.bytes ≡ (bits + 7) / 8 → made.distortion ≡ count.distortion → IsCountedSlice seq coding m from made
all-counted seq coding m from start count bits info made ratio source version skipped all info_is few_info few bits_are bytes distortion =
    let to : Slice = record { row = from.row; code = start.version_code; info = from.info; macroblocks = made_by all.steps } in
    let whole : bits ≡ length (start_code_bits (to.row + FIRST_SLICE) ++ written_slice coding to) = omega (arith, bits_are, info_is, all.bits, slice-length coding to) in
    record {
      to = to;
      steps = all.steps;
      makes = record {
        start = start;
        ratio = ratio;
        source_code = source;
        version_code = version;
        skipped = skipped;
        in_order = all.in_order (length from.macroblocks) refl;
        taken = all.taken;
        row = refl;
        code = refl;
        info = refl;
        macroblocks = refl;
      };
      bytes = ap (λ (n : ℕ). 8 * n) bytes ∙ whole-length (start_code_bits (to.row + FIRST_SLICE) ++ written_slice coding to) bits whole;
      few = omega (arith, bytes, bits_are, few_info, all.few, few);
      distortion = distortion ∙ all.distortion;
      small = omega (arith, distortion, all.small);
    }

-- macroblocks in a row are no more than its columns
pub few-macroblocks : (ms : List Macroblock) → length ms ≤ sum_by span_of ms
few-macroblocks [] = omega arith
few-macroblocks (m ∷ ms) = omega (arith, sum_by-cons span_of m ms, few-macroblocks ms)

-- ---- a slice in one of several versions

pub none-counted : (seq : SeqState) (coding : PicCoding) (m code : ℕ) (count : VersionCount) → IsStartCount coding m code count → AreCounted seq coding count.state [] false count
none-counted seq coding m code count is = record {
  steps = [];
  in_order = λ all may. tt;
  taken = refl;
  state = refl;
  bits = is.bits;
  few = omega (arith, is.bits);
  distortion = is.distortion;
  small = omega (arith, is.distortion);
  room = omega (arith, is.skipped);
}

-- one more macroblock can be counted, where it stands in the row
pub can-count : (seq : SeqState) (coding : PicCoding) (start : VersionState) (ms : List Macroblock) (closed : Bool) (m code : ℕ) (from : Macroblock) (count : VersionCount)
    → sum_by span_of ms + span_of from ≤ 4096 → count.state.m ≡ m → count.state.source_code ≡ code → AreCounted seq coding start ms closed count → CanCountBehind code m from count
can-count seq coding start ms closed m code from count few ratio source_code was = record {
  ratio = ratio;
  source_code = source_code;
  room = omega (arith, was.room, few);
  bits = omega (arith, was.few, few-macroblocks ms, few);
  distortion = omega (arith, was.small, few-macroblocks ms, few);
}

-- and it can, once its coefficients were
pub can-count-tallied : (seq : SeqState) (coding : PicCoding) (m code : ℕ) (from : Macroblock) (tally : Tally) (count : VersionCount) → CanCountBehind code m from count
    → IsTallyOf seq coding (unwrap_or from.code code) m from tally → CanCount seq coding from tally count
can-count-tallied seq coding m code from tally count can tallied = record {
  tallied = subst (λ (n : ℕ). IsTallyOf seq coding (unwrap_or from.code count.state.source_code) n from tally) (sym can.ratio)
      (subst (λ (n : ℕ). IsTallyOf seq coding (unwrap_or from.code n) m from tally) (sym can.source_code) tallied);
  room = can.room;
  bits = can.bits;
  distortion = can.distortion;
}

pub state-kept : (seq : SeqState) (coding : PicCoding) (inner : Bool) (from : Macroblock) (m in_force : ℕ) (before behind : VersionCount) → before.state.m ≡ m → before.state.source_code ≡ in_force
    → IsCountedMacroblock seq coding inner from before behind → (behind.state.m ≡ m) × (behind.state.source_code ≡ unwrap_or from.code in_force)
state-kept seq coding inner from m in_force before behind ratio code is = (
  ap (λ (s : VersionState). s.m) is.counted.state ∙ is.is.state.ratio ∙ ratio,
  ap (λ (s : VersionState). s.source_code) is.counted.state ∙ is.is.state.source_code
      ∙ ap₂ (λ (f : Macroblock) (n : ℕ). unwrap_or f.code n) is.same code,
)

-- a slice that was counted has this size
pub slice-sized : (seq : SeqState) (coding : PicCoding) (ratios : List ℕ) (found : Slice) (read : SliceRead) (k : ℕ) (d : VersionCount) (made : SliceCount)
    → IsSliceCounted seq coding ratios found read → k < length ratios → made.bytes ≡ (37 + read.info_bits + (get_or read.counts k d).bits + 7) / 8
    → made.distortion ≡ (get_or read.counts k d).distortion → IsCountedSlice seq coding (get_or ratios k 0) found made
slice-sized seq coding ratios found read k d made is within bytes distortion =
    let all = is.each k d within in
    let count : VersionCount = get_or read.counts k d in
    let few : length found.macroblocks ≤ 65535 = omega (arith, few-macroblocks found.macroblocks, is.spans.end, is.few) in
    all-counted seq coding (get_or ratios k 0) found all.start count (37 + read.info_bits + count.bits) read.info_bits made
    all.ratio all.source_code all.version_code all.skipped all.counted is.info is.few_info few refl bytes distortion

-- and few bits
pub few-bits : (seq : SeqState) (coding : PicCoding) (ratios : List ℕ) (found : Slice) (read : SliceRead) (k : ℕ) (d : VersionCount) → IsSliceCounted seq coding ratios found read
    → k < length ratios → (get_or read.counts k d).bits ≤ 2 ^ 40
few-bits seq coding ratios found read k d is within =
    let all = is.each k d within in
    omega (arith, all.counted.few, few-macroblocks found.macroblocks, is.spans.end, is.few)
