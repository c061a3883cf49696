-- Units of a video, one more behind those that are kept.
use Rattle.std.proofs.Common.{
  ◌≡◌,
  ◌⊎◌,
  ℕ,
  zero,
  suc,
  ◌+◌,
  ◌-◌,
  ◌*◌,
  ◌==◌,
  ◌^◌,
  ◌<◌,
  ◌≤◌,
  Bool,
  true,
  false,
  List,
  [],
  ◌∷◌,
  ◌++◌,
  length,
  Option,
  None,
  Some,
  IfSome,
  unwrap_or,
  refl,
  sym,
  ap,
  ◌∙◌,
  subst,
  inl,
  inr,
  arith,
  All,
  take,
  drop,
  get_or,
  ℤ,
  pos,
  neg_ℤ,
  ◌+ℤ◌,
  ◌*ℤ◌,
  ◌≤ℤ◌,
}
use Rattle.std.proofs.Math.Seq.{split_at}
use Rattle.std.specs.List.{last_or}
use Rattle.std.specs.Option.{option_map_or}
use Rattle.std.proofs.lemmas.Bool.{ne_eqb, eq-eqb}
use Rattle.std.proofs.lemmas.Int.{ints}
use Rattle.std.proofs.lemmas.List.{take_more, take_all, drop_more, length-append, length-drop}
use Rattle.std.proofs.lemmas.List.Elements.{All-push, All-cons, All-tail, All-nil}
use Rattle.bit_lists.specs.Fields.{bit_list}
use Rattle.pes_units.specs.declared.times.Times.{Times}
use Rattle.pes_units.specs.Times.{decoding_time}
use Rattle.syntax_types.specs.declared.picture.PicCoding.{PicCoding}
use Rattle.syntax_types.specs.declared.picture.SeqState.{SeqState}
use Rattle.ts_demux.specs.declared.demuxed.PesUnit.{PesUnit}
use Rattle.picture_grammar.specs.Picture.{IsState}
use Rattle.picture_grammar.specs.Refusal.{Refusal}
use Rattle.picture_laws.proofs.SpelledStates.{state-of_unit}
use Rattle.program_reader.specs.declared.kept_units.KeptUnit.{KeptUnit}
use Rattle.program_reader.specs.declared.kept_units.KeptUnits.{KeptUnits}
use Rattle.elementary_streams.specs.declared.pes_packets.PlacedPacket.{PlacedPacket}
use Rattle.elementary_streams.specs.declared.pes_packets.TakenPackets.{TakenPackets}
use Rattle.program_reader.specs.declared.picture_times.StampedPicture.{StampedPicture}
use Rattle.program_reader.specs.declared.program_fault.ProgramFault.{ProgramFault}
use Rattle.program_reader.specs.declared.program_fault.ProgramFault.TheVariants.{OutOfMemory}
use Rattle.program_reader.specs.declared.timed_picture.Role.{Role}
use Rattle.program_reader.specs.declared.timed_picture.Role.TheVariants.{Frame, FirstField, SecondField}
use Rattle.program_reader.specs.declared.timed_picture.TimedPicture.{TimedPicture}
use Rattle.program_reader.specs.declared.unit_picture.TimedUnit.{TimedUnit}
use Rattle.program_reader.specs.KeptUnits.{row_of, AreRows, first_of}
use Rattle.elementary_streams.specs.Packets.{pes_payload_of, joined, placed_from}
use Rattle.es_units.specs.Pictures.{first_picture}
use Rattle.program_reader.specs.PictureTimes.{is_first_picture_in, no_times, times_at, times_of_unit}
use Rattle.program_reader.specs.Intervals.{frame_period, frame_shown, is_b, nearest, share_of, shown_as, shown_meanwhile}
use Rattle.program_reader.specs.Units.{unit_bytes, state_behind, ticks_behind, IsTimed, IsNext, IsBroken, IsUnitRefused}
use Rattle.program_reader.specs.Units.{AreInOrder, last_of, is_none_left, IsUnitsFault, AreKept}
use Rattle.elementary_streams.specs.NearTimes.{IsNear, IsTime}
use Rattle.program_reader.specs.Private.KeptUnits.{IsVideo, Fits, far, IsPictureNear, Keep, AreUnitsKept}
use Rattle.program_reader.specs.Private.StampedPictures.{stamp_at, stamps_of, times_of_stamp, AreRising, TellTimes, IsCounted}
use Rattle.program_reader.specs.Private.TimedPictures.{IsPossible, IsFound, IsShown, LastTells}
use Rattle.program_reader.proofs.ReferenceLemmas.{before_is, before_shown, behind_is, behind_shown}
use Rattle.elementary_streams.proofs.StartLemmas.{near_step, near_more, near_low, near_high}
use Rattle.program_reader.proofs.StampLemmas.{times_stamped, stamps_rise, tells_later}
use Rattle.elementary_streams.proofs.StreamLemmas.{placed_times}
use Rattle.elementary_streams.proofs.TakenLemmas.{placed_at}
use Rattle.elementary_streams.proofs.TimeRange.{IsInRange}
use Rattle.program_reader.proofs.UnitLemmas.{may_precede}

-- ---- one more at the end

pub last_push : (pictures : List TimedPicture) (picture : TimedPicture) → last_of (pictures ++ picture ∷ []) ≡ Some picture
last_push pictures picture = from None pictures
  where
    from : (before : Option TimedPicture) (pictures : List TimedPicture) → last_or before (pictures ++ picture ∷ []) ≡ Some picture
    from before [] = refl
    from before (p ∷ ps) = from (Some p) ps

-- earlier pictures, the nearest first, and those behind them
abbrev pub all_earlier : (earlier pictures : List TimedPicture) → List TimedPicture
all_earlier earlier [] = earlier
all_earlier earlier (p ∷ ps) = all_earlier (p ∷ earlier) ps

pub nearest_last : (earlier pictures : List TimedPicture) → nearest (all_earlier earlier pictures) ≡ last_or (nearest earlier) pictures
nearest_last earlier [] = refl
nearest_last earlier (p ∷ ps) = nearest_last (p ∷ earlier) ps

pub last_tells : (es : List ℕ) (packets : List PlacedPacket) (earlier : List TimedPicture) (units : List (ℕ × ℕ)) (pictures : List TimedPicture) → AreInOrder es packets earlier units pictures →
    LastTells earlier → LastTells (all_earlier earlier pictures)
last_tells es packets earlier [] [] are tells = tells
last_tells es packets earlier [] (p ∷ ps) are tells = absurd are
last_tells es packets earlier (u ∷ us) [] are tells = absurd are
last_tells es packets earlier (u ∷ us) (p ∷ ps) are tells = last_tells es packets (p ∷ earlier) us ps are.1 are.0.reference

pub order_push : (es : List ℕ) (packets : List PlacedPacket) (earlier : List TimedPicture) (units : List (ℕ × ℕ)) (pictures : List TimedPicture) (unit : ℕ × ℕ) (picture : TimedPicture) →
    AreInOrder es packets earlier units pictures → IsNext es packets (all_earlier earlier pictures) unit picture →
    AreInOrder es packets earlier (units ++ unit ∷ []) (pictures ++ picture ∷ [])
order_push es packets earlier [] [] unit picture are next = (next, tt)
order_push es packets earlier [] (p ∷ ps) unit picture are next = absurd are
order_push es packets earlier (u ∷ us) [] unit picture are next = absurd are
order_push es packets earlier (u ∷ us) (p ∷ ps) unit picture are next = (are.0, order_push es packets (p ∷ earlier) us ps unit picture are.1 next)

pub rows_push : (units : List (ℕ × ℕ)) (pictures : List TimedPicture) (rows : List KeptUnit) (unit : ℕ × ℕ) (picture : TimedPicture) (row : KeptUnit) → AreRows units pictures rows →
    row ≡ row_of unit picture → AreRows (units ++ unit ∷ []) (pictures ++ picture ∷ []) (rows ++ row ∷ [])
rows_push [] [] [] unit picture row are is = (is, tt)
rows_push [] [] (r ∷ rs) unit picture row are is = absurd are
rows_push [] (p ∷ ps) rows unit picture row are is = absurd are
rows_push (u ∷ us) [] rows unit picture row are is = absurd are
rows_push (u ∷ us) (p ∷ ps) [] unit picture row are is = absurd are
rows_push (u ∷ us) (p ∷ ps) (r ∷ rs) unit picture row are is = (are.0, rows_push us ps rs unit picture row are.1 is)

pub first_push : (pictures : List TimedPicture) (picture : TimedPicture) → first_of (pictures ++ picture ∷ []) ≡ Some (unwrap_or (first_of pictures) picture)
first_push [] picture = refl
first_push (p ∷ ps) picture = refl

-- ---- how far times are from 0

-- a kept unit with such a time
abbrev pub IsTickUnit : KeptUnit → Type 0
IsTickUnit unit = IsTime unit.ticks

period_bounds : (code : ℕ) → 1 ≤ code → code ≤ 5 → (900000 ≤ frame_period code) × (frame_period code ≤ 1126125)
period_bounds zero l m = absurd (omega arith)
period_bounds (suc zero) l m = (omega arith, omega arith)
period_bounds (suc (suc zero)) l m = (omega arith, omega arith)
period_bounds (suc (suc (suc zero))) l m = (omega arith, omega arith)
period_bounds (suc (suc (suc (suc zero)))) l m = (omega arith, omega arith)
period_bounds (suc (suc (suc (suc (suc zero))))) l m = (omega arith, omega arith)
period_bounds (suc (suc (suc (suc (suc (suc n)))))) l m = absurd (omega arith)

-- what a frame is shown for, by the bounds of a frame period
frame_bounds : (repeats progressive top_first : Bool) (code : ℕ) → 900000 ≤ frame_period code → frame_period code ≤ 1126125 → IsShown (frame_shown repeats progressive top_first code)
frame_bounds false progressive top_first code least most = (omega (arith, least), omega (arith, most))
frame_bounds true false top_first code least most = (omega (arith, least), omega (arith, most))
frame_bounds true true false code least most = (omega (arith, least), omega (arith, most))
frame_bounds true true true code least most = (omega (arith, least), omega (arith, most))

shown_bounds : (role : Role) (seq : SeqState) (coding : PicCoding) → IsState seq → IsShown (shown_as role seq coding)
shown_bounds Frame seq coding state =
    let bounds = period_bounds seq.rate_code state.rate_code.0 state.rate_code.1 in
    frame_bounds coding.repeat_first_field seq.progressive coding.top_field_first seq.rate_code bounds.0 bounds.1
shown_bounds FirstField seq coding state =
    let bounds = period_bounds seq.rate_code state.rate_code.0 state.rate_code.1 in (bounds.0, omega (arith, bounds.1))
shown_bounds SecondField seq coding state =
    let bounds = period_bounds seq.rate_code state.rate_code.0 state.rate_code.1 in (bounds.0, omega (arith, bounds.1))

meanwhile_most : (b : Bool) (own : ℕ) (reference : Option ℕ) (code : ℕ) → own ≤ 3378375 → IfSome reference IsShown → frame_period code ≤ 1126125 →
    shown_meanwhile b own reference code ≤ 3378375
meanwhile_most true own reference code own_most shown period = own_most
meanwhile_most false own None code own_most shown period = omega (arith, period)
meanwhile_most false own (Some r) code own_most shown period = shown.1

share_most : (role : Role) (shown code : ℕ) → shown ≤ 3378375 → frame_period code ≤ 1126125 → share_of role shown code ≤ 3378375
share_most Frame shown code le period = le
share_most FirstField shown code le period = omega (arith, period)
share_most SecondField shown code le period = omega (arith, le)

-- the decoding interval of a picture
interval_most : (picture : TimedPicture) → IsState picture.seq → IfSome picture.reference_before IsShown → ticks_behind picture ≤ 3378375
interval_most picture state shown =
    let code = picture.seq.rate_code in
    let period : frame_period code ≤ 1126125 = (period_bounds code state.rate_code.0 state.rate_code.1).1 in
    share_most picture.role (shown_meanwhile (is_b picture.coding) (shown_as picture.role picture.seq picture.coding) picture.reference_before code) code
    (meanwhile_most (is_b picture.coding) (shown_as picture.role picture.seq picture.coding) picture.reference_before code
    (shown_bounds picture.role picture.seq picture.coding state).1 shown period) period

abbrev IsFar : ℕ → ℕ → ℤ → Type 0
IsFar count units ticks = (neg_ℤ (pos (far count units)) ≤ℤ ticks) × (ticks ≤ℤ pos (far count units))

-- a stated time
far_stated : (stated ticks : ℤ) (count units : ℕ) → IsNear count stated → ticks ≡ pos 300 *ℤ stated → IsFar count units ticks
far_stated stated ticks count units near is = (low stated ticks count units near.low is, high stated ticks count units near.high is)
  where
    low : (s t : ℤ) (c u : ℕ) → neg_ℤ (pos (8589934592 + c * 4294967296)) ≤ℤ s → t ≡ pos 300 *ℤ s → neg_ℤ (pos (300 * (8589934592 + c * 4294967296) + 3378375 * u)) ≤ℤ t
    low s t c u near is = omega (arith, ints)

    high : (s t : ℤ) (c u : ℕ) → s ≤ℤ pos (8589934592 + c * 4294967296) → t ≡ pos 300 *ℤ s → t ≤ℤ pos (300 * (8589934592 + c * 4294967296) + 3378375 * u)
    high s t c u near is = omega (arith, ints)

-- a time that is told from the one before
far_untold : (before ticks : ℤ) (behind count units : ℕ) → IsFar count units before → behind ≤ 3378375 → ticks ≡ before +ℤ pos behind → IsFar count (units + 1) ticks
far_untold before ticks behind count units near le is = (low before ticks behind count units near.0 is, high before ticks behind count units near.1 le is)
  where
    low : (b t : ℤ) (n c u : ℕ) → neg_ℤ (pos (300 * (8589934592 + c * 4294967296) + 3378375 * u)) ≤ℤ b → t ≡ b +ℤ pos n →
        neg_ℤ (pos (300 * (8589934592 + c * 4294967296) + 3378375 * (u + 1))) ≤ℤ t
    low b t n c u near is = omega (arith, ints)

    high : (b t : ℤ) (n c u : ℕ) → b ≤ℤ pos (300 * (8589934592 + c * 4294967296) + 3378375 * u) → n ≤ 3378375 → t ≡ b +ℤ pos n →
        t ≤ℤ pos (300 * (8589934592 + c * 4294967296) + 3378375 * (u + 1))
    high b t n c u near le is = omega (arith, ints)

far_more : (ticks : ℤ) (count more units : ℕ) → count ≤ more → IsFar count units ticks → IsFar more units ticks
far_more ticks count more units le near = (low ticks count more units le near.0, high ticks count more units le near.1)
  where
    low : (t : ℤ) (c d u : ℕ) → c ≤ d → neg_ℤ (pos (300 * (8589934592 + c * 4294967296) + 3378375 * u)) ≤ℤ t → neg_ℤ (pos (300 * (8589934592 + d * 4294967296) + 3378375 * u)) ≤ℤ t
    low t c d u le near = omega (arith, ints)

    high : (t : ℤ) (c d u : ℕ) → c ≤ d → t ≤ℤ pos (300 * (8589934592 + c * 4294967296) + 3378375 * u) → t ≤ℤ pos (300 * (8589934592 + d * 4294967296) + 3378375 * u)
    high t c d u le near = omega (arith, ints)

far_tick : (ticks : ℤ) (count units : ℕ) → count ≤ 4000000 → units ≤ 1099511627777 → IsFar count units ticks → (neg_ℤ (pos (9 * 10 ^ 18)) ≤ℤ ticks) × (ticks ≤ℤ pos (9 * 10 ^ 18))
far_tick ticks count units few units_few near = (low ticks count units few units_few near.0, high ticks count units few units_few near.1)
  where
    low : (t : ℤ) (c u : ℕ) → c ≤ 4000000 → u ≤ 1099511627777 → neg_ℤ (pos (300 * (8589934592 + c * 4294967296) + 3378375 * u)) ≤ℤ t → neg_ℤ (pos 9000000000000000000) ≤ℤ t
    low t c u few less near = omega (arith, ints)

    high : (t : ℤ) (c u : ℕ) → c ≤ 4000000 → u ≤ 1099511627777 → t ≤ℤ pos (300 * (8589934592 + c * 4294967296) + 3378375 * u) → t ≤ℤ pos 9000000000000000000
    high t c u few less near = omega (arith, ints)

pub possible_near : (picture : TimedPicture) (count units : ℕ) → count ≤ 4000000 → units ≤ 1099511627777 → IsPictureNear count units picture → IsPossible picture
possible_near picture count units few units_few near = let ticks = far_tick picture.ticks count units few units_few (near.least, near.most) in record {
  state = near.state;
  stated_least = near_low picture.stated count few near.stated;
  stated_most = near_high picture.stated count few near.stated;
  ticks_least = wide_low picture.ticks ticks.0;
  ticks_most = wide_high picture.ticks ticks.1;
  shown_before = near.shown_before;
  shown_behind = near.shown_behind;
}
  where
    wide_low : (t : ℤ) → neg_ℤ (pos 9000000000000000000) ≤ℤ t → neg_ℤ (pos 9000000000000000000) ≤ℤ t
    wide_low t le = omega (arith, ints)

    wide_high : (t : ℤ) → t ≤ℤ pos 9000000000000000000 → t ≤ℤ pos 9000000000000000000
    wide_high t le = omega (arith, ints)

-- the state in force behind a unit
state_next : (es : List ℕ) (packets : List PlacedPacket) (earlier : List TimedPicture) (unit : ℕ × ℕ) (picture : TimedPicture) → IfSome (nearest earlier) IsPossible →
    IsNext es packets earlier unit picture → IsState picture.seq
state_next es packets earlier unit picture possible next =
    subst IsState next.coded.seq_is
    (state-of_unit (state_behind (nearest earlier)) next.coded.picture (bit_list (unit_bytes es unit)) [] (may_precede (nearest earlier) possible) next.coded.whole.spelled)

-- what it says of the last coded I or P frame
shown_next : (es : List ℕ) (packets : List PlacedPacket) (earlier : List TimedPicture) (unit : ℕ × ℕ) (picture : TimedPicture) → IfSome (nearest earlier) IsPossible → LastTells earlier →
    IsNext es packets earlier unit picture → IfSome picture.reference_before IsShown × IfSome picture.reference_behind IsShown
shown_next es packets earlier unit picture possible tells next = (
  subst (λ (r : Option ℕ). IfSome r IsShown) (before_is earlier picture.coding picture.role tells next.role_is ∙ sym next.reference.before)
      (before_shown picture.role (nearest earlier) (befores (nearest earlier) possible) (behinds (nearest earlier) possible)),
  subst (λ (r : Option ℕ). IfSome r IsShown) (behind_is earlier picture tells ∙ sym next.reference.behind)
      (behind_shown picture.role picture.seq picture.coding (nearest earlier)
      (shown_bounds picture.role picture.seq picture.coding (state_next es packets earlier unit picture possible next)) (behinds (nearest earlier) possible)),
)
  where
    befores : (before : Option TimedPicture) → IfSome before IsPossible → IfSome before (λ picture. IfSome picture.reference_before IsShown)
    befores None possible = tt
    befores (Some b) possible = possible.shown_before

    behinds : (before : Option TimedPicture) → IfSome before IsPossible → IfSome before (λ picture. IfSome picture.reference_behind IsShown)
    behinds None possible = tt
    behinds (Some b) possible = possible.shown_behind

-- how many stated times there are behind one more
abbrev pub IsStep : ℕ → ℕ → Option ℕ → Type 0
IsStep count next None = count ≤ next
IsStep count next (Some _) = count < next

zero_near : (value : ℕ) (stated : ℤ) → value < 2 ^ 33 → stated ≡ pos value → IsNear 0 stated
zero_near value stated below is = record { low = low value stated is; high = high value stated below is }
  where
    low : (v : ℕ) (s : ℤ) → s ≡ pos v → neg_ℤ (pos (8589934592 + 0 * 4294967296)) ≤ℤ s
    low v s is = omega (arith, ints)

    high : (v : ℕ) (s : ℤ) → v < 8589934592 → s ≡ pos v → s ≤ℤ pos (8589934592 + 0 * 4294967296)
    high v s below is = omega (arith, ints)

pub timed_near : (before : Option TimedPicture) (value : Option ℕ) (stated ticks : ℤ) (count next units : ℕ) → IsInRange value → IfSome before (IsPictureNear count units) →
    IsStep count next value → IsTimed before value stated ticks → IsNear next stated × IsFar next (units + 1) ticks
timed_near None None stated ticks count next units range near step timed = absurd timed
timed_near None (Some v) stated ticks count next units range near step timed =
    let placed : IsNear next stated = near_more stated 0 next (omega arith) (zero_near v stated range timed.0) in
    (placed, far_stated stated ticks next (units + 1) placed timed.1)
timed_near (Some b) (Some v) stated ticks count next units range near step timed =
    let placed : IsNear next stated = near_more stated (count + 1) next (omega (arith, step)) (near_step b.stated stated v count near.stated timed.0) in
    (placed, far_stated stated ticks next (units + 1) placed timed.1)
timed_near (Some b) None stated ticks count next units range near step timed = (
  subst (IsNear next) (sym timed.0) (near_more b.stated count next step near.stated),
  far_more ticks count next (units + 1) step
      (far_untold b.ticks ticks (ticks_behind b) count units (near.least, near.most) (interval_most b near.state near.shown_before) timed.1),
)

-- the first picture's time
pub first_near : (value : Option ℕ) (stated ticks : ℤ) → IsInRange value → IsTimed None value stated ticks → IsNear 0 stated
first_near None stated ticks range timed = absurd timed
first_near (Some v) stated ticks range timed = zero_near v stated range timed.0

-- ---- one more unit

-- the times of its picture are near, behind one more stated time or none
pub near_next : (es : List ℕ) (packets : List PlacedPacket) (earlier : List TimedPicture) (unit : ℕ × ℕ) (picture : TimedPicture) (count next i : ℕ) → IsInRange (decoding_time picture.times) →
    IfSome (nearest earlier) IsPossible → IfSome (nearest earlier) (IsPictureNear count i) → IsStep count next (decoding_time picture.times) → LastTells earlier →
    IsNext es packets earlier unit picture → IsPictureNear next (i + 1) picture
near_next es packets earlier unit picture count next_count i range possible near stated tells next =
    let timed = timed_near (nearest earlier) (decoding_time picture.times) picture.stated picture.ticks count next_count i range near stated next.timed in
    let shown = shown_next es packets earlier unit picture possible tells next in record {
      state = state_next es packets earlier unit picture possible next;
      stated = timed.0;
      least = timed.1.0;
      most = timed.1.1;
      shown_before = shown.0;
      shown_behind = shown.1;
    }

-- ---- a loop over the units

-- units before a place are kept, and their times are looked up
pub record KeptSoFar (es : List ℕ) (packets : List PlacedPacket) (cuts : List (ℕ × ℕ)) (i : ℕ) (left : List StampedPicture) (kept : KeptUnits) : Type 0 where
  pub pictures : List TimedPicture
  pub keep : Keep es packets (take i cuts) pictures kept
  pub dropped : kept.dropped ≡ 0
  pub from : ℕ
  pub fits : Fits (length es) from (drop i cuts)
  pub tells : TellTimes es packets from left
  pub count : ℕ
  pub counted : count + length left ≤ 4000000
  pub near : IfSome kept.last (IsPictureNear count i)

-- the pictures of these units, the nearest first
abbrev pub earlier_kept : (es : List ℕ) (packets : List PlacedPacket) (cuts : List (ℕ × ℕ)) (i : ℕ) (left : List StampedPicture) (kept : KeptUnits) → KeptSoFar es packets cuts i left kept →
    List TimedPicture
earlier_kept es packets cuts i left kept so_far = all_earlier [] so_far.pictures

pub earlier_last : (es : List ℕ) (packets : List PlacedPacket) (cuts : List (ℕ × ℕ)) (i : ℕ) (left : List StampedPicture) (kept : KeptUnits) (so_far : KeptSoFar es packets cuts i left kept) →
    nearest (all_earlier [] so_far.pictures) ≡ kept.last
earlier_last es packets cuts i left kept so_far = nearest_last [] so_far.pictures ∙ sym so_far.keep.last_is

pub earlier_tells : (es : List ℕ) (packets : List PlacedPacket) (cuts : List (ℕ × ℕ)) (i : ℕ) (left : List StampedPicture) (kept : KeptUnits) (so_far : KeptSoFar es packets cuts i left kept) →
    LastTells (all_earlier [] so_far.pictures)
earlier_tells es packets cuts i left kept so_far = last_tells es packets [] (take i cuts) so_far.pictures so_far.keep.in_order tt

-- ---- the units before the first one

pub kept_none : (es : List ℕ) (packets : List PlacedPacket) (cuts : List (ℕ × ℕ)) (left : List StampedPicture) (kept : KeptUnits) → Fits (length es) 0 cuts →
    TellTimes es packets 0 left → length left ≤ 4000000 → kept.units.items ≡ [] → kept.first ≡ None → kept.last ≡ None → kept.dropped ≡ 0 → KeptSoFar es packets cuts 0 left kept
kept_none es packets cuts left kept fits tells few none first last dropped = record {
  pictures = [];
  keep = record {
    in_order = tt;
    rows = subst (AreRows [] []) (sym none) tt;
    first_is = first;
    first_near = subst (λ (f : Option TimedPicture). IfSome f (λ picture. IsNear 0 picture.stated)) (sym first) tt;
    last_is = last;
    ticks = subst (All IsTickUnit) (sym none) (All-nil IsTickUnit);
  };
  dropped = dropped;
  from = 0;
  fits = fits;
  tells = tells;
  count = 0;
  counted = omega (arith, few);
  near = subst (λ (f : Option TimedPicture). IfSome f (IsPictureNear 0 0)) (sym last) tt;
}

-- ---- the next unit

pub record NextUnit (es : List ℕ) (packets : List PlacedPacket) (cuts : List (ℕ × ℕ)) (i from : ℕ) (unit : ℕ × ℕ) (left : List StampedPicture) : Type 0 where
  pub order : unit.0 ≤ unit.1
  pub within : unit.1 ≤ length es
  pub tells : TellTimes es packets unit.0 left
  pub fits : Fits (length es) unit.1 (drop (i + 1) cuts)

pub next_unit : (es : List ℕ) (packets : List PlacedPacket) (cuts : List (ℕ × ℕ)) (i : ℕ) (unit : ℕ × ℕ) (left : List StampedPicture) (kept : KeptUnits) → i < length cuts →
    unit ≡ get_or cuts i (0, 0) → (so_far : KeptSoFar es packets cuts i left kept) → NextUnit es packets cuts i so_far.from unit left
next_unit es packets cuts i unit left kept lt is so_far =
    let split : drop i cuts ≡ unit ∷ drop (i + 1) cuts = drop_more cuts i (0, 0) lt ∙ ap (λ (u : ℕ × ℕ). u ∷ drop (i + 1) cuts) (sym is) in
    let fits : Fits (length es) so_far.from (unit ∷ drop (i + 1) cuts) = subst (Fits (length es) so_far.from) split so_far.fits in
    record { order = fits.1; within = fits.2; tells = tells_later es packets so_far.from unit.0 left fits.0 so_far.tells; fits = fits.3 }

pub possible_before : (es : List ℕ) (packets : List PlacedPacket) (cuts : List (ℕ × ℕ)) (i : ℕ) (left : List StampedPicture) (kept : KeptUnits) → i < length cuts → length cuts ≤ 1099511627777 →
    KeptSoFar es packets cuts i left kept → IfSome kept.last IsPossible
possible_before es packets cuts i left kept lt few so_far = by_last kept.last so_far.near
  where
    by_last : (last : Option TimedPicture) → IfSome last (IsPictureNear so_far.count i) → IfSome last IsPossible
    by_last None near = tt
    by_last (Some picture) near = possible_near picture so_far.count i (omega (arith, so_far.counted)) (omega (arith, lt, few)) near

pub range_at : (es : List ℕ) (packets : List PlacedPacket) (at : ℕ) → All (λ packet. IsInRange (decoding_time packet.header.times)) packets → IsInRange (decoding_time (times_at es packets at))
range_at es [] at all = tt
range_at es (p ∷ ps) at all =
    by_test (is_first_picture_in es at p) refl (all 0 p (omega arith)) (range_at es ps at (All-tail (λ (packet : PlacedPacket). IsInRange (decoding_time packet.header.times)) p ps all))
  where
    by_test : (here : Bool) → is_first_picture_in es at p ≡ here → IsInRange (decoding_time p.header.times) → IsInRange (decoding_time (times_at es ps at)) →
        IsInRange (decoding_time (times_at es (p ∷ ps) at))
    by_test true is first rest = rw is first
    by_test false is first rest = rw is rest

pub range_of_unit : (es : List ℕ) (packets : List PlacedPacket) (unit : ℕ × ℕ) → All (λ packet. IsInRange (decoding_time packet.header.times)) packets →
    IsInRange (decoding_time (times_of_unit es packets unit))
range_of_unit es packets unit all = by_place (first_picture es unit.0 unit.1)
  where
    by_place : (place : Option ℕ) → IsInRange (decoding_time (option_map_or (times_at es packets) place no_times))
    by_place None = tt
    by_place (Some at) = range_at es packets at all

-- how many times are stated up to it
step_of : (left behind : List StampedPicture) (times : Times) (count : ℕ) → count + length left ≤ 4000000 → IsCounted left behind times →
    (next : ℕ) × IsStep count next (decoding_time times) × (next + length behind ≤ 4000000)
step_of left behind times count few (inl less) = (count + 1, by_value (decoding_time times), omega (arith, few, less))
  where
    by_value : (value : Option ℕ) → IsStep count (count + 1) value
    by_value None = omega arith
    by_value (Some v) = omega arith
step_of left behind times count few (inr none) =
    (count, subst (λ (t : Times). IsStep count count (decoding_time t)) (sym none.0) (let same : count ≤ count = omega arith in same), omega (arith, few, none.1))

pub kept_more : (es : List ℕ) (packets : List PlacedPacket) (cuts : List (ℕ × ℕ)) (i : ℕ) (unit : ℕ × ℕ) (left behind : List StampedPicture) (old new : KeptUnits) (times : Times)
    (picture : TimedPicture) → i < length cuts → length cuts ≤ 1099511627777 → unit ≡ get_or cuts i (0, 0) → All (λ packet. IsInRange (decoding_time packet.header.times)) packets →
    (so_far : KeptSoFar es packets cuts i left old) → TellTimes es packets unit.1 behind → IsCounted left behind times → times ≡ times_of_unit es packets unit →
    IsNext es packets (earlier_kept es packets cuts i left old so_far) unit picture →
    new.units.items ≡ old.units.items ++ row_of unit picture ∷ [] → new.first ≡ Some (unwrap_or old.first picture) → new.last ≡ Some picture → new.dropped ≡ old.dropped →
    KeptSoFar es packets cuts (i + 1) behind new
kept_more es packets cuts i unit left behind old new times picture lt few is ranges so_far tells counted times_are next items first last dropped =
    let keep = so_far.keep in
    let here = next_unit es packets cuts i unit left old lt is so_far in
    let step = step_of left behind times so_far.count so_far.counted counted in
    let stated : IsStep so_far.count step.0 (decoding_time picture.times) = subst (λ (t : Times). IsStep so_far.count step.0 (decoding_time t)) (times_are ∙ sym next.times_are) step.1 in
    let range : IsInRange (decoding_time picture.times) = subst (λ (t : Times). IsInRange (decoding_time t)) (sym next.times_are) (range_of_unit es packets unit ranges) in
    let earlier = earlier_kept es packets cuts i left old so_far in
    let last_same = earlier_last es packets cuts i left old so_far in
    let own_timed : IsTimed old.last (decoding_time picture.times) picture.stated picture.ticks =
    subst (λ (b : Option TimedPicture). IsTimed b (decoding_time picture.times) picture.stated picture.ticks) last_same next.timed in
    let possible : IfSome (nearest earlier) IsPossible =
    subst (λ (b : Option TimedPicture). IfSome b IsPossible) (sym last_same) (possible_before es packets cuts i left old lt few so_far) in
    let near : IsPictureNear step.0 (i + 1) picture =
    near_next es packets earlier unit picture so_far.count step.0 i range possible (subst (λ (b : Option TimedPicture). IfSome b (IsPictureNear so_far.count i)) (sym last_same) so_far.near) stated
    (earlier_tells es packets cuts i left old so_far) next in
    let next_few : step.0 ≤ 4000000 = omega (arith, step.2) in
    let tick : IsTickUnit (row_of unit picture) = (let far = far_tick picture.ticks step.0 (i + 1) next_few (omega (arith, lt, few)) (near.least, near.most) in record { least = far.0; most = far.1 }) in
    let more : take (i + 1) cuts ≡ take i cuts ++ unit ∷ [] = take_more cuts i (0, 0) lt ∙ ap (λ (u : ℕ × ℕ). take i cuts ++ u ∷ []) (sym is) in
    let in_order : AreInOrder es packets [] (take i cuts ++ unit ∷ []) (so_far.pictures ++ picture ∷ []) =
    order_push es packets [] (take i cuts) so_far.pictures unit picture keep.in_order next in
    let rows : AreRows (take i cuts ++ unit ∷ []) (so_far.pictures ++ picture ∷ []) (old.units.items ++ row_of unit picture ∷ []) =
    rows_push (take i cuts) so_far.pictures old.units.items unit picture (row_of unit picture) keep.rows refl in record {
      pictures = so_far.pictures ++ picture ∷ [];
      keep = record {
        in_order = subst (λ (us : List (ℕ × ℕ)). AreInOrder es packets [] us (so_far.pictures ++ picture ∷ [])) (sym more) in_order;
        rows = subst (λ (rs : List KeptUnit). AreRows (take (i + 1) cuts) (so_far.pictures ++ picture ∷ []) rs) (sym items)
            (subst (λ (us : List (ℕ × ℕ)). AreRows us (so_far.pictures ++ picture ∷ []) (old.units.items ++ row_of unit picture ∷ [])) (sym more) rows);
        first_is = first ∙ ap (λ (f : Option TimedPicture). Some (unwrap_or f picture)) keep.first_is ∙ sym (first_push so_far.pictures picture);
        first_near = subst (λ (f : Option TimedPicture). IfSome f (λ picture. IsNear 0 picture.stated)) (sym first)
            (first_step old.first old.last picture so_far.pictures keep.first_is keep.last_is keep.first_near range own_timed);
        last_is = last ∙ sym (last_push so_far.pictures picture);
        ticks = subst (All IsTickUnit) (sym items) (All-push IsTickUnit old.units.items (row_of unit picture) keep.ticks tick);
      };
      dropped = dropped ∙ so_far.dropped;
      from = unit.1;
      fits = here.fits;
      tells = tells;
      count = step.0;
      counted = step.2;
      near = subst (λ (f : Option TimedPicture). IfSome f (IsPictureNear step.0 (i + 1))) (sym last) near;
    }
  where
    first_step : (f l : Option TimedPicture) (picture : TimedPicture) (pictures : List TimedPicture) → f ≡ first_of pictures → l ≡ last_of pictures →
        IfSome f (λ picture. IsNear 0 picture.stated) → IsInRange (decoding_time picture.times) → IsTimed l (decoding_time picture.times) picture.stated picture.ticks →
        IsNear 0 (unwrap_or f picture).stated
    first_step (Some f) l picture pictures first last near range timed = near
    first_step None l picture [] first last near range timed =
        first_near (decoding_time picture.times) picture.stated picture.ticks range
        (subst (λ (b : Option TimedPicture). IsTimed b (decoding_time picture.times) picture.stated picture.ticks) last timed)
    first_step None l picture (p ∷ ps) first last near range timed = absurd cc

-- ---- the last unit, and a refused one

is_last_of : (rest cuts : List (ℕ × ℕ)) (i : ℕ) → i < length cuts → length rest ≡ length cuts - (i + 1) → (i + 1 == length cuts) ≡ is_none_left rest
is_last_of [] cuts i lt size = eq-eqb (i + 1) (length cuts) (omega (arith, lt, size))
is_last_of (u ∷ us) cuts i lt size = ne_eqb (i + 1) (length cuts) (λ same. omega (arith, lt, size, same))

pub last_is : (cuts : List (ℕ × ℕ)) (i : ℕ) → i < length cuts → (i + 1 == length cuts) ≡ is_none_left (drop (i + 1) cuts)
last_is cuts i lt = is_last_of (drop (i + 1) cuts) cuts i lt (length-drop (i + 1) cuts)

none_left : (rest : List (ℕ × ℕ)) → is_none_left rest ≡ true → rest ≡ []
none_left [] is = refl
none_left (u ∷ us) is = absurd cc

split_here : (cuts : List (ℕ × ℕ)) (i : ℕ) (unit : ℕ × ℕ) → i < length cuts → unit ≡ get_or cuts i (0, 0) → cuts ≡ take i cuts ++ unit ∷ drop (i + 1) cuts
split_here cuts i unit lt is =
    let on : suc i ≡ i + 1 = omega arith in
    split_at cuts i (0, 0) lt ∙ ap (λ (u : ℕ × ℕ). take i cuts ++ u ∷ drop (suc i) cuts) (sym is) ∙ ap (λ (n : ℕ). take i cuts ++ unit ∷ drop n cuts) on

pub unit_refused : (es : List ℕ) (packets : List PlacedPacket) (cuts : List (ℕ × ℕ)) (i : ℕ) (unit : ℕ × ℕ) (left : List StampedPicture) (kept : KeptUnits) (is_last : Bool)
    (fault : ProgramFault) → i < length cuts → unit ≡ get_or cuts i (0, 0) → is_last ≡ (i + 1 == length cuts) → KeptSoFar es packets cuts i left kept →
    (fault ≡ OutOfMemory) ⊎ IsUnitRefused es packets kept.last unit is_last fault → (fault ≡ OutOfMemory) ⊎ IsUnitsFault es packets cuts fault
unit_refused es packets cuts i unit left kept is_last fault lt is last so_far (inl memory) = inl memory
unit_refused es packets cuts i unit left kept is_last fault lt is last so_far (inr refused) =
    let behind : is_last ≡ is_none_left (drop (i + 1) cuts) = last ∙ last_is cuts i lt in
    inr (record {
      before = take i cuts;
      unit = unit;
      more = drop (i + 1) cuts;
      split = split_here cuts i unit lt is;
      pictures = so_far.pictures;
      in_order = so_far.keep.in_order;
      refused = subst (λ (l : Bool). IsUnitRefused es packets (last_of so_far.pictures) unit l fault) behind
          (subst (λ (b : Option TimedPicture). IsUnitRefused es packets b unit is_last fault) so_far.keep.last_is refused);
    })

pub kept_all : (es : List ℕ) (packets : List PlacedPacket) (cuts : List (ℕ × ℕ)) (i : ℕ) (left : List StampedPicture) (kept : KeptUnits) → length cuts ≤ i →
    KeptSoFar es packets cuts i left kept → AreUnitsKept es packets cuts kept
kept_all es packets cuts i left kept le so_far =
    let whole : take i cuts ≡ cuts = take_all i cuts le in record {
      units = take i cuts;
      pictures = so_far.pictures;
      kept_are = AreKept.all (sym whole) so_far.keep.in_order so_far.dropped;
      keep = so_far.keep;
    }

pub kept_but_last : (es : List ℕ) (packets : List PlacedPacket) (cuts : List (ℕ × ℕ)) (i : ℕ) (unit : ℕ × ℕ) (left : List StampedPicture) (old new : KeptUnits) (refusal : Refusal) (at : ℕ)
    (is_last : Bool) → i < length cuts → unit ≡ get_or cuts i (0, 0) → is_last ≡ (i + 1 == length cuts) → is_last ≡ true → KeptSoFar es packets cuts i left old →
    IsBroken es old.last unit refusal at → new.units.items ≡ old.units.items → new.first ≡ old.first → new.last ≡ old.last → new.dropped ≡ 1 → AreUnitsKept es packets cuts new
kept_but_last es packets cuts i unit left old new refusal at is_last lt is last ended so_far broken items first last_same dropped =
    let keep = so_far.keep in
    let none : drop (i + 1) cuts ≡ [] = none_left (drop (i + 1) cuts) (sym (last_is cuts i lt) ∙ sym last ∙ ended) in
    let split : cuts ≡ take i cuts ++ unit ∷ [] = split_here cuts i unit lt is ∙ ap (λ (us : List (ℕ × ℕ)). take i cuts ++ unit ∷ us) none in record {
      units = take i cuts;
      pictures = so_far.pictures;
      kept_are = AreKept.but_last unit refusal at split keep.in_order (subst (λ (b : Option TimedPicture). IsBroken es b unit refusal at) keep.last_is broken) dropped;
      keep = record {
        in_order = keep.in_order;
        rows = subst (AreRows (take i cuts) so_far.pictures) (sym items) keep.rows;
        first_is = first ∙ keep.first_is;
        first_near = subst (λ (f : Option TimedPicture). IfSome f (λ picture. IsNear 0 picture.stated)) (sym first) keep.first_near;
        last_is = last_same ∙ keep.last_is;
        ticks = subst (All IsTickUnit) (sym items) keep.ticks;
      };
    }

-- ---- what is taken of the video

placed_ends : (from size : ℕ) (packets : List PesUnit) → from + length (joined packets) ≤ size → All (λ packet. packet.end ≤ size) (placed_from from packets)
placed_ends from size [] le = All-nil (λ (packet : PlacedPacket). packet.end ≤ size)
placed_ends from size (p ∷ ps) le =
    let sum : length (joined (p ∷ ps)) ≡ length (pes_payload_of p) + length (joined ps) = length-append (pes_payload_of p) (joined ps) in
    All-cons (λ (packet : PlacedPacket). packet.end ≤ size) (placed_at from p) (placed_from (from + length (pes_payload_of p)) ps) (omega (arith, sum, le))
    (placed_ends (from + length (pes_payload_of p)) size ps (omega (arith, sum, le)))

pub video_ends : (video : TakenPackets) (es : List ℕ) (packets : List PlacedPacket) → es ≡ video.payload.items → packets ≡ video.packets.items → IsVideo video →
    All (λ packet. packet.end ≤ length es) packets
video_ends video es packets payload placed is =
    let size : length es ≡ length (joined is.packets) = ap (λ (xs : List ℕ). length xs) (payload ∙ is.holds.payload) in
    subst (λ (ps : List PlacedPacket). All (λ packet. packet.end ≤ length es) ps) (sym (placed ∙ is.holds.placed)) (placed_ends 0 (length es) is.packets (omega (arith, size)))

pub video_ranges : (video : TakenPackets) → IsVideo video → All (λ packet. IsInRange (decoding_time packet.header.times)) video.packets.items
video_ranges video is = subst (λ (ps : List PlacedPacket). All (λ packet. IsInRange (decoding_time packet.header.times)) ps) (sym is.holds.placed) (placed_times 0 is.packets)

-- a stamp for each packet at most
pub stamps_few : (es : List ℕ) (packets : List PlacedPacket) → length (stamps_of es packets) ≤ length packets
stamps_few es [] = omega arith
stamps_few es (p ∷ ps) = by_first (first_picture es p.from p.end) (stamps_few es ps)
  where
    by_first : (first : Option ℕ) → length (stamps_of es ps) ≤ length ps → length (stamp_at p.header.times first ++ stamps_of es ps) ≤ suc (length ps)
    by_first None le = omega (arith, le)
    by_first (Some f) le = omega (arith, le)

pub video_stamps : (video : TakenPackets) (es : List ℕ) (packets : List PlacedPacket) (stamps left : List StampedPicture) → es ≡ video.payload.items → packets ≡ video.packets.items →
    stamps ≡ stamps_of es packets → left ≡ stamps → IsVideo video → TellTimes video.payload.items video.packets.items 0 left × (length left ≤ 4000000)
video_stamps video es packets stamps left payload placed stamps_are same is =
    let all : left ≡ stamps_of video.payload.items video.packets.items =
    same ∙ stamps_are ∙ ap (λ (xs : List ℕ). stamps_of xs packets) payload ∙ ap (stamps_of video.payload.items) placed in
    let rising : AreRising 0 (stamps_of video.payload.items video.packets.items) =
    subst (λ (ps : List PlacedPacket). AreRising 0 (stamps_of video.payload.items ps)) (sym is.holds.placed) (stamps_rise video.payload.items 0 is.packets) in (
      record {
        same = λ place le. ap (λ (ss : List StampedPicture). times_of_stamp ss place) all ∙ sym (times_stamped video.payload.items video.packets.items place);
        rising = subst (AreRising 0) (sym all) rising;
      },
      (let few : length (stamps_of video.payload.items video.packets.items) ≤ 4000000 = omega (arith, is.few, stamps_few video.payload.items video.packets.items) in
          subst (λ (ss : List StampedPicture). length ss ≤ 4000000) (sym all) few),
    )

-- ---- bytes and the unit before as a slice and a reference

pub told : (slice es : List ℕ) (packets : List PlacedPacket) (unit : ℕ × ℕ) (left behind : List StampedPicture) (times : Times) → slice ≡ es → TellTimes es packets unit.0 left →
    unit.0 ≤ unit.1 → ((ps : List PlacedPacket) → TellTimes slice ps unit.0 left → times ≡ times_of_unit slice ps unit) →
    ((ps : List PlacedPacket) → unit.0 ≤ unit.1 → TellTimes slice ps unit.0 left → TellTimes slice ps unit.1 behind) →
    (times ≡ times_of_unit slice packets unit) × (times ≡ times_of_unit es packets unit) × TellTimes es packets unit.1 behind
told slice es packets unit left behind times same tells order are leave =
    let tells_slice : TellTimes slice packets unit.0 left = subst (λ (xs : List ℕ). TellTimes xs packets unit.0 left) (sym same) tells in
    let told_slice : times ≡ times_of_unit slice packets unit = are packets tells_slice in (
      told_slice,
      told_slice ∙ ap (λ (xs : List ℕ). times_of_unit xs packets unit) same,
      subst (λ (xs : List ℕ). TellTimes xs packets unit.1 behind) same (leave packets order tells_slice),
    )

pub next_same : (slice es : List ℕ) (packets : List PlacedPacket) (earlier : List TimedPicture) (unit : ℕ × ℕ) (picture : TimedPicture) → slice ≡ es →
    IsNext slice packets earlier unit picture → IsNext es packets earlier unit picture
next_same slice es packets earlier unit picture same next = subst (λ (xs : List ℕ). IsNext xs packets earlier unit picture) same next

pub broken_same : (slice es : List ℕ) (before last : Option TimedPicture) (unit : ℕ × ℕ) (refusal : Refusal) (at : ℕ) → slice ≡ es → before ≡ last → IsBroken slice before unit refusal at →
    IsBroken es last unit refusal at
broken_same slice es before last unit refusal at same is broken =
    subst (λ (b : Option TimedPicture). IsBroken es b unit refusal at) is (subst (λ (xs : List ℕ). IsBroken xs before unit refusal at) same broken)

pub refused_same : (slice es : List ℕ) (packets : List PlacedPacket) (before last : Option TimedPicture) (unit : ℕ × ℕ) (is_last : Bool) (fault : ProgramFault) → slice ≡ es → before ≡ last →
    (fault ≡ OutOfMemory) ⊎ IsUnitRefused slice packets before unit is_last fault → (fault ≡ OutOfMemory) ⊎ IsUnitRefused es packets last unit is_last fault
refused_same slice es packets before last unit is_last fault same is (inl memory) = inl memory
refused_same slice es packets before last unit is_last fault same is (inr refused) =
    inr (subst (λ (b : Option TimedPicture). IsUnitRefused es packets b unit is_last fault) is (subst (λ (xs : List ℕ). IsUnitRefused xs packets before unit is_last fault) same refused))

pub within_same : (slice es : List ℕ) (end : ℕ) → slice ≡ es → end ≤ length es → end ≤ length slice
within_same slice es end same le = subst (λ (xs : List ℕ). end ≤ length xs) (sym same) le

pub found_none : (es : List ℕ) (packets : List PlacedPacket) (earlier : List TimedPicture) (before : Option TimedPicture) (unit : TimedUnit) (found : Option TimedPicture) → found ≡ None →
    IsFound es packets earlier before unit found → (unit.is_last ≡ true) × (refusal : Refusal) × (at : ℕ) × IsBroken es before (unit.begin, unit.end) refusal at
found_none es packets earlier before unit found none is = subst (λ (f : Option TimedPicture). IsFound es packets earlier before unit f) none is

pub found_some : (es : List ℕ) (packets : List PlacedPacket) (earlier : List TimedPicture) (before : Option TimedPicture) (unit : TimedUnit) (found : Option TimedPicture)
    (picture : TimedPicture) → found ≡ Some picture → IsFound es packets earlier before unit found → IsNext es packets earlier (unit.begin, unit.end) picture
found_some es packets earlier before unit found picture some is = subst (λ (f : Option TimedPicture). IsFound es packets earlier before unit f) some is
