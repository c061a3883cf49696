-- Slices of a version, written macroblock by macroblock.
use Rattle.std.proofs.Common.{◌≡◌, ◌==◌, ◌&&◌, ◌⊎◌, ℕ, ◌+◌, ◌-◌, ◌%◌, ◌<◌, ◌^◌, List, [], ◌∷◌, ◌++◌, Option, Some, IfSome, Result, Ok, Err, OnOk, Bool, true, false, not, is_err, refl, sym, ◌∙◌, ap, ap₂, subst, inl, inr, arith, length, replicate, append_assoc}
use Rattle.std.specs.List.{flat_map}
use Rattle.std.specs.Option.{option_to_list}
use Rattle.std.proofs.lemmas.Bool.{eq-eqb, ne_eqb}
use Rattle.std.proofs.lemmas.Grind.{flat_map-append}
use Rattle.std.proofs.lemmas.List.{length-append, map-append}
use Rattle.shelf_io.specs.declared.fault.Fault.{Fault}
use Rattle.shelf_io.specs.Sink.{Told}
use Rattle.bit_lists.specs.Bits.{bits_of}
use Rattle.bit_cursor.specs.declared.bit_writer.BitWriter.{BitWriter}
use Rattle.bit_cursor.specs.BitWriter.{AddsBits, Gets, Writes, told_by, waiting_in, zeros_to_byte}
use Rattle.bit_cursor.proofs.Composed.{gets_whole}
use Rattle.syntax_types.specs.declared.macroblock.Macroblock.{Macroblock}
use Rattle.syntax_types.specs.declared.picture.PicCoding.{PicCoding}
use Rattle.syntax_types.specs.declared.picture.SeqState.{SeqState}
use Rattle.syntax_types.specs.declared.slice.SliceInfo.{SliceInfo}
use Rattle.stream_constants.specs.declared.start_codes.TheConstants.{FIRST_SLICE}
use Rattle.picture_grammar.specs.Grammar.Next.{more, last}
use Rattle.picture_grammar.specs.Slice.{ClosesSlice, next_macroblock}
use Rattle.picture_grammar.specs.StartCode.{start_code_bits}
use Rattle.picture_grammar.specs.Written.{written_macroblock, written_slice, written_slice_info}
use Rattle.macroblock_reader.specs.declared.head.SliceHead.{SliceHead}
use Rattle.macroblock_reader.specs.declared.cursor.SliceCursor.{SliceCursor}
use Rattle.macroblock_reader.specs.SliceCursor.{StandsBehind}
use Rattle.macroblock_reader.specs.SliceHead.{slice_head}
use Rattle.requantiser.specs.declared.version_state.VersionState.{VersionState}
use Rattle.requantiser.specs.Steps.{AreSteps, IsStep, Step, made_by, state_behind, taken_by}
use Rattle.requantiser.proofs.Steps.{one-more-step}
use Rattle.macroblock_writer.specs.Private.Going.{GoesOn}
use Rattle.macroblock_writer.proofs.WritableSlices.{info_fits}
use Rattle.macroblock_writer.specs.Private.WholeSlices.{written_whole_slice}
use Rattle.version_maker.specs.Private.Making.{AreInOrder}
use Rattle.version_maker.proofs.Counts.{made-more}
use Rattle.macroblock_writer.proofs.WritableSlices.{info_fits}

-- ---- bits that were put

module _ {K : Type 0} {written : K → Told} where
  -- a call that ended well, whose answer was turned into one that says no less
  pub goes-from : {T : Type 0} {faults : K → ℕ} {keeps : K → K → Type 0} {a b : BitWriter K} {xs : List ℕ} (r : Result T Fault) → false ≡ is_err r → Writes written faults keeps a b r xs
      → GoesOn written a b xs
  goes-from (Ok x) same call = record { puts = call.ok; goes = call.stopped; same_sink = call.same_sink }
  goes-from (Err f) same call = absurd (let e : false ≡ true = same in cc)

  pub goes-when : {T U E : Type 0} {faults : K → ℕ} {keeps : K → K → Type 0} {a b : BitWriter K} {xs : List ℕ} (r : Result T Fault) (q : Result U E) → is_err q ≡ is_err r
      → Writes written faults keeps a b r xs → OnOk q (GoesOn written a b xs)
  goes-when r (Ok y) same call = goes-from r same call
  goes-when r (Err e) same call = tt

  -- what was put by a writer in which nothing waited and that was finished
  pub goes-finished : {U : Type 0} {a b : BitWriter K} {bits : List ℕ} {told : Told} (r : Result U Fault) (out : K) {last : K} → false ≡ is_err r → told_by written a ≡ told → waiting_in a ≡ []
      → GoesOn written a b bits → OnOk r (Gets (told_by written b) (written out) (waiting_in b) [] []) → last ≡ out → AddsBits told (written last) bits
  goes-finished {a} {b} {bits} (Ok x) out same start none goes ends back =
      rw (← start, back) (gets_whole (subst (λ (waited : List ℕ). Gets (told_by written a) (told_by written b) waited bits (waiting_in b)) none goes.puts) ends)
  goes-finished (Err e) out same start none goes ends back = absurd (let h : false ≡ true = same in cc)

module _ {K : Type 0} {written : K → Told} where
  pub finished-when : {T U E : Type 0} {a b : BitWriter K} {bits : List ℕ} {told : Told} (r : Result T Fault) (q : Result U E) (out : K) {last : K} → is_err q ≡ is_err r → told_by written a ≡ told
      → waiting_in a ≡ [] → GoesOn written a b bits → OnOk r (Gets (told_by written b) (written out) (waiting_in b) [] []) → last ≡ out → OnOk q (AddsBits told (written last) bits)
  finished-when r (Ok y) out same start none goes ends back = goes-finished r out same start none goes ends back
  finished-when r (Err e) out same start none goes ends back = tt

pub on_ok-when : {T U E F : Type 0} (P : Type 0) (r : Result T E) (q : Result U F) → is_err q ≡ is_err r → OnOk r P → OnOk q P
on_ok-when P (Ok x) (Ok y) same p = p
on_ok-when P (Err f) (Ok y) same p = absurd (let e : false ≡ true = same in cc)
on_ok-when P r (Err e) same p = tt

-- ---- macroblocks one after the other

pub taken-more : (steps : List Step) (step : Step) (from : Macroblock) → step.from ≡ from → taken_by (steps ++ step ∷ []) ≡ taken_by steps ++ from ∷ []
taken-more steps step from same = map-append (λ (s : Step). s.from) steps (step ∷ []) ∙ ap (λ (m : Macroblock). taken_by steps ++ m ∷ []) same

pub written-more : (coding : PicCoding) (steps : List Step) (step : Step)
    → flat_map (written_macroblock coding) (made_by steps) ++ flat_map (written_macroblock coding) (option_to_list step.made) ≡ flat_map (written_macroblock coding) (made_by (steps ++ step ∷ []))
written-more coding steps step =
    sym (ap (flat_map (written_macroblock coding)) (made-more steps step) ∙ flat_map-append (written_macroblock coding) (made_by steps) (option_to_list step.made))

module _ (seq : SeqState) (coding : PicCoding) where
  -- where the slice ends its bits close it
  pub closes-last : (ms : List Macroblock) (bits rest : List ℕ) → (next_macroblock seq coding ms).Spells (last tt) bits rest → ClosesSlice bits
  closes-last [] bits rest (x, end, s, (e, f)) = absurd (let e' : last tt ≡ more x = e in cc)
  closes-last (b ∷ bs) bits rest (inl (closes, s)) = closes
  closes-last (b ∷ bs) bits rest (inr (going, (x, end, s, (e, f)))) = absurd (let e' : last tt ≡ more x = e in cc)

  module _ (start : VersionState) where
    pub none-in-order : (bits : List ℕ) → AreInOrder seq coding start [] bits
    none-in-order bits = (λ closes. tt, λ going count beyond. tt)

    -- before one more macroblock
    open-before : (ms : List Macroblock) (m : Macroblock) (steps : List Step) (bits rest : List ℕ) (count : ℕ) → length ms ≡ length steps → (next_macroblock seq coding ms).Spells (more m) bits rest
        → AreInOrder seq coding start steps bits → length steps < count → AreSteps seq coding count 0 start steps
    open-before [] m [] bits rest count same spelled order less = tt
    open-before [] m (s ∷ ss) bits rest count same spelled order less = absurd (omega (arith, same))
    open-before (b ∷ bs) m steps bits rest count same (inl (closes, (e, f))) order less = absurd (let e' : more m ≡ last tt = e in cc)
    open-before (b ∷ bs) m steps bits rest count same (inr (going, s)) order less = order.1 going count less

    later-count : (steps : List Step) (step : Step) → length (steps ++ step ∷ []) ≡ length steps + 1
    later-count steps step = length-append steps (step ∷ [])

    -- with one more macroblock
    pub one-more-in-order : (steps : List Step) (step : Step) (ms : List Macroblock) (m : Macroblock) (bits rest : List ℕ) (inner is_last : Bool) → length ms ≡ length steps
        → (next_macroblock seq coding ms).Spells (more m) bits rest → AreInOrder seq coding start steps bits → (is_last ≡ true → ClosesSlice rest) → (is_last ≡ false → ClosesSlice rest → ⊥)
        → inner ≡ (not (length steps == 0) && not is_last) → IsStep seq coding inner (state_behind start steps) step → AreInOrder seq coding start (steps ++ step ∷ []) rest
    one-more-in-order steps step ms m bits rest inner true same spelled order closed going is_inner is =
        let count : ℕ = length (steps ++ step ∷ []) in
        let last_one : (length steps + 1 == count) ≡ true = eq-eqb (length steps + 1) count (sym (later-count steps step)) in
        let here : IsStep seq coding (not (length steps == 0) && not (length steps + 1 == count)) (state_behind start steps) step =
        subst (λ (b : Bool). IsStep seq coding (not (length steps == 0) && not b) (state_behind start steps) step) (sym last_one)
        (subst (λ (b : Bool). IsStep seq coding b (state_behind start steps) step) is_inner is) in (
          λ closes.
              one-more-step seq coding count start steps step (open-before ms m steps bits rest count same spelled order (omega (arith, later-count steps step))) here,
          λ others. absurd (others (closed refl)),
        )
    one-more-in-order steps step ms m bits rest inner false same spelled order closed going is_inner is = (
      λ closes. absurd (going refl closes),
      λ others count beyond.
          let before : length steps + 1 < count = omega (arith, beyond, later-count steps step) in
          let not_last : (length steps + 1 == count) ≡ false = ne_eqb (length steps + 1) count (λ e. absurd (omega (arith, e, before))) in
          let here : IsStep seq coding (not (length steps == 0) && not (length steps + 1 == count)) (state_behind start steps) step =
          subst (λ (b : Bool). IsStep seq coding (not (length steps == 0) && not b) (state_behind start steps) step) (sym not_last)
          (subst (λ (b : Bool). IsStep seq coding b (state_behind start steps) step) is_inner is) in
          one-more-step seq coding count start steps step (open-before ms m steps bits rest count same spelled order (omega (arith, before))) here,
    )

-- ---- the head of a slice

pub head-fits : (head : SliceHead) (bits rest : List ℕ) → slice_head.Spells head bits rest → IfSome head.info (λ info. info.reserved < 2 ^ 7)
head-fits head bits rest (code, m, s, (info, m', (extended, m'', s', t), (e, f))) =
    subst (λ (found : Option SliceInfo). IfSome found (λ info. info.reserved < 2 ^ 7)) (ap (λ (h : SliceHead). h.info) (sym e)) (info_fits extended info m'' m' t)

-- ---- a whole slice

-- its parts as they are written, up to a whole byte
pub whole-slice : (coding : PicCoding) (row code odd : ℕ) (info : Option SliceInfo) (macroblocks : List Macroblock)
    → odd ≡ length (start_code_bits (row + FIRST_SLICE) ++ (bits_of 5 code ++ written_slice_info info) ++ flat_map (written_macroblock coding) macroblocks) % 8
    → ((start_code_bits (row + FIRST_SLICE) ++ (bits_of 5 code ++ written_slice_info info)) ++ flat_map (written_macroblock coding) macroblocks) ++ zeros_to_byte odd
    ≡ written_whole_slice coding (record { row = row; code = code; info = info; macroblocks = macroblocks })
unfolding written_slice
whole-slice coding row code odd info macroblocks is =
    let front : List ℕ = start_code_bits (row + FIRST_SLICE) in
    let head : List ℕ = bits_of 5 code ++ written_slice_info info in
    let behind : List ℕ = flat_map (written_macroblock coding) macroblocks in
    let all : (front ++ head) ++ behind ≡ front ++ (head ++ behind) = append_assoc front head behind in
    ap₂ (λ (xs : List ℕ) (n : ℕ). xs ++ replicate {A = ℕ} ((8 - n) % 8) 0) all (is ∙ ap (λ (xs : List ℕ). length xs % 8) all)

-- ---- whether the slice is closed

-- some macroblock was read, so that the cursor isn't before the first one
pub later-state : (steps : List Step) (step : Step) → false ≡ (length (steps ++ step ∷ []) == 0)
later-state steps step = sym (ne_eqb (length (steps ++ step ∷ [])) 0 (λ e. absurd (omega (arith, e, length-append steps (step ∷ [])))))

-- what is said of the bits that are left, where they are told
pub closing-kept : (seq : SeqState) (ms : List Macroblock) (m : Macroblock) (cursor : SliceCursor) (is_last : Bool) (left : Option (List ℕ)) (rest : List ℕ) → left ≡ Some rest
    → (is_last ≡ true → (cursor.first ≡ false) × IfSome left ClosesSlice) → (is_last ≡ false → (cursor.first ≡ true) ⊎ IfSome left (λ bits. ClosesSlice bits → ⊥))
    → StandsBehind seq (ms ++ m ∷ []) cursor → (is_last ≡ true → ClosesSlice rest) × (is_last ≡ false → ClosesSlice rest → ⊥)
closing-kept seq ms m cursor is_last left rest told closed going stands = (
  λ is. subst (λ (o : Option (List ℕ)). IfSome o ClosesSlice) told (closed is).1,
  λ is. by_case (going is),
)
  where
    by_case : (cursor.first ≡ true) ⊎ IfSome left (λ bits. ClosesSlice bits → ⊥) → ClosesSlice rest → ⊥
    by_case (inl first) closes =
        let behind : (length (ms ++ m ∷ []) == 0) ≡ false = ne_eqb (length (ms ++ m ∷ [])) 0 (λ e. absurd (omega (arith, e, length-append ms (m ∷ [])))) in
        let never : true ≡ false = sym first ∙ stands.first ∙ behind in
        cc
    by_case (inr others) closes = subst (λ (o : Option (List ℕ)). IfSome o (λ bits. ClosesSlice bits → ⊥)) told others closes
