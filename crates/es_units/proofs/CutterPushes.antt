-- What a cutter has cut behind more bytes.
use Rattle.std.proofs.Common.{◌≡◌, ℕ, ◌+◌, ◌-◌, ◌<◌, ◌≤◌, false, List, [], ◌∷◌, ◌++◌, length, take, drop, Option, Some, None, IfSome, if◌then◌else◌, refl, sym, ap, subst, ◌∙◌, arith}
use Rattle.std.proofs.lemmas.List.{append-nil, append_assoc, length-append, length-take, take-append-drop, take_rest}
use Rattle.es_units.specs.declared.cut_state.CutState.{CutState}
use Rattle.es_units.specs.declared.unit_cutter.UnitCutter.{UnitCutter}
use Rattle.es_units.specs.StartCodes.{is_start_code_at, start_code_at}
use Rattle.es_units.specs.UnitCutter.{HasCut, KeepsEnded, ended_from, ended_of, open_bytes, front_from}
use Rattle.es_units.specs.CutUpTo.{HasUnits, IsCutUpTo}
use Rattle.es_units.specs.Private.CutState.{cuts_by, ended_by, begin_by, state_by, kept_behind, kept_passed}
use Rattle.es_units.proofs.CutterKeeps.{IsKept, take_sum, kept_more, kept_few, code_bytes, kept_behind_code}
use Rattle.es_units.proofs.CutterSteps.{cut_one}
use Rattle.es_units.proofs.FrontCodes.{behind_none, joint_is, joint_code, joint_place, joint_list, tail_more, like_is, like_code, like_front}
use Rattle.es_units.proofs.Fronts.{cut_moved, cut_quiet, cut_all, cut_final}

-- what is known of the cuts, the bytes and the end of a stream is all that is asked
pub has_cut : (es : List ℕ) (given : List (ℕ × ℕ)) (cutter : UnitCutter) → cutter.pushed ≡ length es → 4 ≤ cutter.most
    → open_bytes cutter ≡ front_from cutter.most es cutter.cut.begin → KeepsEnded cutter.most es given cutter.ended cutter.cut.begin cutter.kept.items
    → cutter.tail ≡ drop (length es) (behind_none es) → IsCutUpTo es (length es - 3) given cutter.cut → HasCut es given cutter
has_cut es given cutter count room opened ended tail cut = record {
  final = λ more. cut_final (es ++ more) (length es - 3) given cutter.cut (omega (arith, length-append es more)) (cut_moved es more (length es - 3) given cutter.cut (λ k u. omega arith) cut);
  all = cut_all es (length es - 3) given cutter.cut refl cut;
  count = count;
  room = room;
  opened = opened;
  ended = ended;
  tail = tail;
  cut = cut;
}

begun_within : (es : List ℕ) (given : List (ℕ × ℕ)) (begin : Option ℕ) (dropped : ℕ) → HasUnits es (length es - 3) given begin dropped → IfSome begin (λ place. place ≤ length es)
begun_within es given None dropped has = tt
begun_within es given (Some begin) dropped has = let less : begin < length es - 3 = has.before in omega arith

-- the bytes that are kept, where no unit has ended
still_open : (cutter : UnitCutter) (front : List ℕ) → cutter.ended ≡ None → open_bytes cutter ≡ front → cutter.kept.items ≡ front
still_open cutter front none is = let e : open_bytes cutter ≡ cutter.kept.items = rw none refl in sym e ∙ is

open_still : (cutter : UnitCutter) (front : List ℕ) → cutter.ended ≡ None → cutter.kept.items ≡ front → open_bytes cutter ≡ front
open_still cutter front none is = let e : open_bytes cutter ≡ cutter.kept.items = rw none refl in e ∙ is

-- another unit than the open one isn't kept
none_ended : (most : ℕ) (es : List ℕ) (given : List (ℕ × ℕ)) (ended begin : Option ℕ) (kept : List ℕ) → ended ≡ None → KeepsEnded most es given ended begin kept
none_ended most es given ended begin kept none = subst (λ (from : Option ℕ). KeepsEnded most es given from begin kept) (sym none) tt

-- ---- the open unit is gone on with

pub goes_on : (es : List ℕ) (given : List (ℕ × ℕ)) (old new : UnitCutter) → HasCut es given old → new.ended ≡ None → new.kept.items ≡ open_bytes old
    → new.most ≡ old.most → new.pushed ≡ old.pushed → new.tail ≡ old.tail → new.cut ≡ old.cut → HasCut es given new
goes_on es given old new has none kept most pushed tail cut =
    has_cut es given new (pushed ∙ has.count) (rw most has.room)
    (open_still new (front_from new.most es new.cut.begin) none (kept ∙ has.opened ∙ rw (most, cut) refl))
    (none_ended new.most es given new.ended new.cut.begin new.kept.items none) (tail ∙ has.tail)
    (subst (IsCutUpTo es (length es - 3) given) (sym cut) has.cut)

-- ---- bytes are taken

-- what is the same behind them, whatever they are
pub record TakesBytes (old new : UnitCutter) (bytes : List ℕ) : Type 0 where
  pub kept : length old.kept.items ≤ old.most → new.kept.items ≡ kept_behind old.most old.cut.begin old.kept.items bytes
  pub tail : new.tail ≡ drop (length bytes) (old.tail ++ bytes)
  pub pushed : new.pushed ≡ old.pushed + length bytes
  pub most : new.most ≡ old.most
  pub cut : new.cut ≡ old.cut
  pub ended : new.ended ≡ old.ended

module _ (es : List ℕ) (given : List (ℕ × ℕ)) (old new : UnitCutter) (bytes : List ℕ) (has : HasCut es given old) (none : old.ended ≡ None) (takes : TakesBytes old new bytes) where
  pub bytes_kept : new.kept.items ≡ front_from old.most (es ++ bytes) old.cut.begin
  bytes_kept =
      let was : old.kept.items ≡ front_from old.most es old.cut.begin = still_open old (front_from old.most es old.cut.begin) none has.opened in
      takes.kept (omega (arith, ap length was, kept_few old.most es old.cut.begin))
      ∙ ap (λ (kept : List ℕ). kept_behind old.most old.cut.begin kept bytes) was
      ∙ kept_more old.most es bytes old.cut.begin (begun_within es given old.cut.begin old.cut.dropped has.cut.has)

  pub bytes_tail : new.tail ≡ drop (length (es ++ bytes)) (behind_none (es ++ bytes))
  bytes_tail = takes.tail ∙ ap (λ (tail : List ℕ). drop (length bytes) (tail ++ bytes)) has.tail ∙ sym (tail_more es bytes)

  pub bytes_pushed : new.pushed ≡ length (es ++ bytes)
  bytes_pushed = omega (arith, takes.pushed, has.count, length-append es bytes)

  pub bytes_moved : IsCutUpTo (es ++ bytes) (length es - 3) given old.cut
  bytes_moved = cut_moved es bytes (length es - 3) given old.cut (λ k u. omega arith) has.cut

  -- no start code ends with them
  pub takes_all : ((at : ℕ) → is_start_code_at (old.tail ++ bytes) at ≡ false) → HasCut (es ++ bytes) (given ++ ended_of new) new
  takes_all no_code =
      let all = es ++ bytes in
      let still : new.ended ≡ None = takes.ended ∙ none in
      let no_unit : ended_of new ≡ [] = rw still refl in
      let size : length all ≡ length es + length bytes = length-append es bytes in
      let joint : old.tail ++ bytes ≡ drop (length es) (behind_none all) = ap (λ (tail : List ℕ). tail ++ bytes) has.tail ∙ joint_list es bytes in
      let quiet : (k : ℕ) → length es - 3 ≤ k → k < length all - 3 → is_start_code_at all k ≡ false = λ k b u.
      sym (joint_is all (length es) (k + 3 - length es) k (omega arith)) ∙ ap (λ (xs : List ℕ). is_start_code_at xs (k + 3 - length es)) (sym joint) ∙ no_code (k + 3 - length es) in
      let cut : IsCutUpTo all (length all - 3) given old.cut = cut_quiet all (length es - 3) (length all - 3) (omega arith) quiet given old.cut bytes_moved in
      subst (λ (units : List (ℕ × ℕ)). HasCut all units new) (sym (ap (λ (units : List (ℕ × ℕ)). given ++ units) no_unit ∙ append-nil given))
      (has_cut all given new bytes_pushed (rw takes.most has.room)
      (open_still new (front_from new.most all new.cut.begin) still (bytes_kept ∙ rw (takes.most, takes.cut) refl))
      (none_ended new.most all given new.ended new.cut.begin new.kept.items still) bytes_tail
      (subst (IsCutUpTo all (length all - 3) given) (sym takes.cut) cut))

-- ---- a start code is passed

-- what comes of one that ends with the bytes that were taken
pub record PassesCode (old new : UnitCutter) (value : ℕ) : Type 0 where
  pub cut : new.cut ≡ state_by old.cut (old.pushed - 4) value
  pub ended : new.ended ≡ ended_by old.cut value
  pub start : new.start ≡ 0 ∷ 0 ∷ 1 ∷ value ∷ []
  pub kept : new.kept.items ≡ kept_passed new.ended (old.pushed - 4) old.cut.begin new.cut.begin old.kept.items new.start
  pub most : new.most ≡ old.most
  pub pushed : new.pushed ≡ old.pushed
  pub tail : new.tail ≡ old.tail

-- the same by what was known before the bytes
pub record IsPassed (all : List ℕ) (at value room : ℕ) (state : CutState) (new : UnitCutter) : Type 0 where
  pub cut : new.cut ≡ state_by state at value
  pub ended : new.ended ≡ (if cuts_by state value then state.begin else None)
  pub start : new.start ≡ 0 ∷ 0 ∷ 1 ∷ value ∷ []
  pub kept : new.kept.items ≡ kept_passed (if cuts_by state value then state.begin else None) at state.begin (begin_by state.begin (cuts_by state value) at value)
      (front_from room all state.begin) (0 ∷ 0 ∷ 1 ∷ value ∷ [])
  pub most : new.most ≡ room
  pub pushed : new.pushed ≡ length all
  pub tail : new.tail ≡ drop (length all) (behind_none all)

passed_has : (all : List ℕ) (given : List (ℕ × ℕ)) (from at value most : ℕ) (state : CutState) (new : UnitCutter) → IsPassed all at value most state new → 4 ≤ most
    → length all ≡ at + 4 → start_code_at all at ≡ Some value → from ≤ at → ((k : ℕ) → from ≤ k → k < at → is_start_code_at all k ≡ false)
    → IsCutUpTo all from given state → HasCut all (given ++ ended_of new) new
passed_has all given from at value most state new passed room size code le quiet cut =
    let next = state_by state at value in
    let ended : Option ℕ = if cuts_by state value then state.begin else None in
    let keeps : IsKept most all at value given room (code_bytes all at value code size) next.begin ended new.kept.items (0 ∷ 0 ∷ 1 ∷ value ∷ []) =
    subst (λ (kept : List ℕ). IsKept most all at value given room (code_bytes all at value code size) next.begin ended kept (0 ∷ 0 ∷ 1 ∷ value ∷ [])) (sym passed.kept)
    (kept_behind_code most all at value given room (code_bytes all at value code size) state.begin (cuts_by state value)) in
    let place : at + 1 ≡ length all - 3 = omega (arith, size) in
    let here : IsCutUpTo all (length all - 3) (given ++ ended_from ended next.begin) next =
    subst (λ (to : ℕ). IsCutUpTo all to (given ++ ended_from ended next.begin) next) place (cut_one all from at value given state le quiet code cut) in
    has_cut all (given ++ ended_of new) new passed.pushed (rw passed.most room)
    (rw (passed.ended, passed.start, passed.most, passed.cut) keeps.opened)
    (rw (passed.ended, passed.most, passed.cut) keeps.keeps) passed.tail
    (rw (passed.ended, passed.cut) here)

-- a start code is found among the last bytes and a piece, and the bytes up to its end are taken
pub takes_code : (es : List ℕ) (given : List (ℕ × ℕ)) (old mid new : UnitCutter) (piece : List ℕ) (j value : ℕ) → HasCut es given old → old.ended ≡ None
    → j + 3 < length (old.tail ++ piece) → start_code_at (old.tail ++ piece) j ≡ Some value → ((at : ℕ) → at < j → is_start_code_at (old.tail ++ piece) at ≡ false)
    → length old.tail ≡ 3 → TakesBytes old mid (take (j + 1) piece) → PassesCode mid new value
    → HasCut (es ++ take (j + 1) piece) (given ++ ended_of new) new
takes_code es given old mid new piece j value has none within code first long takes passes =
    let bytes = take (j + 1) piece in
    let all = es ++ bytes in
    let rest = drop (j + 1) piece in
    let whole = es ++ piece in
    let tail_size : length (old.tail ++ piece) ≡ length old.tail + length piece = length-append old.tail piece in
    let count : length bytes ≡ j + 1 = omega (arith, length-take (j + 1) piece, tail_size, long, within) in
    let size : length all ≡ length es + (j + 1) = omega (arith, length-append es bytes, count) in
    let joint : old.tail ++ piece ≡ drop (length es) (behind_none whole) = ap (λ (tail : List ℕ). tail ++ piece) has.tail ∙ joint_list es piece in
    let parts : whole ≡ all ++ rest = ap (λ (xs : List ℕ). es ++ xs) (sym (take-append-drop (j + 1) piece)) ∙ sym (append_assoc es bytes rest) in
    let found : start_code_at (drop (length es) (behind_none whole)) j ≡ Some value = ap (λ (xs : List ℕ). start_code_at xs j) (sym joint) ∙ code in
    let far : 3 ≤ length es + j = joint_place whole (length es) j value found in
    let at = length es + j - 3 in
    let here : start_code_at all at ≡ Some value =
    sym (like_code (all ++ rest) at all at (like_front all rest at (omega (arith, size, far)))) ∙ ap (λ (xs : List ℕ). start_code_at xs at) (sym parts)
    ∙ sym (joint_code whole (length es) j at (omega (arith, far))) ∙ found in
    let quiet : (k : ℕ) → length es - 3 ≤ k → k < at → is_start_code_at all k ≡ false = λ k b u.
    sym (like_is (all ++ rest) k all k (like_front all rest k (omega (arith, size, u)))) ∙ ap (λ (xs : List ℕ). is_start_code_at xs k) (sym parts)
    ∙ sym (joint_is whole (length es) (k + 3 - length es) k (omega arith))
    ∙ ap (λ (xs : List ℕ). is_start_code_at xs (k + 3 - length es)) (sym joint) ∙ first (k + 3 - length es) (omega (arith, u, far)) in
    let pushed : mid.pushed ≡ length all = bytes_pushed es given old mid bytes has none takes in
    let place : mid.pushed - 4 ≡ at = omega (arith, pushed, size, far) in
    let cut : new.cut ≡ state_by old.cut at value = passes.cut ∙ rw (takes.cut, place) refl in
    let ended : new.ended ≡ (if cuts_by old.cut value then old.cut.begin else None) = passes.ended ∙ rw takes.cut refl in
    passed_has all given (length es - 3) at value old.most old.cut new (record {
      cut = cut;
      ended = ended;
      start = passes.start;
      kept = passes.kept ∙ rw (ended, place, takes.cut, cut, passes.start, bytes_kept es given old mid bytes has none takes) refl;
      most = passes.most ∙ takes.most;
      pushed = passes.pushed ∙ pushed;
      tail = passes.tail ∙ bytes_tail es given old mid bytes has none takes;
    }) has.room (omega (arith, size, far)) here (omega arith) quiet (bytes_moved es given old mid bytes has none takes)

-- ---- one step behind others of a piece

pub pushed_on : (es : List ℕ) (given : List (ℕ × ℕ)) (old new : UnitCutter) (piece : List ℕ) (count more : ℕ) → old.ended ≡ None → count ≤ length piece
    → HasCut ((es ++ take count piece) ++ take more (take (length piece - count) (drop count piece))) ((given ++ ended_of old) ++ ended_of new) new
    → HasCut (es ++ take (count + more) piece) (given ++ ended_of new) new
pushed_on es given old new piece count more none within has =
    let units : given ++ ended_of old ≡ given = let e : ended_of old ≡ [] = rw none refl in ap (λ (units : List (ℕ × ℕ)). given ++ units) e ∙ append-nil given in
    let bytes : (es ++ take count piece) ++ take more (take (length piece - count) (drop count piece)) ≡ es ++ take (count + more) piece =
    ap (λ (xs : List ℕ). (es ++ take count piece) ++ take more xs) (take_rest piece count)
    ∙ append_assoc es (take count piece) (take more (drop count piece)) ∙ ap (λ (xs : List ℕ). es ++ xs) (take_sum count more piece within) in
    rw (bytes, units) at has
