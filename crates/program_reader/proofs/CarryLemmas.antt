-- Coded frames counted unit by unit.
use Rattle.std.proofs.Common.{◌≡◌, ℕ, ◌+◌, ◌<◌, ◌==◌, Bool, true, false, not, ◌&&◌, cond, if◌then◌else◌, List, [], ◌∷◌, length, drop, get_or, refl, sym, ap, ◌∙◌, arith}
use Rattle.std.specs.Prelude.{count_by}
use Rattle.std.specs.List.{take_while}
use Rattle.std.proofs.lemmas.List.{drop_more}
use Rattle.std.proofs.lemmas.List.Sums.{sum_by-cons, take_while-cons}
use Rattle.syntax_types.specs.declared.picture.TheConstants.{I_PICTURE, P_PICTURE}
use Rattle.program_reader.specs.declared.program.UnitSource.{UnitSource}
use Rattle.program_reader.specs.Carry.{coded_frames, begins_frame, p_frames}
use Rattle.program_reader.specs.Private.Frames.{begins_i, p_more}

abbrev is_i : UnitSource → Bool
is_i unit = unit.kind == I_PICTURE

abbrev is_p : UnitSource → Bool
is_p unit = unit.kind == P_PICTURE

abbrev passes_i : UnitSource → Bool
passes_i unit = not (is_i unit)

-- one more frame before others
frame-more : (frame : UnitSource) (frames : List UnitSource)
    → count_by is_p (take_while passes_i (frame ∷ frames)) ≡ cond (is_i frame) 0 (cond (is_p frame) 1 0 + count_by is_p (take_while passes_i frames))
frame-more frame frames = ap (count_by is_p) (take_while-cons passes_i frame frames) ∙ by (is_i frame)
  where
    by : (b : Bool) → count_by is_p (cond (not b) (frame ∷ take_while passes_i frames) []) ≡ cond b 0 (cond (is_p frame) 1 0 + count_by is_p (take_while passes_i frames))
    by true = refl
    by false = sum_by-cons (λ (f : UnitSource). cond (is_p f) 1 0) frame (take_while passes_i frames)

none-more : (n : ℕ) → n ≡ 0 + n
none-more n = omega arith

-- one more unit before others
pub unit-more : (unit : UnitSource) (units : List UnitSource) → p_frames (unit ∷ units) ≡ cond (begins_i unit) 0 (p_more unit + p_frames units)
unit-more unit units = by (begins_frame unit.role)
  where
    by : (first : Bool)
        → count_by is_p (take_while passes_i (cond first (unit ∷ coded_frames units) (coded_frames units)))
        ≡ cond (first && is_i unit) 0 ((if first && is_p unit then 1 else 0) + p_frames units)
    by true = frame-more unit (coded_frames units)
    by false = none-more (p_frames units)

-- what is counted up to a unit that doesn't end the group is counted behind it
pub counted-more : (units : List UnitSource) (at : ℕ) (d : UnitSource) (count more total : ℕ) (ends : Bool) → at < length units → ends ≡ begins_i (get_or units at d) → ends ≡ false
    → more ≡ p_more (get_or units at d) → count + p_frames (drop at units) ≡ total → count + more + p_frames (drop (at + 1) units) ≡ total
counted-more units at d count more total ends within ends_is open_still more_is counted =
    let unit = get_or units at d in
    let rest = drop (at + 1) units in
    let same : p_frames (drop at units) ≡ p_more unit + p_frames rest =
    ap p_frames (drop_more units at d within) ∙ unit-more unit rest ∙ ap (λ (b : Bool). cond b 0 (p_more unit + p_frames rest)) (sym ends_is ∙ open_still) in
    omega (arith, same, more_is, counted)
