-- The times of a picture are those of the stamp at its place, and stamps are looked up in order.
use Rattle.std.proofs.Common.{◌≡◌, ℕ, suc, ◌+◌, ◌-◌, ◌<◌, ◌≤◌, ◌==◌, Bool, true, false, List, [], ◌∷◌, ◌++◌, length, Option, Some, None, refl, sym, ap, ◌∙◌, subst, inl, inr, arith}
use Rattle.std.specs.List.{find, range_with_len}
use Rattle.std.proofs.lemmas.Bool.{ne_eqb, eq-eqb, cases_eq}
use Rattle.pes_units.specs.declared.times.Times.{Times}
use Rattle.audio_frames.proofs.Places.{found_passes}
use Rattle.ts_demux.specs.declared.demuxed.PesUnit.{PesUnit}
use Rattle.elementary_streams.specs.declared.pes_packets.PlacedPacket.{PlacedPacket}
use Rattle.program_reader.specs.declared.picture_times.StampedPicture.{StampedPicture}
use Rattle.elementary_streams.specs.Packets.{pes_payload_of, placed_from}
use Rattle.es_units.specs.Pictures.{begins_picture, first_picture}
use Rattle.program_reader.specs.PictureTimes.{no_times, times_at, times_of_unit}
use Rattle.program_reader.specs.Private.StampedPictures.{stamp_at, stamps_of, times_of_stamp, AreRising, Leaves, LeavesFrom, TellTimes, IsCounted}
use Rattle.program_reader.proofs.PlaceLemmas.{found_from}
use Rattle.elementary_streams.proofs.TakenLemmas.{placed_at}

pub times_stamped : (es : List ℕ) (packets : List PlacedPacket) (at : ℕ) → times_at es packets at ≡ times_of_stamp (stamps_of es packets) at
times_stamped es [] at = refl
times_stamped es (p ∷ ps) at = by_first (first_picture es p.from p.end) refl (times_stamped es ps at)
  where
    by_place : (f : ℕ) (here : Bool) → (f == at) ≡ here → first_picture es p.from p.end ≡ Some f → times_at es ps at ≡ times_of_stamp (stamps_of es ps) at →
        times_at es (p ∷ ps) at ≡ times_of_stamp (stamps_of es (p ∷ ps)) at
    by_place f true is first rest = rw (first, is) refl
    by_place f false is first rest = rw (first, is) rest

    by_first : (first : Option ℕ) → first_picture es p.from p.end ≡ first → times_at es ps at ≡ times_of_stamp (stamps_of es ps) at →
        times_at es (p ∷ ps) at ≡ times_of_stamp (stamps_of es (p ∷ ps)) at
    by_first None is rest = rw is rest
    by_first (Some f) is rest = by_place f (f == at) refl is rest

-- ---- they rise

pub rising_less : (least more : ℕ) (stamps : List StampedPicture) → least ≤ more → AreRising more stamps → AreRising least stamps
rising_less least more [] le rising = tt
rising_less least more (s ∷ ss) le rising = (omega (arith, rising.0), rising.1)

rises : (from end : ℕ) (packet : PlacedPacket) (stamps : List StampedPicture) (place : Option ℕ) → ((at : ℕ) → place ≡ Some at → (from ≤ at) × (at < end)) → from ≤ end →
    AreRising end stamps → AreRising from (stamp_at packet.header.times place ++ stamps)
rises from end packet stamps None bounds le rising = rising_less from end stamps le rising
rises from end packet stamps (Some at) bounds le rising = ((bounds at refl).0, rising_less (at + 1) end stamps (omega (arith, (bounds at refl).1)) rising)

pub within : (test : ℕ → Bool) (from end at : ℕ) → from ≤ end → find test (range_with_len from (end - from)) ≡ Some at → (from ≤ at) × (at < end)
within test from end at le is = (found_from test (end - from) from at is, omega (arith, (found_passes test (end - from) from at is).1))

pub stamps_rise : (es : List ℕ) (from : ℕ) (packets : List PesUnit) → AreRising from (stamps_of es (placed_from from packets))
stamps_rise es from [] = tt
stamps_rise es from (p ∷ ps) =
    let end : ℕ = from + length (pes_payload_of p) in
    rises from end (placed_at from p) (stamps_of es (placed_from end ps)) (first_picture es from end) (λ at is. within (begins_picture es) from end at (omega arith) is) (omega arith)
    (stamps_rise es end ps)

-- ---- a walk over them

no_stamp : (at : ℕ) (stamps : List StampedPicture) → AreRising (at + 1) stamps → times_of_stamp stamps at ≡ no_times
no_stamp at [] rising = refl
no_stamp at (s ∷ ss) rising =
    let apart : (s.at == at) ≡ false = ne_eqb s.at at (λ same. omega (arith, same, rising.0)) in
    rw apart (no_stamp at ss (rising_less (at + 1) (s.at + 1) ss (omega (arith, rising.0)) rising.1))

-- a stamp before a place tells nothing of it
past : (stamp : StampedPicture) (stamps : List StampedPicture) (place : ℕ) → stamp.at < place → times_of_stamp stamps place ≡ times_of_stamp (stamp ∷ stamps) place
past stamp stamps place lt = let apart : (stamp.at == place) ≡ false = ne_eqb stamp.at place (λ same. omega (arith, same, lt)) in rw apart refl

pub leaves_more : (at : ℕ) (all left behind : List StampedPicture) (first : StampedPicture) → left ≡ first ∷ behind → first.at < at → LeavesFrom at all left → LeavesFrom at all behind
leaves_more at all left behind first split lt leaves =
    let rising : AreRising 0 (first ∷ behind) = subst (AreRising 0) split leaves.rising in record {
      same = λ place le. past first behind place (omega (arith, lt, le)) ∙ ap (λ (xs : List StampedPicture). times_of_stamp xs place) (sym split) ∙ leaves.same place le;
      rising = rising_less 0 (first.at + 1) behind (omega arith) rising.1;
      fewer = omega (arith, leaves.fewer, ap (λ (xs : List StampedPicture). length xs) split);
    }

pub leaves_here : (at : ℕ) (all left behind : List StampedPicture) (first : StampedPicture) → left ≡ first ∷ behind → at ≤ first.at → LeavesFrom at all left → Leaves at all left
leaves_here at all left behind first split le leaves =
    let rising : AreRising 0 (first ∷ behind) = subst (AreRising 0) split leaves.rising in
    record { same = leaves.same; rising = subst (AreRising at) (sym split) (le, rising.1); fewer = leaves.fewer }

pub leaves_none : (at : ℕ) (all left : List StampedPicture) → left ≡ [] → LeavesFrom at all left → Leaves at all left
leaves_none at all left none leaves = record { same = leaves.same; rising = subst (AreRising at) (sym none) tt; fewer = leaves.fewer }

-- the stamp at a place is the first one left, or there is none
pub record LooksUp (at : ℕ) (all left : List StampedPicture) (times : Times) : Type 0 where
  pub times_are : times ≡ times_of_stamp all at
  pub leaves : Leaves (at + 1) all left
  pub counted : IsCounted all left times

pub look_here : (at : ℕ) (all left behind : List StampedPicture) (first : StampedPicture) → left ≡ first ∷ behind → first.at ≡ at → Leaves at all left → LooksUp at all behind first.times
look_here at all left behind first split here leaves =
    let rising : AreRising at (first ∷ behind) = subst (AreRising at) split leaves.rising in
    let is : (first.at == at) ≡ true = eq-eqb first.at at here in
    let first_is : times_of_stamp (first ∷ behind) at ≡ first.times = rw is refl in
    let size : length left ≡ suc (length behind) = ap (λ (xs : List StampedPicture). length xs) split in record {
      times_are = sym first_is ∙ ap (λ (xs : List StampedPicture). times_of_stamp xs at) (sym split) ∙ leaves.same at (omega arith);
      leaves = record {
        same = λ place le. past first behind place (omega (arith, here, le)) ∙ ap (λ (xs : List StampedPicture). times_of_stamp xs place) (sym split) ∙ leaves.same place (omega (arith, le));
        rising = rising_less (at + 1) (first.at + 1) behind (omega (arith, here)) rising.1;
        fewer = omega (arith, leaves.fewer, size);
      };
      counted = inl (omega (arith, leaves.fewer, size));
    }

pub look_none : (at : ℕ) (all left : List StampedPicture) → AreRising (at + 1) left → Leaves at all left → LooksUp at all left no_times
look_none at all left rising leaves = record {
  times_are = sym (no_stamp at left rising) ∙ leaves.same at (omega arith);
  leaves = record { same = λ place le. leaves.same place (omega (arith, le)); rising = rising; fewer = leaves.fewer };
  counted = inr (refl, leaves.fewer);
}

pub look_past : (at : ℕ) (all left behind : List StampedPicture) (first : StampedPicture) → left ≡ first ∷ behind → (first.at ≡ at → ⊥) → Leaves at all left → LooksUp at all left no_times
look_past at all left behind first split apart leaves =
    let rising : AreRising at (first ∷ behind) = subst (AreRising at) split leaves.rising in
    let later : at + 1 ≤ first.at = more at first.at rising.0 apart in
    look_none at all left (subst (AreRising (at + 1)) (sym split) (later, rising.1)) leaves
  where
    more : (a b : ℕ) → a ≤ b → (b ≡ a → ⊥) → a + 1 ≤ b
    more a b le apart = elim (cases_eq b a) [
      | inl same ↦ absurd (apart same)
      | inr ne ↦ omega arith
    ]

-- ---- units

pub tells_unit : (es : List ℕ) (packets : List PlacedPacket) (begin end at : ℕ) (stamps : List StampedPicture) (times : Times) → first_picture es begin end ≡ Some at → begin ≤ at →
    TellTimes es packets begin stamps → times ≡ times_of_stamp stamps at → times ≡ times_of_unit es packets (begin, end)
tells_unit es packets begin end at stamps times is le tell are = rw is (are ∙ tell.same at le)

pub tells_none : (es : List ℕ) (packets : List PlacedPacket) (begin end : ℕ) → first_picture es begin end ≡ None → no_times ≡ times_of_unit es packets (begin, end)
tells_none es packets begin end is = rw is refl

pub tells_more : (es : List ℕ) (packets : List PlacedPacket) (begin end at : ℕ) (stamps left : List StampedPicture) → begin ≤ end → begin ≤ at → at < end →
    TellTimes es packets begin stamps → Leaves (at + 1) stamps left → TellTimes es packets end left
tells_more es packets begin end at stamps left order le lt tell leaves = record {
  same = λ place more. leaves.same place (omega (arith, lt, more)) ∙ tell.same place (omega (arith, order, more));
  rising = rising_less 0 (at + 1) left (omega arith) leaves.rising;
}

pub tells_later : (es : List ℕ) (packets : List PlacedPacket) (begin end : ℕ) (stamps : List StampedPicture) → begin ≤ end → TellTimes es packets begin stamps → TellTimes es packets end stamps
tells_later es packets begin end stamps order tell = record { same = λ place more. tell.same place (omega (arith, order, more)); rising = tell.rising }
