-- A picture as it is read again: that of the source, but for its vbv_delay, with the times of the PES packet that holds it.
use Rattle.std.proofs.Common.{◌≡◌, ℕ, Bool, true, false, List, [], ◌∷◌, map, Option, Some, None, refl, sym, ap, subst, ◌∙◌, ℤ, pos, ◌+ℤ◌}
use Rattle.std.specs.Option.{option_map}
use Rattle.syntax_types.specs.declared.picture.PicCoding.{PicCoding}
use Rattle.syntax_types.specs.declared.picture.SeqState.{SeqState}
use Rattle.pes_units.specs.declared.times.Times.{Times}
use Rattle.picture_heads.proofs.ReadHeads.{without_delay}
use Rattle.program_reader.specs.declared.timed_picture.Role.{Role}
use Rattle.program_reader.specs.declared.timed_picture.Role.TheVariants.{Frame, FirstField, SecondField}
use Rattle.program_reader.specs.declared.timed_picture.TimedPicture.{TimedPicture}
use Rattle.program_reader.specs.Intervals.{CodedPicture, before_frame, begins_reference, is_b, nearest, reference_shown, share_of, shown_as, shown_meanwhile}
use Rattle.program_reader.specs.Units.{IsLater, IsTimed, IsUnpaired, TellsReference, coded_as, state_behind, ticks_behind}
use Rattle.time_laws.proofs.Videos.{before-alike, coded_out, reference-alike, shown-alike}

-- so it is read
abbrev pub again : TimedPicture → Times → TimedPicture
again picture times = record picture { coding = without_delay picture.coding; times = times }

-- earlier pictures, one for each
abbrev pub AreAgain : List TimedPicture → List TimedPicture → Type 0
AreAgain [] [] = Unit {0}
AreAgain (p ∷ ps) (q ∷ qs) = ((times : Times) × (q ≡ again p times)) × AreAgain ps qs
AreAgain ps qs = ⊥

-- ---- decoding intervals don't depend on vbv_delay

all-coded : (ps qs : List TimedPicture) → AreAgain ps qs → map coded_as qs ≡ map coded_out ps
all-coded [] [] are = refl
all-coded [] (q ∷ qs) are = absurd are
all-coded (p ∷ ps) [] are = absurd are
all-coded (p ∷ ps) (q ∷ qs) ((times, is), are) =
    ap (λ (c : CodedPicture). c ∷ map coded_as qs) (ap coded_as is) ∙ ap (λ (cs : List CodedPicture). coded_out p ∷ cs) (all-coded ps qs are)

ticks-again : (p : TimedPicture) (times : Times) → ticks_behind (again p times) ≡ ticks_behind p
ticks-again p times =
    ap (λ (own : ℕ). share_of p.role (shown_meanwhile (is_b p.coding) own p.reference_before p.seq.rate_code) p.seq.rate_code) (shown-alike p.role p.seq p.coding)

-- ---- one picture behind others

pub tells-again : (ps qs : List TimedPicture) (picture : TimedPicture) (times : Times) → AreAgain ps qs → TellsReference ps picture → TellsReference qs (again picture times)
tells-again ps qs picture times are tells = record {
  before = tells.before ∙ sym (before-alike picture.role ps) ∙ sym (ap (λ (cs : List CodedPicture). reference_shown (before_frame picture.role cs)) (all-coded ps qs are));
  behind = tells.behind ∙ sym (reference-alike (picture ∷ ps)) ∙ sym (ap (λ (cs : List CodedPicture). reference_shown (coded_out picture ∷ cs)) (all-coded ps qs are));
}

pub state-again : (ps qs : List TimedPicture) → AreAgain ps qs → state_behind (nearest ps) ≡ state_behind (nearest qs)
state-again [] [] are = refl
state-again [] (q ∷ qs) are = absurd are
state-again (p ∷ ps) [] are = absurd are
state-again (p ∷ ps) (q ∷ qs) ((times, is), are) = ap (λ (picture : TimedPicture). Some picture.seq) (sym is)

pub role-again : (ps qs : List TimedPicture) → AreAgain ps qs → option_map (λ (p : TimedPicture). p.role) (nearest ps) ≡ option_map (λ (p : TimedPicture). p.role) (nearest qs)
role-again [] [] are = refl
role-again [] (q ∷ qs) are = absurd are
role-again (p ∷ ps) [] are = absurd are
role-again (p ∷ ps) (q ∷ qs) ((times, is), are) = ap (λ (picture : TimedPicture). Some picture.role) (sym is)

pub unpaired-again : (ps qs : List TimedPicture) (coding : PicCoding) → AreAgain ps qs → IsUnpaired (nearest qs) (without_delay coding) → IsUnpaired (nearest ps) coding
unpaired-again [] [] coding are unpaired = unpaired
unpaired-again [] (q ∷ qs) coding are unpaired = absurd are
unpaired-again (p ∷ ps) [] coding are unpaired = absurd are
unpaired-again (p ∷ ps) (q ∷ qs) coding ((times, is), are) unpaired = subst (λ (x : TimedPicture). IsUnpaired (Some x) (without_delay coding)) is unpaired

pub later-again : (ps qs : List TimedPicture) (ticks : ℤ) → AreAgain ps qs → IsLater (nearest ps) ticks → IsLater (nearest qs) ticks
later-again [] [] ticks are later = later
later-again [] (q ∷ qs) ticks are later = absurd are
later-again (p ∷ ps) [] ticks are later = absurd are
later-again (p ∷ ps) (q ∷ qs) ticks ((times, is), are) later = subst (λ (x : TimedPicture). IsLater (Some x) ticks) (sym is) later

pub timed-again : (ps qs : List TimedPicture) (time : Option ℕ) (stated ticks : ℤ) → AreAgain ps qs → IsTimed (nearest ps) time stated ticks → IsTimed (nearest qs) time stated ticks
timed-again [] [] time stated ticks are timed = timed
timed-again [] (q ∷ qs) time stated ticks are timed = absurd are
timed-again (p ∷ ps) [] time stated ticks are timed = absurd are
timed-again (p ∷ ps) (q ∷ qs) (Some value) stated ticks ((times, is), are) timed = subst (λ (x : TimedPicture). IsTimed (Some x) (Some value) stated ticks) (sym is) timed
timed-again (p ∷ ps) (q ∷ qs) None stated ticks ((times, is), are) timed =
    subst (λ (x : TimedPicture). IsTimed (Some x) None stated ticks) (sym is) (timed.0, timed.1 ∙ ap (λ (n : ℕ). p.ticks +ℤ pos n) (sym (ticks-again p times)))
