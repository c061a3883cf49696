-- On streams one thing is found first, or nothing.
use Rattle.std.proofs.Common.{◌≡◌, ◌⊎◌, inl, inr, ℕ, ◌<◌, List, [], ◌∷◌, Option, Some, None, refl, sym, ap, ◌∙◌, arith}
use Rattle.tstd_model.specs.declared.decoder_input.Arrival.{Arrival}
use Rattle.tstd_model.specs.declared.decoder_input.BufferKind.{BufferKind}
use Rattle.tstd_model.specs.declared.decoder_input.Removal.{Removal}
use Rattle.tstd_model.specs.Decoder.{DecoderBuffer}
use Rattle.tstd_model.specs.declared.fault.TstdFault.{TstdFault}
use Rattle.tstd_model.specs.declared.fault.TstdFault.TheVariants.{Overflow, Late, Old}
use Rattle.tstd_model.specs.Faults.{FaultGoesBefore, IsEarliestFault, IsFirstOrNone, instant_of}
use Rattle.stream_audit.specs.declared.audited_stream.AuditedStream.{AuditedStream}
use Rattle.stream_audit.specs.declared.finding.Finding.{Finding}
use Rattle.stream_audit.specs.Findings.{FindsBy, FindsFirst, FindsOn, finding_of, full_finding}
use Rattle.stream_audit.specs.Findings.FindsOn.{faulty, full, clean}
use Rattle.stream_audit.specs.NeverEmpty.{IsFirstBusy}

-- ---- a decoder

-- neither of two faults at one instant is said before the other
both_ways : (removals : List Removal) (one other : TstdFault) → instant_of removals one ≡ instant_of removals other → FaultGoesBefore one other → FaultGoesBefore other one
    → one ≡ other
both_ways removals (Late m) (Late n) same front back = let number : m ≡ n = omega (arith, front, back) in ap Late number
both_ways removals (Late m) (Overflow at) same front back = absurd back
both_ways removals (Late m) (Old at) same front back = absurd back
both_ways removals (Overflow at) (Late n) same front back = absurd front
both_ways removals (Overflow at) (Overflow to) same front back = ap Overflow same
both_ways removals (Overflow at) (Old to) same front back = absurd back
both_ways removals (Old at) (Late n) same front back = absurd front
both_ways removals (Old at) (Overflow to) same front back = absurd front
both_ways removals (Old at) (Old to) same front back = ap Old same

-- a decoder has one first fault
one_fault : (slot : ℕ) (kind : BufferKind) (arrivals : List Arrival) (removals : List Removal) (one other : TstdFault) → IsEarliestFault slot kind arrivals removals one
    → IsEarliestFault slot kind arrivals removals other → one ≡ other
one_fault slot kind arrivals removals one other a b = by_order (a.first other b.there) (b.first one a.there)
  where
    by_order : (instant_of removals one < instant_of removals other) ⊎ ((instant_of removals one ≡ instant_of removals other) × FaultGoesBefore one other)
        → (instant_of removals other < instant_of removals one) ⊎ ((instant_of removals other ≡ instant_of removals one) × FaultGoesBefore other one) → one ≡ other
    by_order (inl before) (inl after) = absurd (omega (arith, before, after))
    by_order (inl before) (inr after) = let same = after.0 in absurd (omega (arith, before, same))
    by_order (inr before) (inl after) = let same = before.0 in absurd (omega (arith, after, same))
    by_order (inr before) (inr after) = both_ways removals one other before.0 before.1 after.1

one_or_none : (slot : ℕ) (kind : BufferKind) (arrivals : List Arrival) (removals : List Removal) (one other : Option TstdFault) → IsFirstOrNone slot kind arrivals removals one
    → IsFirstOrNone slot kind arrivals removals other → one ≡ other
one_or_none slot kind arrivals removals None None a b = refl
one_or_none slot kind arrivals removals None (Some fault) a b = absurd (a fault b.there)
one_or_none slot kind arrivals removals (Some fault) None a b = absurd (b fault a.there)
one_or_none slot kind arrivals removals (Some one) (Some other) a b = ap Some (one_fault slot kind arrivals removals one other a b)

-- and one first instant at which it hasn't been empty for a second
one_busy : (buffer : DecoderBuffer) (one other : Option ℕ) → IsFirstBusy buffer one → IsFirstBusy buffer other → one ≡ other
one_busy buffer None None a b = refl
one_busy buffer None (Some at) a b = absurd (a at b.0)
one_busy buffer (Some at) None a b = absurd (b at a.0)
one_busy buffer (Some at) (Some to) a b =
    let before = a.1 to b.0 in
    let after = b.1 at a.0 in
    let same : at ≡ to = omega (arith, before, after) in
    ap Some same

-- ---- streams

no_fault : (fault : TstdFault) → Some fault ≡ None → ⊥
no_fault fault is = cc

no_instant : (at : ℕ) → Some at ≡ None → ⊥
no_instant at is = cc

one_on : (slot : ℕ) (stream : AuditedStream) (one other : Option Finding) → FindsOn slot stream one → FindsOn slot stream other → one ≡ other
one_on slot stream one other (faulty fault a is) (faulty same b also) =
    let both : Some fault ≡ Some same = one_or_none slot stream.kind stream.arrivals stream.removals (Some fault) (Some same) a b in
    let faults : fault ≡ same = cc in
    is ∙ ap (λ (f : TstdFault). Some (finding_of stream.pid f)) faults ∙ sym also
one_on slot stream one other (faulty fault a is) (full at none busy also) =
    absurd (no_fault fault (one_or_none slot stream.kind stream.arrivals stream.removals (Some fault) None a none))
one_on slot stream one other (faulty fault a is) (clean none busy also) =
    absurd (no_fault fault (one_or_none slot stream.kind stream.arrivals stream.removals (Some fault) None a none))
one_on slot stream one other (full at none busy is) (faulty fault b also) =
    absurd (no_fault fault (one_or_none slot stream.kind stream.arrivals stream.removals (Some fault) None b none))
one_on slot stream one other (full at none busy is) (full to still never also) =
    let both : Some at ≡ Some to = one_busy _ (Some at) (Some to) busy never in
    let instants : at ≡ to = cc in
    is ∙ ap (λ (n : ℕ). Some (full_finding stream.pid n)) instants ∙ sym also
one_on slot stream one other (full at none busy is) (clean still never also) = absurd (no_instant at (one_busy _ (Some at) None busy never))
one_on slot stream one other (clean none busy is) (faulty fault b also) =
    absurd (no_fault fault (one_or_none slot stream.kind stream.arrivals stream.removals (Some fault) None b none))
one_on slot stream one other (clean none busy is) (full to still never also) = absurd (no_instant to (one_busy _ (Some to) None never busy))
one_on slot stream one other (clean none busy is) (clean still never also) = is ∙ sym also

found_or_none : (slot : ℕ) (stream : AuditedStream) (finding : Finding) → FindsOn slot stream (Some finding) → FindsOn slot stream None → ⊥
found_or_none slot stream finding found none = let both : Some finding ≡ None = one_on slot stream (Some finding) None found none in cc

one_first : (slot : ℕ) (streams : List AuditedStream) (one other : Option Finding) → FindsFirst slot streams one → FindsFirst slot streams other → one ≡ other
one_first slot [] one other a b = a ∙ sym b
one_first slot (stream ∷ streams) None None a b = refl
one_first slot (stream ∷ streams) None (Some finding) a (inl found) = absurd (found_or_none slot stream finding found a.0)
one_first slot (stream ∷ streams) None (Some finding) a (inr later) = one_first slot streams None (Some finding) a.1 later.1
one_first slot (stream ∷ streams) (Some finding) None (inl found) b = absurd (found_or_none slot stream finding found b.0)
one_first slot (stream ∷ streams) (Some finding) None (inr later) b = one_first slot streams (Some finding) None later.1 b.1
one_first slot (stream ∷ streams) (Some finding) (Some other) (inl a) (inl b) = one_on slot stream (Some finding) (Some other) a b
one_first slot (stream ∷ streams) (Some finding) (Some other) (inl a) (inr b) = absurd (found_or_none slot stream finding a b.0)
one_first slot (stream ∷ streams) (Some finding) (Some other) (inr a) (inl b) = absurd (found_or_none slot stream other b a.0)
one_first slot (stream ∷ streams) (Some finding) (Some other) (inr a) (inr b) = one_first slot streams (Some finding) (Some other) a.1 b.1

-- a program has one first finding
pub one_finding : (slot pid : ℕ) (off : Option ℕ) (streams : List AuditedStream) (one other : Option Finding) → FindsBy slot pid off streams one → FindsBy slot pid off streams other
    → one ≡ other
one_finding slot pid (Some at) streams one other a b = a ∙ sym b
one_finding slot pid None streams one other a b = one_first slot streams one other a b
