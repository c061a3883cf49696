-- A unit as a coded picture.
use Rattle.std.proofs.Common.{◌≡◌, ℕ, ◌+◌, ◌/◌, ◌≤◌, Bool, true, false, List, [], Option, None, Some, IfSome, MatchResult, refl, sym, subst, inl, inr}
use Rattle.bit_lists.specs.Fields.{bit_list}
use Rattle.syntax_types.specs.declared.picture.SeqState.{SeqState}
use Rattle.picture_grammar.specs.Picture.{MayPrecede, RefusesPicture}
use Rattle.picture_laws.proofs.SpelledStates.{state-of_unit}
use Rattle.grammar_reading.specs.BitsRead.{PlacedRefusal}
use Rattle.video_headers.specs.declared.head.Headers.{Headers}
use Rattle.picture_reader.specs.Picture.{SpellsHeaders}
use Rattle.elementary_streams.specs.declared.pes_packets.PlacedPacket.{PlacedPacket}
use Rattle.program_reader.specs.declared.timed_picture.TimedPicture.{TimedPicture}
use Rattle.program_reader.specs.declared.unit_picture.TimedUnit.{TimedUnit}
use Rattle.program_reader.specs.Units.{unit_bytes, state_behind, IsCoded, IsUnitRefused}
use Rattle.program_reader.specs.Private.TimedPictures.{IsPossible, IsFound, IsNotFound, broken_answer}

pub may_precede : (before : Option TimedPicture) → IfSome before IsPossible → MayPrecede (state_behind before)
may_precede None possible = tt
may_precede (Some before) possible = possible.state

-- its frame rate is one of Main level
pub rate_of : (before : Option TimedPicture) (state : Option SeqState) (unit : List ℕ) (headers : Headers) → state ≡ state_behind before → IfSome before IsPossible →
    SpellsHeaders state unit headers → (1 ≤ headers.seq.rate_code) × (headers.seq.rate_code ≤ 5)
rate_of before state unit headers is possible found =
    let may : MayPrecede state = subst MayPrecede (sym is) (may_precede before possible) in
    subst (λ (seq : SeqState). (1 ≤ seq.rate_code) × (seq.rate_code ≤ 5)) found.headed.seq
    (state-of_unit state found.picture (bit_list unit) [] may found.whole.spelled).rate_code

pub coded_of : (es : List ℕ) (before : Option TimedPicture) (state : Option SeqState) (unit : ℕ × ℕ) (headers : Headers) → state ≡ state_behind before →
    SpellsHeaders state (unit_bytes es unit) headers → IsCoded es before unit headers.seq headers.coding
coded_of es before state unit headers is found =
    let spelled : SpellsHeaders (state_behind before) (unit_bytes es unit) headers = subst (λ (s : Option SeqState). SpellsHeaders s (unit_bytes es unit) headers) is found in
    record { picture = spelled.picture; whole = spelled.whole; seq_is = spelled.headed.seq; coding_is = spelled.headed.coding }

-- what a unit that is refused is answered by
pub broken_is : (es : List ℕ) (packets : List PlacedPacket) (earlier : List TimedPicture) (before : Option TimedPicture) (unit : TimedUnit) (told : Option PlacedRefusal) →
    IfSome told (λ said. RefusesPicture (state_behind before) (unit_bytes es (unit.begin, unit.end)) said.refusal said.at) →
    MatchResult (broken_answer unit told) (IsFound es packets earlier before unit) (IsNotFound es packets before unit)
broken_is es packets earlier before unit None refused = inl refl
broken_is es packets earlier before unit (Some said) refused = by_last unit.is_last refl
  where
    by_last : (last : Bool) → unit.is_last ≡ last → MatchResult (broken_answer unit (Some said)) (IsFound es packets earlier before unit) (IsNotFound es packets before unit)
    by_last true is = rw is (refl, said.refusal, unit.begin + said.at / 8, record { place = said.at; refused = refused; at_is = refl })
    by_last false is = rw is (inr (IsUnitRefused.broken said.refusal (unit.begin + said.at / 8) refl (record { place = said.at; refused = refused; at_is = refl }) refl))
