-- Zero bits to a whole byte, by the place of the reader.
use Rattle.std.proofs.Common.{◌≡◌, ◌+◌, ◌-◌, ◌%◌, ◌==◌, ℕ, List, [], ◌∷◌, ◌++◌, length, Option, Some, None, IfSome, Result, Ok, Err, MatchResult, ap, subst, arith}
use Rattle.std.specs.Option.{option_map}
use Rattle.std.proofs.lemmas.List.{length-append}
use Rattle.shelf_io.specs.declared.source.Source.{Ghosts}
use Rattle.bit_lists.specs.Fields.{bit_list}
use Rattle.bit_lists.proofs.BitLemmas.{length-bits_of}
use Rattle.bit_lists.proofs.ByteLemmas.{length-bit_list}
use Rattle.bit_cursor.specs.declared.bit_reader.BitReader.{BitReader}
use Rattle.bit_cursor.specs.BitReader.{source_of, held_bits, place}
use Rattle.picture_grammar.specs.Refusal.Refusal.{BadHeader}
use Rattle.picture_grammar.specs.Grammar.{at_bits}
use Rattle.picture_grammar.specs.Element.{Rule, uimsbf, rule}
use Rattle.picture_grammar.specs.StartCode.{zero_bits}
use Rattle.grammar_reading.specs.BitsRead.{PlacedRefusal}
use Rattle.video_headers.specs.declared.fault.HeadFault.{HeadFault}
use Rattle.video_headers.specs.HeadFault.{refusal_told}
use Rattle.video_headers.specs.Private.Reading.{Rests, Goes, Stops, Answers}
use Rattle.video_headers.specs.Private.Unread.{bits_to_byte}
use Rattle.video_headers.specs.Private.Wholes.{Wholes}

-- a source gives whole bytes
pub whole-end : {S : Type 0} {g : Ghosts S} (reader : BitReader S g) (end : ℕ) (bits : List ℕ) → Rests reader end bits → end % 8 ≡ 0
whole-end {S} {g} reader end bits left = by_bytes (g.left (source_of reader).now) left.told where
  by_bytes : (told : Option (List ℕ)) → option_map (λ bytes. held_bits reader ++ bit_list bytes) told ≡ Some bits → end % 8 ≡ 0
  by_bytes None e = absurd (let f : None ≡ Some bits = e in cc)
  by_bytes (Some bytes) e =
      let f : Some (held_bits reader ++ bit_list bytes) ≡ Some bits = e in
      let split : held_bits reader ++ bit_list bytes ≡ bits = cc in
      let held = reader.held_taken in
      omega (arith, left.ends, held, ap length split, length-append (held_bits reader) (bit_list bytes), length-bits_of reader.held reader.word, length-bit_list bytes)

module _ (rules : List (Rule ℕ)) {S : Type 0} {g : Ghosts S} (old new : BitReader S g) (n : ℕ) (count : n ≡ (8 - place old % 8) % 8) where
  past_bytes : (end : ℕ) (bits : List ℕ) → Rests old end bits → n ≡ length bits % 8
  past_bytes end bits left = omega (arith, count, left.ends, whole-end old end bits left)

  told_past : (told : Option PlacedRefusal) (end : ℕ) (bits : List ℕ) → n ≡ length bits % 8
      → IfSome told (λ said. (left : List ℕ) × (uimsbf n rules).Refuses bits said.refusal left × (said.at + length left ≡ end))
      → IfSome told (λ said. (left : List ℕ) × (at_bits (λ bits. uimsbf (length bits % 8) rules)).Refuses bits said.refusal left × (said.at + length left ≡ end))
  told_past None end bits e why = tt
  told_past (Some said) end bits e (left, r, ends) = (left, subst (λ (k : ℕ). (uimsbf k rules).Refuses bits said.refusal left) e r, ends)

  gives-past : (result : Result ℕ HeadFault) → MatchResult result (λ v. Goes (uimsbf n rules) v (Rests old) (Rests new)) (λ fault. Stops (uimsbf n rules) (refusal_told fault) (Rests old))
      → MatchResult result (λ v. Goes (at_bits (λ bits. uimsbf (length bits % 8) rules)) v (Rests old) (Wholes new))
      (λ fault. Stops (at_bits (λ bits. uimsbf (length bits % 8) rules)) (refusal_told fault) (Rests old))
  gives-past (Ok v) goes = record {
    on = λ end bits left.
        let e = past_bytes end bits left in
        let (rest, (code, (fits, is), passing, split), left') = goes.on end bits left in (
          rest,
          subst (λ (k : ℕ). (uimsbf k rules).Spells v bits rest) e (code, (fits, is), passing, split),
          record { rests = left'; whole = omega (arith, e, ap length split, length-append code rest, ap length is, length-bits_of n v); ends = whole-end old end bits left },
        );
  }
  gives-past (Err fault) stops = record { why = λ end bits left. told_past (refusal_told fault) end bits (past_bytes end bits left) (stops.why end bits left) }

  answers-past : {result : Result ℕ HeadFault} → Answers (uimsbf n rules) (λ v. v) result (Rests old) (λ v. Rests new) old new
      → Answers (at_bits (λ bits. uimsbf (length bits % 8) rules)) (λ v. v) result (Rests old) (λ v. Wholes new) old new
  answers-past {result} a = record { gives = gives-past result a.gives; runs = a.runs; failed = a.failed; missing = a.missing }

module _ {S : Type 0} {g : Ghosts S} (old new : BitReader S g) (n : ℕ) (count : n ≡ (8 - place old % 8) % 8) where
  pub answers-zeros : {result : Result ℕ HeadFault} → Answers (uimsbf n (rule BadHeader (λ number. number == 0) ∷ [])) (λ v. v) result (Rests old) (λ v. Rests new) old new
      → Answers (zero_bits BadHeader) (λ v. v) result (Rests old) (λ v. Wholes new) old new
  answers-zeros a = answers-past (rule BadHeader (λ number. number == 0) ∷ []) old new n count a

  pub answers-to_byte : {result : Result ℕ HeadFault} → Answers (uimsbf n []) (λ v. v) result (Rests old) (λ v. Rests new) old new
      → Answers bits_to_byte (λ v. v) result (Rests old) (λ v. Wholes new) old new
  answers-to_byte a = answers-past [] old new n count a
