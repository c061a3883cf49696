-- The end of a head, and what a reader of one says.
use Rattle.std.proofs.Common.{◌≡◌, ℕ, ◌+◌, ◌*◌, ◌/◌, ◌%◌, List, ◌++◌, length, Option, Some, None, IfSome, IfOk, IfErr, Result, Ok, Err, Bool, true, false, refl, sym, ap, subst, ◌∙◌, arith}
use Rattle.std.proofs.lemmas.List.{length-append}
use Rattle.shelf_io.specs.declared.source.Source.{Ghosts}
use Rattle.bit_cursor.specs.declared.bit_reader.BitReader.{BitReader}
use Rattle.bit_cursor.specs.BitReader.{bits_left, place}
use Rattle.syntax_types.specs.declared.picture.SeqState.{SeqState}
use Rattle.syntax_types.specs.declared.picture.PicCoding.{PicCoding}
use Rattle.picture_grammar.specs.Refusal.Refusal.{BadHeader}
use Rattle.picture_grammar.specs.Grammar.{Grammar, ahead}
use Rattle.picture_grammar.specs.StartCode.{start_code}
use Rattle.stream_constants.specs.SliceCodes.{is_slice}
use Rattle.picture_grammar.specs.Head.{head}
use Rattle.picture_grammar.proofs.HeaderLaws.{exact-head}
use Rattle.grammar_reading.specs.BitsRead.{PlacedRefusal, Explains, ExplainsFrom}
use Rattle.video_headers.specs.declared.code.NextCode.{NextCode}
use Rattle.video_headers.specs.declared.fault.HeadFault.{HeadFault}
use Rattle.video_headers.specs.declared.head.HeadEnd.{HeadEnd}
use Rattle.video_headers.specs.declared.why.Why.TheVariants as why
use Rattle.video_headers.specs.HeadFault.{refusal_told}
use Rattle.video_headers.specs.HeadRead.{HeadRead}
use Rattle.video_headers.specs.Private.BehindHead.{BehindHead}
use Rattle.video_headers.specs.Private.NextCode.{NextRests, is_one, byte_of, refused_code}
use Rattle.video_headers.specs.Private.Reading.{Rests, Answers}
use Rattle.video_headers.specs.Private.Wholes.{Wholes}
use Rattle.video_headers.proofs.NextCodes.{code-spelled, code-unexpected}
use Rattle.video_headers.proofs.Reading.{runs-none}
use Rattle.video_headers.proofs.WholeBytes.{whole-end}

module _ (next : NextCode) {S : Type 0} {g : Ghosts S} (reader : BitReader S g) (itself : (x : S) → g.keeps x x) where
  pub slice-ahead : is_one is_slice next.comes ≡ true → Answers (ahead (start_code BadHeader is_slice)) (λ (b : ℕ). b) (Ok (byte_of next.comes))
      (NextRests next reader) (λ b. NextRests next reader) reader reader
  slice-ahead is = record {
    gives = record {
      on = λ end bits n. (bits, (refl, n.coming.behind, code-spelled is_slice n.zeros n.here bits n.coming.behind n.spelled BadHeader next.comes n.coming.found is), n);
    };
    runs = runs-none reader itself;
    failed = λ is. cc;
    missing = λ is. cc;
  }

  pub no-slice : is_one is_slice next.comes ≡ false → (e : HeadFault) → e ≡ refused_code next.comes why.BadHeader next.at
      → Answers (ahead (start_code BadHeader is_slice)) (λ (b : ℕ). b) (Err e) (NextRests next reader) (λ b. NextRests next reader) reader reader
  no-slice not e is =
      let a = code-unexpected is_slice next reader itself why.BadHeader 1 (omega arith) refl not e is in
      record { gives = record { why = a.gives.why }; runs = a.runs; failed = a.failed; missing = a.missing }

  pub behind-head : is_one is_slice next.comes ≡ true → (seq : SeqState) (coding : PicCoding) (slice : ℕ) → slice ≡ byte_of next.comes → (end : ℕ) (bits : List ℕ) → NextRests next reader end bits
      → BehindHead (record { headers = record { seq = seq; coding = coding; slices_at = next.from / 8 }; first_slice = slice }) reader end bits
  behind-head is seq coding slice e end bits n = record {
    behind = n.coming.behind;
    slice = subst (λ (b : ℕ). (start_code BadHeader is_slice).Spells b bits n.coming.behind) (sym e)
        (code-spelled is_slice n.zeros n.here bits n.coming.behind n.spelled BadHeader next.comes n.coming.found is);
    left = n.coming.left;
    size = omega (arith, n.total, n.whole, n.coming.left.ends);
  }

-- ---- a reader at its first bit

module _ (before : Option SeqState) {S : Type 0} {g : Ghosts S} (old new : BitReader S g) (at_first : place old ≡ 0) where
  wholes-first : (bits : List ℕ) → bits_left old ≡ Some bits → Wholes old (length bits) bits
  wholes-first bits told =
      let rests : Rests old (length bits) bits = record { told = told; ends = omega (arith, at_first) } in
      let whole = whole-end old (length bits) bits rests in
      record { rests = rests; whole = whole; ends = whole }

  pub head-read : (result : Result HeadEnd HeadFault) → Answers (head before) (λ (found : HeadEnd). (found.headers.seq, found.headers.coding)) result
      (Wholes old) (λ found. BehindHead found new) old new
      → IfOk result (λ found. IfSome (bits_left old) (λ bits. HeadRead before found bits new))
  head-read (Err fault) a = tt
  head-read (Ok found) a = by_told (bits_left old) refl where
    by_told : (told : Option (List ℕ)) → bits_left old ≡ told → IfSome told (λ bits. HeadRead before found bits new)
    by_told None is = tt
    by_told (Some bits) is =
        let (rest, spelled, there) = a.gives.on (length bits) bits (wholes-first bits is) in
        record { behind = there.behind; begins = record { rest = rest; spelled = spelled; size = there.size; slice = there.slice }; left = there.left.rests.told; moved = there.left.rests.ends }

  pub head-refused : (result : Result HeadEnd HeadFault) → Answers (head before)
      (λ (found : HeadEnd). (found.headers.seq, found.headers.coding)) result (Wholes old) (λ found. BehindHead found new) old new
      → IfErr result (λ fault. Explains (head before) old (refusal_told fault))
  head-refused (Ok found) a = tt
  head-refused (Err fault) a = by_told (bits_left old) refl where
    by_fault : (told : Option PlacedRefusal) (bits : List ℕ)
        → IfSome told (λ said. (left : List ℕ) × (head before).Refuses bits said.refusal left × (said.at + length left ≡ length bits))
        → ExplainsFrom (head before) told bits (place old)
    by_fault None bits why = tt
    by_fault (Some said) bits (left, r, e) =
        let (front, split) = (exact-head before).refused_front bits left said.refusal r in
        record { front = front; left = left; split = split; refused = r; moved = omega (arith, at_first, e, ap length split, length-append front left) }

    by_told : (told : Option (List ℕ)) → bits_left old ≡ told → IfSome told (λ bits. ExplainsFrom (head before) (refusal_told fault) bits (place old))
    by_told None is = tt
    by_told (Some bits) is = by_fault (refusal_told fault) bits (a.gives.why (length bits) bits (wholes-first bits is))
