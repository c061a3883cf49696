-- Information bytes, each behind a bit 1, up to a bit 0.
use Rattle.std.proofs.Common.{◌≡◌, ℕ, List, [], ◌∷◌, ◌++◌, Some, None, Result, Ok, Err, IsErrAnd, Bool, true, false, refl, subst, inl}
use Rattle.shelf_io.specs.declared.source.Source.{Ghosts}
use Rattle.bit_cursor.specs.declared.bit_reader.BitReader.{BitReader}
use Rattle.picture_grammar.specs.Grammar.Next.{more, last}
use Rattle.picture_grammar.specs.Element.{uimsbf, one_flag}
use Rattle.picture_grammar.specs.Slice.{extra_information}
use Rattle.grammar_reading.specs.Several.{several}
use Rattle.grammar_reading.proofs.Several.{several-more, several-end, several-refused}
use Rattle.video_headers.specs.declared.fault.HeadFault.{HeadFault}
use Rattle.video_headers.specs.Private.Information.{information_bytes}
use Rattle.video_headers.specs.Private.Reading.{Answers, AnswersBits, Rests}
use Rattle.video_headers.proofs.Reading.{answers-bind, answers-exit, answers-done, runs-none, joined, joined_exit}

module _ {S : Type 0} {g : Ghosts S} (keeps_on : (x y z : S) → g.keeps x y → g.keeps y z → g.keeps x z) (itself : (x : S) → g.keeps x x) {first second : BitReader S g} where
  flag-known : (another is_set : Bool) → another ≡ is_set → AnswersBits one_flag (Ok another) first second → AnswersBits one_flag (Ok is_set) first second
  flag-known another is_set is f = subst (λ (b : Bool). AnswersBits one_flag (Ok b) first second) is f

  pub extra-last : (before : List ℕ) (another : Bool) → another ≡ false → AnswersBits one_flag (Ok another) first second
      → Answers (extra_information before) (λ (x : Unit {0}). last x) (Ok tt) (Rests first) (λ _. Rests second) first second
  extra-last before another is f =
      answers-bind keeps_on _ (flag-known another false is f)
      (answers-bind keeps_on _ (answers-done None {value = λ (x : Unit {0}). None} tt second itself refl)
      (answers-done (last tt) tt second itself refl))

  pub extra-no_flag : (before : List ℕ) {e : HeadFault} → AnswersBits one_flag (Err e) first second
      → Answers (extra_information before) (λ (x : ℕ). more x) (Err e) (Rests first) (λ _. Rests second) first second
  extra-no_flag before {e} f = answers-exit _ (Err e) refl f

  pub extra-more : {third : BitReader S g} (before : List ℕ) (byte : ℕ) (another : Bool) → another ≡ true
      → AnswersBits one_flag (Ok another) first second → AnswersBits (uimsbf 8 []) (Ok byte) second third
      → Answers (extra_information before) (λ (x : ℕ). more x) (Ok byte) (Rests first) (λ _. Rests third) first third
  extra-more {third} before byte another is f b =
      answers-bind keeps_on _ (flag-known another true is f)
      (answers-bind keeps_on _ (answers-bind keeps_on _ b (answers-done (Some byte) {value = λ (x : ℕ). Some x} byte third itself refl))
      (answers-done (more byte) byte third itself refl))

  pub extra-no_byte : {third : BitReader S g} (before : List ℕ) (another : Bool) → another ≡ true → {e : HeadFault}
      → AnswersBits one_flag (Ok another) first second → AnswersBits (uimsbf 8 []) (Err e) second third
      → Answers (extra_information before) (λ (x : ℕ). more x) (Err e) (Rests first) (λ _. Rests third) first third
  extra-no_byte {third} before another is {e} f b = answers-bind keeps_on _ (flag-known another true is f)
      (answers-exit _ (Err e) refl (answers-exit _ {value = λ (x : ℕ). Some x} (Err e) {last = λ _. Rests third} refl b))

-- ---- all of them

pub extra-none : {S : Type 0} {g : Ghosts S} (reader : BitReader S g) → ((x : S) → g.keeps x x)
    → Answers (several extra_information) (λ (x : List ℕ). x) (Ok []) (Rests reader) (λ _. Rests reader) reader reader
extra-none reader itself = record { gives = record { on = λ end bits left. (bits, refl, left) }; runs = runs-none reader itself; failed = λ is. cc; missing = λ is. cc }

module _ {S : Type 0} {g : Ghosts S} (keeps_on : (x y z : S) → g.keeps x y → g.keeps y z → g.keeps x z) {from middle to : ℕ → List ℕ → Type 0} {old mid new : BitReader S g} where
  pub extra-pushed : (bytes : List ℕ) (byte : ℕ) → Answers (several extra_information) (λ (x : List ℕ). x) (Ok bytes) from (λ _. middle) old mid
      → Answers (extra_information bytes) (λ (x : ℕ). more x) (Ok byte) middle (λ _. to) mid new
      → Answers (several extra_information) (λ (x : List ℕ). x) (Ok (bytes ++ byte ∷ [])) from (λ _. to) old new
  extra-pushed bytes byte a b = joined keeps_on bytes (more byte) (bytes ++ byte ∷ []) (λ bits m rest s t. several-more extra_information bytes byte bits m rest s t) a b refl refl refl

  pub extra-ended : (bytes : List ℕ) → Answers (several extra_information) (λ (x : List ℕ). x) (Ok bytes) from (λ _. middle) old mid
      → Answers (extra_information bytes) (λ (x : Unit {0}). last x) (Ok tt) middle (λ _. to) mid new → Answers information_bytes (λ (x : Unit {0}). x) (Ok tt) from (λ _. to) old new
  extra-ended bytes a b = joined keeps_on bytes (last tt) tt (λ bits m rest s t. ((bytes, tt), rest, several-end extra_information bytes tt bits m rest s t, (refl, refl))) a b refl refl refl

  pub extra-refused : (bytes : List ℕ) {e : HeadFault} (result : Result (Unit {0}) HeadFault) {last : Unit {0} → ℕ → List ℕ → Type 0}
      → IsErrAnd result (λ f. f ≡ e) → Answers (several extra_information) (λ (x : List ℕ). x) (Ok bytes) from (λ _. middle) old mid
      → Answers (extra_information bytes) (λ (x : ℕ). more x) (Err e) middle (λ _. to) mid new → Answers information_bytes (λ (x : Unit {0}). x) result from last old new
  extra-refused bytes result is a b = joined_exit keeps_on bytes result is (λ bits m left r s u. inl (several-refused extra_information bytes bits m left r s u)) a b refl
