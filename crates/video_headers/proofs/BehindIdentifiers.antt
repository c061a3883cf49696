-- What stands behind the identifier of an extension.
use Rattle.std.proofs.Common.{◌≡◌, ℕ, List, Some, None, Result, Ok, Err, IsErrAnd, Bool, true, false, not, refl, sym, subst}
use Rattle.shelf_io.specs.declared.source.Source.{Ghosts}
use Rattle.bit_cursor.specs.declared.bit_reader.BitReader.{BitReader}
use Rattle.picture_grammar.specs.Refusal.Refusal.{BadHeader}
use Rattle.picture_grammar.specs.Grammar.{Grammar, done, ◌>>=◌, optional, when}
use Rattle.picture_grammar.specs.StartCode.{zero_bits}
use Rattle.picture_grammar.specs.Headers.{Loaded, quant_matrix_extension}
use Rattle.picture_grammar.specs.Head.{unread, no_matrix}
use Rattle.video_headers.specs.declared.fault.HeadFault.{HeadFault}
use Rattle.video_headers.specs.Private.Reading.{Answers}
use Rattle.video_headers.specs.Private.Unread.{unread_bytes}
use Rattle.video_headers.proofs.Reading.{answers-bind, answers-exit, answers-made_exit, answers-done}

abbrev pub behind_identifier : Bool → Grammar Loaded
behind_identifier is_matrix =
    when is_matrix quant_matrix_extension no_matrix >>= λ loaded. optional is_matrix (zero_bits BadHeader) >>= λ zeros. optional (not is_matrix) unread >>= λ bytes. done loaded

module _ {S : Type 0} {g : Ghosts S} (keeps_on : (x y z : S) → g.keeps x y → g.keeps y z → g.keeps x z) (itself : (x : S) → g.keeps x x)
    {from : ℕ → List ℕ → Type 0} {old new : BitReader S g} {W : Type 0} where
  pub unread-then : {to : ℕ → List ℕ → Type 0} {X : Type 0} {make : W → X} (made : X) (w : W) → make w ≡ made
      → Answers unread_bytes (λ (x : Unit {0}). x) (Ok tt) from (λ x. to) old new
      → Answers (optional true unread >>= λ bytes. done made) make (Ok w) from (λ v. to) old new
  unread-then made w is a = record {
    gives = record {
      on = λ end bits left.
          let (rest, (b, m, s, (e, e')), there) = a.gives.on end bits left in
          (rest, (Some b, m, (b, m, s, (refl, refl)), (is, e')), there);
    };
    runs = a.runs;
    failed = λ is. cc;
    missing = λ is. cc;
  }

  pub unread-failed : {to : ℕ → List ℕ → Type 0} {X : Type 0} {make : W → X} {last : W → ℕ → List ℕ → Type 0} (made : X) {e : HeadFault}
      (result : Result W HeadFault) → IsErrAnd result (λ f. f ≡ e) → Answers unread_bytes (λ (x : Unit {0}). x) (Err e) from (λ x. to) old new
      → Answers (optional true unread >>= λ bytes. done made) make result from last old new
  unread-failed {to = to} made {e} result is a =
      answers-exit _ result is (answers-made_exit unread (λ bytes. tt) (λ v. done (Some v)) {value = λ (x : List ℕ × Unit {0}). Some x} (Err e) {last = λ x. to} refl a)

  pub matrix-refused : {value : W → Loaded} {last : W → ℕ → List ℕ → Type 0} (is_matrix : Bool) → is_matrix ≡ true
      → {V : Type 0} {make : V → Loaded} {e : HeadFault} {later : V → ℕ → List ℕ → Type 0} (result : Result W HeadFault)
      → IsErrAnd result (λ f. f ≡ e)
      → Answers quant_matrix_extension make (Err e) from later old new → Answers (behind_identifier is_matrix) value result from last old new
  matrix-refused {value = value} {last = last} is_matrix is result bad a = subst (λ (b : Bool). Answers (behind_identifier b) value result from last old new) (sym is) (answers-exit _ result bad a)

  pub zeros-refused : {to : ℕ → List ℕ → Type 0} {value : W → Loaded} {last : W → ℕ → List ℕ → Type 0} {mid : BitReader S g} (is_matrix : Bool)
      → is_matrix ≡ true → {V : Type 0} {make : V → Loaded} {v : V} {e : HeadFault} {later : V → ℕ → List ℕ → Type 0} (result : Result W HeadFault)
      → IsErrAnd result (λ f. f ≡ e)
      → Answers quant_matrix_extension make (Ok v) from later old mid
      → Answers (zero_bits BadHeader) (λ (z : ℕ). z) (Err e) (later v) (λ z. to) mid new
      → Answers (behind_identifier is_matrix) value result from last old new
  zeros-refused {to = to} {value = value} {last = last} is_matrix is {e = e} result bad a z =
      subst (λ (b : Bool). Answers (behind_identifier b) value result from last old new) (sym is)
      (answers-bind keeps_on _ a (answers-exit _ result bad (answers-exit _ {value = λ (x : ℕ). Some x} (Err e) {last = λ x. to} refl z)))

  pub unread-refused : {to : ℕ → List ℕ → Type 0} {value : W → Loaded} {last : W → ℕ → List ℕ → Type 0} (is_matrix : Bool) → is_matrix ≡ false
      → {e : HeadFault} (result : Result W HeadFault) → IsErrAnd result (λ f. f ≡ e)
      → Answers unread_bytes (λ (x : Unit {0}). x) (Err e) from (λ x. to) old new → Answers (behind_identifier is_matrix) value result from last old new
  unread-refused {value = value} {last = last} is_matrix is {e} result bad a =
      subst (λ (b : Bool). Answers (behind_identifier b) value result from last old new) (sym is)
      (answers-bind keeps_on _ (answers-done no_matrix {value = λ (x : Unit {0}). no_matrix} tt old itself refl)
      (answers-bind keeps_on _ (answers-done None {value = λ (x : Unit {0}). None} tt old itself refl) (unread-failed no_matrix result bad a)))

  pub unread-read : {to : ℕ → List ℕ → Type 0} {value : W → Loaded} (is_matrix : Bool) → is_matrix ≡ false → (w : W) → value w ≡ no_matrix
      → Answers unread_bytes (λ (x : Unit {0}). x) (Ok tt) from (λ x. to) old new
      → Answers (behind_identifier is_matrix) value (Ok w) from (λ v. to) old new
  unread-read {to = to} {value = value} is_matrix is w made a =
      subst (λ (b : Bool). Answers (behind_identifier b) value (Ok w) from (λ v. to) old new) (sym is)
      (answers-bind keeps_on _ (answers-done no_matrix {value = λ (x : Unit {0}). no_matrix} tt old itself refl)
      (answers-bind keeps_on _ (answers-done None {value = λ (x : Unit {0}). None} tt old itself refl) (unread-then no_matrix w made a)))

  pub matrix-read : {to : ℕ → List ℕ → Type 0} {value : W → Loaded} {mid : BitReader S g} (is_matrix : Bool) → is_matrix ≡ true → {z : ℕ} {later : W → ℕ → List ℕ → Type 0} (w : W)
      → Answers quant_matrix_extension value (Ok w) from later old mid
      → Answers (zero_bits BadHeader) (λ (z : ℕ). z) (Ok z) (later w) (λ z. to) mid new
      → Answers (behind_identifier is_matrix) value (Ok w) from (λ v. to) old new
  matrix-read {to = to} {value = value} is_matrix is {z = z} w a zeros =
      subst (λ (b : Bool). Answers (behind_identifier b) value (Ok w) from (λ v. to) old new) (sym is)
      (answers-bind keeps_on _ a (answers-bind keeps_on _ (answers-bind keeps_on _ zeros (answers-done (Some z) {value = λ (x : ℕ). Some x} z new itself refl))
      (answers-bind keeps_on _ (answers-done None {value = λ (x : Unit {0}). None} tt new itself refl) (answers-done (value w) {value = value} w new itself refl))))
