-- Extensions and user data, one behind another.
use Rattle.std.proofs.Common.{◌≡◌, ◌||◌, ℕ, nat_eq, fold, List, [], ◌∷◌, ◌++◌, Some, None, Result, Ok, Err, IsErrAnd, Bool, true, false, not, refl, sym, ap, subst, ◌∙◌, inl, inr}
use Rattle.std.proofs.lemmas.Bool.{eqb-true, both_ways}
use Rattle.std.proofs.lemmas.List.Sums.{fold-append}
use Rattle.shelf_io.specs.declared.source.Source.{Ghosts}
use Rattle.bit_cursor.specs.declared.bit_reader.BitReader.{BitReader}
use Rattle.syntax_types.specs.declared.picture.SeqState.{SeqState}
use Rattle.stream_constants.specs.declared.start_codes.TheConstants.{USER_DATA, EXTENSION}
use Rattle.picture_grammar.specs.Grammar.{Grammar, done, ◌>>=◌, optional, when, Next}
use Rattle.picture_grammar.specs.Grammar.Next.{more, last}
use Rattle.picture_grammar.specs.Headers.{Loaded, with_loaded}
use Rattle.picture_grammar.specs.Head.{unread, extension, no_matrix}
use Rattle.grammar_reading.specs.Several.{several}
use Rattle.grammar_reading.proofs.Several.{several-more, several-end, several-refused}
use Rattle.video_headers.specs.declared.code.Comes.{Comes}
use Rattle.video_headers.specs.declared.code.Comes.TheVariants.{Code, NoCode, Nothing}
use Rattle.video_headers.specs.declared.code.NextCode.{NextCode}
use Rattle.video_headers.specs.declared.fault.HeadFault.{HeadFault}
use Rattle.video_headers.specs.declared.part.Part.{Part}
use Rattle.video_headers.specs.declared.part.Part.TheVariants.{Sequence, Group, Picture}
use Rattle.video_headers.specs.declared.why.Why.TheVariants as why
use Rattle.video_headers.specs.Private.Extensions.{item, items}
use Rattle.video_headers.specs.Private.NextCode.{NextRests, is_one, byte_of}
use Rattle.video_headers.specs.Private.Part.{codes_of, identifiers_of, has_extensions}
use Rattle.video_headers.specs.Private.Reading.{Rests, Answers, AnswersLook}
use Rattle.video_headers.specs.Private.Unread.{unread_bytes}
use Rattle.video_headers.specs.Private.Wholes.{Wholes}
use Rattle.video_headers.proofs.BehindIdentifiers.{unread-then, unread-failed}
use Rattle.video_headers.proofs.Looks.{after-look, look-exit, answers-from, answers-to}
use Rattle.video_headers.proofs.NextCodes.{code-expected, code-comes, none-comes, answers-such, answers-other}
use Rattle.video_headers.proofs.Reading.{answers-bind, answers-exit, answers-done, runs-none, joined, joined_exit}

-- ---- which of the two comes

one-byte : (codes : ℕ → Bool) (comes : Comes) → is_one codes comes ≡ true → codes (byte_of comes) ≡ true
one-byte codes (Code byte) is = is
one-byte codes NoCode is = cc
one-byte codes Nothing is = cc

extension-byte : (comes : Comes) → is_one (λ byte. nat_eq byte EXTENSION) comes ≡ true → nat_eq (byte_of comes) EXTENSION ≡ true
extension-byte comes is = one-byte (λ byte. nat_eq byte EXTENSION) comes is

no-user_data : (byte : ℕ) → nat_eq byte EXTENSION ≡ true → nat_eq byte USER_DATA ≡ false
no-user_data byte is = ap (λ (b : ℕ). nat_eq b USER_DATA) (eqb-true byte EXTENSION is)

pub has-extension : (part : Part) (comes : Comes) → is_one (codes_of part) comes ≡ true → is_one (λ byte. nat_eq byte EXTENSION) comes ≡ true → has_extensions part ≡ true
has-extension Sequence comes may is = refl
has-extension Group comes may is = absurd (both_ways (nat_eq (byte_of comes) USER_DATA) (no-user_data (byte_of comes) (extension-byte comes is)) (one-byte (codes_of Group) comes may))
has-extension Picture comes may is = refl

second-of : (a b : Bool) → (a || b) ≡ true → a ≡ false → b ≡ true
second-of true b is not = cc
second-of false b is not = is

user_data-byte : (part : Part) (comes : Comes) → is_one (codes_of part) comes ≡ true → is_one (λ byte. nat_eq byte EXTENSION) comes ≡ false
    → (nat_eq (byte_of comes) EXTENSION ≡ false) × (nat_eq (byte_of comes) USER_DATA ≡ true)
user_data-byte Sequence (Code byte) may not = (not, second-of (nat_eq byte EXTENSION) (nat_eq byte USER_DATA) may not)
user_data-byte Group (Code byte) may not = (not, may)
user_data-byte Picture (Code byte) may not = (not, second-of (nat_eq byte EXTENSION) (nat_eq byte USER_DATA) may not)
user_data-byte part NoCode may not = cc
user_data-byte part Nothing may not = cc

-- ---- one of them

abbrev behind_code : (ℕ → Bool) → Bool → Bool → Grammar (Next Loaded (Unit {0}))
behind_code identifiers is_extension is_user_data =
    when is_extension (extension identifiers) no_matrix >>= λ loaded. optional is_user_data unread >>= λ bytes. done (more loaded)

module _ (part : Part) (next : NextCode) (may : is_one (codes_of part) next.comes ≡ true) {S : Type 0} {g : Ghosts S}
    (keeps_on : (x y z : S) → g.keeps x y → g.keeps y z → g.keeps x z) (itself : (x : S) → g.keeps x x) {V : Type 0} {make : V → Loaded}
    {old new : BitReader S g} where
  item-from : {result : Result V HeadFault} → Answers (behind_code (identifiers_of part) (nat_eq (byte_of next.comes) EXTENSION)
      (nat_eq (byte_of next.comes) USER_DATA)) (λ (v : V). more (make v)) result (Wholes old) (λ v. Wholes new) old new
      → Answers (item part []) (λ (v : V). more (make v)) result (NextRests next old) (λ v. Wholes new) old new
  item-from a = answers-such (code-comes (codes_of part) next old itself may) (answers-bind keeps_on _ (code-expected (codes_of part) next old itself why.BadHeader may) a)

  flags-are : (e u e' u' : Bool) → e ≡ e' → u ≡ u' → {result : Result V HeadFault}
      → Answers (behind_code (identifiers_of part) e' u') (λ (v : V). more (make v)) result (Wholes old) (λ v. Wholes new) old new
      → Answers (behind_code (identifiers_of part) e u) (λ (v : V). more (make v)) result (Wholes old) (λ v. Wholes new) old new
  flags-are e u e' u' is is' {result} a =
      subst (λ (x : Bool). Answers (behind_code (identifiers_of part) x u) (λ (v : V). more (make v)) result (Wholes old) (λ v. Wholes new) old new) (sym is)
      (subst (λ (x : Bool). Answers (behind_code (identifiers_of part) e' x) (λ (v : V). more (make v)) result (Wholes old) (λ v. Wholes new) old new) (sym is') a)

  module _ (is : is_one (λ byte. nat_eq byte EXTENSION) next.comes ≡ true) where
    pub item-extension : (v : V) → Answers (extension (identifiers_of part)) make (Ok v) (Wholes old) (λ v. Wholes new) old new
        → Answers (item part []) (λ (v : V). more (make v)) (Ok v) (NextRests next old) (λ v. Wholes new) old new
    item-extension v a =
        item-from (flags-are _ _ true false (extension-byte next.comes is) (no-user_data (byte_of next.comes) (extension-byte next.comes is))
        (answers-bind keeps_on _ a (answers-bind keeps_on _ (answers-done None {value = λ (x : Unit {0}). None} tt new itself refl)
        (answers-done (more (make v)) {value = λ (v : V). more (make v)} v new itself refl))))

    pub item-no_extension : {e : HeadFault} (result : Result V HeadFault) → IsErrAnd result (λ f. f ≡ e) → Answers (extension (identifiers_of part)) make (Err e) (Wholes old) (λ v. Wholes new) old new
        → Answers (item part []) (λ (v : V). more (make v)) result (NextRests next old) (λ v. Wholes new) old new
    item-no_extension result bad a =
        item-from (flags-are _ _ true false (extension-byte next.comes is) (no-user_data (byte_of next.comes) (extension-byte next.comes is)) (answers-exit _ result bad a))

  module _ (not : is_one (λ byte. nat_eq byte EXTENSION) next.comes ≡ false) where
    pub item-user_data : (v : V) → make v ≡ no_matrix → Answers unread_bytes (λ (x : Unit {0}). x) (Ok tt) (Rests old) (λ x. Wholes new) old new
        → Answers (item part []) (λ (v : V). more (make v)) (Ok v) (NextRests next old) (λ v. Wholes new) old new
    item-user_data v none a =
        let bytes = user_data-byte part next.comes may not in
        item-from (flags-are _ _ false true bytes.0 bytes.1
        (answers-bind keeps_on _ (answers-done no_matrix {value = λ (x : Unit {0}). no_matrix} tt {from = Wholes old} old itself refl)
        (unread-then keeps_on itself (more no_matrix) v (ap (λ (l : Loaded). more l) none) (answers-from (λ end bits w. w.rests) a))))

    pub item-no_user_data : {e : HeadFault} (result : Result V HeadFault) → IsErrAnd result (λ f. f ≡ e) → Answers unread_bytes (λ (x : Unit {0}). x) (Err e) (Rests old) (λ x. Wholes new) old new
        → Answers (item part []) (λ (v : V). more (make v)) result (NextRests next old) (λ v. Wholes new) old new
    item-no_user_data result bad a =
        let bytes = user_data-byte part next.comes may not in
        item-from (flags-are _ _ false true bytes.0 bytes.1
        (answers-bind keeps_on _ (answers-done no_matrix {value = λ (x : Unit {0}). no_matrix} tt {from = Wholes old} old itself refl)
        (unread-failed keeps_on itself (more no_matrix) result bad (answers-from (λ end bits w. w.rests) a))))

-- ---- all of them

pub items-none : (part : Part) {S : Type 0} {g : Ghosts S} (reader : BitReader S g) → ((x : S) → g.keeps x x)
    → Answers (several (item part)) (λ (x : List Loaded). x) (Ok []) (Wholes reader) (λ x. Wholes reader) reader reader
items-none part reader itself = record { gives = record { on = λ end bits left. (bits, refl, left) }; runs = runs-none reader itself; failed = λ is. cc; missing = λ is. cc }

module _ (part : Part) (seq : SeqState) (loads : List Loaded) {S : Type 0} {g : Ghosts S}
    (keeps_on : (x y z : S) → g.keeps x y → g.keeps y z → g.keeps x z) (itself : (x : S) → g.keeps x x) {from : ℕ → List ℕ → Type 0}
    {old mid new : BitReader S g}
    (so_far : Answers (several (item part)) (λ (x : List Loaded). x) (Ok loads) from (λ x. Wholes mid) old mid) where
  pub items-more : {third : BitReader S g} {V : Type 0} {make : V → Loaded} {next : NextCode} (v : V) → AnswersLook (Ok next) (Wholes mid) (λ n. NextRests n new) mid new
      → Answers (item part []) (λ (v : V). more (make v)) (Ok v) (NextRests next new) (λ v. Wholes third) new third
      → Answers (several (item part)) (λ (x : List Loaded). x) (Ok (loads ++ make v ∷ [])) from (λ x. Wholes third) old third
  items-more {make = make} v a b =
      joined keeps_on loads (more (make v)) (loads ++ make v ∷ []) (λ bits m rest s t. several-more (item part) loads (make v) bits m rest s t) so_far (after-look keeps_on a b) refl refl refl

  pub items-refused : {third : BitReader S g} {V W : Type 0} {make : V → Loaded} {value : W → SeqState} {final : W → ℕ → List ℕ → Type 0}
      {next : NextCode} {e : HeadFault} (result : Result W HeadFault) → IsErrAnd result (λ f. f ≡ e)
      → AnswersLook (Ok next) (Wholes mid) (λ n. NextRests n new) mid new → Answers (item part []) (λ (v : V). more (make v)) (Err e) (NextRests next new) (λ v. Wholes third) new third
      → Answers (items part seq) value result from final old third
  items-refused result is a b =
      joined_exit keeps_on loads result is (λ bits m left r s u. inl (several-refused (item part) loads bits m left r s u)) so_far (after-look keeps_on a b) refl

  pub items-no_code : {W : Type 0} {value : W → SeqState} {final : W → ℕ → List ℕ → Type 0} {e : HeadFault} (result : Result W HeadFault) → IsErrAnd result (λ f. f ≡ e)
      → AnswersLook {V = NextCode} (Err e) (Wholes mid) (λ n. NextRests n new) mid new → Answers (items part seq) value result from final old new
  items-no_code {e = e} result is a =
      joined_exit keeps_on loads result is (λ bits m left r s u. inl (several-refused (item part) loads bits m left r s u)) so_far
      (look-exit {grammar = item part []} {value = λ (x : Unit {0}). last x} (Err e) {last = λ x. Wholes new} refl a) refl

  item-last : {next : NextCode} → is_one (codes_of part) next.comes ≡ false → Answers (item part loads) (λ (x : Unit {0}). Next.last x) (Ok tt) (NextRests next new) (λ x. NextRests next new) new new
  item-last {next} none = answers-other (none-comes (codes_of part) next new itself none)
      (answers-done (Next.last tt) {value = λ (x : Unit {0}). Next.last x} tt {from = NextRests next new} new itself refl)

  pub items-ended : {W : Type 0} {value : W → SeqState} {next : NextCode} (w : W) (final : W → ℕ → List ℕ → Type 0)
      → value w ≡ fold with_loaded seq loads → ((end : ℕ) (bits : List ℕ) → NextRests next new end bits → final w end bits)
      → is_one (codes_of part) next.comes ≡ false → AnswersLook (Ok next) (Wholes mid) (λ n. NextRests n new) mid new → Answers (items part seq) value (Ok w) from final old new
  items-ended {value = value} {next = next} w final made there none a =
      answers-to w (joined keeps_on loads (Next.last tt) (fold with_loaded seq loads) (λ bits m rest s t. ((loads, tt), rest, several-end (item part) loads tt bits m rest s t, (refl, refl))) so_far
      (after-look keeps_on a (item-last none)) refl refl made) there

pub fold-more : (seq state after : SeqState) (loads : List Loaded) (loaded : Loaded) → state ≡ fold with_loaded seq loads
    → after ≡ with_loaded state loaded → after ≡ fold with_loaded seq (loads ++ loaded ∷ [])
fold-more seq state after loads loaded is is' = is' ∙ ap (λ (s : SeqState). with_loaded s loaded) is ∙ sym (fold-append with_loaded seq loads (loaded ∷ []))
