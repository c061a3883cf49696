-- Readers that look at what comes, and readers behind them.
use Rattle.std.proofs.Common.{◌≡◌, ◌+◌, ℕ, List, length, Option, Some, None, IfSome, Result, Ok, Err, MatchResult, IsErrOf, IsErrAnd, refl, sym, ap, subst, ◌∙◌}
use Rattle.shelf_io.specs.declared.source.Source.{Ghosts}
use Rattle.bit_cursor.specs.declared.bit_reader.BitReader.{BitReader}
use Rattle.picture_grammar.specs.Refusal.Refusal.{End}
use Rattle.picture_grammar.specs.Grammar.{Grammar, done}
use Rattle.grammar_reading.specs.BitsRead.{PlacedRefusal}
use Rattle.video_headers.specs.declared.fault.HeadFault.{HeadFault}
use Rattle.video_headers.specs.declared.fault.HeadFault.TheVariants as fault
use Rattle.video_headers.specs.HeadFault.{refusal_told}
use Rattle.video_headers.specs.Runs.{Runs}
use Rattle.video_headers.specs.Private.Reading.{Goes, Stops, Answers, AnswersLook}
use Rattle.video_headers.proofs.Reading.{runs-none, runs-then}
use Rattle.shelf_io.proofs.Counted.{rose_later}

-- what a look says of the bits that may be left
pub looked : {V : Type 0} {v : V} {S : Type 0} {g : Ghosts S} {from : ℕ → List ℕ → Type 0} {to : V → ℕ → List ℕ → Type 0} {old new : BitReader S g}
    → AnswersLook (Ok v) from to old new → (end : ℕ) (bits : List ℕ) → from end bits → to v end bits
looked {v = v} {to = to} a end bits left =
    let (rest, (e, same), there) = a.gives.on end bits left in
    subst (λ (b : List ℕ). to v end b) (sym same) there

look-told : {A : Type 0} (grammar : Grammar A) (told : Option PlacedRefusal) {from whole : ℕ → List ℕ → Type 0} → ((end : ℕ) (bits : List ℕ) → whole end bits → (here : List ℕ) × from end here)
    → Stops {A = Unit {0}} (done tt) told from → Stops grammar told whole
look-told grammar None over s = record { why = λ end bits left. tt }
look-told grammar (Some said) over s = record { why = λ end bits left. let (here, there) = over end bits left in let (rest, none, e) = s.why end here there in absurd none }

-- what a look finds may be said of fewer bits, and by less
pub look-made : {V W : Type 0} {v : V} (w : W) {S : Type 0} {g : Ghosts S} {from : ℕ → List ℕ → Type 0} {to : V → ℕ → List ℕ → Type 0}
    (found : W → ℕ → List ℕ → Type 0) {old new : BitReader S g} → AnswersLook (Ok v) from to old new
    → ((end : ℕ) (bits : List ℕ) → from end bits → to v end bits → found w end bits) → AnswersLook (Ok w) from found old new
look-made w found a less = record {
  gives = record { on = λ end bits left. (bits, (refl, refl), less end bits left (looked a end bits left)) };
  runs = a.runs;
  failed = λ is. cc;
  missing = λ is. cc;
}

pub look-exit-over : {A V W : Type 0} {grammar : Grammar A} {e : HeadFault} {value : W → A} (result : Result W HeadFault) {S : Type 0} {g : Ghosts S}
    {from whole : ℕ → List ℕ → Type 0} {to : V → ℕ → List ℕ → Type 0} {last : W → ℕ → List ℕ → Type 0} {old new : BitReader S g}
    → ((end : ℕ) (bits : List ℕ) → whole end bits → (here : List ℕ) × from end here) → IsErrAnd result (λ f. f ≡ e)
    → AnswersLook {V = V} (Err e) from to old new → Answers grammar value result whole last old new
look-exit-over (Ok w) over is a = absurd is
look-exit-over {grammar = grammar} {e = e} {value = value} (Err fault) {whole = whole} {last = last} {old = old} {new = new} over is a =
    subst (λ (f : HeadFault). Answers grammar value (Err f) whole last old new) (sym is) (record {
      gives = look-told grammar (refusal_told e) over a.gives;
      runs = a.runs;
      failed = λ is. a.failed (let e = is in cc);
      missing = λ is. a.missing (let e = is in cc);
    })

pub look-exit : {A V W : Type 0} {grammar : Grammar A} {e : HeadFault} {value : W → A} (result : Result W HeadFault) {S : Type 0} {g : Ghosts S}
    {from : ℕ → List ℕ → Type 0} {to : V → ℕ → List ℕ → Type 0} {last : W → ℕ → List ℕ → Type 0} {old new : BitReader S g}
    → IsErrAnd result (λ f. f ≡ e) → AnswersLook {V = V} (Err e) from to old new → Answers grammar value result from last old new
look-exit result is a = look-exit-over result (λ end bits left. (bits, left)) is a

-- a step with no answer
pub look-step : {W : Type 0} (w : W) {S : Type 0} {g : Ghosts S} {from : ℕ → List ℕ → Type 0} (found : W → ℕ → List ℕ → Type 0) {old new : BitReader S g} → Runs old new
    → ((end : ℕ) (bits : List ℕ) → from end bits → found w end bits) → AnswersLook (Ok w) from found old new
look-step w found runs less = record {
  gives = record { on = λ end bits left. (bits, (refl, refl), less end bits left) };
  runs = runs;
  failed = λ is. cc;
  missing = λ is. cc;
}

-- nothing is looked at
pub look-none : {W : Type 0} (w : W) {S : Type 0} {g : Ghosts S} {from : ℕ → List ℕ → Type 0} (found : W → ℕ → List ℕ → Type 0) (reader : BitReader S g) → ((x : S) → g.keeps x x)
    → ((end : ℕ) (bits : List ℕ) → from end bits → found w end bits) → AnswersLook (Ok w) from found reader reader
look-none w found reader itself less = record {
  gives = record { on = λ end bits left. (bits, (refl, refl), less end bits left) };
  runs = runs-none reader itself;
  failed = λ is. cc;
  missing = λ is. cc;
}

gives-looked : {A W : Type 0} (grammar : Grammar A) (value : W → A) (result : Result W HeadFault) {from middle : ℕ → List ℕ → Type 0} (last : W → ℕ → List ℕ → Type 0)
    → ((end : ℕ) (bits : List ℕ) → from end bits → middle end bits)
    → MatchResult result (λ w. Goes grammar (value w) middle (last w)) (λ fault. Stops grammar (refusal_told fault) middle)
    → MatchResult result (λ w. Goes grammar (value w) from (last w)) (λ fault. Stops grammar (refusal_told fault) from)
gives-looked grammar value (Ok w) last on g = record { on = λ end bits left. g.on end bits (on end bits left) }
gives-looked grammar value (Err fault) last on g = record { why = λ end bits left. g.why end bits (on end bits left) }

-- an answer from less
pub answers-from : {A W : Type 0} {grammar : Grammar A} {value : W → A} {result : Result W HeadFault} {S : Type 0} {g : Ghosts S}
    {from middle : ℕ → List ℕ → Type 0} {last : W → ℕ → List ℕ → Type 0} {old new : BitReader S g}
    → ((end : ℕ) (bits : List ℕ) → from end bits → middle end bits) → Answers grammar value result middle last old new → Answers grammar value result from last old new
answers-from {grammar = grammar} {value = value} {result = result} {last = last} on a = record
    { gives = gives-looked grammar value result last on a.gives; runs = a.runs; failed = a.failed; missing = a.missing }

-- and to more
pub answers-to : {A W : Type 0} {grammar : Grammar A} {value : W → A} {S : Type 0} {g : Ghosts S} {from : ℕ → List ℕ → Type 0} {to last : W → ℕ → List ℕ → Type 0} {old new : BitReader S g} (w : W)
    → Answers grammar value (Ok w) from to old new → ((end : ℕ) (bits : List ℕ) → to w end bits → last w end bits) → Answers grammar value (Ok w) from last old new
answers-to w a more = record {
  gives = record { on = λ end bits left. let (rest, s, there) = a.gives.on end bits left in (rest, s, more end rest there) };
  runs = a.runs;
  failed = λ is. cc;
  missing = λ is. cc;
}

module _ {S : Type 0} {g : Ghosts S} (keeps_on : (x y z : S) → g.keeps x y → g.keeps y z → g.keeps x z) {from : ℕ → List ℕ → Type 0} {old mid new : BitReader S g} where
  -- a reader behind a look
  pub after-look : {A V W : Type 0} {grammar : Grammar A} {v : V} {value : W → A} {result : Result W HeadFault} {to : V → ℕ → List ℕ → Type 0} {last : W → ℕ → List ℕ → Type 0}
      → AnswersLook (Ok v) from to old mid → Answers grammar value result (to v) last mid new → Answers grammar value result from last old new
  after-look {grammar = grammar} {value = value} {result = result} {last = last} a b = record {
    gives = gives-looked grammar value result last (looked a) b.gives;
    runs = runs-then keeps_on a.runs b.runs;
    failed = λ is. rose_later _ _ _ a.runs.keeps.faults b.runs.keeps.faults (b.failed is);
    missing = λ is. rose_later _ _ _ a.runs.keeps.absences b.runs.keeps.absences (b.missing is);
  }

  -- a look behind another one
  pub look-on : {V W : Type 0} {v : V} (w : W) {to : V → ℕ → List ℕ → Type 0} (found : W → ℕ → List ℕ → Type 0)
      → AnswersLook (Ok v) from to old mid → Runs mid new → ((end : ℕ) (bits : List ℕ) → from end bits → to v end bits → found w end bits) → AnswersLook (Ok w) from found old new
  look-on w found a b less = record {
    gives = record { on = λ end bits left. (bits, (refl, refl), less end bits left (looked a end bits left)) };
    runs = runs-then keeps_on a.runs b;
    failed = λ is. cc;
    missing = λ is. cc;
  }

  -- a look that shows what is spelled
  pub look-goes : {A V W : Type 0} {grammar : Grammar A} {v : V} {value : W → A} (w : W) {to : V → ℕ → List ℕ → Type 0} {last : W → ℕ → List ℕ → Type 0}
      → AnswersLook (Ok v) from to old mid → Runs mid new → ((end : ℕ) (bits : List ℕ) → to v end bits → (rest : List ℕ)
      × grammar.Spells (value w) bits rest × last w end rest) → Answers grammar value (Ok w) from last old new
  look-goes w a b shows = record {
    gives = record { on = λ end bits left. shows end bits (looked a end bits left) };
    runs = runs-then keeps_on a.runs b;
    failed = λ is. cc;
    missing = λ is. cc;
  }

  -- a look that shows that the bits end
  pub look-ends : {A V W : Type 0} {grammar : Grammar A} {v : V} {value : W → A} (at : ℕ) {to : V → ℕ → List ℕ → Type 0} {last : W → ℕ → List ℕ → Type 0}
      → AnswersLook (Ok v) from to old mid → Runs mid new → ((end : ℕ) (bits : List ℕ) → to v end bits → (left : List ℕ)
      × grammar.Refuses bits End left × (at + length left ≡ end)) → Answers grammar value (Err (fault.End at)) from last old new
  look-ends at a b shows = record {
    gives = record { why = λ end bits left. shows end bits (looked a end bits left) };
    runs = runs-then keeps_on a.runs b;
    failed = λ is. cc;
    missing = λ is. cc;
  }
