-- A pass over the elements of a source.
use Rattle.std.proofs.Common.{◌≡◌, ℕ, ◌+◌, ◌-◌, ◌<◌, ◌≤◌, ◌^◌, List, [], ◌∷◌, ◌++◌, Option, length, replicate, take, drop, refl, sym, ap, ◌∙◌, subst, arith, append_assoc, append-nil, length-append}
use Rattle.std.proofs.lemmas.List.{take_at, drop_at, length-drop, length-replicate}
use Rattle.shelf_io.specs.Source.{source_bytes_most}
use Rattle.ts_demux.specs.PacketBuffer.{Passes, IsAtEnd}
use Rattle.ts_demux.specs.Pass.{IsEarly, IsWhole}
use Rattle.ts_demux.proofs.PassSteps.{passes_filled, passes_size}
use Rattle.program_stream.specs.declared.element_fault.ElementFault.{ElementFault}
use Rattle.program_stream.specs.declared.element_fault.ElementFault.TheVariants as faults
use Rattle.program_stream.specs.declared.passing_elements.Passed.TheVariants as steps
use Rattle.program_stream.specs.declared.passing_elements.PassingElements.{PassingElements}
use Rattle.program_stream.specs.declared.split_fault.SplitFault.{SplitFault}
use Rattle.program_stream.specs.declared.split_fault.SplitFault.TheVariants.{ShortFile}
use Rattle.program_stream.specs.Elements.{Element, element_bytes, element_spelling, all_spelled, IsEnd, IsRefusedAt}
use Rattle.program_stream.specs.Split.{HasElements}
use Rattle.program_stream.specs.PassingElements.{AreRefused, Goes, HasPassed, IsShortFile, KeepsTwo, OnRefused, rest_of, taken_of}
use Rattle.program_stream.specs.Private.Fronts.{BeginsWith}
use Rattle.program_stream.specs.Private.Waiting.{waiting_of}
use Rattle.program_stream.proofs.Early.{early}
use Rattle.program_stream.proofs.Packets.{all_spelled-more}
use Rattle.program_stream.proofs.Standing.{spelled_length, sound_more}
use Rattle.program_stream.proofs.Starts.{drop_zeros}

-- ---- what passes

-- all that is held is passed too
passes_all : (left after : Option (List ℕ)) (most most_after : ℕ) (seen held : List ℕ) → Passes left after most most_after [] seen held → Passes left after most most_after [] (seen ++ held) []
passes_all left after most most_after seen held passes = record { bytes = passes.bytes; taken = passes.taken; in_order = passes.in_order ∙ sym (append-nil (seen ++ held)) }

-- zero bytes stand before what is held
pub passes_behind : (left after : Option (List ℕ)) (most most_after count : ℕ) (held held_after : List ℕ) → Passes left after most most_after held [] held_after
    → Passes left after most most_after (replicate count 0 ++ held) [] (replicate count 0 ++ held_after)
passes_behind left after most most_after count held held_after passes = record {
  bytes = passes.bytes;
  taken = passes.taken;
  in_order = append_assoc (replicate count 0) held passes.bytes ∙ ap (λ (xs : List ℕ). replicate count 0 ++ xs) passes.in_order;
}

-- the first two bytes stay
pub keeps_two : (left after : Option (List ℕ)) (most most_after count : ℕ) (held held_after : List ℕ) → Passes left after most most_after held [] held_after → KeepsTwo count held → KeepsTwo count held_after
keeps_two left after most most_after count held held_after passes keeps =
    λ some. ((keeps some).0 ++ passes.bytes, sym passes.in_order ∙ ap (λ (xs : List ℕ). xs ++ passes.bytes) (keeps some).1)

-- no byte comes, where none more are held than before
no_bytes : (xs : List ℕ) → length xs ≡ 0 → xs ≡ []
no_bytes [] is = refl
no_bytes (x ∷ xs) is = absurd (omega (arith, is))

pub passes_same : (left after : Option (List ℕ)) (most most_after : ℕ) (held held_after : List ℕ) → Passes left after most most_after held [] held_after → length held_after ≡ length held + 0 →
    held_after ≡ held
passes_same left after most most_after held held_after passes size =
    let none : length passes.bytes ≡ 0 = omega (arith, size, ap length passes.in_order, length-append held passes.bytes) in
    sym passes.in_order ∙ ap (λ (xs : List ℕ). held ++ xs) (no_bytes passes.bytes none) ∙ append-nil held

-- the source gives less then
pub passes_fewer : (left after : Option (List ℕ)) (most most_after n : ℕ) (held held_after : List ℕ) → Passes left after most most_after held [] held_after → length held_after ≡ length held + n → 0 < n →
    most_after < most
passes_fewer left after most most_after n held held_after passes size some = omega (arith, size, some, passes_size left after most most_after held [] held_after passes)

-- ---- before the first element

pub opened : (left after : Option (List ℕ)) (most most_after : ℕ) (held : List ℕ) → most ≤ source_bytes_most → Passes left after most most_after [] [] held → 14 ≤ length held
    → HasPassed left after most most_after [] (record { buffer = held; place = 0; len = 0; zeros = 0 })
opened left after most most_after held few passes long =
    let more : 14 ≤ 0 + length held = omega (arith, long) in
    record {
      most_few = few;
      passes = passes;
      sound = tt;
      long = more;
      place = refl;
      held = omega arith;
      two = λ some. absurd (omega (arith, some));
    }

pub too_short : (left after : Option (List ℕ)) (most most_after : ℕ) (held : List ℕ) → Passes left after most most_after [] [] held → length held < 14 → IsAtEnd after
    → IsWhole left after most most_after [] (λ file. IsShortFile file (ShortFile 0))
too_short left after most most_after held passes short end = record {
  seen = held;
  passes = passes_all left after most most_after [] held passes;
  end = end;
  whole = (omega (arith, short, ap length (append-nil held)), refl);
}

-- ---- behind some elements

waiting_rest : (passing : PassingElements) → passing.len ≡ 0 → rest_of passing ≡ waiting_of passing
waiting_rest passing none = ap (λ (n : ℕ). replicate passing.zeros 0 ++ drop n passing.buffer) none

-- the element is held no more
pub turned : (left after : Option (List ℕ)) (most most_after : ℕ) (elements : List Element) (old new : PassingElements) → new.buffer ≡ drop old.len old.buffer → new.place ≡ old.place + old.len
    → (new.len ≡ 0) × (new.zeros ≡ old.zeros) → HasPassed left after most most_after elements old → HasPassed left after most most_after elements new
turned left after most most_after elements old new buffer place rest was =
    let same : rest_of new ≡ rest_of old =
    waiting_rest new rest.0 ∙ ap (λ (n : ℕ). replicate n 0 ++ new.buffer) rest.1 ∙ ap (λ (xs : List ℕ). replicate old.zeros 0 ++ xs) buffer in
    record {
      most_few = was.most_few;
      passes = subst (λ (xs : List ℕ). Passes left after most most_after [] (all_spelled elements) xs) (sym same) was.passes;
      sound = was.sound;
      long = subst (λ (xs : List ℕ). 14 ≤ length (all_spelled elements) + length xs) (sym same) was.long;
      place = omega (arith, place, rest.0, was.place);
      held = omega (arith, rest.0);
      two = λ some. (let keeps = was.two (omega (arith, some, rest.1)) in (keeps.0, ap (λ (n : ℕ). drop n new.buffer) rest.0 ∙ buffer ∙ keeps.1));
    }

-- more was taken from the source
pub filled : (left mid after : Option (List ℕ)) (most most_mid most_after : ℕ) (elements : List Element) (old new : PassingElements) → old.len ≡ 0 → (new.place ≡ old.place) × (new.len ≡ old.len)
    → Passes mid after most_mid most_after (waiting_of old) [] (waiting_of new) → KeepsTwo new.zeros new.buffer → HasPassed left mid most most_mid elements old
    → HasPassed left after most most_after elements new
filled left mid after most most_mid most_after elements old new none same more two was =
    let none_new : new.len ≡ 0 = same.1 ∙ none in
    let passes : Passes mid after most_mid most_after (rest_of old) [] (rest_of new) =
    subst (λ (xs : List ℕ). Passes mid after most_mid most_after (rest_of old) [] xs) (sym (waiting_rest new none_new))
    (subst (λ (xs : List ℕ). Passes mid after most_mid most_after xs [] (waiting_of new)) (sym (waiting_rest old none)) more) in
    record {
      most_few = was.most_few;
      passes = passes_filled left mid after most most_mid most_after (all_spelled elements) (rest_of old) (rest_of new) was.passes passes;
      sound = was.sound;
      long = omega (arith, was.long, ap length passes.in_order, length-append (rest_of old) passes.bytes);
      place = omega (arith, same.0, none, none_new, was.place);
      held = omega (arith, none_new);
      two = λ some. (let keeps = two some in (keeps.0, ap (λ (n : ℕ). drop n new.buffer) none_new ∙ keeps.1));
    }

-- both
pub stepped : (left mid after : Option (List ℕ)) (most most_mid most_after : ℕ) (elements : List Element) (old between new : PassingElements) → between.buffer ≡ drop old.len old.buffer
    → between.place ≡ old.place + old.len → (between.len ≡ 0) × (between.zeros ≡ old.zeros) → (new.place ≡ between.place) × (new.len ≡ between.len)
    → Passes mid after most_mid most_after (waiting_of between) [] (waiting_of new) → KeepsTwo new.zeros new.buffer → HasPassed left mid most most_mid elements old
    → HasPassed left after most most_after elements new
stepped left mid after most most_mid most_after elements old between new buffer place rest same more two was =
    filled left mid after most most_mid most_after elements between new rest.0 same more two (turned left mid most most_mid elements old between buffer place rest was)

-- places are those of a source
pub few_more : (left after : Option (List ℕ)) (most most_after place count : ℕ) (held held_after : List ℕ) → Passes left after most most_after held [] held_after
    → place + count + length held + most < 2 ^ 64 → place + count + length held_after + most_after < 2 ^ 64
few_more left after most most_after place count held held_after passes few = omega (arith, few, passes_size left after most most_after held [] held_after passes)

rest_size : (passing : PassingElements) → length (rest_of passing) ≡ passing.zeros + (length passing.buffer - passing.len)
rest_size passing = omega (
  arith,
  length-append (replicate passing.zeros 0) (drop passing.len passing.buffer),
  length-replicate {A = ℕ} passing.zeros 0,
  length-drop passing.len passing.buffer,
)

-- what was taken from the source isn't left there
pub taken_left : (left after : Option (List ℕ)) (most most_after : ℕ) (elements : List Element) (passing : PassingElements) → HasPassed left after most most_after elements passing
    → taken_of passing + most_after ≡ most
taken_left left after most most_after elements passing was =
    omega (arith, was.place, was.held, passes_size left after most most_after [] (all_spelled elements) (rest_of passing) was.passes, rest_size passing)

pub within : (left after : Option (List ℕ)) (most most_after : ℕ) (elements : List Element) (passing : PassingElements) → HasPassed left after most most_after elements passing
    → passing.place + passing.zeros + length passing.buffer + most_after ≤ 2 ^ 60
within left after most most_after elements passing was = omega (arith, was.most_few, taken_left left after most most_after elements passing was)

-- ---- a step

behind_zeros : (m n : ℕ) (held bytes more : List ℕ) → m ≡ n → replicate m 0 ++ held ≡ (replicate n 0 ++ bytes) ++ more → held ≡ bytes ++ more
behind_zeros m n held bytes more same is =
    sym (drop_zeros m held) ∙ ap (drop m) (is ∙ append_assoc (replicate n 0) bytes more) ∙ ap (λ (k : ℕ). drop k (replicate n 0 ++ (bytes ++ more))) same ∙ drop_zeros n (bytes ++ more)

-- an element has passed
pub passed : (left after : Option (List ℕ)) (most most_after : ℕ) (elements : List Element) (old new : PassingElements) (len : ℕ) → old.len ≡ 0 → BeginsWith (waiting_of old) old.zeros len
    → new.place ≡ old.place + old.zeros → (new.buffer ≡ old.buffer) × (new.len ≡ len) × (new.zeros ≡ 0) → HasPassed left after most most_after elements old
    → Goes steps.Element left after most most_after elements new
passed left after most most_after elements old new len none begins place rest was =
    let element = begins.element in
    let bytes = element_bytes element in
    let all = elements ++ element ∷ [] in
    let held : new.buffer ≡ bytes ++ begins.more = rest.0 ∙ behind_zeros old.zeros element.zeros old.buffer bytes begins.more begins.zeros_are begins.rest_is in
    let size : length bytes ≡ new.len = sym (rest.1 ∙ begins.len_is) in
    let left_over : rest_of new ≡ begins.more =
    ap (λ (n : ℕ). replicate n 0 ++ drop new.len new.buffer) rest.2 ∙ ap (drop new.len) held ∙ drop_at bytes begins.more new.len size in
    let on : all_spelled elements ++ rest_of old ≡ all_spelled all ++ rest_of new =
    ap (λ (xs : List ℕ). all_spelled elements ++ xs) (waiting_rest old none ∙ begins.rest_is) ∙ sym (append_assoc (all_spelled elements) (element_spelling element) begins.more)
    ∙ ap (λ (xs : List ℕ). xs ++ begins.more) (sym (all_spelled-more elements element)) ∙ ap (λ (xs : List ℕ). all_spelled all ++ xs) (sym left_over) in
    let spelled : length (all_spelled all) ≡ length (all_spelled elements) + (element.zeros + length bytes) =
    ap length (all_spelled-more elements element) ∙ length-append (all_spelled elements) (element_spelling element)
    ∙ ap (λ (n : ℕ). length (all_spelled elements) + n) (spelled_length element) in (
      element,
      ap (take new.len) held ∙ take_at bytes begins.more new.len size,
      omega (arith, place, was.place, none, begins.zeros_are),
      record {
        most_few = was.most_few;
        passes = record { bytes = was.passes.bytes; taken = was.passes.taken; in_order = was.passes.in_order ∙ on };
        sound = sound_more elements element was.sound begins.sound;
        long = omega (arith, was.long, ap length on, length-append (all_spelled elements) (rest_of old), length-append (all_spelled all) (rest_of new));
        place = omega (arith, spelled, place, was.place, none, begins.zeros_are, size);
        held = omega (arith, ap length held, length-append bytes begins.more, size);
        two = λ some. absurd (omega (arith, some, rest.2));
      },
    )

-- the source has ended
pub ended : (left after : Option (List ℕ)) (most most_after : ℕ) (elements : List Element) (passing : PassingElements) (cut : ℕ) → passing.len ≡ 0 → IsEnd (waiting_of passing) cut → IsAtEnd after
    → HasPassed left after most most_after elements passing → IsWhole left after most most_after [] (λ file. HasElements file elements cut × (length file ≡ taken_of passing))
ended left after most most_after elements passing cut none end at_end was =
    let seen = all_spelled elements ++ rest_of passing in
    record {
      seen = seen;
      passes = passes_all left after most most_after (all_spelled elements) (rest_of passing) was.passes;
      end = at_end;
      whole = subst (λ (file : List ℕ). HasElements file elements cut × (length file ≡ taken_of passing)) (sym (append-nil seen)) (
        record {
          long = omega (arith, was.long, length-append (all_spelled elements) (rest_of passing));
          are = record { rest = rest_of passing; bytes_are = refl; sound = was.sound; ending = subst (λ (xs : List ℕ). IsEnd xs cut) (sym (waiting_rest passing none)) end };
        },
        omega (arith, length-append (all_spelled elements) (rest_of passing), was.place, was.held, rest_size passing),
      );
    }

-- what follows is refused
pub refused : (left after : Option (List ℕ)) (most most_after : ℕ) (elements : List Element) (passing : PassingElements) (fault : SplitFault) → passing.len ≡ 0
    → IsRefusedAt passing.place (waiting_of passing) fault → HasPassed left after most most_after elements passing → IsEarly left after most most_after [] (λ file. AreRefused file fault)
refused left after most most_after elements passing fault none is was =
    let seen = all_spelled elements ++ rest_of passing in
    let place : passing.place ≡ length (all_spelled elements) = omega (arith, was.place, none) in
    record {
      seen = seen;
      passes = passes_all left after most most_after (all_spelled elements) (rest_of passing) was.passes;
      every = λ more. (
        omega (arith, was.long, length-append (all_spelled elements) (rest_of passing), length-append seen more),
        early seen more fault (record {
          elements = elements;
          rest = rest_of passing;
          bytes_are = refl;
          sound = was.sound;
          refused = subst (λ (n : ℕ). IsRefusedAt n (rest_of passing) fault) place (subst (λ (xs : List ℕ). IsRefusedAt passing.place xs fault) (sym (waiting_rest passing none)) is);
        }),
      );
    }

-- ---- what is said of a refusal

pub on_refused : (fault : ElementFault) (P Q : SplitFault → Type 0) → OnRefused fault P → ((refusal : SplitFault) → P refusal → Q refusal) → OnRefused fault Q
on_refused (faults.Outside fault) P Q said on = tt
on_refused (faults.Refused refusal) P Q said on = on refusal said

pub is_refused : (fault : ElementFault) (refusal : SplitFault) (P : SplitFault → Type 0) → fault ≡ faults.Refused refusal → OnRefused fault P → P refusal
is_refused fault refusal P is said = subst (λ (f : ElementFault). OnRefused f P) is said

pub early_on : (left after : Option (List ℕ)) (most most_after : ℕ) (held : List ℕ) (P Q : List ℕ → Type 0) → ((file : List ℕ) → P file → Q file) → IsEarly left after most most_after held P
    → IsEarly left after most most_after held Q
early_on left after most most_after held P Q on is = record { seen = is.seen; passes = is.passes; every = λ more. on (is.seen ++ more) (is.every more) }

pub whole_on : (left after : Option (List ℕ)) (most most_after : ℕ) (held : List ℕ) (P Q : List ℕ → Type 0) → ((file : List ℕ) → P file → Q file) → IsWhole left after most most_after held P
    → IsWhole left after most most_after held Q
whole_on left after most most_after held P Q on is = record { seen = is.seen; passes = is.passes; end = is.end; whole = on (is.seen ++ held) is.whole }

-- ---- all elements

-- less is left behind each
pub fewer_left : (left mid after : Option (List ℕ)) (most most_mid most_after : ℕ) (elements : List Element) (element : Element) (old new : PassingElements)
    → HasPassed left mid most most_mid elements old → HasPassed left after most most_after (elements ++ element ∷ []) new
    → most_after + length (rest_of new) < most_mid + length (rest_of old)
fewer_left left mid after most most_mid most_after elements element old new was is =
    let before = passes_size left mid most most_mid [] (all_spelled elements) (rest_of old) was.passes in
    let behind = passes_size left after most most_after [] (all_spelled (elements ++ element ∷ [])) (rest_of new) is.passes in
    let spelled = ap length (all_spelled-more elements element) ∙ length-append (all_spelled elements) (element_spelling element)
    ∙ ap (λ (n : ℕ). length (all_spelled elements) + n) (spelled_length element) in
    omega (arith, before, behind, spelled)
