-- From what a window shows to what a reader took.
use Rattle.std.proofs.Common.{◌≡◌, ℕ, ◌+◌, ◌<◌, ◌≤◌, List, [], ◌++◌, length, take, drop, append-nil, Option, Some, None, IfSome, refl, sym, ap, subst, ◌∙◌, arith}
use Rattle.std.specs.Option.{option_map}
use Rattle.std.proofs.lemmas.List.{length-take, take-take, take-append-drop}
use Rattle.bit_cursor.proofs.Fronts.{told_both}
use Rattle.picture_grammar.specs.Refusal.{Refusal}
use Rattle.picture_grammar.specs.Grammar.{Grammar}
use Rattle.picture_grammar.specs.Exact.{IsLocal}
use Rattle.shelf_io.specs.Source.{without_front}
use Rattle.block_coeffs.specs.declared.why.Why.{Why}
use Rattle.block_coeffs.specs.declared.why.Why.TheVariants as why
use Rattle.grammar_reading.specs.declared.window.BitWindow.{BitWindow}
use Rattle.block_coeffs.specs.Private.Why.{refusal_of, fault_at}
use Rattle.block_coeffs.specs.Private.Standing.{ShowsKnown}
use Rattle.grammar_reading.specs.Window.{seen, ShowsFront}
use Rattle.grammar_reading.specs.BitsRead.{AdvancesFrom, IsSpelled, ReadsFrom, RefusedAt, ExplainsFrom}
use Rattle.grammar_reading.proofs.BitsRead.{anywhere}
use Rattle.block_coeffs.specs.BlockFault.{refusal_told}
use Rattle.grammar_reading.proofs.Fronts.{length-front_of, take-front_of}

-- a front of the bits, as far as the window knows them
pub taken : (window : BitWindow) (bits : List ℕ) (len : ℕ) → ShowsFront window bits → len ≤ window.known → take len bits ≡ seen window len
taken window bits len shows le =
    let within = window.within in
    sym (take-take len 24 bits (omega arith)) ∙ ap (take len) shows ∙ take-front_of 24 window.bits len window.known le

shown : (window : BitWindow) (bits : List ℕ) (len : ℕ) → ShowsFront window bits → len ≤ window.known → len ≤ length bits
shown window bits len shows le =
    let within = window.within in
    omega (arith, ap length (taken window bits len shows le), length-take len bits, length-front_of 24 window.bits len (omega arith))

-- a window that shows the bits knows how they begin
pub front-known : (told : Option (List ℕ)) (window : BitWindow) → IfSome told (ShowsFront window) → IfSome told (ShowsKnown window)
front-known None window shows = tt
front-known (Some bits) window shows = taken window bits window.known shows (omega arith)

taken-known : (window : BitWindow) (bits : List ℕ) (len : ℕ) → ShowsKnown window bits → len ≤ window.known → take len bits ≡ seen window len
taken-known window bits len shows le = sym (take-take len window.known bits le) ∙ ap (take len) shows ∙ take-front_of 24 window.bits len window.known le

front-left : (told : Option (List ℕ)) (window : BitWindow) (len : ℕ) → IfSome told (ShowsKnown window) → len ≤ window.known → told ≡ option_map (λ rest. seen window len ++ rest) (without_front told len)
front-left None window len shows le = refl
front-left (Some bits) window len shows le = ap Some (sym (take-append-drop len bits) ∙ ap (λ f. f ++ drop len bits) (taken-known window bits len shows le))

-- a window of held bits shows what is left, where all bits are held that are asked for or left
pub held-shown : (told now : Option (List ℕ)) (held : ℕ) (window : BitWindow) → now ≡ told → (held < 24 → IfSome told (λ bits. length bits ≡ held))
    → IfSome now (λ bits. (held < 24 → length bits ≡ held) → ShowsFront window bits) → IfSome told (ShowsFront window)
held-shown told now held window same few shows =
    told_both told (held < 24) (λ bits. length bits ≡ held) (ShowsFront window) (subst (λ t. IfSome t (λ bits. (held < 24 → length bits ≡ held) → ShowsFront window bits)) same shows) few

-- a front that spells a value without looking ahead spells it before all that may follow
local-spelled : {A : Type 0} {grammar : Grammar A} → IsLocal grammar → (value : A) (front : List ℕ) (after : Option (List ℕ)) → grammar.Spells value front [] → IsSpelled grammar value front after
local-spelled {grammar = grammar} local value front None s = ([], subst (λ f. grammar.Spells value f []) (sym (append-nil front)) s)
local-spelled {grammar = grammar} local value front (Some rest) s = anywhere local value front [] rest (subst (λ f. grammar.Spells value f []) (sym (append-nil front)) s)

-- what the window knows of a value was read once it is taken
pub reads-known : {A : Type 0} (grammar : Grammar A) → IsLocal grammar → (value : A) (told after : Option (List ℕ)) (window : BitWindow) (len place place_after : ℕ)
    → IfSome told (ShowsKnown window) → len ≤ window.known → grammar.Spells value (seen window len) [] → after ≡ without_front told len
    → place_after ≡ place + len → ReadsFrom grammar value told after place place_after
reads-known grammar local value told after window len place place_after shows le spelled left moved =
    let within = window.within in record {
      front = seen window len;
      spelled = local-spelled local value (seen window len) after spelled;
      left = front-left told window len shows le ∙ ap (option_map (λ rest. seen window len ++ rest)) (sym left);
      moved = moved ∙ ap (λ n. place + n) (sym (length-front_of 24 window.bits len (omega arith)));
    }

pub reads-found : {A : Type 0} (grammar : Grammar A) → IsLocal grammar → (value : A) (told after : Option (List ℕ)) (window : BitWindow) (len place place_after : ℕ)
    → IfSome told (ShowsFront window) → len ≤ window.known → grammar.Spells value (seen window len) [] → after ≡ without_front told len
    → place_after ≡ place + len → ReadsFrom grammar value told after place place_after
reads-found grammar local value told after window len place place_after shows = reads-known grammar local value told after window len place place_after (front-known told window shows)

-- bits that the window knows were passed
pub advances-known : (told after : Option (List ℕ)) (window : BitWindow) (len place place_after : ℕ) → IfSome told (ShowsKnown window) → len ≤ window.known
    → after ≡ without_front told len → place_after ≡ place + len → AdvancesFrom told after place place_after
advances-known told after window len place place_after shows le left moved =
    let within = window.within in record {
      front = seen window len;
      left = front-left told window len shows le ∙ ap (option_map (λ rest. seen window len ++ rest)) (sym left);
      moved = moved ∙ ap (λ n. place + n) (sym (length-front_of 24 window.bits len (omega arith)));
    }

-- a refusal of what the window shows is one of the bits
refused-at : {A : Type 0} (grammar : Grammar A) (refusal : Refusal) (window : BitWindow) (bits : List ℕ) (behind place at : ℕ)
    → ShowsFront window bits → behind ≤ window.known → grammar.Refuses bits refusal (drop behind bits) → at ≡ place + behind → RefusedAt grammar refusal bits place at
refused-at grammar refusal window bits behind place at shows le refused moved =
    let enough = shown window bits behind shows le in record {
      front = take behind bits;
      left = drop behind bits;
      split = sym (take-append-drop behind bits);
      refused = refused;
      moved = omega (arith, length-take behind bits);
    }

explains-why : {A : Type 0} (grammar : Grammar A) (reason : Why) (bits : List ℕ) (place at : ℕ) → RefusedAt grammar (refusal_of reason) bits place at
    → ExplainsFrom grammar (refusal_told (fault_at reason at)) bits place
explains-why grammar why.NoCode bits place at r = r
explains-why grammar why.TooMany bits place at r = r
explains-why grammar why.BadEscape bits place at r = r
explains-why grammar why.End bits place at r = r

pub explains-found : {A : Type 0} (grammar : Grammar A) (reason : Why) (told : Option (List ℕ)) (window : BitWindow) (behind place at : ℕ)
    → IfSome told (ShowsFront window) → behind ≤ window.known → ((bits : List ℕ) → ShowsFront window bits → grammar.Refuses bits (refusal_of reason) (drop behind bits)) → at ≡ place + behind
    → IfSome told (λ bits. ExplainsFrom grammar (refusal_told (fault_at reason at)) bits place)
explains-found grammar reason None window behind place at shows le refused moved = tt
explains-found grammar reason (Some bits) window behind place at shows le refused moved =
    explains-why grammar reason bits place at (refused-at grammar (refusal_of reason) window bits behind place at shows le (refused bits shows) moved)
