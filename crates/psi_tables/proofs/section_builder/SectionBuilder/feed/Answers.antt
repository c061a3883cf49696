-- The payload goes on with the section that is held, and what stands behind its pointer waits.
use Rattle.std.proofs.Common.{◌≡◌, ℕ, ◌+◌, ◌-◌, ◌≢◌, Bool, true, false, List, ◌∷◌, ◌++◌, length, take, drop, get_or, refl, sym, ap, ◌∙◌, arith}
use borrow.Rule.Slice.PartMut.{post_of}
use Rattle.std.proofs.lemmas.Bool.{eqb-true, eqb-false, le-leb, lt-leb}
use Rattle.bit_lists.specs.Payload.{Payload}
use Rattle.psi_tables.specs.Sections.{has_pointer, points_past, sections_of}
use Rattle.psi_tables.proofs.Building.{nothing-settled, feeds-on, feeds-past, feeds-pointed, feeds-ending, waits-from, no-bytes, some-pointer, before-is, behind-is}
use Rattle.psi_tables.proofs.section_builder.SectionBuilder.feed.Goals as goal
use Rattle.psi_tables.proofs.section_builder.SectionBuilder.feed.Goals.{then-not-start-via-then-not-start, then-not-start-via-else-not-start+then-is_empty}

pub go_on-requires-clause-unsettled : goal.go_on-requires-clause-unsettled
go_on-requires-clause-unsettled c = nothing-settled c.self.inside c.self.invariant (ap sections_of c.self.view_is ∙ c.requires.pulled)

pub go_on-requires-2-clause-unsettled : goal.go_on-requires-2-clause-unsettled
go_on-requires-2-clause-unsettled c = nothing-settled c.self.inside c.self.invariant (ap sections_of c.self.view_is ∙ c.requires.pulled)

pub invariant_of-self : goal.invariant_of-self
invariant_of-self c =
    let order = c.self.invariant in
    record {
      places = order.places;
      end = order.end;
      held = c.go_on.ensures.held;
      unsettled = λ _. order.unsettled (nothing-settled c.self.inside order (ap sections_of c.self.view_is ∙ c.requires.pulled));
    }

pub invariant_of-self-then-payload-pointed : goal.invariant_of-self-then-payload-pointed
invariant_of-self-then-payload-pointed c =
    let order = c.self.invariant in
    record {
      places = order.places;
      end = order.end;
      held = c.clear.ensures.held;
      unsettled = λ _. order.unsettled (nothing-settled c.self.inside order (ap sections_of c.self.view_is ∙ c.requires.pulled));
    }

pub returns-then-not-start : goal.returns-then-not-start
returns-then-not-start c = λ later.
    let no_pointer : has_pointer (record { start = c.args.start; bytes = c.args.payload.now }) ≡ false =
    elim c.then-not-start.branch [
      | then-not-start-via-then-not-start w ↦ ap (λ (start : Bool). has_pointer (record { start = start; bytes = c.args.payload.now })) w.if-not-start.true
      | then-not-start-via-else-not-start+then-is_empty w ↦ no-bytes c.args.start c.args.payload.now (eqb-true (length c.args.payload.now) 0 (sym w.is_empty.ensures ∙ w.if-is_empty.true))
    ] in
    feeds-on c.self.inside (record c.self.inside { front = c.go_on.new.self }) c.args.start c.args.payload.now c.self.invariant
    (ap sections_of c.self.view_is ∙ c.requires.pulled) no_pointer c.go_on.ensures refl refl refl later
    ∙ ap (λ (held : List Payload). sections_of (held ++ record { start = c.args.start; bytes = c.args.payload.now } ∷ later)) c.self.view_is

pub returns-then-payload-pointed : goal.returns-then-payload-pointed
returns-then-payload-pointed c = λ later.
    let bytes = c.args.payload.now in
    let start : c.args.start ≡ true = c.if-not-start.false in
    let some : length bytes ≢ 0 = eqb-false (length bytes) 0 (sym c.is_empty.ensures ∙ c.if-is_empty.false) in
    let pointer : has_pointer (record { start = true; bytes = bytes }) ≡ true = some-pointer bytes (omega (arith, some)) in
    let past : points_past (record { start = true; bytes = bytes }) ≡ true = le-leb (length bytes) (1 + get_or bytes 0 0) c.if-payload-pointed.true in
    feeds-past c.self.inside true bytes c.self.invariant (ap sections_of c.self.view_is ∙ c.requires.pulled) pointer past later
    ∙ ap (λ (held : List Payload). sections_of (held ++ record { start = true; bytes = bytes } ∷ later)) c.self.view_is
    ∙ ap (λ (flag : Bool). sections_of (c.args.self.now ++ record { start = flag; bytes = bytes } ∷ later)) (sym start)

pub returns-then-not-is_settled : goal.returns-then-not-is_settled
returns-then-not-is_settled c = λ later.
    let bytes = c.args.payload.now in
    let start : c.args.start ≡ true = c.if-not-start.false in
    let some : length bytes ≢ 0 = eqb-false (length bytes) 0 (sym c.is_empty.ensures ∙ c.if-is_empty.false) in
    let pointer : has_pointer (record { start = true; bytes = bytes }) ≡ true = some-pointer bytes (omega (arith, some)) in
    let inside : points_past (record { start = true; bytes = bytes }) ≡ false = lt-leb (length bytes) (1 + get_or bytes 0 0) c.if-payload-pointed.false in
    let behind : List ℕ = take (length bytes - (1 + get_or bytes 0 0)) (drop (1 + get_or bytes 0 0) bytes) in
    feeds-pointed c.self.inside (record c.self.inside {
      front = c.begin-self-inside.new.self;
      waiting = c.copy_from_slice.new.self
          ++ post_of 0 (length behind) c.self.inside.waiting;
      at = c.begin-self-inside.result;
      end = length behind;
    }) true bytes _ behind
    c.begin-self-inside.result c.go_on-2.new.self c.self.invariant (ap sections_of c.self.view_is ∙ c.requires.pulled) pointer inside
    (before-is bytes inside) (behind-is bytes) c.go_on-2.ensures (sym c.is_settled.ensures ∙ c.if-not-is_settled.true) c.begin-self-inside.ensures
    (waits-from behind c.copy_from_slice.new.self _ c.begin-self-inside.result c.copy_from_slice.ensures.after c.begin-self-inside.ensures.bound)
    refl later
    ∙ ap (λ (held : List Payload). sections_of (held ++ record { start = true; bytes = bytes } ∷ later)) c.self.view_is
    ∙ ap (λ (flag : Bool). sections_of (c.args.self.now ++ record { start = flag; bytes = bytes } ∷ later)) (sym start)

pub returns-else-not-is_settled : goal.returns-else-not-is_settled
returns-else-not-is_settled c = λ later.
    let bytes = c.args.payload.now in
    let start : c.args.start ≡ true = c.if-not-start.false in
    let some : length bytes ≢ 0 = eqb-false (length bytes) 0 (sym c.is_empty.ensures ∙ c.if-is_empty.false) in
    let pointer : has_pointer (record { start = true; bytes = bytes }) ≡ true = some-pointer bytes (omega (arith, some)) in
    let inside : points_past (record { start = true; bytes = bytes }) ≡ false = lt-leb (length bytes) (1 + get_or bytes 0 0) c.if-payload-pointed.false in
    let behind : List ℕ = take (length bytes - (1 + get_or bytes 0 0)) (drop (1 + get_or bytes 0 0) bytes) in
    feeds-ending c.self.inside (record c.self.inside {
      front = c.go_on-2.new.self;
      waiting = c.copy_from_slice.new.self
          ++ post_of 0 (length behind) c.self.inside.waiting;
      at = 0;
      end = length behind;
    }) true bytes _ behind c.self.invariant
    (ap sections_of c.self.view_is ∙ c.requires.pulled) pointer inside (before-is bytes inside) (behind-is bytes) c.go_on-2.ensures
    (sym c.is_settled.ensures ∙ c.if-not-is_settled.false)
    (waits-from behind c.copy_from_slice.new.self _ 0 c.copy_from_slice.ensures.after (omega arith)) refl later
    ∙ ap (λ (held : List Payload). sections_of (held ++ record { start = true; bytes = bytes } ∷ later)) c.self.view_is
    ∙ ap (λ (flag : Bool). sections_of (c.args.self.now ++ record { start = flag; bytes = bytes } ∷ later)) (sym start)
