use Rattle.std.proofs.Common.{◌≡◌, ◌++◌, ℕ, List, length, take, drop, sym, ap, subst, ◌∙◌, arith, rules}
use Rattle.std.proofs.Math.Seq.{take-append_seam}
use Rattle.picture_heads.specs.Heads.{IsHeadWithoutDelay}
use Rattle.picture_heads.specs.Private.Walk.{with_ones}
use Rattle.picture_heads.proofs.DelayPlaces.{delay-walk, set-without}
use Rattle.picture_heads.proofs.Ones.{ones-length}
use Rattle.picture_heads.proofs.delay.without_delay.Goals as goal

pub set_delay-requires : goal.set_delay-requires
set_delay-requires c =
    let (front, delay, back, h) = c.requires in
    let w = delay-walk c.args.head.now front delay back h in
    let (place, is, lt, size) = c.behind_picture_code.ensures w.codes h.following w.rest w.leads h.whole w.enough in
    let at : c.in-Some.at ≡ place = (let e = sym c.in-Some.is ∙ is in cc) in
    let same : c.deref_mut.result.now ≡ c.args.head.now = search rules in
    omega (arith, ap length same, at, lt)

pub unreachable-requires : goal.unreachable-requires
unreachable-requires c =
    let (front, delay, back, h) = c.requires in
    let w = delay-walk c.args.head.now front delay back h in
    let (place, is, lt, size) = c.behind_picture_code.ensures w.codes h.following w.rest w.leads h.whole w.enough in
    let clash = sym c.in-None.is ∙ is in
    cc

pub returns : goal.returns
returns c =
    let (front, delay, back, h) = c.requires in
    let w = delay-walk c.args.head.now front delay back h in
    let (place, is, lt, size) = c.behind_picture_code.ensures w.codes h.following w.rest w.leads h.whole w.enough in
    let at : place ≡ c.in-Some.at = (let e = sym is ∙ c.in-Some.is in cc) in
    let same : c.deref_mut.result.now ≡ c.args.head.now = search rules in
    let count : c.in_ok-bytes.bytes.len ≡ length c.set_delay.new.bytes = omega (
      arith,
      ap length c.set_delay.ensures,
      ones-length c.deref_mut.result.now c.in-Some.at,
      c.deref_mut.ensures.len,
      ap length c.deref_mut.ensures.value,
    ) in
    let made : c.from_vec.result ≡ with_ones c.args.head.now c.in-Some.at =
    c.from_vec.ensures ∙ ap (λ (n : ℕ). take n (c.set_delay.new.bytes ++ drop (length c.set_delay.new.bytes) c.in_ok-bytes.bytes.items)) count
    ∙ take-append_seam c.set_delay.new.bytes (drop (length c.set_delay.new.bytes) c.in_ok-bytes.bytes.items) ∙ c.set_delay.ensures ∙ ap (λ (xs : List ℕ). with_ones xs c.in-Some.at) same in
    subst (IsHeadWithoutDelay c.args.head.now) (sym made) (set-without c.args.head.now front delay back h c.in-Some.at (omega (arith, at, lt)) (omega (arith, at, size)))
