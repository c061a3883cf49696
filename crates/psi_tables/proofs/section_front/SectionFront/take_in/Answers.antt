-- Bytes of the header are taken, and then as many as are missing.
use Rattle.std.proofs.Common.{◌≡◌, ℕ, ◌+◌, ◌-◌, [], ◌++◌, length, take, drop, min, ap, ◌∙◌, subst, arith}
use Rattle.psi_tables.specs.Private.SectionFront.{front_bytes, IsLike}
use Rattle.psi_tables.proofs.Steps.{takes_in, like-none}
use Rattle.psi_tables.proofs.section_front.SectionFront.take_in.Goals as goal

pub returns-then-header-taken-clause-taken : goal.returns-then-header-taken-clause-taken
returns-then-header-taken-clause-taken c =
    let h = c.take_header-header.result in
    let k = c.min.result in
    let bytes = c.args.bytes.now in
    let before = front_bytes c.take_header-header.new.self in
    let count : h + k - h ≡ k = omega arith in
    let like : IsLike (front_bytes c.add.new.self) (before ++ take k (drop h bytes)) =
    subst (λ (m : ℕ). IsLike (front_bytes c.add.new.self) (before ++ take m (drop h bytes))) count c.add.ensures.like in
    takes_in (front_bytes c.args.self.now) bytes h before k (front_bytes c.add.new.self) c.requires.unsettled c.take_header-header.ensures.bound
    c.take_header-header.ensures.bytes c.take_header-header.ensures.all c.take_header-header.ensures.no_more
    (c.min.ensures ∙ ap (λ (m : ℕ). min m (length bytes - h)) c.missing.ensures) like

pub returns-else-header-taken-clause-taken : goal.returns-else-header-taken-clause-taken
returns-else-header-taken-clause-taken c =
    let h = c.take_header-header.result in
    let k = c.min.result in
    let bytes = c.args.bytes.now in
    let before = front_bytes c.take_header-header.new.self in
    let none : take k (drop h bytes) ≡ [] = let zero : k ≡ 0 = omega arith in ap (λ (m : ℕ). take m (drop h bytes)) zero in
    takes_in (front_bytes c.args.self.now) bytes h before k before c.requires.unsettled c.take_header-header.ensures.bound
    c.take_header-header.ensures.bytes c.take_header-header.ensures.all c.take_header-header.ensures.no_more
    (c.min.ensures ∙ ap (λ (m : ℕ). min m (length bytes - h)) c.missing.ensures) (like-none before _ none)
