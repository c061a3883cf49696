use Rattle.std.proofs.Common.{◌≡◌, ◌^◌, List, [], ◌∷◌, true, sym, ◌∙◌, ap, subst}
use Rattle.tstd_model.specs.declared.packet_bytes.PacketByte.{PacketByte}
use Rattle.tstd_model.specs.Faults.{hold_subticks}
use Rattle.tstd_model.specs.Private.Cursors.{is_wanted, instants_of}
use Rattle.tstd_model.specs.Private.Server.{EachAtMost}
use Rattle.tstd_model.proofs.CursorSteps.{held_among, held_among-held, held_among-gone, held_among-end}
use Rattle.tstd_model.proofs.walks.first_old.Goals as goal

pub returns-in_default : goal.returns-in_default
returns-in_default c =
    let end : c.bytes.bytes ≡ [] = c.in_default.ensures.0 in
    sym (sym c.bytes.invariant.same ∙ held_among-end hold_subticks c.args.wanted c.bytes.bytes c.bytes.removed end)

pub returns-then-is_held : goal.returns-then-is_held
returns-then-is_held c =
    let byte = c.in-Some.byte in
    let split : c.bytes.bytes ≡ byte ∷ c.next_byte.new.self = c.in-Some.ensures in
    let wanted : is_wanted c.args.wanted byte.part ≡ true = sym c.takes.ensures ∙ c.if-takes.true in
    sym
    (
    sym c.bytes.invariant.same
    ∙ ap (λ (l : List PacketByte). held_among hold_subticks c.args.wanted l c.bytes.removed) split
    ∙ held_among-held hold_subticks c.args.wanted byte c.next_byte.new.self c.next_byte-taken.result c.bytes.removed c.next_byte-taken.new.self wanted c.next_byte-taken.ensures
    (sym c.is_held.ensures ∙ c.if-is_held.true)
    )

pub bytes-preserved-else-is_held : goal.bytes-preserved-else-is_held
bytes-preserved-else-is_held c =
    let byte = c.in-Some.byte in
    let split : c.bytes.bytes ≡ byte ∷ c.next_byte.new.self = c.in-Some.ensures in
    let wanted : is_wanted c.args.wanted byte.part ≡ true = sym c.takes.ensures ∙ c.if-takes.true in
    record {
      same =
          sym
          (
          ap (λ (l : List PacketByte). held_among hold_subticks c.args.wanted l c.bytes.removed) split
          ∙ held_among-gone hold_subticks c.args.wanted byte c.next_byte.new.self c.next_byte-taken.result c.bytes.removed c.next_byte-taken.new.self wanted c.next_byte-taken.ensures
          (sym c.is_held.ensures ∙ c.if-is_held.false)
          )
          ∙ c.bytes.invariant.same;
      small = (subst (λ (l : List PacketByte). EachAtMost (2 ^ 62) (instants_of l)) split c.bytes.invariant.small).1;
    }
