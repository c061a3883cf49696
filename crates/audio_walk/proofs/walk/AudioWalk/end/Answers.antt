use Rattle.std.proofs.Common.{◌++◌, ◌∷◌, [], ap, arith}
use Rattle.std.specs.Option.{option_copied}
use Rattle.audio_walk.proofs.Ends.{ends_dropped, ends_none, ends_some, fault_last, few_last, known_last, size_last}
use Rattle.audio_walk.proofs.walk.AudioWalk.end.Goals as goal

pub finish-requires : goal.finish-requires
finish-requires c =
    let (packets, all, has, are) = c.requires.read in
    record {
      read = (packets, all, has.placed, ends_none packets all (option_copied c.args.last) (ap option_copied c.in_default.is) are);
      few = omega (arith, c.requires.few);
      first = c.requires.first;
    }

pub returns-in_default : goal.returns-in_default
returns-in_default c packets stream has are =
    c.finish.ensures packets stream has.placed (ends_none packets stream.units (option_copied c.args.last) (ap option_copied c.in_default.is) are)

pub add-requires : goal.add-requires
add-requires c =
    let (packets, all, has, are) = c.requires.read in
    let last = c.in-Some.last.now in
    let given = ap option_copied c.in-Some.is in
    let ends = ends_some packets all last c.in-Ok-Some.field-0 c.in-Ok-Some.header has.sound (known_last packets all (option_copied c.args.last) last given are)
    c.in-Ok-Some.ensures.sound c.in-Ok-Some.ensures.header c.in-Ok-Some.field-0-is in
    record { size = size_last c.args.self.bytes last (option_copied c.args.last) given c.requires.size; header = ends.1 }

pub finish-requires-in-Ok-Some : goal.finish-requires-in-Ok-Some
finish-requires-in-Ok-Some c =
    let (packets, all, has, are) = c.requires.read in
    let last = c.in-Some.last.now in
    let given = ap option_copied c.in-Some.is in
    let ends = ends_some packets all last c.in-Ok-Some.field-0 c.in-Ok-Some.header has.sound (known_last packets all (option_copied c.args.last) last given are)
    c.in-Ok-Some.ensures.sound c.in-Ok-Some.ensures.header c.in-Ok-Some.field-0-is in
    let placed = c.in_ok-walk-in-Ok-Some.ensures packets has.placed in
    record {
      read = (packets ++ last ∷ [], all, placed, ends.0);
      few = few_last packets last (option_copied c.args.last) c.args.self c.in_ok-walk-in-Ok-Some.walk given has.placed placed c.requires.few;
      first = c.requires.first;
    }

pub returns-in_ok-walk-in-Ok-Some : goal.returns-in_ok-walk-in-Ok-Some
returns-in_ok-walk-in-Ok-Some c packets stream has are =
    let last = c.in-Some.last.now in
    let given = ap option_copied c.in-Some.is in
    let ends = ends_some packets stream.units last c.in-Ok-Some.field-0 c.in-Ok-Some.header has.sound (known_last packets stream.units (option_copied c.args.last) last given are)
    c.in-Ok-Some.ensures.sound c.in-Ok-Some.ensures.header c.in-Ok-Some.field-0-is in
    c.finish-in-Ok-Some.ensures (packets ++ last ∷ []) stream (c.in_ok-walk-in-Ok-Some.ensures packets has.placed) ends.0

pub finish-requires-in-Ok-None : goal.finish-requires-in-Ok-None
finish-requires-in-Ok-None c =
    let (packets, all, has, are) = c.requires.read in
    let last = c.in-Some.last.now in
    let ends = ends_dropped packets all last c.in-Ok-None.field-0 has.sound (known_last packets all (option_copied c.args.last) last (ap option_copied c.in-Some.is) are)
    c.in-Ok-None.ensures.sound c.in-Ok-None.ensures.header c.in-Ok-None.field-0-is in
    record { read = (packets, all, has.placed, ends); few = omega (arith, c.requires.few); first = c.requires.first }

pub returns-in-Ok-None : goal.returns-in-Ok-None
returns-in-Ok-None c packets stream has are =
    let last = c.in-Some.last.now in
    let ends = ends_dropped packets stream.units last c.in-Ok-None.field-0 has.sound (known_last packets stream.units (option_copied c.args.last) last (ap option_copied c.in-Some.is) are)
    c.in-Ok-None.ensures.sound c.in-Ok-None.ensures.header c.in-Ok-None.field-0-is in
    c.finish-in-Ok-None.ensures packets stream has.placed ends

pub returns-in-Err : goal.returns-in-Err
returns-in-Err c packets stream has are =
    let last = c.in-Some.last.now in
    fault_last c.args.first.now.time stream packets last c.in-Err.fault (known_last packets stream.units (option_copied c.args.last) last (ap option_copied c.in-Some.is) are) has.sound
    c.in-Err.ensures.refused
