use Rattle.std.proofs.Common.{◌∷◌, ◌++◌, [], List, None, IfOk, map, subst, sym, ◌∙◌, ap}
use Rattle.std.specs.Option.{option_copied}
use Rattle.ts_demux.specs.declared.demuxed.PesUnit.{PesUnit}
use Rattle.program_reader.specs.declared.unit_sizes.SizesWanted.{SizesWanted}
use Rattle.program_reader.specs.KeptUnits.{kept_at}
use Rattle.elementary_streams.specs.Packets.{joined}
use Rattle.program_reader.specs.Programs.{video_bytes}
use Rattle.program_reader.specs.Sizes.{AreUnitSizes}
use Rattle.program_reader.specs.VideoWalk.{AreFew, wanted_of}
use Rattle.program_reader.proofs.WalkEnds.{ends_dropped, ends_some, fault_last, few_front, known_last}
use Rattle.program_reader.proofs.video_walk.VideoWalk.end.Goals as goal

pub finish-requires-in-Ok-None : goal.finish-requires-in-Ok-None
finish-requires-in-Ok-None c =
    let (packets, all, has, are, few) = c.requires.read in
    let last = c.in-Some.last.now in
    let all_are = known_last packets all (option_copied c.args.last) last (ap option_copied c.in-Some.is) are in
    record { read = (packets, has.reads, few_front packets last (subst AreFew all_are few)) }

pub returns-in-Ok-None-clause-video : goal.returns-in-Ok-None-clause-video
returns-in-Ok-None-clause-video c packets demuxed has are few =
    let last = c.in-Some.last.now in
    let all_are = known_last packets demuxed.video (option_copied c.args.last) last (ap option_copied c.in-Some.is) are in
    let ends = ends_dropped packets demuxed.video last c.in-Ok-None.field-0 has.sound all_are c.in-Ok-None.ensures.sound c.in-Ok-None.ensures.header c.in-Ok-None.field-0-is in
    c.finish-in-Ok-None.ensures.video packets demuxed has.reads (few_front packets last (subst AreFew all_are few)) ends.sound ends.taken_are ends.dropped_are

pub returns-in-Ok-None-clause-sizes : goal.returns-in-Ok-None-clause-sizes
returns-in-Ok-None-clause-sizes c packets demuxed has are few want =
    let last = c.in-Some.last.now in
    let all_are = known_last packets demuxed.video (option_copied c.args.last) last (ap option_copied c.in-Some.is) are in
    let ends = ends_dropped packets demuxed.video last c.in-Ok-None.field-0 has.sound all_are c.in-Ok-None.ensures.sound c.in-Ok-None.ensures.header c.in-Ok-None.field-0-is in
    subst (λ (ps : List PesUnit). IfOk c.finish-in-Ok-None.result
    (λ video. AreUnitSizes (joined ps) (wanted_of c.args.self).coarser.now None (map kept_at video.units.items) video.sizes.items)) (sym ends.taken_are)
    (c.finish-in-Ok-None.ensures.sizes packets has.reads (few_front packets last (subst AreFew all_are few)) want)

pub returns-in_ok-take-in-Ok-Some-clause-video : goal.returns-in_ok-take-in-Ok-Some-clause-video
returns-in_ok-take-in-Ok-Some-clause-video c packets demuxed has are few =
    let last = c.in-Some.last.now in
    let all_are = known_last packets demuxed.video (option_copied c.args.last) last (ap option_copied c.in-Some.is) are in
    let few_all : AreFew (packets ++ last ∷ []) = subst AreFew all_are few in
    let ends = ends_some packets demuxed.video last c.in-Ok-Some.field-0 c.in-Ok-Some.header has.sound all_are c.in-Ok-Some.ensures.sound c.in-Ok-Some.ensures.header c.in-Ok-Some.field-0-is in
    c.finish-in-Ok-Some.ensures.video (packets ++ last ∷ []) demuxed (c.in_ok-take-in-Ok-Some.ensures.read packets has.reads few_all) few_all ends.0.sound ends.0.taken_are ends.0.dropped_are

pub returns-in_ok-take-in-Ok-Some-clause-sizes : goal.returns-in_ok-take-in-Ok-Some-clause-sizes
returns-in_ok-take-in-Ok-Some-clause-sizes c packets demuxed has are few want =
    let last = c.in-Some.last.now in
    let all_are = known_last packets demuxed.video (option_copied c.args.last) last (ap option_copied c.in-Some.is) are in
    let few_all : AreFew (packets ++ last ∷ []) = subst AreFew all_are few in
    let ends = ends_some packets demuxed.video last c.in-Ok-Some.field-0 c.in-Ok-Some.header has.sound all_are c.in-Ok-Some.ensures.sound c.in-Ok-Some.ensures.header c.in-Ok-Some.field-0-is in
    let same = c.in_ok-take-in-Ok-Some.ensures.wanted in
    subst (λ (w : SizesWanted). IfOk c.finish-in-Ok-Some.result
    (λ video. AreUnitSizes (video_bytes demuxed) w.coarser.now None (map kept_at video.units.items) video.sizes.items)) same
    (subst (λ (ps : List PesUnit). IfOk c.finish-in-Ok-Some.result
    (λ video. AreUnitSizes (joined ps) (wanted_of c.take.new.self).coarser.now None (map kept_at video.units.items) video.sizes.items)) (sym ends.0.taken_are)
    (c.finish-in-Ok-Some.ensures.sizes (packets ++ last ∷ []) (c.in_ok-take-in-Ok-Some.ensures.read packets has.reads few_all) few_all
    (ap (λ (w : SizesWanted). w.are_wanted) same ∙ want)))

pub returns-in-Err-clause-video : goal.returns-in-Err-clause-video
returns-in-Err-clause-video c packets demuxed has are few =
    let last = c.in-Some.last.now in
    let all_are = known_last packets demuxed.video (option_copied c.args.last) last (ap option_copied c.in-Some.is) are in
    fault_last demuxed packets last c.in-Err.fault all_are has.sound c.in-Err.ensures.refused
