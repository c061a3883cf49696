use Rattle.std.proofs.Common.{List, [], ◌∷◌, ◌++◌, take, ap, ◌∙◌, arith}
use Rattle.psi_tables.specs.declared.program_map.ProgramMap.{ProgramMap}
use Rattle.psi_tables.specs.declared.stream.Stream.{Stream}
use Rattle.elementary_streams.specs.Audio.{audio_type}
use Rattle.program_reader.proofs.AudioMaps.{same_count, typed_more, typed_room, typed_all}
use Rattle.program_reader.proofs.audio_types.with_audio_types.Goals as goal

pub bounds-read-at : goal.bounds-read-at
bounds-read-at c = omega (arith, same_count (λ one. one.kind) audio_type c.args.read.now c.args.audios.now c.requires.types, c.loop-at-test.true)

pub offset_bounds-read-at : goal.offset_bounds-read-at
offset_bounds-read-at c = omega (arith, c.loop-at-test.true, c.requires.few)

pub push-requires : goal.push-requires
push-requires c =
    (omega arith, typed_room c.args.program_map.streams.items c.args.audios.now c.loop-at.at c.loop-at.streams.items c.loop-at-test.true c.requires.few c.loop-at.invariant)

pub loop-at-preserved : goal.loop-at-preserved
loop-at-preserved c =
    typed_more (take 1 c.args.program_map.streams.items) c.args.audios.now c.args.read.now c.loop-at.at c.index-audios-at.result c.index-read-at.result c.loop-at.streams.items c.push.new.self.items
    c.loop-at-test.true c.requires.types c.loop-at.invariant (c.push.ensures.items ∙ ap (λ (s : Stream). c.loop-at.streams.items ++ s ∷ []) c.map_stream.ensures)

pub returns : goal.returns
returns c =
    ap (λ (ss : List Stream). let m : ProgramMap = record { number = c.args.program_map.number; pcr_pid = c.args.program_map.pcr_pid; streams = record { items = ss }; dropped = c.args.program_map.dropped } in m)
    (typed_all (take 1 c.args.program_map.streams.items) c.args.audios.now c.loop-at.at c.loop-at.streams.items c.loop-at-test.false c.loop-at.invariant)
