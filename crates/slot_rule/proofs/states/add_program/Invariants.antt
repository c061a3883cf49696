use Rattle.std.proofs.Common.{◌≡◌, ◌+◌, All, ◌∷◌, ◌++◌, drop, map, take}
use Rattle.arrayvec.specs.ArrayVec.{array_vec_len}
use Rattle.slot_rule.specs.Private.QueueItems.{program_at}
use Rattle.slot_rule.specs.Private.States.{IsFirstState, audio_places, places_kept, queue_of}
use Rattle.slot_rule.specs.declared.queue_items.QueueItems.TheVariants.{Units}
use Rattle.slot_rule.specs.Queues.{audio_of, video_queue}
use Rattle.slot_rule.proofs.states.add_program.Given as goal

abbrev pub invariant-loop-audio : goal.invariant-loop-audio
invariant-loop-audio l = record {
  queues : map (queue_of l.table l.choice) l.states.items
      ≡ map (queue_of l.table l.choice) l.fn.states.items
      ++ (video_queue l.program (program_at l.table l.program) (drop l.first l.choice) ∷ map audio_of (take l.audio (program_at l.table l.program).audios));
  places : places_kept l.states.items ≡ places_kept l.fn.states.items ++ (Units l.program l.first ∷ audio_places l.program l.audio);
  first : All (IsFirstState l.table l.choice) l.states.items;
  many : array_vec_len l.states ≡ array_vec_len l.fn.states + (1 + l.audio);
}
