use Rattle.std.proofs.Common.{◌<◌, ◌∷◌, ◌++◌, [], List, length, map, take, drop, get_or, sym, ap, ◌∙◌, append_assoc, add-one, arith, rules}
use Rattle.std.proofs.lemmas.List.{length-map, length_push, map-append, take_more}
use Rattle.version_table.specs.declared.table.AudioPacket.{AudioPacket}
use Rattle.version_table.specs.declared.table.ProgramRow.{ProgramRow}
use Rattle.slot_rule.specs.declared.queue_items.QueueItems.{QueueItems}
use Rattle.slot_rule.specs.declared.queue_items.QueueItems.TheVariants.{Units, Packets}
use Rattle.slot_rule.specs.declared.queue_state.QueueState.{QueueState}
use Rattle.slot_rule.specs.Private.QueueItems.{program_at, queue_at}
use Rattle.slot_rule.specs.Private.States.{audio_places, places_kept, queue_of}
use Rattle.slot_rule.specs.Queues.{Queue, audio_of, video_queue}
use Rattle.slot_rule.proofs.states.add_program.Goals as goal

pub loop-audio-preserved : goal.loop-audio-preserved
loop-audio-preserved c =
    let table = c.args.table.now in
    let choice = c.args.choice.now in
    let olds = c.args.states.now.items in
    let states = c.loop-audio.states.items in
    let news = c.add_stream-in-loop-audio.new.states.items in
    let program = c.args.program in
    let first = c.args.first in
    let audio = c.loop-audio.audio in
    let row = program_at table program in
    let items : QueueState → QueueItems = λ (state : QueueState). state.items in
    let within : c.loop-audio.audio < length (program_at c.args.table.now c.args.program).audios =
    omega (arith, c.loop-audio-test.true, c.len-audio-end.ensures, ap (λ (r : ProgramRow). length r.audios) c.program_at-row.ensures) in
    let added = length_push (places_kept states) (Packets program audio) in
    let longer = ap (λ (list : List QueueItems). length list) c.add_stream-in-loop-audio.ensures.places in
    record {
      queues = c.add_stream-in-loop-audio.ensures.queues
          ∙ ap (λ (list : List Queue). list ++ queue_at table choice (Packets program audio) ∷ []) c.loop-audio.invariant.queues
          ∙ append_assoc (map (queue_of table choice) olds) (video_queue program row (drop first choice) ∷ map audio_of (take audio row.audios)) (queue_at table choice (Packets program audio) ∷ [])
          ∙ ap (λ (more : List Queue). map (queue_of table choice) olds ++ (video_queue program row (drop first choice) ∷ more))
          (sym (ap (λ (list : List (List AudioPacket)). map audio_of list) (take_more row.audios audio [] within) ∙ map-append audio_of (take audio row.audios) (get_or row.audios audio [] ∷ [])));
      places = c.add_stream-in-loop-audio.ensures.places ∙ ap (λ (list : List QueueItems). list ++ Packets program audio ∷ []) c.loop-audio.invariant.places
          ∙ append_assoc (places_kept olds) (Units program first ∷ audio_places program audio) (Packets program audio ∷ [])
          ∙ ap (λ n. places_kept olds ++ (Units program first ∷ audio_places program n)) (sym (add-one audio));
      first = search rules;
      many = omega (arith, longer, added, length-map states (λ (state : QueueState). state.items), length-map news (λ (state : QueueState). state.items), c.loop-audio.invariant.many);
    }
