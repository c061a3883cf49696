use Rattle.std.proofs.Common.{[], refl}
use Rattle.std.specs.Prelude.{slice_index_or}
use Rattle.version_source.specs.Pieces.{pieces_of, stream_items}
use Rattle.version_source.specs.Versions.{ratios_of}
use Rattle.job_stream.specs.Stream.{layout_of}
use Rattle.job_laws.proofs.SentStreams.{streams-send}
use Rattle.job_laws.proofs.streams.streams_carry_their_items.Goals as goal

pub returns : goal.returns
returns c job contents programs table choice slots versions stream valid are of table_valid fits list are_versions within pid_within =
    let same = c.one_list_of_versions.ensures programs (ratios_of job.programs) of.versions versions of.are_versions are_versions in
    let at = streams-send c.pieces_are_as_queued.ensures c.queues_send_items.ensures.video c.queues_send_items.ensures.audio
    job programs table choice versions of fits same are_versions stream within in
    c.streams_read_as_sent.ensures.carried table choice slots (layout_of job programs) job.slot (pieces_of (stream_items programs versions choice)) stream at.queue
    (slice_index_or (stream_items programs versions choice) stream []) list at.there
    (c.slots_are_rows.ensures job contents programs table choice slots versions valid are of table_valid fits list are_versions) pid_within at.sends (λ item piece. refl)
