use Rattle.std.proofs.Common.{◌≡◌, ◌≤◌, ◌<◌, ◌++◌, ◌||◌, ◌^◌, ap, sym, subst, ◌∙◌, map, All, arith, inl, inr}
use Rattle.std.specs.Option.{option_to_list}
use Rattle.std.proofs.lemmas.List.{map-append}
use Rattle.ts_packets.specs.TransportStream.{is_of_pid, piece_count}
use Rattle.tstd_model.specs.PacketBytes.{HasHeaderWithin}
use Rattle.ts_demux.specs.Tables.{pat_pid}
use Rattle.stream_audit.specs.Streams.{section_arrival, system_before}
use Rattle.stream_audit.proofs.SystemLaws.{found_few, sections_more}
use Rattle.stream_audit.proofs.sections.section_arrivals.Goals as goal

pub loop-bytes-init : goal.loop-bytes-init
loop-bytes-init c = record {
  most = omega arith;
  stand = c.new-readers.ensures c.args.file.now;
  arrivals = c.new-arrivals.ensures;
  headers = subst (λ arrivals. All HasHeaderWithin arrivals) (sym c.new-arrivals.ensures) (λ k arrival less. absurd (omega (arith, less)));
}

pub push_section-requires-clause-few : goal.push_section-requires-clause-few
push_section-requires-clause-few c =
    let file = c.args.file.now in
    let n = c.loop-bytes.n in
    let within = c.in-Some.ensures.some.0 in
    let less : n < 2 ^ 32 = omega (arith, within, c.requires.few) in
    found_few file n (2 ^ 32) (is_of_pid file pat_pid n || is_of_pid file c.args.map_pid n) c.in-Ok.found
    (c.in-Ok.ensures.taken file c.args.map_pid within c.in-Some.ensures.some.1 c.loop-bytes.invariant.stand).found_is less

pub loop-bytes-preserved : goal.loop-bytes-preserved
loop-bytes-preserved c =
    let was = c.loop-bytes.invariant in
    let file = c.args.file.now in
    let map_pid = c.args.map_pid in
    let n = c.loop-bytes.n in
    let within = c.in-Some.ensures.some.0 in
    let bytes_are = c.in-Some.ensures.some.1 in
    let found = (c.in-Ok.ensures.taken file map_pid within bytes_are was.stand).found_is in
    record {
      most = omega (arith, within);
      stand = c.in-Ok.ensures.behind file map_pid within bytes_are was.stand;
      arrivals = c.in_ok-push_section.ensures.added ∙ ap (λ arrivals. arrivals ++ map section_arrival (option_to_list c.in-Ok.found)) was.arrivals
          ∙ sym (map-append section_arrival (system_before file map_pid n) (option_to_list c.in-Ok.found))
          ∙ ap (map section_arrival) (sym (sections_more file map_pid n c.in-Ok.found found));
      headers = c.in_ok-push_section.ensures.headers was.headers;
    }

-- no packet of the file is refused
pub returns-in-Err-clause-memory : goal.returns-in-Err-clause-memory
returns-in-Err-clause-memory c =
    let file = c.args.file.now in
    let n = c.loop-bytes.n in
    elim (c.in-Err.ensures.taken file c.args.map_pid c.in-Some.ensures.some.0 c.in-Some.ensures.some.1 c.loop-bytes.invariant.stand) [
      | inl of_pat ↦ absurd (c.requires.pat_sound n c.in-Err.fault of_pat)
      | inr of_map ↦ absurd (c.requires.map_sound n c.in-Err.fault of_map)
    ]

pub returns-clause-arrivals : goal.returns-clause-arrivals
returns-clause-arrivals c =
    let was = c.loop-bytes.invariant in
    let file = c.args.file.now in
    let end : piece_count file ≤ c.loop-bytes.n = c.packet_at.ensures.none c.in_default.is in
    let all : c.loop-bytes.n ≡ piece_count file = omega (arith, end, was.most) in
    was.arrivals ∙ ap (λ count. map section_arrival (system_before file c.args.map_pid count)) all
