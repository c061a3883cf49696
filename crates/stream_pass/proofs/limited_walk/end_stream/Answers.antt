use Rattle.std.proofs.Common.{◌+◌, ◌≤◌, inr, length, arith}
use Rattle.std.specs.Option.{option_copied, option_to_list}
use Rattle.stream_pass.specs.declared.limits.TheConstants.{FILE_BYTES_MOST, PES_PACKETS_MOST}
use Rattle.stream_pass.specs.Private.Passed.{all_of}
use Rattle.stream_pass.proofs.Passed.{few_all, few_ended, refusal_is, too_many, within_all}
use Rattle.stream_pass.proofs.limited_walk.end_stream.Goals as goal

pub returns-then-all_count-gt-PES_PACKETS_MOST : goal.returns-then-all_count-gt-PES_PACKETS_MOST
returns-then-all_count-gt-PES_PACKETS_MOST g c start ended is taken =
    let last = option_copied c.args.last in
    let short : c.args.bytes ≤ FILE_BYTES_MOST = omega (arith, c.if-bytes-gt-FILE_BYTES_MOST.false) in
    inr (short, too_many ended last c.args.bytes c.args.passed.count is taken.count_is short (omega (arith, c.if-all_count-gt-PES_PACKETS_MOST.true, c.all_count.ensures)))

pub end_state-requires : goal.end_state-requires
end_state-requires g c =
    let (start, ended, is, taken) = c.requires in
    let last = option_copied c.args.last in
    let count = c.args.passed.count in
    let short : c.args.bytes ≤ FILE_BYTES_MOST = omega (arith, c.if-bytes-gt-FILE_BYTES_MOST.false) in
    let few : count + length (option_to_list last) ≤ PES_PACKETS_MOST = omega (arith, c.if-all_count-gt-PES_PACKETS_MOST.false, c.all_count.ensures) in (
      start,
      ended,
      few_all ended last c.args.bytes count is taken.count_is short few,
      is.none,
      taken.read (few_ended ended last c.args.bytes count is taken.count_is short few),
    )

pub returns-in-Ok : goal.returns-in-Ok
returns-in-Ok g c start ended is taken =
    let last = option_copied c.args.last in
    let count = c.args.passed.count in
    let short : c.args.bytes ≤ FILE_BYTES_MOST = omega (arith, c.if-bytes-gt-FILE_BYTES_MOST.false) in
    let few : count + length (option_to_list last) ≤ PES_PACKETS_MOST = omega (arith, c.if-all_count-gt-PES_PACKETS_MOST.false, c.all_count.ensures) in
    record {
      within = within_all ended last c.args.bytes count is taken.count_is short few;
      said = c.in-Ok.ensures start ended (few_all ended last c.args.bytes count is taken.count_is short few) is.none
          (taken.read (few_ended ended last c.args.bytes count is taken.count_is short few));
    }

pub returns-in-Refused : goal.returns-in-Refused
returns-in-Refused g c start ended is taken =
    let last = option_copied c.args.last in
    let count = c.args.passed.count in
    let short : c.args.bytes ≤ FILE_BYTES_MOST = omega (arith, c.if-bytes-gt-FILE_BYTES_MOST.false) in
    let few : count + length (option_to_list last) ≤ PES_PACKETS_MOST = omega (arith, c.if-all_count-gt-PES_PACKETS_MOST.false, c.all_count.ensures) in
    record {
      within = within_all ended last c.args.bytes count is taken.count_is short few;
      said = refusal_is (g.W.StreamWalk.refuses start (all_of ended last)) c.in-Err.fault c.in-Refused.fault c.in-Refused.is
          (c.in-Err.ensures start ended (few_all ended last c.args.bytes count is taken.count_is short few) is.none
          (taken.read (few_ended ended last c.args.bytes count is taken.count_is short few)));
    }
