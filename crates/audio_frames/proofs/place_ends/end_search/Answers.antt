use Rattle.std.proofs.Common.{◌≡◌, ◌+◌, ◌<◌, true, length, refl, sym, arith, inl}
use Rattle.audio_frames.specs.Frames.{is_first}
use Rattle.audio_frames.proofs.Certain.{none_found, search_resting, search_breaking}
use Rattle.audio_frames.proofs.Formats.{first_is_frame, frame_header, rest_whole}
use Rattle.audio_frames.proofs.Places.{found_passes}
use Rattle.audio_frames.proofs.place_ends.end_search.Goals as goal

pub returns-in_default-clause-refused : goal.returns-in_default-clause-refused
returns-in_default-clause-refused c = λ payload none rest. inl (none_found payload c.args.kept.now c.args.at none rest (sym c.in_default.ensures), refl)

pub header_at-format-requires : goal.header_at-format-requires
header_at-format-requires c =
    let kept = c.args.kept.now in
    let first = c.in-Some.first in
    let found : (is_first kept first ≡ true) × (first < 0 + length kept) = found_passes (is_first kept) (length kept) 0 first (sym c.in-Some.ensures) in
    frame_header kept first first (first_is_frame kept first found.0)

pub returns-in-Some-broken-clause-refused : goal.returns-in-Some-broken-clause-refused
returns-in-Some-broken-clause-refused c =
    let kept = c.args.kept.now in
    let first = c.in-Some.first in
    let found : (is_first kept first ≡ true) × (first < 0 + length kept) = found_passes (is_first kept) (length kept) 0 first (sym c.in-Some.ensures) in
    search_breaking c.header_at-format.result kept _ first c.args.at c.args.places.now c.follow.new.places (sym c.in-Some.ensures) c.header_at-format.ensures.header
    (omega (arith, found.1)) (sym (rest_whole kept first)) c.in_ok-followed.followed c.in-Some-broken.fault c.in-Some-broken.is c.in_ok-followed.ensures

pub returns-in-None-clause-all : goal.returns-in-None-clause-all
returns-in-None-clause-all c =
    let kept = c.args.kept.now in
    let first = c.in-Some.first in
    let found : (is_first kept first ≡ true) × (first < 0 + length kept) = found_passes (is_first kept) (length kept) 0 first (sym c.in-Some.ensures) in
    search_resting c.header_at-format.result kept _ first c.args.at c.args.places.now c.follow.new.places (sym c.in-Some.ensures) c.header_at-format.ensures.header
    (omega (arith, found.1)) (sym (rest_whole kept first)) c.in_ok-followed.followed c.in-None.is c.in_ok-followed.ensures
