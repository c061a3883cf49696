use Rattle.std.specs.Option.{option_copied}
use Rattle.version_source.specs.Sendable.{bytes_of_unit}
use Rattle.version_source.proofs.StateLemmas.{head-leaves-of, not-refused-of}
use Rattle.version_source.proofs.state.state_behind.Goals as goal

pub want_of_memory-requires : goal.want_of_memory-requires
want_of_memory-requires c =
    not-refused-of (option_copied c.args.before) c.unit_bytes-bytes.result.now (bytes_of_unit c.args.es.now c.args.unit.now) c.in-Err.fault c.unit_bytes-bytes.ensures.bytes
    c.requires.picture c.in-Err.ensures

pub returns-in-Ok : goal.returns-in-Ok
returns-in-Ok c =
    head-leaves-of (option_copied c.args.before) c.unit_bytes-bytes.result.now (bytes_of_unit c.args.es.now c.args.unit.now) c.in-Ok.cursor.headers c.unit_bytes-bytes.ensures.bytes
    c.requires.picture c.in-Ok.ensures.headed
