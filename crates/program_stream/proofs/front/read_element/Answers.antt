use Rattle.std.proofs.Common.{◌≤◌, length, take, sym, ◌∙◌, arith}
use Rattle.std.proofs.lemmas.List.{length-take}
use Rattle.program_stream.proofs.Wholes.{element_of, has_bytes, four_bytes, front_bytes, prefix_cut, low_id, cut_there, refused_there, whole_there}
use Rattle.program_stream.proofs.front.read_element.Goals as goal

pub returns-then-bytes-lt-START_CODE_BYTES-clause-reads : goal.returns-then-bytes-lt-START_CODE_BYTES-clause-reads
returns-then-bytes-lt-START_CODE_BYTES-clause-reads c before place = prefix_cut c.args.zeros c.args.bytes.now c.requires.prefix.0 c.requires.prefix.1 c.if-bytes-lt-START_CODE_BYTES.true

pub returns-then-bytes-lt-END_CODE-clause-reads : goal.returns-then-bytes-lt-END_CODE-clause-reads
returns-then-bytes-lt-END_CODE-clause-reads c before place =
    low_id c.args.zeros c.args.at before c.args.bytes.now c.requires.prefix.0 c.requires.prefix.1 (omega (arith, c.if-bytes-lt-START_CODE_BYTES.false)) c.if-bytes-lt-END_CODE.true place

pub returns-then-bytes-len-clause-reads : goal.returns-then-bytes-len-clause-reads
returns-then-bytes-len-clause-reads c before place =
    let long : 4 ≤ length c.args.bytes.now = omega (arith, c.if-bytes-lt-START_CODE_BYTES.false) in
    let element = element_of c.args.zeros c.args.bytes.now in
    cut_there c.args.zeros c.element_length-len.result c.args.bytes.now c.requires.prefix.0 c.requires.prefix.1 long (omega (arith, c.if-bytes-lt-END_CODE.false))
    (c.element_length-len.ensures.length element (has_bytes c.args.zeros c.args.bytes.now c.requires.prefix.0 c.requires.prefix.1 long)) c.if-bytes-len.true

pub refusal-requires : goal.refusal-requires
refusal-requires c =
    let long : 4 ≤ length c.args.bytes.now = omega (arith, c.if-bytes-lt-START_CODE_BYTES.false) in
    let n = c.element_length-len.result in
    let element = element_of c.args.zeros c.args.bytes.now in
    let len = c.element_length-len.ensures.length element (has_bytes c.args.zeros c.args.bytes.now c.requires.prefix.0 c.requires.prefix.1 long) in
    omega (arith, length-take n c.args.bytes.now, four_bytes element n len, c.if-bytes-len.false)

pub returns-in-Some-clause-reads : goal.returns-in-Some-clause-reads
returns-in-Some-clause-reads c before place =
    let long : 4 ≤ length c.args.bytes.now = omega (arith, c.if-bytes-lt-START_CODE_BYTES.false) in
    let n = c.element_length-len.result in
    let element = element_of c.args.zeros c.args.bytes.now in
    let len = c.element_length-len.ensures.length element (has_bytes c.args.zeros c.args.bytes.now c.requires.prefix.0 c.requires.prefix.1 long) in
    let within : n ≤ length c.args.bytes.now = omega (arith, c.if-bytes-len.false) in
    let front = front_bytes c.args.zeros c.args.bytes.now c.requires.prefix.0 n c.requires.prefix.1 (four_bytes element n len) within in
    refused_there c.args.zeros c.args.at before n c.args.bytes.now c.requires.prefix.0 c.in-Some.fault c.requires.prefix.1 long (omega (arith, c.if-bytes-lt-END_CODE.false)) len within place
    (sym (c.refusal.ensures (element_of c.args.zeros (take n c.args.bytes.now)) front) ∙ c.in-Some.is)

pub returns-in-None-clause-reads : goal.returns-in-None-clause-reads
returns-in-None-clause-reads c before place =
    let long : 4 ≤ length c.args.bytes.now = omega (arith, c.if-bytes-lt-START_CODE_BYTES.false) in
    let n = c.element_length-len.result in
    let element = element_of c.args.zeros c.args.bytes.now in
    let len = c.element_length-len.ensures.length element (has_bytes c.args.zeros c.args.bytes.now c.requires.prefix.0 c.requires.prefix.1 long) in
    let within : n ≤ length c.args.bytes.now = omega (arith, c.if-bytes-len.false) in
    let front = front_bytes c.args.zeros c.args.bytes.now c.requires.prefix.0 n c.requires.prefix.1 (four_bytes element n len) within in
    whole_there c.args.zeros c.args.at n c.args.bytes.now c.requires.prefix.0 c.requires.prefix.1 long (omega (arith, c.if-bytes-lt-END_CODE.false)) len within
    (sym (c.refusal.ensures (element_of c.args.zeros (take n c.args.bytes.now)) front) ∙ c.in-None.is)
