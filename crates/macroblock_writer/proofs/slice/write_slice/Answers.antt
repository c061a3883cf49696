use Rattle.macroblock_writer.proofs.WritableSlices.{slice_fits, read_again}
use Rattle.macroblock_writer.proofs.slice.write_slice.Goals as goal

pub write_header_and_macroblocks-requires-clause-fits : goal.write_header_and_macroblocks-requires-clause-fits
write_header_and_macroblocks-requires-clause-fits g c = slice_fits c.args.picture.seq.now c.args.picture.coding.now c.requires.spelled.0 c.args.slice.now c.requires.spelled.1

pub returns-clause-read_back : goal.returns-clause-read_back
returns-clause-read_back g c = λ row following spelled closes. read_again c.args.picture.seq.now c.args.picture.coding.now row c.args.slice.now following spelled closes
