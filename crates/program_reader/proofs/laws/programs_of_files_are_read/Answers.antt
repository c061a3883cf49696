use Rattle.program_reader.proofs.ReadPrograms.{of-file}
use Rattle.program_reader.proofs.laws.programs_of_files_are_read.Goals as goal

pub returns : goal.returns
returns c = of-file (record {
  video_in_packets = c.within_file.ensures.video;
  video_in_elements = c.within_file-2.ensures.video;
  audios_in_packets = c.within_file.ensures.audios;
  audios_in_elements = c.within_file-2.ensures.audios;
  cut = c.within_file-2.ensures.cut;
})
