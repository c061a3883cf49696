use Rattle.stream_audit.proofs.sections.SectionPlaces.new.Goals as goal

pub returns : goal.returns
returns c file = record {
  pat_pid_is = c.new.ensures.pid;
  map_pid_is = c.new-2.ensures.pid;
  pat = c.new.ensures.stands file;
  map = c.new-2.ensures.stands file;
}
