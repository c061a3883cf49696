use Rattle.time_laws.proofs.laws.stream_is_clean_by_its_times.Goals as goal

pub returns : goal.returns
returns c job contents programs table choice slots stream valid are of table_valid fits list in_slots bytes = record {
  table = table;
  choice = choice;
  valid = table_valid;
  fits = fits;
  slot_is = of.slot;
  carried = c.stream_carries_its_times.ensures job contents programs table choice slots stream valid are of table_valid fits list in_slots bytes;
  clean = c.stream_is_clean.ensures job programs table choice slots stream valid (c.programs_of_contents_are_read.ensures job contents programs are bytes) of table_valid fits list in_slots;
}
