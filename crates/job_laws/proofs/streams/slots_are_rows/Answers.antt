use Rattle.job_laws.proofs.JobRows.{in-range}
use Rattle.job_laws.proofs.streams.slots_are_rows.Goals as goal

pub returns : goal.returns
returns c job contents programs table choice slots versions valid are of table_valid fits list are_versions =
    let layout = c.slots_are_of_the_layout.ensures.layout job contents programs valid are in
    record {
      is_layout = layout.0;
      few = layout.1;
      in_range = in-range job programs valid (c.slots_are_of_the_layout.ensures.kinds job contents programs are);
      each = c.slots_are_of_the_layout.ensures.slots job contents programs table choice slots versions valid are of table_valid fits list are_versions;
    }
