use Rattle.job_stream.proofs.LayoutRows.{kinds-are, layout-is-one, slots-are}
use Rattle.job_stream.proofs.ReadPrograms.{programs-ready}
use Rattle.job_stream.proofs.laws.slots_are_of_the_layout.Goals as goal

pub returns-clause-layout : goal.returns-clause-layout
returns-clause-layout c job contents programs valid are =
    layout-is-one job programs valid.few_programs (programs-ready c.programs_can_be_sent.ensures.taken_out job programs (contents, are))

pub returns-clause-kinds : goal.returns-clause-kinds
returns-clause-kinds c = kinds-are

pub returns-clause-slots : goal.returns-clause-slots
returns-clause-slots c job contents programs table choice slots versions valid are of table-valid fits list are-versions =
    slots-are c.one_list_of_versions.ensures job programs table choice slots versions (programs-ready c.programs_can_be_sent.ensures.taken_out job programs (contents, are)) of fits
    (c.slots_name_the_table.ensures table choice slots table-valid fits list) are-versions
