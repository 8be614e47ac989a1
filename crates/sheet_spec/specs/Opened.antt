-- Names every definition of the layer that computes: a proof that says `unfolding sheet_opened` computes with them all.
-- Assumes nothing.
use Rattle.sheet_spec.specs.Records.{matches, forces0, forces1}
use Rattle.sheet_spec.specs.Job.{ins, outs, inputs_to, outputs_to, word_of, number_of}
use Rattle.sheet_spec.specs.Values.{forced_to0, forced_to1, value_by, value, allows, differ_alone, depends}
use Rattle.sheet_spec.specs.Refusals.{out_of_range, refuse1, times, each_once, not_each_once, refuse2, refuse3, malformed, any_malformed, refuse4, alike, common, opposed, clash, refuse5, place_of, height_of, above_input, refuse6, sheet_refusal}
use Rattle.sheet_spec.specs.Table.{table_at, table_of, table_after}
use Rattle.sheet_spec.specs.Characteristic.{meets, chi}
use Rattle.sheet_spec.specs.SameRecords.{is_record, times_in, record_at, records_of}

unfoldable pub sheet_opened : Unit {0}
unfolding matches forces0 forces1 ins outs inputs_to outputs_to word_of number_of forced_to0 forced_to1 value_by value allows differ_alone depends out_of_range refuse1 times each_once not_each_once refuse2 refuse3 malformed any_malformed refuse4 alike common opposed clash refuse5 place_of height_of above_input refuse6 sheet_refusal table_at table_of table_after meets chi is_record times_in record_at records_of
sheet_opened = tt
