-- Names every definition of the layer that computes: a proof that says `unfolding cutting_opened` computes with them all.
-- Assumes nothing.
use Rattle.stored_spec.specs.Cells.{fits, rows, bits, usable_rows, usable_bits, all_fit, row_total, bit_total}
use Rattle.cutting_spec.specs.Cuts.{lists_to, cut_lists, cell_inputs, cell_outputs, cell_between, cells_of}
use Rattle.stored_spec.specs.Rails.{rails, rails_at}
use Rattle.cutting_spec.specs.Choice.{longer, admissible, better, is_none, best, chosen, refuse8}
use Rattle.cutting_spec.specs.Greedy.{greedy_next, greedy_from, greedy}
use Rattle.cutting_spec.specs.Rows.{emitted, row_of, row, cell_rows, cascade_rows}
use Rattle.stored_spec.specs.RowBytes.{row_value, room, row_bytes}
use Rattle.stored_spec.specs.StoredForm.{with_variable, with_cut, reading, stored_cells, cell_count, cell_at, size_of, rows_before, row_count, record_formed, cell_formed_as, records_formed_as, rows_formed_as, well_formed_as, stored_to, stored}
use Rattle.stored_spec.specs.Run.{address, row_place, set_outputs, outputs_after, rail_after, ran_one_by, run_by}
use Rattle.stored_spec.specs.ReadWrite.{record_at, cascade_of, read, write_bytes, write}
use Rattle.cutting_spec.specs.Compile.{widths_of, made, totals, refusal, acceptance, lend, reduce, compile_as, compile, compile_words}
use Rattle.cutting_spec.specs.Listing.{height_lines, cell_lines, listing}

unfoldable pub cutting_opened : Unit {0}
unfolding fits rows bits usable_rows usable_bits all_fit row_total bit_total lists_to cut_lists rails rails_at cell_inputs cell_outputs cell_between cells_of longer admissible better is_none best chosen refuse8 greedy_next greedy_from greedy emitted row_of row cell_rows cascade_rows stored_to stored with_variable with_cut reading stored_cells cell_count cell_at size_of rows_before row_count record_formed cell_formed_as records_formed_as rows_formed_as well_formed_as row_value room row_bytes address row_place set_outputs outputs_after rail_after ran_one_by run_by record_at cascade_of read write_bytes write widths_of made totals refusal acceptance lend reduce compile_as compile compile_words height_lines cell_lines listing
cutting_opened = tt
