-- What the case table says: the cascades of A, B, C, F, S and W.
-- Assumes nothing.
use Rattle.std.specs.Prelude.{ℕ, List, [], ◌∷◌}
use Rattle.reduction_spec.specs.declared.Node.{Node}
use Rattle.cutting_spec.specs.Compile.{Answer, Compiled, refused, accepted}
use Rattle.cutting_spec.specs.Example.{records_a, row_bytes_a}
use Rattle.case_table.specs.Lent.{node, old_nodes, old_bytes}

-- T's 15 nodes, the same for A, B and C
abbrev pub nodes_t : List Node
nodes_t =
    node 6 3 4
    ∷ node 5 5 6
    ∷ node 5 7 6
    ∷ node 4 8 9
    ∷ node 4 10 10
    ∷ node 4 8 11
    ∷ node 3 12 0
    ∷ node 3 13 0
    ∷ node 3 0 14
    ∷ node 3 0 13
    ∷ node 2 15 15
    ∷ node 2 16 16
    ∷ node 2 16 15
    ∷ node 1 0 1
    ∷ node 1 1 0
    ∷ []

-- T's widths at the heights 0 to 5
abbrev pub widths_t : List ℕ
widths_t = 1 ∷ 2 ∷ 3 ∷ 4 ∷ 3 ∷ 2 ∷ []

abbrev pub result_a : Compiled
result_a =
    record {
      answer = accepted record { nodes = 15; cells = 2; rows = 16; bits = 32; widths = widths_t };
      nodes = nodes_t;
      records = records_a;
      rows = row_bytes_a;
    }

-- the listing of A, line by line
abbrev pub listing_a : List (List ℕ)
listing_a =
    (5 ∷ 2 ∷ 1 ∷ [])
    ∷ (4 ∷ 3 ∷ 2 ∷ [])
    ∷ (3 ∷ 4 ∷ 2 ∷ [])
    ∷ (2 ∷ 3 ∷ 2 ∷ [])
    ∷ (1 ∷ 2 ∷ 1 ∷ [])
    ∷ (0 ∷ 1 ∷ 0 ∷ [])
    ∷ (6 ∷ 3 ∷ 0 ∷ 1 ∷ 2 ∷ 2 ∷ 0 ∷ 3 ∷ 2 ∷ 2 ∷ [])
    ∷ (3 ∷ 0 ∷ 1 ∷ 1 ∷ 0 ∷ 0 ∷ 2 ∷ 3 ∷ 2 ∷ 2 ∷ [])
    ∷ []

-- B: cuts at 6, 2 and 0
abbrev pub result_b : Compiled
result_b =
    record {
      answer = accepted record { nodes = 15; cells = 2; rows = 16; bits = 32; widths = widths_t };
      nodes = nodes_t;
      records = 0 ∷ 0 ∷ 0 ∷ 0 ∷ 1 ∷ 0 ∷ 0 ∷ 0 ∷ 2 ∷ 0 ∷ 0 ∷ 0 ∷ 128 ∷ 1 ∷ 2 ∷ 0 ∷ 3 ∷ 0 ∷ 0 ∷ 0 ∷ 129 ∷ 1 ∷ 0 ∷ 0 ∷ [];
      rows = 0 ∷ 0 ∷ 1 ∷ 0 ∷ 6 ∷ 0 ∷ 6 ∷ 0 ∷ 0 ∷ 0 ∷ 5 ∷ 0 ∷ 6 ∷ 0 ∷ 6 ∷ 0 ∷ 1 ∷ 0 ∷ 1 ∷ 0 ∷ 0 ∷ 0 ∷ 0 ∷ 0 ∷ 0 ∷ 0 ∷ 1 ∷ 0 ∷ 0 ∷ 0 ∷ 0 ∷ 0 ∷ [];
    }

-- C: one cell, 16 rows
abbrev pub result_c : Compiled
result_c =
    record {
      answer = accepted record { nodes = 15; cells = 1; rows = 16; bits = 32; widths = widths_t };
      nodes = nodes_t;
      records = 0 ∷ 0 ∷ 0 ∷ 0 ∷ 1 ∷ 0 ∷ 0 ∷ 0 ∷ 2 ∷ 0 ∷ 0 ∷ 0 ∷ 128 ∷ 0 ∷ 0 ∷ 0 ∷ 3 ∷ 0 ∷ 0 ∷ 0 ∷ 129 ∷ 1 ∷ 0 ∷ 0 ∷ [];
      rows = 1 ∷ 0 ∷ 1 ∷ 0 ∷ 0 ∷ 0 ∷ 0 ∷ 0 ∷ 2 ∷ 0 ∷ 3 ∷ 0 ∷ 2 ∷ 0 ∷ 3 ∷ 0 ∷ 1 ∷ 0 ∷ 1 ∷ 0 ∷ 2 ∷ 0 ∷ 2 ∷ 0 ∷ 2 ∷ 0 ∷ 3 ∷ 0 ∷ 2 ∷ 0 ∷ 3 ∷ 0 ∷ [];
    }

-- F: widths 1 and 1, rows 0 0; the memory past the written part, one node, one record byte and one row byte, is kept
abbrev pub result_f : Compiled
result_f =
    record {
      answer = accepted record { nodes = 2; cells = 1; rows = 2; bits = 2; widths = 1 ∷ 1 ∷ [] };
      nodes = node 2 3 3 ∷ node 1 1 1 ∷ node 7 8 9 ∷ [];
      records = 0 ∷ 0 ∷ 0 ∷ 0 ∷ 128 ∷ 1 ∷ 0 ∷ 0 ∷ 77 ∷ [];
      rows = 0 ∷ 0 ∷ 0 ∷ 0 ∷ 77 ∷ [];
    }

-- S: with the lid shut (places 00 and 01) free is merged with 1, with the lid open (10 and 11) the valve is 0: one cell, rows 1 1 0 0
abbrev pub result_s : Compiled
result_s =
    record {
      answer = accepted record { nodes = 5; cells = 1; rows = 4; bits = 4; widths = 1 ∷ 2 ∷ 2 ∷ [] };
      nodes = node 3 3 4 ∷ node 2 5 5 ∷ node 2 6 6 ∷ node 1 0 1 ∷ node 1 1 0 ∷ [];
      records = 0 ∷ 0 ∷ 0 ∷ 0 ∷ 1 ∷ 0 ∷ 0 ∷ 0 ∷ 128 ∷ 1 ∷ 0 ∷ 0 ∷ [];
      rows = 1 ∷ 0 ∷ 1 ∷ 0 ∷ 0 ∷ 0 ∷ 0 ∷ 0 ∷ [];
    }

-- W: the first cell has nine outputs, so that rows are over 255. Its rows are 0 0 1 1 258 258 259 259, those of the second 0 0 1 1 0 1 1 0
abbrev pub widths_w : List ℕ
widths_w = 1 ∷ 2 ∷ 4 ∷ 4 ∷ 4 ∷ 4 ∷ 4 ∷ 4 ∷ 4 ∷ 4 ∷ 4 ∷ 2 ∷ []

abbrev pub answer_and_rows : Compiled → Answer × List ℕ
answer_and_rows c = (c.answer, c.rows)

abbrev pub answer_w : Answer
answer_w = accepted record { nodes = 41; cells = 2; rows = 16; bits = 80; widths = widths_w }

abbrev pub row_bytes_w : List ℕ
row_bytes_w =
    0 ∷ 0 ∷ 0 ∷ 0 ∷ 1 ∷ 0 ∷ 1 ∷ 0 ∷ 2 ∷ 1 ∷ 2 ∷ 1 ∷ 3 ∷ 1 ∷ 3 ∷ 1
    ∷ 0 ∷ 0 ∷ 0 ∷ 0 ∷ 1 ∷ 0 ∷ 1 ∷ 0 ∷ 0 ∷ 0 ∷ 1 ∷ 0 ∷ 1 ∷ 0 ∷ 0 ∷ 0 ∷ []

-- refused with the number, all lent memory as it was
abbrev pub refused_with : ℕ → ℕ → ℕ → ℕ → Compiled
refused_with n x r w = record { answer = refused n; nodes = old_nodes x; records = old_bytes r; rows = old_bytes w }
