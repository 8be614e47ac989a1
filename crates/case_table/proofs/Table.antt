-- The case table, proved: each case by computing with the definitions.
-- Assumes nothing.
use mathlib.Core.Path.{refl}
use Rattle.sheet_spec.specs.Opened.{sheet_opened}
use Rattle.reduction_spec.specs.Opened.{reduction_opened}
use Rattle.cutting_spec.specs.Opened.{cutting_opened}
use Rattle.bank_spec.specs.Opened.{bank_opened}
use Rattle.case_table.specs.Table.{CaseTable}

pub case_table : CaseTable
unfolding sheet_opened reduction_opened cutting_opened bank_opened
case_table =
    record {
      A = refl;
      A-listing = refl;
      B = refl;
      C = refl;
      D = refl;
      E = refl;
      E-above = refl;
      F = refl;
      G = refl;
      H-long = refl;
      H-odd = refl;
      I = refl;
      J-rows = refl;
      J-rows-wide = refl;
      J-records = refl;
      K = refl;
      K-kept = refl;
      K-book = refl;
      L = refl;
      L-rows = refl;
      L-book = refl;
      P = refl;
      P-book = refl;
      P-one-phase = refl;
      P-period = refl;
      P-phase = refl;
      P-scans = refl;
      P-scans-book = refl;
      S = refl;
      S-ordinary = refl;
      W = refl;
      W-16 = refl;
      W-17 = refl;
    }
