-- For proofs only. Rows of eight bytes, and eight sums side by side.
use Rattle.std.specs.Prelude.{ℕ, ◌+◌, ◌*◌, List, get_or}
use Rattle.sum.specs.declared.eight.Eight.{Eight}

-- eight bytes
unfoldable pub row_of : List ℕ → Eight
row_of s =
    record {
      p0 = get_or s 0 0;
      p1 = get_or s 1 0;
      p2 = get_or s 2 0;
      p3 = get_or s 3 0;
      p4 = get_or s 4 0;
      p5 = get_or s 5 0;
      p6 = get_or s 6 0;
      p7 = get_or s 7 0;
    }

-- x in the first place, 0 in the others
unfoldable pub alone : ℕ → Eight
alone x = record { p0 = x; p1 = 0; p2 = 0; p3 = 0; p4 = 0; p5 = 0; p6 = 0; p7 = 0 }

-- two of them, added place by place
unfoldable pub added : Eight → Eight → Eight
added x y =
    record {
      p0 = x.p0 + y.p0;
      p1 = x.p1 + y.p1;
      p2 = x.p2 + y.p2;
      p3 = x.p3 + y.p3;
      p4 = x.p4 + y.p4;
      p5 = x.p5 + y.p5;
      p6 = x.p6 + y.p6;
      p7 = x.p7 + y.p7;
    }

abbrev pub total_of : Eight → ℕ
total_of x = x.p0 + x.p1 + x.p2 + x.p3 + x.p4 + x.p5 + x.p6 + x.p7

-- each as often as there are places before its own
abbrev pub weighted_of : Eight → ℕ
weighted_of x = x.p1 + 2 * x.p2 + 3 * x.p3 + 4 * x.p4 + 5 * x.p5 + 6 * x.p6 + 7 * x.p7
