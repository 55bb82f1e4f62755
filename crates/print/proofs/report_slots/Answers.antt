use Rattle.report.proofs.LineLaws as law
use mathlib.Core.Path.{sym}
use borrow.Author.Rules.{rules}
use Rattle.print.proofs.report_slots.Goals as goal

pub slice_bounds-put_slots-end : goal.slice_bounds-put_slots-end
slice_bounds-put_slots-end c =
    sym (law.head_page c.empty_page-bytes.result _ _ _ _ c.write_heading.ensures c.empty_page-bytes.ensures)

pub put_slots-requires : goal.put_slots-requires
put_slots-requires c =
    (law.head_page c.empty_page-bytes.result _ _ _ _ c.write_heading.ensures c.empty_page-bytes.ensures, search rules, search rules)

pub returns : goal.returns
returns c =
    law.head_lines c.empty_page-bytes.result _ _ _ _ c.write_heading.ensures _ _ _ _ _ c.empty_page-bytes.ensures c.put_slots.ensures
