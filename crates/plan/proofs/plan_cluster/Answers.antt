-- `plan_cluster` fills as many rows as the plan's outcome has, and answers what it does.
use lib.ListN.{length}
use Rattle.planner.proofs.OutcomeLaws.{fill_asks, call_answers, call_fills}
use Rattle.plan.proofs.plan_cluster.Goals as goal

pub fill_rows-requires : goal.fill_rows-requires
fill_rows-requires c =
    let a = c.args in
    fill_asks a.shape a.leading a.present a.cluster.now (length a.plan.now) a.rows.now c.plan_bytes-found.ensures.0 c.outcome_count.ensures

pub returns : goal.returns
returns c =
    let a = c.args in
    let o = c.plan_bytes-found.ensures.0 in (
      call_answers a.shape a.leading a.present a.cluster.now (length a.plan.now) a.rows.now o c.outcome_answer.ensures,
      c.plan_bytes-found.ensures.1,
      call_fills a.shape a.leading a.present a.cluster.now (length a.plan.now) a.rows.now o c.outcome_count.ensures c.fill_rows.ensures,
    )
