use Rattle.std.proofs.Common.{take, eqb, ◌∙◌, arith, rules, tests}
use Rattle.std.proofs.lemmas.Iterator.{YieldsList-from_slice}
use Rattle.std.proofs.lemmas.Iterator.Search.{position_from_yields_List}
use Rattle.decide_slots.proofs.PlaceLaws.{place_or}
use Rattle.decide_slots.proofs.first_waiting.Goals as goal

pub returns : goal.returns
returns c =
    let a = c.args in
    let found = position_from_yields_List (λ b. eqb b 3) _ _ c.position-waiting.result c.position-waiting.ensures.ran (YieldsList-from_slice (take a.end a.bytes.now) cc) (λ x b q k. search (rules, tests)) in
    c.unwrap_or.ensures ∙ place_or (λ b. eqb b 3) a.bytes.now a.end (omega arith) found
