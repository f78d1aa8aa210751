use Rattle.std.proofs.Common.{rules, ◌∙◌}
use Rattle.cobleskeg_c.proofs.ReturnLaws.{refused-number, refused-stays, answered-number, answered-written}
use Rattle.refusals.proofs.NumberLaws.{number-some}
use Rattle.std.proofs.Common.{arith}
use Rattle.cobleskeg_c.proofs.EntryLaws.{refused-holds, ended-holds}
use Rattle.cobleskeg_c.proofs.cobleskeg_search.Goals as goal

pub returns-in-Err : goal.returns-in-Err
returns-in-Err c =
    let told = c.in-Err.ensures.result_after in
    let some = number-some c.in-Err.e in
    record {
      value = c.number.ensures ∙ refused-number _ _ told;
      room_after = c.in-Err.ensures.room_after;
      table_after = c.in-Err.ensures.table_after;
      outcome_after = refused-stays _ _ told _ _;
      nodes_after = refused-stays _ _ told _ _;
      search_holds = refused-holds c.in-Err.e _ (omega (arith, c.number.ensures)) c.in-Err.ensures.search_holds _ _;
    }

pub returns-in-Ok : goal.returns-in-Ok
returns-in-Ok c =
    let told = c.in-Ok.ensures.result_after in
    record {
      value = answered-number _ _ told;
      room_after = c.in-Ok.ensures.room_after;
      table_after = c.in-Ok.ensures.table_after;
      outcome_after = c.numbered-number.ensures.number ∙ answered-written _ _ told _ _;
      nodes_after = c.numbered-number.ensures.visited ∙ answered-written _ _ told _ _;
      search_holds = ended-holds c.in-Ok.o c.in-Ok.ensures.search_holds _ _ c.numbered-number.ensures.number c.numbered-number.ensures.visited;
    }
