use Rattle.std.proofs.Common.{rules}
use Rattle.laws.proofs.TableLaws.{words_of}
use Rattle.cobleskeg.proofs.PerformLaws.{called_none, called_next, called_all, list-holds, indexes_refused}
use Rattle.cobleskeg.proofs.perform_by_index.Goals as goal

pub loop-number-init : goal.loop-number-init
loop-number-init c = called_none _ _ _ _

pub loop-number-preserved : goal.loop-number-preserved
loop-number-preserved c = called_next _ _ _ _ _ _ _ (search rules) c.call_by_index.ensures c.loop-number.invariant

pub returns-clause-table_after : goal.returns-clause-table_after
returns-clause-table_after c = called_all _ _ _ _ _ _ (search rules) c.loop-number.invariant

pub returns-clause-list_holds : goal.returns-clause-list_holds
returns-clause-list_holds c =
    let made = called_all _ _ _ _ _ _ (search rules) c.loop-number.invariant in
    list-holds _ (λ i. search rules) _ (words_of c.args.table.now (λ i. search rules)) _ _ made

pub returns-clause-indexes_refused : goal.returns-clause-indexes_refused
returns-clause-indexes_refused c = indexes_refused _ (λ i. search rules) _
