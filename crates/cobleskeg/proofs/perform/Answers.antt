use Rattle.std.proofs.Common.{rules}
use Rattle.laws.proofs.TableLaws.{words_of}
use Rattle.cobleskeg.proofs.PerformLaws.{called_none, called_next, called_all, list-holds}
use Rattle.cobleskeg.proofs.perform.Goals as goal

pub loop-n-init : goal.loop-n-init
loop-n-init c = called_none _ _ _ _

pub loop-n-preserved : goal.loop-n-preserved
loop-n-preserved c = called_next _ _ _ _ _ _ _ (search rules) c.call.ensures c.loop-n.invariant

pub returns-clause-table_after : goal.returns-clause-table_after
returns-clause-table_after c = called_all _ _ _ _ _ _ (search rules) c.loop-n.invariant

pub returns-clause-list_holds : goal.returns-clause-list_holds
returns-clause-list_holds c =
    let made = called_all _ _ _ _ _ _ (search rules) c.loop-n.invariant in
    list-holds _ (λ i. search rules) _ (words_of c.args.table.now (λ i. search rules)) _ _ made
