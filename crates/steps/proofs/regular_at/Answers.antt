use Rattle.std.proofs.lemmas.List.{take_rest}
use Rattle.steps.proofs.RegularTableLaws.{automaton-named, machine-there, regular-at-narrows}
use Rattle.steps.proofs.regular_at.Goals as goal

pub start-at-requires : goal.start-at-requires
start-at-requires c = rw c.automata_bytes-bytes.ensures (automaton-named c.args.p.now _ c.args.table.now _ _ c.requires)

pub narrow-requires : goal.narrow-requires
narrow-requires c =
    rw (take_rest c.automata_bytes-bytes.result.now c.start-at.result, c.automata_bytes-bytes.ensures)
    (machine-there c.args.p.now _ _ _ _ c.requires _ (rw (← c.automata_bytes-bytes.ensures) c.start-at.ensures) _ c.kinds_at.ensures)

pub returns : goal.returns
returns c =
    regular-at-narrows c.args.p.now _ _ _ _ c.requires _ (rw (← c.automata_bytes-bytes.ensures) c.start-at.ensures) _ _
    (rw (take_rest c.automata_bytes-bytes.result.now c.start-at.result, c.automata_bytes-bytes.ensures) at c.narrow.ensures)
