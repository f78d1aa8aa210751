use Rattle.std.proofs.Common.{arith, rules}
use Rattle.laws.proofs.TableLaws.{bits_most}
use Rattle.queue.proofs.TurnLaws.{advanced}
use Rattle.queue.proofs.Queue.advance.Goals as goal

pub append-requires-2 : goal.append-requires-2
append-requires-2 c = (search rules, omega (arith, c.append.ensures.ends, bits_most c.args.more.low, c.requires.2))

pub returns : goal.returns
returns c = advanced c.append.ensures c.append-2.ensures c.after-self.ensures
