-- The unread bytes fall; a pattern reads a branch of the same bytes, and a branch an item.
use Rattle.std.proofs.Common.{◌+◌, ◌-◌, ◌*◌, length}
use Rattle.parser.proofs.Text.+branch_item_pattern.Given as goal

abbrev pub decreases-branch : goal.decreases-branch
decreases-branch l = 3 * (length l.self.now.bytes.now - l.at) + 1

abbrev pub decreases-item : goal.decreases-item
decreases-item l = 3 * (length l.self.now.bytes.now - l.at)

abbrev pub decreases-pattern : goal.decreases-pattern
decreases-pattern l = 3 * (length l.self.now.bytes.now - l.at) + 2
