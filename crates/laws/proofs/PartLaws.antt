-- Laws of Sub: its test at the start after off symbols, and what its one bound says of an empty part. Assumes nothing.
use mathlib.Core.Path.{◌≡◌, refl, ◌∙◌}
use mathlib.Core.Bool.{true, ◌&&◌}
use mathlib.Core.List.{List, []}
use Prim.Native.Nat.{ℕ, zero, suc, ◌+◌, ◌-◌}
use native.Mathlib.Omega.{arith}
use lib.Dec.{leb}
use lib.ListN.{length, take, drop}
use borrow.Author.Tests.{leb-true, le-leb}
use Rattle.model.specs.Lists.{same}
use Rattle.model.specs.Constraints.{is_part}
use Rattle.laws.proofs.ListLaws.{and_true, true_and}
use Rattle.laws.proofs.WordLaws.{bool_ext}

pub part-test : (x y : List ℕ) (off : ℕ) → is_part x y (suc off) ≡ (leb (off + length y) (length x) && same y (take (length y) (drop off x)))
unfolding is_part
part-test x y off =
    let e : suc off - 1 ≡ off = omega arith in
    let d : suc off + length y - 1 ≡ off + length y = omega arith in
    rw (le-leb 1 (suc off) (omega arith), e, d)

-- "an empty Y is met at N from 1 to |X| + 1"
pub empty-part : (x : List ℕ) (n : ℕ) → is_part x [] n ≡ (leb 1 n && leb n (length x + 1))
unfolding is_part same
empty-part x zero = refl
empty-part x (suc off) = part-test x [] off ∙ bool_ext (leb (off + 0) (length x) && true) (leb 1 (suc off) && leb (suc off) (length x + 1))
    (λ e.
    let h = leb-true (off + 0) (length x) (and_true (leb (off + 0) (length x)) true e).0 in
    true_and (le-leb 1 (suc off) (omega arith)) (le-leb (suc off) (length x + 1) (omega arith)))
    (λ e.
    let h = leb-true (suc off) (length x + 1) (and_true (leb 1 (suc off)) (leb (suc off) (length x + 1)) e).1 in
    true_and (le-leb (off + 0) (length x) (omega arith)) refl)
