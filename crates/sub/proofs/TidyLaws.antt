-- A tidy row has a string of its greatest length. Assumes nothing.
use mathlib.Core.Path.{◌≡◌}
use mathlib.Core.List.{List}
use Prim.Native.Nat.{ℕ, ◌≤◌}
use native.Mathlib.Omega.{arith}
use lib.ListN.{length}
use Rattle.model.specs.Words.{word, Words}
use Rattle.laws.specs.Supported.{InRow}
use Rattle.laws.proofs.RowLaws.{used-length}
use Rattle.inplace.specs.InTable.{Tidy}
use Rattle.inplace.proofs.Parts.{tidy-supports}
use Rattle.inplace.proofs.Tables.{highest-most}

-- some string of the row has top symbols, and none has more
pub record Longest (x : List ℕ) (top : ℕ) : Type 0 where
  pub string : List ℕ
  pub inside : InRow x string
  pub long : length string ≡ top
  pub most : (w : List ℕ) → InRow x w → length w ≤ top

pub tidy-longest : (r : List ℕ) → length r ≡ 64 → Words r → (t : Tidy r) → Longest r t.top
tidy-longest r ln bd t =
    let u = (tidy-supports r t bd ln).sound 0 t.top (omega arith) t.longest.here in
    record {
      string = u.0;
      inside = u.1;
      long = used-length u.0 t.top u.2;
      most = λ w i. highest-most (word r 0) t.top (length w) t.longest i.length-bit;
    }
