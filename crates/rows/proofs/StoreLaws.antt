-- Laws of a row put into a table: its own words are the row's, and no other word moves. Assumes nothing.
use mathlib.Core.Path.{◌≡◌, sym, ap, subst, ◌∙◌}
use mathlib.Core.Logic.{◌≢◌}
use mathlib.Core.List.{List, ◌++◌, append_assoc}
use Prim.Native.Nat.{ℕ, ◌+◌, ◌*◌, ◌≤◌, ◌<◌}
use native.Mathlib.Omega.{arith}
use lib.ListN.{length, take, drop}
use lib.Seq.{drop-drop}
use Rattle.model.specs.Words.{word}
use Rattle.model.specs.Layout.{part}
use Rattle.model.specs.Domains.{row}
use Rattle.rows.specs.Rows.{stored}
use Rattle.laws.proofs.SliceLaws.{Outside, word-before, word_after, other_block, replaced, replaced-length, part-replaced, replaced-outside}
use Rattle.laws.proofs.LayoutLaws.{part_length}
use Rattle.laws.proofs.DomainLaws.{row_word}

module _ (T : List ℕ) (x : ℕ) (r : List ℕ) (fits : 64 * x + 64 ≤ length T) (lr : length r ≡ 64) where
  stored-replaced : stored T x r ≡ replaced T (64 * x) 64 r
  unfolding stored replaced
  stored-replaced = append_assoc (take (64 * x) T) r (drop (64 * x + 64) T) ∙ ap (λ (l : List ℕ). take (64 * x) T ++ (r ++ l)) (sym (drop-drop 64 (64 * x) T))

  stored-outside : Outside (64 * x) (64 * x + 64) T (stored T x r)
  stored-outside = subst (Outside (64 * x) (64 * x + 64) T) (sym stored-replaced) (replaced-outside T (64 * x) 64 r fits lr)

  pub stored-length : length (stored T x r) ≡ length T
  stored-length = ap length stored-replaced ∙ replaced-length T (64 * x) 64 r (lr ∙ sym (part_length (64 * x) 64 T fits))

  pub stored-before : (i : ℕ) → i < 64 * x → word (stored T x r) i ≡ word T i
  stored-before = word-before (64 * x) (64 * x + 64) T (stored T x r) stored-outside

  pub stored-after : (i : ℕ) → 64 * x + 64 ≤ i → word (stored T x r) i ≡ word T i
  stored-after = word_after (64 * x) (64 * x + 64) T (stored T x r) stored-outside

  pub row-stored : row (stored T x r) x ≡ r
  unfolding row
  row-stored = ap (part (64 * x) 64) stored-replaced ∙ part-replaced T (64 * x) 64 r fits lr

  pub stored-inside : (j : ℕ) → j < 64 → word (stored T x r) (64 * x + j) ≡ word r j
  stored-inside j h = sym (row_word (stored T x r) x j h) ∙ ap (λ (l : List ℕ). word l j) row-stored

  pub row-stored-other : (y : ℕ) → y ≢ x → row (stored T x r) y ≡ row T y
  unfolding row
  row-stored-other y n = other_block (64 * x) (64 * x + 64) T (stored T x r) stored-outside 64 x y (omega arith) (omega arith) n
