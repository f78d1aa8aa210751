-- The bytes of `parity` are a whole automaton, by a test of all its moves that is computed once. Assumes nothing.
use Rattle.std.proofs.Common.{◌≡◌, ℕ, true, List, ◌∷◌, ◌++◌, length, replicate, sym, refl, ap, ◌∙◌, arith, get_or-drop}
use borrow.Rule.Slice.PartMut.{put_mid}
use Rattle.model.specs.Lists.{select, all, from, upto}
use Rattle.model.specs.Words.{bit, bits, none_from}
use Rattle.model.specs.Layout.{little, part}
use Rattle.model.specs.Reading.{known}
use Rattle.laws.proofs.ListLaws.{of-all, get_or_in}
use Rattle.automata.specs.Machine.{Whole}

-- from state 0, then from state 1
unfoldable pub moves : List ℕ
moves = 1 ∷ replicate 64 0 ++ replicate 63 1

moves-low : all (known 2) moves ≡ true
unfolding moves all known
moves-low = refl

moves-length : length moves ≡ 128
unfolding moves
moves-length = refl

unfoldable pub bytes : List ℕ
bytes = 2 ∷ 1 ∷ 0 ∷ 0 ∷ 0 ∷ moves

state-low : none_from 2 (little (part 1 4 bytes)) ≡ true
unfolding bytes little none_from all bits select upto from bit
state-low = refl

pub bytes_whole : Whole 64 bytes
unfolding bytes
bytes_whole = record {
  some-state = omega arith;
  most-states = omega arith;
  long = let l = moves-length in omega arith;
  accepting-known = state-low;
  moves-known = λ j h.
      let l = moves-length in
      ap (known 2) (sym (get_or-drop 5 bytes j 0)) ∙ of-all (known 2) moves-low (get_or_in moves j 0 (omega arith));
}

-- with the second state's moves filled in
pub filled-whole : (ys : List ℕ) → ys ≡ replicate 63 1 → Whole 64 (put_mid 70 63 (2 ∷ 1 ∷ 0 ∷ 0 ∷ 0 ∷ 1 ∷ replicate 127 0) ys)
unfolding bytes moves
filled-whole ys e = rw e bytes_whole
