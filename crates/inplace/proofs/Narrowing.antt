-- A table is the narrowed one where its rows and numbers, taken out, are what the relation leaves of the old ones, and no other word differs: how a step in
-- place is a step. One law for every kind, over the lists of the positions that it names; nothing is stored. Assumes nothing.
use mathlib.Core.Path.{◌≡◌, sym, ap, ◌∙◌}
use mathlib.Core.Logic.{◌≢◌}
use mathlib.Core.Bool.{false, false≢true}
use mathlib.Core.List.{List, [], map}
use Prim.Native.Nat.{ℕ, ◌+◌, ◌*◌, ◌<◌}
use native.Mathlib.Omega.{arith}
use lib.ListN.{length, get_or, length-map}
use Rattle.model.specs.Words.{word}
use Rattle.model.specs.Domains.{str, num, row}
use Rattle.model.specs.Constraints.{Problem, Constraint, Automaton, width}
use Rattle.model.specs.Support.{touches, narrowed}
use Rattle.rows.specs.Rows.{alone}
use Rattle.rows.proofs.Alone.{together, Rows64, together-length, together-row, together-number}
use Rattle.rows.proofs.NamedLaws.{places, Named, index-of-position}
use Rattle.laws.specs.Inclusion.{In}
use Rattle.laws.proofs.ListLaws.{get_or_in, get_d_map}
use Rattle.laws.proofs.DomainLaws.{row-length}
use Rattle.laws.proofs.SupportLaws.{touched-text, touched-value}
use Rattle.laws.proofs.RenameLaws.{narrowed-renamed}
use Rattle.inplace.specs.InTable.{Out}

module _ (P : Problem) (c : Constraint) (d : Constraint) (ds : List Automaton) (xs ms : List ℕ) (n : Named P c d ds xs ms) where
  -- the rows and numbers of a table, taken out
  abbrev pub taken : List ℕ → List ℕ
  taken T = together (map (row T) xs) (map (λ m. word T (64 * P.strings + m)) ms)

  taken_64 : (T : List ℕ) → length T ≡ width P → Rows64 (map (row T) xs)
  taken_64 T ln z h =
      let k : z < length xs = omega (arith, length-map xs (row T)) in
      let t = (n.texts (get_or xs z 0) (get_or_in xs z 0 k)).0 in
      ap length (get_d_map (row T) xs z 0 [] k) ∙ row-length T (get_or xs z 0) (omega arith)

  taken-row : (T : List ℕ) → length T ≡ width P → (x : ℕ) → x < length xs → row T (get_or xs x 0) ≡ row (taken T) x
  taken-row T ln x h = sym (together-row (map (row T) xs) _ (taken_64 T ln) x (omega (arith, length-map xs (row T))) ∙ get_d_map (row T) xs x 0 [] h)

  taken-number : (T : List ℕ) → length T ≡ width P → (x : ℕ) → x < length ms → word T (64 * P.strings + get_or ms x 0) ≡ word (taken T) (64 * length xs + x)
  taken-number T ln x h =
      let e : 64 * length xs + x ≡ 64 * length (map (row T) xs) + x = omega (arith, length-map xs (row T)) in
      sym (ap (word (taken T)) e ∙ together-number (map (row T) xs) _ (taken_64 T ln) x ∙ get_d_map (λ m. word T (64 * P.strings + m)) ms x 0 0 h)

  -- a table whose rows and numbers are those that the relation leaves, and no other word of which differs
  pub in_place-rows : (T U : List ℕ) → length T ≡ width P → length U ≡ length T
      → ((x : ℕ) → x < length xs → row U (get_or xs x 0) ≡ row (narrowed (alone (length xs) (length ms) ds) d (taken T)) x)
      → ((x : ℕ) → x < length ms → word U (64 * P.strings + get_or ms x 0) ≡ word (narrowed (alone (length xs) (length ms) ds) d (taken T)) (64 * length xs + x))
      → ((i : ℕ) → i < length T → touches P c i ≡ false → word U i ≡ word T i) → U ≡ narrowed P c T
  unfolding alone
  in_place-rows T U ln lU rows numbers others =
      narrowed-renamed P c T (alone (length xs) (length ms) ds) d (taken T) (places xs ms) (record {
        names = n.names;
        in_small = n.small;
        rows = λ x m. taken-row T ln x (n.small (str x) m);
        numbers = λ x m. taken-number T ln x (n.small (num x) m);
        text-back = λ x m. index-of-position xs n.distinct-texts x (n.small (str x) m);
        value-back = λ x m. index-of-position ms n.distinct-values x (n.small (num x) m);
        meeting = n.meeting;
      }) U ln
      (together-length (map (row T) xs) _ (taken_64 T ln) ∙ omega (arith, length-map xs (row T), length-map ms (λ m. word T (64 * P.strings + m)))) lU
      (λ x m. rows x (n.small (str x) m))
      (λ x m. numbers x (n.small (num x) m))
      others

  pub in_place : (T U : List ℕ) → length T ≡ width P → length U ≡ length T → taken U ≡ narrowed (alone (length xs) (length ms) ds) d (taken T)
      → ((i : ℕ) → ((x : ℕ) → In x xs → Out x i) → ((m : ℕ) → In m ms → i ≢ 64 * P.strings + m) → word U i ≡ word T i) → U ≡ narrowed P c T
  in_place T U ln lU e others = in_place-rows T U ln lU
      (λ x h. taken-row U (lU ∙ ln) x h ∙ ap (λ (N : List ℕ). row N x) e)
      (λ x h. taken-number U (lU ∙ ln) x h ∙ ap (λ (N : List ℕ). word N (64 * length xs + x)) e)
      (λ i h u. others i (λ x m j k q. let t = n.texts x m in false≢true (sym u ∙ ap (touches P c) q ∙ touched-text P c x j t.0 k t.1))
      (λ m k q. false≢true (sym u ∙ ap (touches P c) q ∙ touched-value P c m (n.values m k).1)))
