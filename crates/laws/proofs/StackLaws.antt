-- The moves of the depth-first loop over three tables: each keeps the invariant, `Stack` of specs/Traversal.antt, and what the search answers. Assumes nothing.
-- The proofs rest on one fact: along a path the words that nodes branch at go upwards, so what is decided and what waits lies below a depth, and going down
-- or back to a word makes the depth one more than that word's index.
use mathlib.Core.Path.{◌≡◌, refl, sym, ap, subst, ◌∙◌}
use mathlib.Core.Logic.{◌≢◌}
use mathlib.Core.Bool.{Bool, true, false, false≢true}
use mathlib.Core.List.{List, [], map}
use Prim.Native.Nat.{ℕ, suc, ◌-◌, ◌^◌, ◌≤◌, ◌<◌}
use native.Mathlib.Omega.{arith}
use lib.Dec.{leb, eqb}
use lib.ListN.{length, set, replicate, length-set, length-replicate, get_or-replicate}
use lib.Seq.{get_or-set_same, get_or-set_other}
use borrow.Author.Tests.{leb-true, leb-false, eqb-true, eqb-false}
use Rattle.model.specs.Words.{bit, bits, word, Words}
use Rattle.model.specs.Constraints.{Problem, width}
use Rattle.model.specs.Solutions.{WellFormed}
use Rattle.model.specs.Rounds.{every_value, settled}
use Rattle.model.specs.Tree.{children, searching, found, none, spent}
use Rattle.laws.specs.Inclusion.{Single, Below}
use Rattle.laws.specs.Lent.{Stable, lendable}
use Rattle.laws.specs.Traversal.{Moved, Stack, Waits, At, visit, base, left}
use Rattle.laws.proofs.WordLaws.{zero_bit, sub_within}
use Rattle.laws.proofs.BitsLaws.{bits-lowest}
use Rattle.laws.proofs.TableLaws.{below_refl, below_trans, below-words}
use Rattle.laws.proofs.RoundLaws.{settled-below, settled-stable}
use Rattle.laws.proofs.ChildLaws.{child-below, settle-restricted, cut-single}
use Rattle.laws.proofs.NodeLaws.{dead_unsolved}
use Rattle.laws.proofs.BranchLaws.{branch-at, children-dead, children-at, single-solved, several_unsolved}
use Rattle.laws.proofs.LoopLaws.{base-high, base-below, base-own, base-set, base-base, loop_start, loop_spent, loop_solved, loop_down, loop_back, loop_done}
use Rattle.laws.proofs.CallLaws.{lendable-below}

-- ---- the root

module _ (P : Problem) (F : List ℕ) where
  pub stack-start : Stack P F F F (replicate (width P) 0)
  stack-start = record {
    current = below_refl F;
    decided = below_refl F;
    alt-length = length-replicate (width P) 0;
    same = refl;
    depth = 0;
    filed = λ i h. refl;
    clear = λ i h l. get_or-replicate (width P) i 0 0 l;
    single = λ j h. absurd (omega arith);
    waits = λ at h b q. absurd (false≢true (sym (zero_bit b) ∙ ap (λ (w : ℕ). bit w b) (sym (get_or-replicate (width P) at 0 0 h)) ∙ q));
  }

  pub stack_begin : (A : List ℕ) (budget : ℕ) → visit P A 0 budget (left P F (width P) F F (replicate (width P) 0)) ≡ searching P F budget A
  stack_begin A budget = loop_start P F A (width P) budget

  -- every table on the way is lendable where the file's is
  pub stack-lendable : {cur dec alt : List ℕ} → Stack P F cur dec alt → lendable P F ≡ true → lendable P cur ≡ true
  stack-lendable {cur} s e = lendable-below P cur F s.current e

-- ---- the moves

module _ (P : Problem) (wf : WellFormed P) (F : List ℕ) (bd : Words F) (ln : length F ≡ width P) where
  module _ {cur dec alt : List ℕ} (s : Stack P F cur dec alt) where
    words-cur : Words cur
    words-cur = below-words s.current bd

    words_dec : Words dec
    words_dec = below-words s.decided bd

    length_dec : length dec ≡ width P
    length_dec = s.decided.same_length ∙ ln

    -- the current node
    words-node : Words (settled P cur)
    words-node = below-words (settled-below P cur) words-cur

    length-node : length (settled P cur) ≡ width P
    length-node = (settled-below P cur).same_length ∙ s.current.same_length ∙ ln

    stable-node : Stable P (settled P cur)
    stable-node = settled-stable P cur words-cur

    childless : every_value P (settled P cur) ≡ false → children P (settled P cur) ≡ []
    childless l = children-dead P wf (settled P cur) words-node length-node stable-node l

    -- no budget is left
    pub stack-spent : (A : List ℕ) (i : ℕ) → visit P A i 0 (left P F (width P) cur dec alt) ≡ record { outcome = spent i; table = A }
    stack-spent A i = loop_spent P F A i (width P) cur dec alt words-cur

    -- the current node is solved
    pub stack-solved : every_value P (settled P cur) ≡ true → ((j : ℕ) → j < width P → Single (word (settled P cur) j))
        → (A : List ℕ) (i b : ℕ) → visit P A i (suc b) (left P F (width P) cur dec alt) ≡ record { outcome = found (suc i); table = settled P cur }
    stack-solved l f A i b = loop_solved P F A i b (width P) cur dec alt words-cur (single-solved P wf (settled P cur) words-node length-node stable-node l f)

    -- the current node is dead and nothing waits
    pub stack-over : every_value P (settled P cur) ≡ false → ((j : ℕ) → j < width P → word alt j ≡ 0)
        → (A : List ℕ) (i b : ℕ) → visit P A i (suc b) (left P F (width P) cur dec alt) ≡ record { outcome = none (suc i); table = A }
    stack-over l z A i b = loop_done P F A i b (width P) cur dec alt words-cur (dead_unsolved P (settled P cur) l) (childless l) z

    -- what waits after a move at a word: nothing past it, and up to it the decisions before a word are what they were
    waits-up-to : (at : ℕ) (dec' alt' : List ℕ) → ((m : ℕ) → m ≤ at → base F dec' m ≡ base F dec m) → ((m : ℕ) → suc at ≤ m → m < width P → word alt' m ≡ 0)
        → ((m : ℕ) → m ≤ at → m < width P → (b : ℕ) → bit (word alt' m) b ≡ true → Waits P F dec m b)
        → (m : ℕ) → m < width P → (b : ℕ) → bit (word alt' m) b ≡ true → Waits P F dec' m b
    waits-up-to at dec' alt' e z f m h b q = go (leb m at) refl
      where
        go : (t : Bool) → leb m at ≡ t → Waits P F dec' m b
        go true p =
            let l : m ≤ at = leb-true m at p in
            let w : Waits P F dec m b = f m l h b q in
            record { there = w.there; before = λ j i. subst (λ (T : List ℕ). Single (word (settled P T) j)) (sym (e m l)) (w.before j i) }
        go false p = absurd (false≢true (sym (zero_bit b) ∙ ap (λ (w : ℕ). bit w b) (sym (z m (leb-false m at p) h)) ∙ q))

    -- down: the node branches at a word whose lowest value v is taken while the others wait
    pub stack-down : (at v : ℕ) → At (settled P cur) at → every_value P (settled P cur) ≡ true → bit (word (settled P cur) at) v ≡ true
        → ((i : ℕ) → i < v → bit (word (settled P cur) at) i ≡ false)
        → Moved P F cur dec alt (set (settled P cur) at (2 ^ v)) (set dec at (2 ^ v)) (set alt at (word (settled P cur) at - 2 ^ v))
    stack-down at v a l here below = record {
      stack = record {
        current = below_trans (child-below S at v a.inside here) (below_trans (settled-below P cur) s.current);
        decided = below_trans (child-below dec at v in_dec there) s.decided;
        alt-length = length-set alt at w ∙ s.alt-length;
        same = ap (λ (T : List ℕ). settled P (set T at (2 ^ v))) s.same ∙ settle-restricted P dec at v words_dec in_dec there;
        depth = suc at;
        filed = λ i h. let ne : i ≢ at = omega arith in get_or-set_other dec at i (2 ^ v) 0 ne ∙ s.filed i (omega (arith, deep));
        clear = past;
        single = cut-single P dec at v words_dec in_dec there node-before;
        waits = waits-up-to at (set dec at (2 ^ v)) (set alt at w) (λ m h. base-set F dec at (2 ^ v) m h) past (λ m h n b q. waiting m h n b q (eqb m at) refl);
      };
      visits = λ A i b.
          loop_down P F A i b (width P) at v w (bits w) cur dec alt words-cur words_dec s.same
          (several_unsolved P wf S words-node length-node stable-node at inside a.two) inside in_dec in_alt own (λ j h. s.clear j (omega (arith, deep)))
          (ap (λ (T : List ℕ). bits (word T at)) (sym s.same) ∙ bits-lowest (word S at) v (words-node at v here) here below) refl
          (subst (λ (T : List ℕ). children P T ≡ map (λ c. set T at (2 ^ c)) (bits (word T at))) s.same
          (children-at P wf S words-node length-node stable-node at (branch-at P wf S words-node length-node stable-node at a) l))
          ∙ ap (λ (T : List ℕ). visit P A (suc i) b (left P F (width P) (set T at (2 ^ v)) (set dec at (2 ^ v)) (set alt at w))) (sym s.same);
    }
      where
        S : List ℕ
        S = settled P cur

        w : ℕ
        w = word S at - 2 ^ v

        inside : at < width P
        inside = omega (arith, a.inside, length-node)

        in_dec : at < length dec
        in_dec = omega (arith, inside, length_dec)

        in_alt : at < length alt
        in_alt = omega (arith, inside, s.alt-length)

        there : bit (word dec at) v ≡ true
        there = (settled-below P dec).within at v (subst (λ (T : List ℕ). bit (word T at) v ≡ true) s.same here)

        -- a word with several values is not before the depth
        deep : s.depth ≤ at
        deep = go (leb s.depth at) refl
          where
            go : (t : Bool) → leb s.depth at ≡ t → s.depth ≤ at
            go true p = leb-true s.depth at p
            go false p =
                let z = s.single at (leb-false s.depth at p) in
                let t = subst (λ (T : List ℕ). 2 ≤ length (bits (word T at))) s.same a.two in
                absurd (omega arith)

        own : base F dec at ≡ dec
        own = base-own F dec at (omega (arith, in_dec)) s.decided.same_length (λ i h. s.filed i (omega (arith, deep)))

        node-before : (j : ℕ) → j < at → Single (word (settled P dec) j)
        node-before j h = subst (λ (T : List ℕ). Single (word T j)) s.same (a.before j h)

        past : (i : ℕ) → suc at ≤ i → i < width P → word (set alt at w) i ≡ 0
        past i h n = let ne : i ≢ at = omega arith in get_or-set_other alt at i w 0 ne ∙ s.clear i (omega (arith, deep)) n

        waiting : (m : ℕ) → m ≤ at → m < width P → (b : ℕ) → bit (word (set alt at w) m) b ≡ true → (t : Bool) → eqb m at ≡ t → Waits P F dec m b
        waiting m h n b q true p =
            let e : m ≡ at = eqb-true m at p in
            let x : bit w b ≡ true = ap (λ (y : ℕ). bit y b) (sym (ap (word (set alt at w)) e ∙ get_or-set_same alt at w 0 in_alt)) ∙ q in
            subst (λ (y : ℕ). Waits P F dec y b) (sym e) (record {
              there = s.current.within at b ((settled-below P cur).within at b (sub_within (word S at) v here b x));
              before = λ j i. subst (λ (T : List ℕ). Single (word (settled P T) j)) (sym own) (node-before j i);
            })
        waiting m h n b q false p = s.waits m n b (ap (λ (y : ℕ). bit y b) (sym (get_or-set_other alt at m w 0 (eqb-false m at p))) ∙ q)

    -- back: the node is dead, and of the values that wait the lowest at the last such word is taken
    pub stack-back : (at v : ℕ) → every_value P (settled P cur) ≡ false → at < width P → bit (word alt at) v ≡ true → ((i : ℕ) → i < v → bit (word alt at) i ≡ false)
        → ((j : ℕ) → suc at ≤ j → j < width P → word alt j ≡ 0)
        → Moved P F cur dec alt (set (base F dec at) at (2 ^ v)) (set (base F dec at) at (2 ^ v)) (set alt at (word alt at - 2 ^ v))
    stack-back at v l inside here below z = record {
      stack = record {
        current = within-file;
        decided = within-file;
        alt-length = length-set alt at w ∙ s.alt-length;
        same = refl;
        depth = suc at;
        filed = λ i h. let ne : i ≢ at = omega arith in get_or-set_other B at i (2 ^ v) 0 ne ∙ base-high F dec at up-to_dec i (omega arith);
        clear = past;
        single = cut-single P B at v (below-words below-file bd) in_base there waiting.before;
        waits = waits-up-to at (set B at (2 ^ v)) (set alt at w) (λ m h. base-set F B at (2 ^ v) m h ∙ base-base F dec at m h up-to_dec) past (λ m h n b q.
            s.waits m n b (fewer m b q (eqb m at) refl));
      };
      visits = λ A i b.
          loop_back P F A i b (width P) at v w (bits w) cur dec alt words-cur (dead_unsolved P (settled P cur) l) (childless l)
          inside in_alt up-to_dec z (bits-lowest (word alt at) v (bd at v waiting.there) here below) refl;
    }
      where
        B : List ℕ
        B = base F dec at

        w : ℕ
        w = word alt at - 2 ^ v

        waiting : Waits P F dec at v
        waiting = s.waits at inside v here

        up-to_dec : at ≤ length dec
        up-to_dec = omega (arith, length_dec)

        in_alt : at < length alt
        in_alt = omega (arith, s.alt-length)

        below-file : Below B F
        below-file = base-below F dec at up-to_dec s.decided

        in_base : at < length B
        in_base = omega (arith, below-file.same_length)

        there : bit (word B at) v ≡ true
        there = ap (λ (y : ℕ). bit y v) (base-high F dec at up-to_dec at (omega arith)) ∙ waiting.there

        within-file : Below (set B at (2 ^ v)) F
        within-file = below_trans (child-below B at v in_base there) below-file

        past : (i : ℕ) → suc at ≤ i → i < width P → word (set alt at w) i ≡ 0
        past i h n = let ne : i ≢ at = omega arith in get_or-set_other alt at i w 0 ne ∙ z i h n

        -- nothing waits that did not wait before
        fewer : (m b : ℕ) → bit (word (set alt at w) m) b ≡ true → (t : Bool) → eqb m at ≡ t → bit (word alt m) b ≡ true
        fewer m b q true p =
            let e : m ≡ at = eqb-true m at p in
            let x : bit w b ≡ true = ap (λ (y : ℕ). bit y b) (sym (ap (word (set alt at w)) e ∙ get_or-set_same alt at w 0 in_alt)) ∙ q in
            ap (λ (y : ℕ). bit (word alt y) b) e ∙ sub_within (word alt at) v here b x
        fewer m b q false p = ap (λ (y : ℕ). bit y b) (sym (get_or-set_other alt at m w 0 (eqb-false m at p))) ∙ q
