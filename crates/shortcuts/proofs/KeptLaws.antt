-- The search over three tables of which the second is the settled table of the node that was branched at last, at word k₀. The next value at k₀ makes a child of
-- that table. Going back further, to word k, takes the words before k from it and those behind k from the file: this settles to what the decisions before k settle
-- to. The decisions (`dec` of `StackLaws`) are in no table; the invariant, `Keeping`, only says that there are such. Assumes nothing.
use mathlib.Core.Path.{◌≡◌, refl, sym, ap, subst, ◌∙◌}
use mathlib.Core.Logic.{◌≢◌}
use mathlib.Core.Bool.{Bool, true, false, false≢true}
use mathlib.Core.List.{List, ◌++◌, flat_map}
use Prim.Native.Nat.{ℕ, zero, suc, ◌+◌, ◌-◌, ◌*◌, ◌^◌, ◌≤◌, ◌<◌}
use native.Mathlib.Omega.{arith}
use lib.Dec.{eqb, leb, ltb}
use lib.ListN.{length, set, take, drop, replicate, length-set, get_or-replicate}
use lib.Seq.{length-take-le, get_or-take, get_or-set_same, get_or-set_other, ext_get_or}
use borrow.Author.Tests.{ltb-true, ltb-false, leb-true, leb-false, eqb-true, eqb-false}
use Rattle.model.specs.Words.{bit, bits, word, Words}
use Rattle.model.specs.Domains.{row, strings, strings_of, values_of}
use Rattle.model.specs.Constraints.{Problem, width}
use Rattle.model.specs.Solutions.{Fits, text_bit, WellFormed}
use Rattle.model.specs.Rounds.{every_value, settled}
use Rattle.model.specs.Tree.{nodes, found, none, spent}
use Rattle.laws.specs.Inclusion.{In, Within, Single, Below}
use Rattle.laws.specs.Lent.{Stable}
use Rattle.laws.specs.Traversal.{At, visit, base, waiting, left, Waits, Stack, Moved}
use Rattle.laws.proofs.WordLaws.{within_antisym, zero_bit, of-bits, sub_within, pow-only}
use Rattle.laws.proofs.BitsLaws.{single}
use Rattle.laws.proofs.TableLaws.{below_trans, below_antisym, below-of-eq, below-words}
use Rattle.laws.proofs.RowLaws.{same-lengths, same-symbols, symbol-pow, symbol-inside}
use Rattle.laws.proofs.DomainLaws.{by_word, row-single, text-within, strings_of-sub}
use Rattle.laws.proofs.RoundLaws.{settled-below, settled-above, settled-stable, settled-mono}
use Rattle.laws.proofs.NodeLaws.{tidy, firsts, every_value-fits}
use Rattle.laws.proofs.ChildLaws.{child-later, settle-restricted}
use Rattle.laws.proofs.TreeLaws.{nodes-settled}
use Rattle.laws.proofs.LoopLaws.{base-low, base-high, base-below, base-own, base-set, base-base}
use Rattle.laws.proofs.StackLaws.{stack-start, stack-spent, stack-solved, stack-over, stack-down, stack-back}
use Rattle.shortcuts.specs.Kept.{Keeping}

-- ---- words that are decided at a node are the same at every node below it that is every_value

-- two strings of a row use the same bit of a word, where the words up to it have at most one bit
same-used : (r w v : List ℕ) → In w (strings r) → In v (strings r) → (i b : ℕ) → ((j : ℕ) → j ≤ i → Single (word r j))
    → bit (text_bit w i) b ≡ true → bit (text_bit v i) b ≡ true
unfolding text_bit
same-used r w v m n zero b s q =
    let e : length w ≡ length v = same-lengths r w v m n (s 0 (omega arith)) in
    ap (λ (l : ℕ). bit (2 ^ l) b) (sym e) ∙ q
same-used r w v m n (suc i) b s q =
    let e : length w ≡ length v = same-lengths r w v m n (s 0 (omega arith)) in
    let l : i < length w = symbol-inside w i b q in
    let k : i < length v = omega arith in
    let d = same-symbols r w v m n i l k (s (suc i) (omega arith)) in
    ap (λ (y : ℕ). bit y b) (symbol-pow v i k ∙ ap (λ (y : ℕ). 2 ^ y) (sym d) ∙ sym (symbol-pow w i l)) ∙ q

module _ (P : Problem) (wf : WellFormed P) (S : List ℕ) (bd : Words S) (ln : length S ≡ width P) (st : Stable P S) where
  pub decided-same : (W : List ℕ) → Below W S → every_value P W ≡ true → (k : ℕ) → k ≤ width P → ((j : ℕ) → j < k → Single (word S j)) → (j : ℕ) → j < k → word W j ≡ word S j
  unfolding values_of
  decided-same W p e k lk sg j l = within_antisym (word W j) (word S j) (p.within j) (back j l)
    where
      fits : Fits P W (firsts P W)
      fits = every_value-fits P W e

      text : (x i : ℕ) → x < P.strings → i < 64 → 64 * x + i < k → Within (word S (64 * x + i)) (word W (64 * x + i))
      text x i hx hi l b q =
          let w : List ℕ = (firsts P W).text x in
          let m : In w (strings_of W x) = fits.texts_in x hx in
          let u = tidy P wf S bd ln st x hx i hi b q in
          text-within W x w m i hi b (same-used (row S x) u.0 w u.1 (strings_of-sub W S p x w m) i b (λ j h. row-single S x j (omega arith) (sg (64 * x + j) (omega arith))) u.2)

      value : (n : ℕ) → 64 * P.strings + n < k → Within (word S (64 * P.strings + n)) (word W (64 * P.strings + n))
      value n l b q =
          let v : ℕ = (firsts P W).value n in
          let m = of-bits (word W (64 * P.strings + n)) (fits.values_in n (omega arith)) in
          let r : b ≡ v = single (word S (64 * P.strings + n)) b v (sg (64 * P.strings + n) l) (bd (64 * P.strings + n) b q) m.1 q (p.within (64 * P.strings + n) v m.0) in
          subst (λ (y : ℕ). bit (word W (64 * P.strings + n)) y ≡ true) (sym r) m.0

      back : (j : ℕ) → j < k → Within (word S j) (word W j)
      back = by_word P.strings (λ j. j < k → Within (word S j) (word W j)) (λ x i hx hi l. text x i hx hi l) (λ n l. value n l)

-- ---- the table that a restart settles

-- only the words before k matter
pub base_same : (F T U : List ℕ) (k : ℕ) → k ≤ length T → k ≤ length U → ((j : ℕ) → j < k → word T j ≡ word U j) → base F T k ≡ base F U k
unfolding base
base_same F T U k h l e =
    let n = length-take-le k T h in
    let m = length-take-le k U l in
    ap (λ (t : List ℕ). t ++ drop k F) (ext_get_or 0 (take k T) (take k U) (n ∙ sym m) (λ i q.
    let r : i < k = omega arith in
    get_or-take k T i 0 r ∙ e i r ∙ sym (get_or-take k U i 0 r)))

module _ (P : Problem) (F dec : List ℕ) (bd : Words F) (p : Below dec F) (k : ℕ) (h : k ≤ length dec) where
  base_dec : Below (base F dec k) F
  base_dec = base-below F dec k h p

  node-file : Below (settled P (base F dec k)) F
  node-file = below_trans (settled-below P (base F dec k)) base_dec

  node-long : k ≤ length (settled P (base F dec k))
  node-long = omega (arith, node-file.same_length, p.same_length)

  -- the node that branched at k, with the file's words from k on, settles to that node
  pub base-settled : settled P (base F (settled P (base F dec k)) k) ≡ settled P (base F dec k)
  base-settled =
      below_antisym (settled-mono P R B (below-words upper (below-words base_dec bd)) upper) (settled-above P S R (settled-stable P B (below-words base_dec bd)) lower)
    where
      B : List ℕ
      B = base F dec k

      S : List ℕ
      S = settled P (base F dec k)

      R : List ℕ
      R = base F (settled P (base F dec k)) k

      inside : Below R F
      inside = base-below F S k node-long node-file

      lower : Below S R
      lower = record { same_length = node-file.same_length ∙ sym inside.same_length; within = λ i. go i (ltb i k) refl }
        where
          go : (i : ℕ) (t : Bool) → ltb i k ≡ t → Within (word S i) (word R i)
          go i true e b q = ap (λ (w : ℕ). bit w b) (base-low F S k node-long i (ltb-true i k e)) ∙ q
          go i false e b q = ap (λ (w : ℕ). bit w b) (base-high F S k node-long i (ltb-false i k e)) ∙ node-file.within i b q

      upper : Below R B
      upper = record { same_length = inside.same_length ∙ sym base_dec.same_length; within = λ i. go i (ltb i k) refl }
        where
          go : (i : ℕ) (t : Bool) → ltb i k ≡ t → Within (word R i) (word B i)
          go i true e b q = (settled-below P B).within i b (ap (λ (w : ℕ). bit w b) (sym (base-low F S k node-long i (ltb-true i k e))) ∙ q)
          go i false e b q = ap (λ (w : ℕ). bit w b) (base-high F dec k h i (ltb-false i k e) ∙ sym (base-high F S k node-long i (ltb-false i k e))) ∙ q

  -- with any table that has that node's words before k, as with the decisions
  pub restart-settled : (kept : List ℕ) → k < length F → length kept ≡ length F → ((j : ℕ) → j < k → word kept j ≡ word (settled P (base F dec k)) j)
      → (v : ℕ) → bit (word F k) v ≡ true → settled P (set (base F kept k) k (2 ^ v)) ≡ settled P (set (base F dec k) k (2 ^ v))
  restart-settled kept l e f v t =
      let S : List ℕ = settled P (base F dec k) in
      let R : List ℕ = base F S k in
      let inside : Below R F = base-below F S k node-long node-file in
      let same : base F kept k ≡ R = base_same F kept S k (omega arith) node-long f in
      let in_r : k < length R = omega (arith, inside.same_length) in
      let in_b : k < length (base F dec k) = omega (arith, base_dec.same_length) in
      let tR : bit (word R k) v ≡ true = ap (λ (w : ℕ). bit w v) (base-high F S k node-long k (omega arith)) ∙ t in
      let tB : bit (word (base F dec k) k) v ≡ true = ap (λ (w : ℕ). bit w v) (base-high F dec k h k (omega arith)) ∙ t in
      ap (λ (T : List ℕ). settled P (set T k (2 ^ v))) same
      ∙ sym (settle-restricted P R k v (below-words inside bd) in_r tR)
      ∙ ap (λ (T : List ℕ). settled P (set T k (2 ^ v))) base-settled
      ∙ settle-restricted P (base F dec k) k v (below-words base_dec bd) in_b tB

-- ---- a move may leave any table that settles to the same

module _ (P : Problem) (F : List ℕ) (bd : Words F) where
  pub stack_swap : {cur dec alt : List ℕ} → Stack P F cur dec alt → (new : List ℕ) → Below new F → settled P new ≡ settled P cur → Stack P F new dec alt
  stack_swap s new p e = record {
    current = p;
    decided = s.decided;
    alt-length = s.alt-length;
    same = e ∙ s.same;
    depth = s.depth;
    filed = s.filed;
    clear = s.clear;
    single = s.single;
    waits = s.waits;
  }

  left_swap : (n : ℕ) (cur new dec alt : List ℕ) → Below cur F → Below new F → settled P new ≡ settled P cur → left P F n cur dec alt ≡ left P F n new dec alt
  unfolding left
  left_swap n cur new dec alt p q e = ap (λ (l : List (List ℕ)). l ++ flat_map (nodes P) (waiting F n dec alt)) (nodes-settled P cur new (below-words p bd) (below-words q bd) (sym e))

  pub moved_swap : {cur dec alt cur' dec' alt' : List ℕ} → Moved P F cur dec alt cur' dec' alt' → (new : List ℕ) → Below new F → settled P new ≡ settled P cur' → Moved P F cur dec alt new dec' alt'
  moved_swap {cur} {dec} {alt} {cur'} {dec'} {alt'} m new p e = record {
    stack = stack_swap m.stack new p e;
    visits = λ A i b. m.visits A i b ∙ ap (visit P A (suc i) b) (left_swap (width P) cur' new dec' alt' m.stack.current p e);
  }

-- ---- the invariant

-- a move of the loop, which visits one node: of the nodes that are left it is the first, and the others are left after it
pub record KeptMove (P : Problem) (F cur dec alt cur' dec' kept' alt' : List ℕ) (k₀' depth' : ℕ) : Type 0 where
  pub keeping : Keeping P F cur' dec' kept' alt' k₀' depth'
  pub visits : (A : List ℕ) (i b : ℕ) → visit P A i (suc b) (left P F (width P) cur dec alt) ≡ visit P A (suc i) b (left P F (width P) cur' dec' alt')

no-bit : (w b : ℕ) → w ≡ 0 → bit w b ≡ true → ⊥
no-bit w b z q = false≢true (sym (zero_bit b) ∙ ap (λ (y : ℕ). bit y b) (sym z) ∙ q)

-- a word with several bits is not before a depth up to which none has
up_to : (S : List ℕ) (k n : ℕ) → 2 ≤ length (bits (word S k)) → ((j : ℕ) → j < n → Single (word S j)) → n ≤ k
up_to S k n t f = go (leb n k) refl
  where
    go : (s : Bool) → leb n k ≡ s → n ≤ k
    go true e = leb-true n k e
    go false e = let z = f k (leb-false n k e) in absurd (omega arith)

module _ (P : Problem) (F : List ℕ) where
  pub keeping_start : (kept : List ℕ) (k₀ : ℕ) → length kept ≡ width P → Keeping P F F F kept (replicate (width P) 0) k₀ 0
  keeping_start kept k₀ e = record {
    stack = stack-start P F;
    kept-length = e;
    before = λ k h b q. absurd (no-bit _ b (get_or-replicate (width P) k 0 0 h) q);
    own = λ h b q. absurd (no-bit _ b (get_or-replicate (width P) k₀ 0 0 h) q);
    there = λ h b q. absurd (no-bit _ b (get_or-replicate (width P) k₀ 0 0 h) q);
    clear = λ i l h. get_or-replicate (width P) i 0 0 h;
    decided = λ j h. absurd (omega arith);
  }

module _ (P : Problem) (wf : WellFormed P) (F : List ℕ) (bd : Words F) (ln : length F ≡ width P) where
  module _ {cur dec kept alt : List ℕ} {k₀ depth : ℕ} (s : Keeping P F cur dec kept alt k₀ depth) where
    cur-words : Words cur
    cur-words = below-words s.stack.current bd

    node-words : Words (settled P cur)
    node-words = below-words (settled-below P cur) cur-words

    node-length : length (settled P cur) ≡ width P
    node-length = (settled-below P cur).same_length ∙ s.stack.current.same_length ∙ ln

    node-stable : Stable P (settled P cur)
    node-stable = settled-stable P cur cur-words

    -- ---- where code looks

    -- the branch word is looked for from the depth on
    pub at_from : (k : ℕ) → depth ≤ k → k < width P → 2 ≤ length (bits (word (settled P cur) k)) → ((j : ℕ) → depth ≤ j → j < k → Single (word (settled P cur) j)) → At (settled P cur) k
    at_from k l h t f = record {
      two = t;
      inside = omega (arith, (settled-below P cur).same_length, s.stack.current.same_length, ln);
      before = λ j m. go j m (leb depth j) refl;
    }
      where
        go : (j : ℕ) → j < k → (b : Bool) → leb depth j ≡ b → Single (word (settled P cur) j)
        go j m true e = f j (leb-true depth j e) m
        go j m false e = s.decided j (leb-false depth j e)

    pub single-from : ((j : ℕ) → depth ≤ j → j < width P → Single (word (settled P cur) j)) → (j : ℕ) → j < width P → Single (word (settled P cur) j)
    single-from f j m = go (leb depth j) refl
      where
        go : (b : Bool) → leb depth j ≡ b → Single (word (settled P cur) j)
        go true e = f j (leb-true depth j e) m
        go false e = s.decided j (leb-false depth j e)

    -- what waits is looked for before the depth
    pub none_from : ((j : ℕ) → j < depth → j < width P → word alt j ≡ 0) → (j : ℕ) → j < width P → word alt j ≡ 0
    none_from f j m = go (leb depth j) refl
      where
        go : (b : Bool) → leb depth j ≡ b → word alt j ≡ 0
        go true e = s.clear j (leb-true depth j e) m
        go false e = f j (leb-false depth j e) m

    -- ---- the ends

    pub keeping-spent : (A : List ℕ) (i : ℕ) → visit P A i 0 (left P F (width P) cur dec alt) ≡ record { outcome = spent i; table = A }
    keeping-spent = stack-spent P wf F bd ln s.stack

    pub keeping-solved : every_value P (settled P cur) ≡ true → ((j : ℕ) → depth ≤ j → j < width P → Single (word (settled P cur) j))
        → (A : List ℕ) (i b : ℕ) → visit P A i (suc b) (left P F (width P) cur dec alt) ≡ record { outcome = found (suc i); table = settled P cur }
    keeping-solved l f = stack-solved P wf F bd ln s.stack l (single-from f)

    pub keeping-over : every_value P (settled P cur) ≡ false → ((j : ℕ) → j < depth → j < width P → word alt j ≡ 0)
        → (A : List ℕ) (i b : ℕ) → visit P A i (suc b) (left P F (width P) cur dec alt) ≡ record { outcome = none (suc i); table = A }
    keeping-over l f = stack-over P wf F bd ln s.stack l (none_from f)

    -- ---- down: the node branches at word k, its settled table is kept, its lowest value there is taken while the others wait

    pub keeping-down : (k v : ℕ) → At (settled P cur) k → every_value P (settled P cur) ≡ true → bit (word (settled P cur) k) v ≡ true
        → ((i : ℕ) → i < v → bit (word (settled P cur) k) i ≡ false)
        → KeptMove P F cur dec alt (set (settled P cur) k (2 ^ v)) (set dec k (2 ^ v)) (settled P cur) (set alt k (word (settled P cur) k - 2 ^ v)) k (suc k)
    keeping-down k v a l here below = record {
      keeping = record {
        stack = m.stack;
        kept-length = (settled-below P cur).same_length ∙ s.stack.current.same_length ∙ ln;
        before = λ n h b q. waits n h b q (eqb n k) refl;
        own = λ h b q. kept-own;
        there = λ h b q. sub_within (word S k) v here b (ap (λ (y : ℕ). bit y b) (sym (get_or-set_same alt k w 0 (omega (arith, inside, s.stack.alt-length)))) ∙ q);
        clear = λ i h n. let ne : i ≢ k = omega arith in get_or-set_other alt k i w 0 ne ∙ s.clear i (omega (arith, up_to S k depth a.two s.decided)) n;
        decided = child-later S (settled P (set S k (2 ^ v))) k v a.inside a.before (settled-below P (set S k (2 ^ v)));
      };
      visits = m.visits;
    }
      where
        S : List ℕ
        S = settled P cur

        w : ℕ
        w = word S k - 2 ^ v

        m : Moved P F cur dec alt (set S k (2 ^ v)) (set dec k (2 ^ v)) (set alt k w)
        m = stack-down P wf F bd ln s.stack k v a l here below

        length_dec : length dec ≡ width P
        length_dec = s.stack.decided.same_length ∙ ln

        inside : k < width P
        inside = omega (arith, a.inside, (settled-below P cur).same_length, s.stack.current.same_length, ln)

        -- the decisions are the file's words from k on
        mine : base F dec k ≡ dec
        mine = base-own F dec k (omega (arith, length_dec, inside)) s.stack.decided.same_length (λ i h.
            s.stack.filed i (omega (arith, up_to S k s.stack.depth a.two (λ j n. subst (λ (T : List ℕ). Single (word T j)) (sym s.stack.same) (s.stack.single j n)))))

        kept-own : S ≡ settled P (base F (set dec k (2 ^ v)) k)
        kept-own = s.stack.same ∙ ap (settled P) (sym (base-set F dec k (2 ^ v) k (omega arith) ∙ mine))

        -- a node above: its words before its own branch are those of this node, where every variable has a value
        above : (n : ℕ) → n < k → (b : ℕ) → bit (word alt n) b ≡ true → (j : ℕ) → j < n → word S j ≡ word (settled P (base F dec n)) j
        above n h b q =
            let p : Below (base F dec n) F = base-below F dec n (omega (arith, length_dec, inside)) s.stack.decided in
            let words : Words (base F dec n) = below-words p bd in
            let N : List ℕ = settled P (base F dec n) in
            decided-same P wf N (below-words (settled-below P (base F dec n)) words) ((settled-below P (base F dec n)).same_length ∙ p.same_length ∙ ln) (settled-stable P (base F dec n) words)
            S (below_trans (below-of-eq s.stack.same) (settled-mono P dec (base F dec n) (below-words s.stack.decided bd) (under n (omega (arith, inside)) p))) l
            n (omega (arith, inside)) (s.stack.waits n (omega (arith, inside)) b q).before
          where
            under : (n : ℕ) → n < width P → Below (base F dec n) F → Below dec (base F dec n)
            under n h p = record { same_length = s.stack.decided.same_length ∙ sym p.same_length; within = λ i. go i (ltb i n) refl }
              where
                go : (i : ℕ) (t : Bool) → ltb i n ≡ t → Within (word dec i) (word (base F dec n) i)
                go i true e b q = ap (λ (y : ℕ). bit y b) (base-low F dec n (omega (arith, length_dec)) i (ltb-true i n e)) ∙ q
                go i false e b q = ap (λ (y : ℕ). bit y b) (base-high F dec n (omega (arith, length_dec)) i (ltb-false i n e)) ∙ s.stack.decided.within i b q

        waits : (n : ℕ) → n < width P → (b : ℕ) → bit (word (set alt k w) n) b ≡ true → (t : Bool) → eqb n k ≡ t
            → (j : ℕ) → j < n → word S j ≡ word (settled P (base F (set dec k (2 ^ v)) n)) j
        waits n h b q true e j i =
            ap (λ (T : List ℕ). word T j) (kept-own ∙ ap (λ (y : ℕ). settled P (base F (set dec k (2 ^ v)) y)) (sym (eqb-true n k e)))
        waits n h b q false e j i =
            let ne = eqb-false n k e in
            let r : bit (word alt n) b ≡ true = ap (λ (y : ℕ). bit y b) (sym (get_or-set_other alt k n w 0 ne)) ∙ q in
            let less : n < k = earlier n h b r ne (leb depth n) refl in
            above n less b r j i ∙ ap (λ (T : List ℕ). word (settled P T) j) (sym (base-set F dec k (2 ^ v) n (omega arith)))
          where
            earlier : (n : ℕ) → n < width P → (b : ℕ) → bit (word alt n) b ≡ true → n ≢ k → (t : Bool) → leb depth n ≡ t → n < k
            earlier n h b r ne true e = absurd (no-bit (word alt n) b (s.clear n (leb-true depth n e) h) r)
            earlier n h b r ne false e = let d = leb-false depth n e in let u = up_to S k depth a.two s.decided in omega arith

    -- ---- back: the node is dead, and of the values that wait the lowest at the last such word k is taken

    module _ (k v : ℕ) (l : every_value P (settled P cur) ≡ false) (inside : k < width P) (here : bit (word alt k) v ≡ true)
        (below : (i : ℕ) → i < v → bit (word alt k) i ≡ false) (z : (j : ℕ) → suc k ≤ j → j < width P → word alt j ≡ 0) where
      waiting-there : Waits P F dec k v
      waiting-there = s.stack.waits k inside v here

      dec_long : k ≤ length dec
      dec_long = omega (arith, inside, s.stack.decided.same_length, ln)

      base-file : Below (base F dec k) F
      base-file = base-below F dec k dec_long s.stack.decided

      back-node : Below (settled P (base F dec k)) F
      back-node = below_trans (settled-below P (base F dec k)) base-file

      back-moved : Moved P F cur dec alt (set (base F dec k) k (2 ^ v)) (set (base F dec k) k (2 ^ v)) (set alt k (word alt k - 2 ^ v))
      back-moved = stack-back P wf F bd ln s.stack k v l inside here below z

      -- a table that settles as the restricted decisions do, in the current table's place
      keeping-back : (new : List ℕ) → Below new F → settled P new ≡ settled P (set (base F dec k) k (2 ^ v))
          → KeptMove P F cur dec alt new (set (base F dec k) k (2 ^ v)) kept (set alt k (word alt k - 2 ^ v)) k₀ (suc k)
      unfolding flat_map
      keeping-back new p e = record {
        keeping = record {
          stack = m.stack;
          kept-length = s.kept-length;
          before = λ n h b q j i.
              let r = fewer n h b q (eqb n k) refl in
              s.before n h b r.1 j i ∙ ap (λ (T : List ℕ). word (settled P T) j) (sym (same_base n r.0));
          own = λ h b q. let r = fewer k₀ h b q (eqb k₀ k) refl in s.own h b r.1 ∙ ap (settled P) (sym (same_base k₀ r.0));
          there = λ h b q. s.there h b (fewer k₀ h b q (eqb k₀ k) refl).1;
          clear = λ i h n. let ne : i ≢ k = omega arith in get_or-set_other alt k i w 0 ne ∙ z i h n;
          decided = child-later N (settled P new) k v in_node waiting-there.before (below_trans (below-of-eq (e ∙ sym again)) (settled-below P (set N k (2 ^ v))));
        };
        visits = m.visits;
      }
        where
          w : ℕ
          w = word alt k - 2 ^ v

          N : List ℕ
          N = settled P (base F dec k)

          m : Moved P F cur dec alt new (set (base F dec k) k (2 ^ v)) (set alt k w)
          m = moved_swap P F bd back-moved new p e

          in_node : k < length N
          in_node = omega (arith, back-node.same_length, ln, inside)

          in_alt : k < length alt
          in_alt = omega (arith, inside, s.stack.alt-length)

          again : settled P (set N k (2 ^ v)) ≡ settled P (set (base F dec k) k (2 ^ v))
          again = settle-restricted P (base F dec k) k v (below-words base-file bd) (omega (arith, base-file.same_length, ln, inside))
              (ap (λ (y : ℕ). bit y v) (base-high F dec k dec_long k (omega arith)) ∙ waiting-there.there)

          same_base : (n : ℕ) → n ≤ k → base F (set (base F dec k) k (2 ^ v)) n ≡ base F dec n
          same_base n h = base-set F (base F dec k) k (2 ^ v) n h ∙ base-base F dec k n h dec_long

          -- what waits after the move waited before it, and not past k
          fewer : (n : ℕ) → n < width P → (b : ℕ) → bit (word (set alt k w) n) b ≡ true → (t : Bool) → eqb n k ≡ t → (n ≤ k) × (bit (word alt n) b ≡ true)
          fewer n h b q true e =
              let d : n ≡ k = eqb-true n k e in
              let x : bit w b ≡ true = ap (λ (y : ℕ). bit y b) (sym (ap (word (set alt k w)) d ∙ get_or-set_same alt k w 0 in_alt)) ∙ q in
              (omega arith, ap (λ (y : ℕ). bit (word alt y) b) d ∙ sub_within (word alt k) v here b x)
          fewer n h b q false e =
              let r : bit (word alt n) b ≡ true = ap (λ (y : ℕ). bit y b) (sym (get_or-set_other alt k n w 0 (eqb-false n k e))) ∙ q in
              (not-past n h b r (leb n k) refl, r)
            where
              not-past : (n : ℕ) → n < width P → (b : ℕ) → bit (word alt n) b ≡ true → (t : Bool) → leb n k ≡ t → n ≤ k
              not-past n h b r true e = leb-true n k e
              not-past n h b r false e = absurd (no-bit (word alt n) b (z n (leb-false n k e) h) r)

      -- a table below the file's with word k cut to v is below it
      cut-file : (T : List ℕ) → Below T F → Below (set T k (2 ^ v)) F
      cut-file T p = record { same_length = length-set T k (2 ^ v) ∙ p.same_length; within = λ i. go i (eqb i k) refl }
        where
          go : (i : ℕ) (t : Bool) → eqb i k ≡ t → Within (word (set T k (2 ^ v)) i) (word F i)
          go i true e b q =
              let d : i ≡ k = eqb-true i k e in
              let x : bit (2 ^ v) b ≡ true = ap (λ (y : ℕ). bit y b) (sym (ap (word (set T k (2 ^ v))) d ∙ get_or-set_same T k (2 ^ v) 0 (omega (arith, p.same_length, ln, inside)))) ∙ q in
              subst (λ (y : ℕ). bit (word F i) y ≡ true) (sym (pow-only v b x)) (ap (λ (y : ℕ). bit (word F y) v) d ∙ waiting-there.there)
          go i false e b q = p.within i b (ap (λ (y : ℕ). bit y b) (sym (get_or-set_other T k i (2 ^ v) 0 (eqb-false i k e))) ∙ q)

      -- to the kept table's own word: its next child
      pub keeping-sibling : k ≡ k₀ → KeptMove P F cur dec alt (set kept k (2 ^ v)) (set (base F dec k) k (2 ^ v)) kept (set alt k (word alt k - 2 ^ v)) k₀ (suc k)
      keeping-sibling e = keeping-back (set kept k (2 ^ v)) (cut-file kept (below_trans (below-of-eq mine) back-node))
          (ap (λ (T : List ℕ). settled P (set T k (2 ^ v))) mine
          ∙ settle-restricted P (base F dec k) k v (below-words base-file bd) (omega (arith, base-file.same_length, ln, inside))
          (ap (λ (y : ℕ). bit y v) (base-high F dec k dec_long k (omega arith)) ∙ waiting-there.there))
        where
          mine : kept ≡ settled P (base F dec k)
          mine =
              subst (λ (y : ℕ). y < width P → (b : ℕ) → bit (word alt y) b ≡ true → kept ≡ settled P (base F dec y)) (sym e) s.own inside v here

      -- the kept table is then stable and has the value: the start of its child is `child-text` or `child-number` of `RunningLaws`
      pub sibling-stable : k ≡ k₀ → Stable P kept × Below kept F × (bit (word kept k) v ≡ true)
      sibling-stable e =
          let mine : kept ≡ settled P (base F dec k) =
          subst (λ (y : ℕ). y < width P → (b : ℕ) → bit (word alt y) b ≡ true → kept ≡ settled P (base F dec y)) (sym e) s.own inside v here in (
            subst (Stable P) (sym mine) (settled-stable P (base F dec k) (below-words base-file bd)),
            below_trans (below-of-eq mine) back-node,
            subst (λ (y : ℕ). y < width P → (b : ℕ) → bit (word alt y) b ≡ true → bit (word kept y) b ≡ true) (sym e) s.there inside v here,
          )

      -- further back: the words before k are the kept table's, those behind it the file's
      pub keeping-restart : KeptMove P F cur dec alt (set (base F kept k) k (2 ^ v)) (set (base F dec k) k (2 ^ v)) kept (set alt k (word alt k - 2 ^ v)) k₀ (suc k)
      keeping-restart = keeping-back (set (base F kept k) k (2 ^ v)) (cut-file (base F kept k) within-file)
          (restart-settled P F dec bd s.stack.decided k dec_long kept (omega (arith, ln, inside)) (s.kept-length ∙ sym ln) (s.before k inside v here) v waiting-there.there)
        where
          same : base F kept k ≡ base F (settled P (base F dec k)) k
          same = base_same F kept (settled P (base F dec k)) k (omega (arith, s.kept-length, inside)) (omega (arith, back-node.same_length, ln, inside)) (s.before k inside v here)

          within-file : Below (base F kept k) F
          within-file = below_trans (below-of-eq same) (base-below F (settled P (base F dec k)) k (omega (arith, back-node.same_length, ln, inside)) back-node)
