-- Laws of the depth-first loop with three tables: the current one, the decisions so far, and the values not yet tried (specs/Traversal.antt). The words of a path go
-- upwards (`child-later`). Assumes nothing.
use mathlib.Core.Path.{◌≡◌, refl, sym, ap, ap₂, subst, ◌∙◌}
use mathlib.Core.Logic.{◌≢◌}
use mathlib.Core.Bool.{Bool, true, false}
use mathlib.Core.List.Memᴰ
use mathlib.Core.List.{List, [], ◌∷◌, ◌++◌, map, flat_map, append_assoc, append-nil}
use Prim.Native.Nat.{ℕ, zero, suc, ◌+◌, ◌-◌, ◌^◌, ◌≤◌, ◌<◌}
use native.Mathlib.Omega.{arith}
use lib.Dec.{eqb, ltb}
use lib.ListN.{length, set, take, drop, replicate, length-append, length-take, length-drop, get_or-replicate, get_or-append}
use lib.Seq.{length-take-le, get_or-append-add, get_or-set_same, get_or-set_other, take-set-le, get_or-take, get_or-drop, take-append-le, take-take, ext_get_or}
use borrow.Author.Tests.{ltb-true, ltb-false, eqb-true, eqb-false}
use Rattle.model.specs.Words.{bit, bits, word, Words}
use Rattle.model.specs.Constraints.{Problem}
use Rattle.model.specs.Rounds.{settled}
use Rattle.model.specs.Tree.{nodes, children, solved, searching, found, none, spent}
use Rattle.laws.specs.Inclusion.{In, Within, Below}
use Rattle.laws.specs.Traversal.{base, left, waiting, visit}
use Rattle.laws.proofs.ListLaws.{flat_map-append, flat_map-map, flat_map_cong}
use Rattle.laws.proofs.WordLaws.{zero_bits, of-bits}
use Rattle.laws.proofs.TableLaws.{below-words}
use Rattle.laws.proofs.RoundLaws.{settled-below}
use Rattle.laws.proofs.ChildLaws.{settle-restricted, child-below}
use Rattle.laws.proofs.TreeLaws.{nodes-step, nodes-settled}
use Rattle.laws.proofs.BudgetLaws.{search-visit}

module _ (F : List ℕ) where
  -- its words, and its place below the file's table
  module _ (dec : List ℕ) (at : ℕ) (h : at ≤ length dec) where
    pub base-low : (i : ℕ) → i < at → word (base F dec at) i ≡ word dec i
    unfolding base
    base-low i l =
        let e : i < length (take at dec) = omega (arith, length-take-le at dec h) in
        get_or-append (take at dec) (drop at F) 0 i e ∙ get_or-take at dec i 0 l

    pub base-high : (i : ℕ) → at ≤ i → word (base F dec at) i ≡ word F i
    unfolding base
    base-high i l =
        let n : ℕ = length (take at dec) in
        let e : n ≡ at = length-take-le at dec h in
        let d : n + (i - at) ≡ i = omega arith in
        let f : at + (i - at) ≡ i = omega arith in
        ap (λ (j : ℕ). word (take at dec ++ drop at F) j) (sym d) ∙ get_or-append-add (take at dec) (drop at F) (i - at) 0 ∙ get_or-drop at F (i - at) 0 ∙ ap (word F) f

    base-length : length dec ≡ length F → length (base F dec at) ≡ length F
    unfolding base
    base-length e = length-append (take at dec) (drop at F) ∙ omega (arith, length-take-le at dec h, length-drop at F)

    pub base-below : Below dec F → Below (base F dec at) F
    base-below p = record { same_length = base-length p.same_length; within = λ i. go i (ltb i at) refl }
      where
        go : (i : ℕ) (t : Bool) → ltb i at ≡ t → Within (word (base F dec at) i) (word F i)
        go i true e b q = p.within i b (ap (λ (w : ℕ). bit w b) (sym (base-low i (ltb-true i at e))) ∙ q)
        go i false e b q = ap (λ (w : ℕ). bit w b) (sym (base-high i (ltb-false i at e))) ∙ q

    -- decisions that have the file's words from `at` on are their own base
    pub base-own : length dec ≡ length F → ((i : ℕ) → at ≤ i → word dec i ≡ word F i) → base F dec at ≡ dec
    base-own e f = ext_get_or 0 (base F dec at) dec (base-length e ∙ sym e) (λ i l. go i (ltb i at) refl)
      where
        go : (i : ℕ) (t : Bool) → ltb i at ≡ t → word (base F dec at) i ≡ word dec i
        go i true q = base-low i (ltb-true i at q)
        go i false q = base-high i (ltb-false i at q) ∙ sym (f i (ltb-false i at q))

  pub base-set : (dec : List ℕ) (i a at : ℕ) → at ≤ i → base F (set dec i a) at ≡ base F dec at
  unfolding base
  base-set dec i a at h = ap (λ l. l ++ drop at F) (take-set-le at dec i a h)

  pub base-base : (dec : List ℕ) (m at : ℕ) → at ≤ m → m ≤ length dec → base F (base F dec m) at ≡ base F dec at
  unfolding base
  base-base dec m at h l =
      let e : at ≤ length (take m dec) = omega (arith, length-take m dec) in
      ap (λ t. t ++ drop at F) (take-append-le at (take m dec) (drop m F) e ∙ take-take at m dec h)

  -- words at which nothing waits may be left out
  pub waiting-zero : (n m : ℕ) (dec alt : List ℕ) → m ≤ n → ((i : ℕ) → m ≤ i → i < n → word alt i ≡ 0) → waiting F n dec alt ≡ waiting F m dec alt
  unfolding waiting
  waiting-zero zero m dec alt h z = let e : m ≡ 0 = omega arith in ap (λ (at : ℕ). waiting F at dec alt) (sym e)
  waiting-zero (suc n) m dec alt h z = go (eqb m (suc n)) refl (λ l. waiting-zero n m dec alt l (λ i p q. z i p (omega arith)))
    where
      go : (t : Bool) → eqb m (suc n) ≡ t → (m ≤ n → waiting F n dec alt ≡ waiting F m dec alt) → map (λ b. set (base F dec n) n (2 ^ b)) (bits (word alt n)) ++ waiting F n dec alt ≡ waiting F m dec alt
      go true e r = ap (λ (at : ℕ). waiting F at dec alt) (sym (eqb-true m (suc n) e))
      go false e r =
          let ne = eqb-false m (suc n) e in
          let l : m ≤ n = omega arith in
          ap (λ (w : ℕ). map (λ b. set (base F dec n) n (2 ^ b)) (bits w) ++ waiting F n dec alt) (z n l (omega arith)) ∙ ap (λ (bs : List ℕ). map (λ b. set (base F dec n) n (2 ^ b)) bs ++ waiting F n dec alt) zero_bits ∙ r l

  -- only what is below n matters
  pub waiting_local : (n : ℕ) (dec dec' alt alt' : List ℕ) → ((at : ℕ) → at < n → base F dec at ≡ base F dec' at) → ((at : ℕ) → at < n → word alt at ≡ word alt' at) → waiting F n dec alt ≡ waiting F n dec' alt'
  unfolding waiting
  waiting_local zero dec dec' alt alt' p q = refl
  waiting_local (suc n) dec dec' alt alt' p q =
      ap₂ (λ l r. l ++ r) (ap₂ (λ (t : List ℕ) (w : ℕ). map (λ b. set t n (2 ^ b)) (bits w)) (p n (omega arith)) (q n (omega arith)))
      (waiting_local n dec dec' alt alt' (λ at h. p at (omega arith)) (λ at h. q at (omega arith)))

  -- down: of word `at`, from which on nothing is decided and nothing waits, take one value and let the others wait
  pub waiting-down : (n at a w : ℕ) (dec alt : List ℕ) → at < n → at < length alt → base F dec at ≡ dec → ((i : ℕ) → at ≤ i → i < n → word alt i ≡ 0)
      → waiting F n (set dec at a) (set alt at w) ≡ map (λ c. set dec at (2 ^ c)) (bits w) ++ waiting F n dec alt
  unfolding waiting
  waiting-down n at a w dec alt h l e z =
      waiting-zero n (suc at) (set dec at a) (set alt at w) (omega arith) (λ i p q. let ne : i ≢ at = omega arith in get_or-set_other alt at i w 0 ne ∙ z i (omega arith) q)
      ∙ ap₂ (λ x y. x ++ y)
      (ap₂ (λ (t : List ℕ) (v : ℕ). map (λ c. set t at (2 ^ c)) (bits v)) (base-set dec at a at (omega arith) ∙ e) (get_or-set_same alt at w 0 l))
      (waiting_local at (set dec at a) dec (set alt at w) alt (λ j p. base-set dec at a j (omega arith)) (λ j p. let ne : j ≢ at = omega arith in get_or-set_other alt at j w 0 ne)
      ∙ sym (waiting-zero n at dec alt (omega arith) z))

  -- back: of the deepest word `at` at which something waits, take the first value
  pub waiting-back : (n at b w : ℕ) (bs dec alt : List ℕ) → at < n → at < length alt → at ≤ length dec → ((i : ℕ) → suc at ≤ i → i < n → word alt i ≡ 0)
      → bits (word alt at) ≡ b ∷ bs → bits w ≡ bs → waiting F n dec alt ≡ set (base F dec at) at (2 ^ b) ∷ waiting F n (set (base F dec at) at (2 ^ b)) (set alt at w)
  unfolding waiting
  waiting-back n at b w bs dec alt h l d z e₁ e₂ =
      let next : List ℕ = set (base F dec at) at (2 ^ b) in
      let left : waiting F n dec alt ≡ map (λ c. set (base F dec at) at (2 ^ c)) (b ∷ bs) ++ waiting F at dec alt =
      waiting-zero n (suc at) dec alt (omega arith) z ∙ ap (λ (l : List ℕ). map (λ c. set (base F dec at) at (2 ^ c)) l ++ waiting F at dec alt) e₁ in
      let same_base : (j : ℕ) → j ≤ at → base F next j ≡ base F dec j = λ j p. base-set (base F dec at) at (2 ^ b) j p ∙ base-base dec at j p d in
      let right : waiting F n next (set alt at w) ≡ map (λ c. set (base F dec at) at (2 ^ c)) bs ++ waiting F at dec alt =
      waiting-zero n (suc at) next (set alt at w) (omega arith) (λ i p q. let ne : i ≢ at = omega arith in get_or-set_other alt at i w 0 ne ∙ z i p q)
      ∙ ap₂ (λ x y. x ++ y)
      (ap₂ (λ (t : List ℕ) (v : List ℕ). map (λ c. set t at (2 ^ c)) v) (same_base at (omega arith)) (ap bits (get_or-set_same alt at w 0 l) ∙ e₂))
      (waiting_local at next dec (set alt at w) alt (λ j p. same_base j (omega arith)) (λ j p. let ne : j ≢ at = omega arith in get_or-set_other alt at j w 0 ne)) in
      left ∙ ap (λ t. next ∷ t) (sym right)

-- ---- the loop's three moves, as equations between the lists of nodes that are left

module _ (P : Problem) (F : List ℕ) where
  -- visiting the current node: the search ends there, or goes on below it
  pub left-visit : (n : ℕ) (cur dec alt : List ℕ) → Words cur → left P F n cur dec alt ≡ settled P cur ∷ (flat_map (nodes P) (children P (settled P cur)) ++ flat_map (nodes P) (waiting F n dec alt))
  unfolding left
  left-visit n cur dec alt bd = ap (λ l. l ++ flat_map (nodes P) (waiting F n dec alt)) (nodes-step P cur bd)

  -- a node that branches: the loop goes down into the first child, the others wait
  pub left_down : (n at b w : ℕ) (bs dec alt : List ℕ) → Words dec → at < n → at < length dec → at < length alt → base F dec at ≡ dec → ((i : ℕ) → at ≤ i → i < n → word alt i ≡ 0)
      → bits (word (settled P dec) at) ≡ b ∷ bs → bits w ≡ bs → children P (settled P dec) ≡ map (λ c. set (settled P dec) at (2 ^ c)) (bits (word (settled P dec) at))
      → flat_map (nodes P) (children P (settled P dec)) ++ flat_map (nodes P) (waiting F n dec alt) ≡ left P F n (set (settled P dec) at (2 ^ b)) (set dec at (2 ^ b)) (set alt at w)
  unfolding left flat_map
  left_down n at b w bs dec alt bd h ld la e z e₁ e₂ ch =
      let S : List ℕ = settled P dec in
      let p : Below S dec = settled-below P dec in
      let lS : at < length S = subst (λ (m : ℕ). at < m) (sym p.same_length) ld in
      let bS : Words S = below-words p bd in
      let there : (c : ℕ) → In c (b ∷ bs) → bit (word S at) c ≡ true = λ c m. (of-bits (word S at) (subst (λ (l : List ℕ). In c l) (sym e₁) m)).0 in
      let same : (c : ℕ) → In c bs → nodes P (set S at (2 ^ c)) ≡ nodes P (set dec at (2 ^ c)) = λ c m.
      let t = there c (Memᴰ.tail m) in
      let u = p.within at c t in
      nodes-settled P (set S at (2 ^ c)) (set dec at (2 ^ c)) (below-words (child-below S at c lS t) bS) (below-words (child-below dec at c ld u) bd) (settle-restricted P dec at c bd ld u) in
      let first : flat_map (nodes P) (children P S) ≡ nodes P (set S at (2 ^ b)) ++ flat_map (nodes P) (map (λ c. set dec at (2 ^ c)) bs) =
      ap (flat_map (nodes P)) (ch ∙ ap (map (λ c. set S at (2 ^ c))) e₁)
      ∙ ap (λ l. nodes P (set S at (2 ^ b)) ++ l) (flat_map-map (nodes P) (λ c. set S at (2 ^ c)) bs ∙ flat_map_cong (λ c. nodes P (set S at (2 ^ c))) (λ c. nodes P (set dec at (2 ^ c))) bs same ∙ sym (flat_map-map (nodes P) (λ c. set dec at (2 ^ c)) bs)) in
      let second : flat_map (nodes P) (waiting F n (set dec at (2 ^ b)) (set alt at w)) ≡ flat_map (nodes P) (map (λ c. set dec at (2 ^ c)) bs) ++ flat_map (nodes P) (waiting F n dec alt) =
      ap (flat_map (nodes P)) (waiting-down F n at (2 ^ b) w dec alt h la e z ∙ ap (λ (l : List ℕ). map (λ c. set dec at (2 ^ c)) l ++ waiting F n dec alt) e₂)
      ∙ flat_map-append (nodes P) (map (λ c. set dec at (2 ^ c)) bs) (waiting F n dec alt) in
      ap (λ l. l ++ flat_map (nodes P) (waiting F n dec alt)) first
      ∙ append_assoc (nodes P (set S at (2 ^ b))) (flat_map (nodes P) (map (λ c. set dec at (2 ^ c)) bs)) (flat_map (nodes P) (waiting F n dec alt))
      ∙ ap (λ l. nodes P (set S at (2 ^ b)) ++ l) (sym second)

  -- a node without children: the loop goes back to the deepest word at which something waits
  pub left_back : (n at b w : ℕ) (bs dec alt : List ℕ) → at < n → at < length alt → at ≤ length dec → ((i : ℕ) → suc at ≤ i → i < n → word alt i ≡ 0)
      → bits (word alt at) ≡ b ∷ bs → bits w ≡ bs
      → flat_map (nodes P) (waiting F n dec alt) ≡ left P F n (set (base F dec at) at (2 ^ b)) (set (base F dec at) at (2 ^ b)) (set alt at w)
  unfolding left flat_map
  left_back n at b w bs dec alt h l d z e₁ e₂ = ap (flat_map (nodes P)) (waiting-back F n at b w bs dec alt h l d z e₁ e₂)

  -- nothing waits: the tree is done
  pub left-done : (n : ℕ) (dec alt : List ℕ) → ((i : ℕ) → i < n → word alt i ≡ 0) → flat_map (nodes P) (waiting F n dec alt) ≡ []
  unfolding flat_map waiting
  left-done n dec alt z = ap (flat_map (nodes P)) (waiting-zero F n 0 dec alt (omega arith) (λ i p q. z i q))

module _ (P : Problem) (F A : List ℕ) where
  -- ---- the same for the search: the loop keeps `visit P A i b (left n cur dec alt)` equal to the answer, with i nodes visited and b more allowed

  pub loop_start : (n budget : ℕ) → visit P A 0 budget (left P F n F F (replicate n 0)) ≡ searching P F budget A
  unfolding left
  loop_start n budget =
      ap (λ l. visit P A 0 budget (nodes P F ++ l)) (left-done P F n F (replicate n 0) (λ i h. get_or-replicate n i 0 0 h)) ∙ ap (visit P A 0 budget) (append-nil (nodes P F)) ∙ sym (search-visit P A F budget)

  pub loop_spent : (i n : ℕ) (cur dec alt : List ℕ) → Words cur → visit P A i 0 (left P F n cur dec alt) ≡ record { outcome = spent i; table = A }
  unfolding visit
  loop_spent i n cur dec alt bd = ap (visit P A i 0) (left-visit P F n cur dec alt bd)

  pub loop_solved : (i b n : ℕ) (cur dec alt : List ℕ) → Words cur → solved P (settled P cur) ≡ true → visit P A i (suc b) (left P F n cur dec alt) ≡ record { outcome = found (suc i); table = settled P cur }
  unfolding visit
  loop_solved i b n cur dec alt bd s = ap (visit P A i (suc b)) (left-visit P F n cur dec alt bd) ∙ rw s

  -- an unsolved node: on with what is below it, then with what waits
  loop_on : (i b n : ℕ) (cur dec alt : List ℕ) → Words cur → solved P (settled P cur) ≡ false
      → visit P A i (suc b) (left P F n cur dec alt) ≡ visit P A (suc i) b (flat_map (nodes P) (children P (settled P cur)) ++ flat_map (nodes P) (waiting F n dec alt))
  unfolding visit
  loop_on i b n cur dec alt bd s = ap (visit P A i (suc b)) (left-visit P F n cur dec alt bd) ∙ rw s

  pub loop_down : (i b n at v w : ℕ) (bs cur dec alt : List ℕ) → Words cur → Words dec → settled P cur ≡ settled P dec → solved P (settled P cur) ≡ false
      → at < n → at < length dec → at < length alt → base F dec at ≡ dec → ((j : ℕ) → at ≤ j → j < n → word alt j ≡ 0) → bits (word (settled P dec) at) ≡ v ∷ bs → bits w ≡ bs
      → children P (settled P dec) ≡ map (λ c. set (settled P dec) at (2 ^ c)) (bits (word (settled P dec) at))
      → visit P A i (suc b) (left P F n cur dec alt) ≡ visit P A (suc i) b (left P F n (set (settled P dec) at (2 ^ v)) (set dec at (2 ^ v)) (set alt at w))
  loop_down i b n at v w bs cur dec alt bc bd e s h ld la eb z e₁ e₂ ch =
      loop_on i b n cur dec alt bc s
      ∙ ap (λ (S : List ℕ). visit P A (suc i) b (flat_map (nodes P) (children P S) ++ flat_map (nodes P) (waiting F n dec alt))) e
      ∙ ap (visit P A (suc i) b) (left_down P F n at v w bs dec alt bd h ld la eb z e₁ e₂ ch)

  no-children : (S : List ℕ) (l : List (List ℕ)) → children P S ≡ [] → flat_map (nodes P) (children P S) ++ l ≡ l
  unfolding flat_map
  no-children S l e = ap (λ c. flat_map (nodes P) c ++ l) e

  pub loop_back : (i b n at v w : ℕ) (bs cur dec alt : List ℕ) → Words cur → solved P (settled P cur) ≡ false → children P (settled P cur) ≡ []
      → at < n → at < length alt → at ≤ length dec → ((j : ℕ) → suc at ≤ j → j < n → word alt j ≡ 0) → bits (word alt at) ≡ v ∷ bs → bits w ≡ bs
      → visit P A i (suc b) (left P F n cur dec alt) ≡ visit P A (suc i) b (left P F n (set (base F dec at) at (2 ^ v)) (set (base F dec at) at (2 ^ v)) (set alt at w))
  loop_back i b n at v w bs cur dec alt bc s ch h la ld z e₁ e₂ =
      loop_on i b n cur dec alt bc s ∙ ap (visit P A (suc i) b) (no-children (settled P cur) (flat_map (nodes P) (waiting F n dec alt)) ch ∙ left_back P F n at v w bs dec alt h la ld z e₁ e₂)

  pub loop_done : (i b n : ℕ) (cur dec alt : List ℕ) → Words cur → solved P (settled P cur) ≡ false → children P (settled P cur) ≡ [] → ((j : ℕ) → j < n → word alt j ≡ 0)
      → visit P A i (suc b) (left P F n cur dec alt) ≡ record { outcome = none (suc i); table = A }
  unfolding visit
  loop_done i b n cur dec alt bc s ch z =
      loop_on i b n cur dec alt bc s ∙ ap (visit P A (suc i) b) (no-children (settled P cur) (flat_map (nodes P) (waiting F n dec alt)) ch ∙ left-done P F n dec alt z)
