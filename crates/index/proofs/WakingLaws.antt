-- What the words of an index say: the constraints that name a variable that a step changed, and those that name the variable of a table's word.
-- Assumes nothing.
use Rattle.std.specs.Prelude.{Some}
use Rattle.std.proofs.lemmas.List.{get_or-map, length-map, length-take}
use mathlib.Core.Path.{◌≡◌, refl, sym, ap, ap₂, subst, ◌∙◌}
use mathlib.Core.Logic.{◌≢◌, ⊎_elim}
use mathlib.Core.Bool.{Bool, true, false, cond, false≢true}
use mathlib.Core.List.Memᴰ
use mathlib.Core.List.{List, [], ◌∷◌, ◌++◌, map, map-append, append-nil}
use Prim.Native.Nat.{ℕ, zero, suc, ◌+◌, ◌-◌, ◌*◌, ◌/◌, ◌≤◌, ◌<◌, min}
use native.Mathlib.Omega.{arith}
use lib.Bits.{bit_or}
use lib.ListN.{length, get_or, take}
use lib.Seq.{ext_get_or, take_all}
use borrow.Author.Tests.{lt-ltb, le-ltb}
use Rattle.model.specs.Words.{bit, word, union}
use Rattle.model.specs.Domains.{Variable, str, owner}
use Rattle.model.specs.Constraints.{Problem, Constraint, always, variables}
use Rattle.model.specs.Support.{touches, narrowed}
use Rattle.laws.specs.Inclusion.{In}
use Rattle.laws.proofs.ListLaws.{in_any, in_get_or}
use Rattle.laws.proofs.WordLaws.{bit-union, of-or-bit, zero_bit}
use Rattle.laws.proofs.SupportLaws.{touched, narrowed-length, narrowed-other}
use Rattle.shortcuts.specs.Waiting.{Unchanged}
use Rattle.inplace.specs.declared.Changed.{Changed}
use Rattle.inplace.specs.InPlace.{flag}
use Rattle.steps.specs.Step.{Narrows}
use Rattle.index.specs.Index.{position, Marked}
use Rattle.records.specs.declared.Record.{Record}
use Rattle.records.specs.Records.{constraint_of}
use Rattle.index.specs.declared.positions.Positions.{Positions}
use Rattle.index.specs.Joining.{named}
use Rattle.index.specs.Standing.{listed, Standing}
use Rattle.index.specs.Waking.{moved}
use Rattle.index.proofs.StandingLaws.{union-last}

-- a bit of some of these words is in their union, and what holds of each word's bits holds of its bits
bit_in_union : (f : Variable → ℕ) (vs : List Variable) (v : Variable) (d : ℕ) → In v vs → bit (f v) d ≡ true → bit (union (map f vs)) d ≡ true
bit_in_union f vs v d m e = bit-union (map f vs) d ∙ in_any (λ w. bit w d) (Memᴰ.map f m) e

union-within : (f : Variable → ℕ) (vs : List Variable) (d n : ℕ) → ((v : Variable) → bit (f v) d ≡ true → d < n) → bit (union (map f vs)) d ≡ true → d < n
unfolding union
union-within f [] d n h e = absurd (false≢true (sym (zero_bit d) ∙ e))
union-within f (v ∷ vs) d n h e = ⊎_elim (λ l. h v l) (λ r. union-within f vs d n h r) (of-or-bit (f v) (union (map f vs)) d e)

-- a variable that changed is among those that did
in_moved : (vs : List Variable) (ts : List Bool) (i : ℕ) → i < length vs → get_or ts i false ≡ true → In (get_or vs i (str 0)) (moved vs ts)
unfolding moved
in_moved [] ts i l h = absurd (omega arith)
in_moved (v ∷ vs) [] i l h = absurd (false≢true h)
in_moved (v ∷ vs) (false ∷ ts) zero l h = absurd (false≢true h)
in_moved (v ∷ vs) (false ∷ ts) (suc i) l h = in_moved vs ts i (omega arith) h
in_moved (v ∷ vs) (true ∷ ts) zero l h = Memᴰ.head refl
in_moved (v ∷ vs) (true ∷ ts) (suc i) l h = Memᴰ.tail (in_moved vs ts i (omega arith) h)

-- where no flag is set none did
none-moved : (vs : List Variable) (ts : List Bool) → ((i : ℕ) → get_or ts i false ≡ true → ⊥) → moved vs ts ≡ []
unfolding moved
none-moved [] ts h = refl
none-moved (v ∷ vs) [] h = refl
none-moved (v ∷ vs) (true ∷ ts) h = absurd (h 0 refl)
none-moved (v ∷ vs) (false ∷ ts) h = none-moved vs ts (λ i. h (suc i))

-- a step that keeps its own variables leaves the table as it was
unchanged-same : (P : Problem) (c : Constraint) (T : List ℕ) → ((v : Variable) → In v (variables c) → Unchanged P T (narrowed P c T) v) → narrowed P c T ≡ T
unchanged-same P c T h = ext_get_or 0 (narrowed P c T) T (narrowed-length P c T) (λ i l. go i l (touches P c i) refl)
  where
    go : (i : ℕ) → i < length (narrowed P c T) → (t : Bool) → touches P c i ≡ t → word (narrowed P c T) i ≡ word T i
    go i l true t = sym (h (owner P.strings i) (touched P c i t) i refl)
    go i l false t = narrowed-other P c T i (subst (λ (k : ℕ). i < k) (narrowed-length P c T) l) t

-- ---- a loop over the positions of a record and the flags of a change

-- one variable more
moved-next : (vs : List Variable) (ts : List Bool) (k : ℕ) → k < length vs → k < length ts
    → moved (take (suc k) vs) ts ≡ moved (take k vs) ts ++ cond (get_or ts k false) (get_or vs k (str 0) ∷ []) []
unfolding moved
moved-next [] ts k l h = absurd (omega arith)
moved-next (v ∷ vs) [] k l h = absurd (omega arith)
moved-next (v ∷ vs) (true ∷ ts) zero l h = refl
moved-next (v ∷ vs) (false ∷ ts) zero l h = refl
moved-next (v ∷ vs) (true ∷ ts) (suc k) l h = ap (λ (us : List Variable). v ∷ us) (moved-next vs ts k (omega arith) (omega arith))
moved-next (v ∷ vs) (false ∷ ts) (suc k) l h = moved-next vs ts k (omega arith) (omega arith)

abbrev flags : Changed → List Bool
flags n = n.x ∷ n.y ∷ n.z ∷ []

-- where no flag is set nothing is woken
pub quiet-wakes : (s : ℕ) (ix : List ℕ) (r : Record) (n : Changed) → n.x ≡ false → n.y ≡ false → n.z ≡ false
    → 0 ≡ union (map (λ v. word ix (position s v)) (moved (variables (constraint_of r)) (n.x ∷ n.y ∷ n.z ∷ [])))
unfolding union
quiet-wakes s ix r n p q t = rw (p, q, t) (sym (ap (λ (vs : List Variable). union (map (λ v. word ix (position s v)) vs))
    (none-moved (variables (constraint_of r)) (false ∷ false ∷ false ∷ []) unset)))
  where
    unset : (i : ℕ) → get_or (false ∷ false ∷ false ∷ []) i false ≡ true → ⊥
    unset zero h = false≢true h
    unset (suc zero) h = false≢true h
    unset (suc (suc zero)) h = false≢true h
    unset (suc (suc (suc i))) h = false≢true h

-- w has the bits of the words of those of the first k variables that changed
pub record Woken (s : ℕ) (ix : List ℕ) (r : Record) (n : Changed) (k w : ℕ) : Type 0 where
  pub is : w ≡ union (map (λ v. word ix (position s v)) (moved (take k (named r)) (n.x ∷ n.y ∷ n.z ∷ [])))

module _ (s : ℕ) (ix : List ℕ) (r : Record) (n : Changed) where
  pub woken_start : Woken s ix r n 0 0
  unfolding union moved
  woken_start = record { is = refl }

  module _ (m : Positions) (at : Standing s r m) (k w : ℕ) (h : Woken s ix r n k w) where
    module _ (i : ℕ) (t : Bool) (less : k < length (listed m)) (few : k < 3) (ei : i ≡ get_or (listed m) k 0) (et : t ≡ get_or (flags n) k false) (j : ℕ) (ej : j ≡ suc k) where
      inside : k < length (named r)
      inside = omega (arith, ap length at.are, length-map (named r) (position s))

      here : i ≡ position s (get_or (named r) k (str 0))
      here = ei ∙ ap (λ (is : List ℕ). get_or is k 0) at.are ∙ get_or-map (position s) (named r) k (str 0) 0 inside

      next : moved (take j (named r)) (flags n) ≡ moved (take k (named r)) (flags n) ++ cond t (get_or (named r) k (str 0) ∷ []) []
      next = rw (ej, et) (moved-next (named r) (flags n) k inside few)

      pub woken_more : t ≡ true → Woken s ix r n j (bit_or w (word ix i))
      woken_more q = record {
        is = ap₂ (λ (u i : ℕ). bit_or u (word ix i)) h.is here ∙ union-last (map (λ v. word ix (position s v)) (moved (take k (named r)) (flags n))) _
            ∙ ap union (sym (map-append (λ v. word ix (position s v)) (moved (take k (named r)) (flags n)) (get_or (named r) k (str 0) ∷ [])))
            ∙ ap (λ (us : List Variable). union (map (λ v. word ix (position s v)) us)) (sym (next ∙ ap (λ (b : Bool). moved (take k (named r)) (flags n) ++ cond b (get_or (named r) k (str 0) ∷ []) []) q));
      }

      pub woken_same : t ≡ false → Woken s ix r n j w
      woken_same q = record {
        is = h.is ∙ ap (λ (us : List Variable). union (map (λ v. word ix (position s v)) us))
            (sym (next ∙ ap (λ (b : Bool). moved (take k (named r)) (flags n) ++ cond b (get_or (named r) k (str 0) ∷ []) []) q ∙ append-nil (moved (take k (named r)) (flags n))));
      }

    pub woken_end : k ≡ min (length (listed m)) 3 → w ≡ union (map (λ v. word ix (position s v)) (moved (variables (constraint_of r)) (n.x ∷ n.y ∷ n.z ∷ [])))
    woken_end e =
        let c : length (listed m) ≤ 3 = omega (arith, m.few, length-take m.count m.at) in
        let l : length (named r) ≤ k = omega (arith, ap length at.are, length-map (named r) (position s)) in
        h.is ∙ ap (λ (us : List Variable). union (map (λ v. word ix (position s v)) (moved us (flags n)))) (take_all k (named r) l)

module _ (P : Problem) (ix : List ℕ) (x : Marked P ix) where
  -- ---- the union of the words of the variables that a step for c changed

  module _ (c : Constraint) (n : Changed) (w : ℕ)
      (e : w ≡ union (map (λ v. word ix (position P.strings v)) (moved (variables c) (n.x ∷ n.y ∷ n.z ∷ [])))) where
    -- it wakes each constraint that names one of them, and none but the problem's
    waking_wakes : (i : ℕ) → i < length (variables c) → flag i (Some n) ≡ true → (d : ℕ) → d < length P.constraints
        → In (get_or (variables c) i (str 0)) (variables (get_or P.constraints d (always 0))) → bit w d ≡ true
    waking_wakes i h s d l k =
        let v = get_or (variables c) i (str 0) in
        let vs = moved (variables c) (n.x ∷ n.y ∷ n.z ∷ []) in
        ap (λ (u : ℕ). bit u d) e
        ∙ bit_in_union (λ v. word ix (position P.strings v)) vs v d (in_moved (variables c) (n.x ∷ n.y ∷ n.z ∷ []) i h s) (x.names d l v k)

    pub waking-inside : (d : ℕ) → bit w d ≡ true → d < length P.constraints
    waking-inside d b =
        union-within (λ v. word ix (position P.strings v)) (moved (variables c) (n.x ∷ n.y ∷ n.z ∷ [])) d (length P.constraints)
        (λ v. x.inside (position P.strings v) d) (ap (λ (u : ℕ). bit u d) (sym e) ∙ b)

    module _ (T U : List ℕ) (s : Narrows P c T U (Some n)) where
      -- a constraint that it does not wake shares with c only variables that are as they were
      pub waking-apart : (d : ℕ) → d < length P.constraints → bit w d ≡ false → (v : Variable) → In v (variables c)
          → In v (variables (get_or P.constraints d (always 0))) → Unchanged P T U v
      waking-apart d l b v m k = let a = in_get_or (variables c) (str 0) m in go a.0 a.1 a.2 (flag a.0 (Some n)) refl
        where
          go : (i : ℕ) → i < length (variables c) → get_or (variables c) i (str 0) ≡ v → (q : Bool) → flag i (Some n) ≡ q → Unchanged P T U v
          go i h f false q = s.unchanged refl i v h f q
          go i h f true q =
              let there = subst (λ (u : Variable). In u (variables (get_or P.constraints d (always 0)))) (sym f) k in
              absurd (false≢true (sym b ∙ waking_wakes i h q d l there))

      -- a step that changed nothing wakes none
      none-woken : U ≡ T → w ≡ 0
      unfolding union
      none-woken same = e ∙ ap (λ (vs : List Variable). union (map (λ v. word ix (position P.strings v)) vs))
          (none-moved (variables c) (n.x ∷ n.y ∷ n.z ∷ []) (λ i t. s.changed refl i t same))

      pub waking-struck : w ≢ 0 → U ≢ T
      waking-struck some same = some (none-woken same)

      module _ (j : ℕ) (l : j < length P.constraints) (f : c ≡ get_or P.constraints j (always 0)) where
        -- one that does not wake itself changed none of its own variables
        still : bit w j ≡ false → U ≡ T
        still q = s.table refl ∙ unchanged-same P c T (λ v m.
            subst (λ (W : List ℕ). Unchanged P T W v) (s.table refl) (waking-apart j l q v m (subst (λ (d : Constraint). In v (variables d)) f m)))

        pub waking-none : w ≡ 0 → U ≡ T
        waking-none z = still (ap (λ (u : ℕ). bit u j) z ∙ zero_bit j)

  -- ---- the word of the variable that has word k of a table

  module _ (k w : ℕ) (e : w ≡ word ix (position P.strings (owner P.strings k))) where
    pub touching_wakes : (d : ℕ) → d < length P.constraints → In (owner P.strings k) (variables (get_or P.constraints d (always 0))) → bit w d ≡ true
    touching_wakes d l m = ap (λ (u : ℕ). bit u d) e ∙ x.names d l (owner P.strings k) m

    pub touching-inside : (d : ℕ) → bit w d ≡ true → d < length P.constraints
    touching-inside d b = x.inside (position P.strings (owner P.strings k)) d (ap (λ (u : ℕ). bit u d) (sym e) ∙ b)

-- ---- where the variable stands that has word k of a table

pub at-string : (s k : ℕ) → k < 64 * s → position s (owner s k) ≡ k / 64
unfolding position owner
at-string s k h = rw (lt-ltb k (64 * s) h)

pub at-number : (s k : ℕ) → 64 * s ≤ k → position s (owner s k) ≡ s + (k - 64 * s)
unfolding position owner
at-number s k h = rw (le-ltb k (64 * s) h)
