-- A run of waiting constraints as the invariant of a loop: the strings stay trimmed, and the settled table is below every table of the run. How a run starts at a
-- child, and at a table of which nothing is known; that it ends in the settled table; and that it may end early, at a dead node. Assumes nothing.
use mathlib.Core.Path.{◌≡◌, refl, sym, ap, subst, ◌∙◌}
use mathlib.Core.Logic.{◌≢◌}
use mathlib.Core.Bool.{Bool, true, false, false≢true}
use mathlib.Core.List.Memᴰ
use mathlib.Core.List.{List}
use Prim.Native.Nat.{ℕ, suc, ◌+◌, ◌*◌, ◌^◌, ◌<◌}
use native.Mathlib.Omega.{arith}
use lib.Dec.{eqb}
use lib.ListN.{length, get_or, set, length-set}
use borrow.Author.Tests.{eqb-true, eqb-false}
use Rattle.model.specs.Words.{bit, word, Words}
use Rattle.model.specs.Domains.{Variable, str, num, owner}
use Rattle.model.specs.Constraints.{Problem, Constraint, always, variables, width}
use Rattle.model.specs.Solutions.{WellFormed}
use Rattle.model.specs.Support.{touches, narrowed}
use Rattle.model.specs.Rounds.{every_value, settled}
use Rattle.laws.specs.Inclusion.{In, Below}
use Rattle.laws.specs.Lent.{Stable}
use Rattle.laws.proofs.ListLaws.{get_or_in, in_get_or, never_true}
use Rattle.laws.proofs.WordLaws.{zero_bit}
use Rattle.laws.proofs.TableLaws.{below_refl, below_trans, below_antisym}
use Rattle.laws.proofs.DomainLaws.{strings_of-sub, values_of-sub, text-within, owner-text, str≢num}
use Rattle.laws.proofs.RowLaws.{length-used}
use Rattle.laws.proofs.SupportLaws.{touched, touched_in, touched-text, narrowed-length, narrowed-below, narrowed-again, narrowed-trimmed}
use Rattle.laws.proofs.RoundLaws.{settled-below, settled-above, settled-stable}
use Rattle.laws.proofs.NodeLaws.{firsts, every_value-fits, fits_every_value}
use Rattle.shortcuts.specs.Waiting.{Running, Trimming}
use Rattle.shortcuts.proofs.LocalLaws.{Ranged, narrowed_local, apart-unchanged, child-rests}
use Rattle.shortcuts.proofs.WaitLaws.{in_trims, in_constraints, by-step, ranged-trim, Wakes, resting-turn, above_step}

-- ---- trimmings

only : (x : ℕ) (v : Variable) → In v (variables (always x)) → v ≡ str x
unfolding variables
only x v (Memᴰ.tail x5) = elim x5 [ ]
only x v (Memᴰ.head e) = e

same_text : (x y : ℕ) → str x ≡ str y → x ≡ y
same_text x y e = cc

-- a step leaves trimmed what was trimmed
pub trimmed-step : (P : Problem) (c : Constraint) → Ranged P c → (U : List ℕ) → length U ≡ width P → (x : ℕ) → x < P.strings → narrowed P (always x) U ≡ U
    → narrowed P (always x) (narrowed P c U) ≡ narrowed P c U
trimmed-step P c rg U ln x h f = go (touches P c (64 * x + 0)) refl
  where
    go : (t : Bool) → touches P c (64 * x + 0) ≡ t → narrowed P (always x) (narrowed P c U) ≡ narrowed P c U
    go true t = narrowed-trimmed P c U ln rg x (subst (λ (v : Variable). In v (variables c)) (owner-text P.strings x 0 h (omega arith)) (touched P c (64 * x + 0) t))
    go false t = narrowed_local P (always x) (ranged-trim P x h) U (narrowed P c U) (sym (narrowed-length P c U))
        (apart-unchanged P c (always x) U (λ v m n.
        absurd (false≢true (sym t ∙ touched-text P c x 0 h (omega arith) (subst (λ (u : Variable). In u (variables c)) (only x v n) m))))) f

module _ (P : Problem) (wf : WellFormed P) (T : List ℕ) (bd : Words T) (ln : length T ≡ width P) where
  -- ---- a turn, and the end

  module _ {U : List ℕ} {waits : ℕ → Bool} (r : Running P T U waits) where
    running-length : length U ≡ width P
    running-length = r.under.same_length ∙ ln

    nth_ranged : (j : ℕ) → j < length P.constraints → Ranged P (get_or P.constraints j (always 0))
    nth_ranged j l = wf _ (get_or_in P.constraints j (always 0) l)

    -- the settled table is below what any constraint leaves
    pub running-above : (j : ℕ) → j < length P.constraints → Below (settled P T) (narrowed P (get_or P.constraints j (always 0)) U)
    running-above j l =
        above_step P (settled P T) U (get_or P.constraints j (always 0)) (in_constraints P _ (get_or_in P.constraints j (always 0) l)) (settled-stable P T bd) r.above

    pub running-turn : (j : ℕ) → j < length P.constraints → {waits' : ℕ → Bool} → Wakes P P.constraints j waits waits' U
        → Running P T (narrowed P (get_or P.constraints j (always 0)) U) waits'
    running-turn j l w = record {
      under = below_trans (narrowed-below P (get_or P.constraints j (always 0)) U) r.under;
      above = running-above j l;
      trimmed = λ x h. trimmed-step P (get_or P.constraints j (always 0)) (nth_ranged j l) U running-length x h (r.trimmed x h);
      resting = resting-turn P P.constraints (λ c m. wf c m) U running-length j l r.resting w;
    }

    pub running-done : ((j : ℕ) → j < length P.constraints → waits j ≡ false) → U ≡ settled P T
    running-done z = below_antisym (settled-above P U T stable r.under) r.above
      where
        stable : Stable P U
        stable = by-step P (λ c. narrowed P c U ≡ U) r.trimmed (λ c m.
            let u = in_get_or P.constraints (always 0) m in
            subst (λ (d : Constraint). narrowed P d U ≡ U) u.2 (r.resting.rests u.0 u.1 (z u.0 u.1)))

-- ---- the start of a child: S is a settled table, of which word k becomes the bit b

module _ (P : Problem) (wf : WellFormed P) (S : List ℕ) (ln : length S ≡ width P) (st : Stable P S) (k b : ℕ) (bd : Words (set S k (2 ^ b))) (waits : ℕ → Bool)
    (woken : (j : ℕ) → j < length P.constraints → waits j ≡ false → touches P (get_or P.constraints j (always 0)) k ≡ false) where
  length-child : length (set S k (2 ^ b)) ≡ width P
  length-child = length-set S k (2 ^ b) ∙ ln

  rests-child : (j : ℕ) → j < length P.constraints → waits j ≡ false → narrowed P (get_or P.constraints j (always 0)) (set S k (2 ^ b)) ≡ set S k (2 ^ b)
  rests-child j l q =
      let m = get_or_in P.constraints j (always 0) l in
      child-rests P (get_or P.constraints j (always 0)) (wf _ m) S k (2 ^ b) (length-set S k (2 ^ b)) (woken j l q) (st _ (in_constraints P _ m))

  trim-child : (x : ℕ) → x < P.strings → touches P (always x) k ≡ false → narrowed P (always x) (set S k (2 ^ b)) ≡ set S k (2 ^ b)
  trim-child x l t = child-rests P (always x) (ranged-trim P x l) S k (2 ^ b) (length-set S k (2 ^ b)) t (st (always x) (in_trims P x l))

  -- of a number's word: the child itself, with the constraints that name the number waiting
  pub child-number : (n : ℕ) → owner P.strings k ≡ num n → Running P (set S k (2 ^ b)) (set S k (2 ^ b)) waits
  child-number n o = record {
    under = below_refl (set S k (2 ^ b));
    above = settled-below P (set S k (2 ^ b));
    trimmed = λ x l. trim-child x l (untouched x (touches P (always x) k) refl);
    resting = record { rests = rests-child };
  }
    where
      untouched : (x : ℕ) (t : Bool) → touches P (always x) k ≡ t → touches P (always x) k ≡ false
      untouched x true e = absurd (str≢num (sym (only x (owner P.strings k) (touched P (always x) k e)) ∙ o))
      untouched x false e = e

  -- of a string's word: the child with the string trimmed, with the constraints that name the string waiting
  pub child-text : (x : ℕ) → x < P.strings → owner P.strings k ≡ str x → Running P (set S k (2 ^ b)) (narrowed P (always x) (set S k (2 ^ b))) waits
  child-text x hx o = record {
    under = narrowed-below P (always x) C;
    above = above_step P (settled P C) C (always x) (in_trims P x hx) (settled-stable P C bd) (settled-below P C);
    trimmed = λ y l. trims y l (eqb y x) refl;
    resting = record {
      rests = λ j l q.
          narrowed_local P (get_or P.constraints j (always 0)) (wf _ (get_or_in P.constraints j (always 0) l)) C (narrowed P (always x) C) (sym (narrowed-length P (always x) C))
          (apart-unchanged P (always x) (get_or P.constraints j (always 0)) C (λ v m n. absurd (false≢true (sym (woken j l q) ∙ touched_in P (get_or P.constraints j (always 0)) k
          (subst (λ (u : Variable). In u (variables (get_or P.constraints j (always 0)))) (only x v m ∙ sym o) n))))) (rests-child j l q);
    };
  }
    where
      C : List ℕ
      C = set S k (2 ^ b)

      untouched : (y : ℕ) → y ≢ x → (t : Bool) → touches P (always y) k ≡ t → touches P (always y) k ≡ false
      untouched y ne true e = absurd (ne (same_text y x (sym (only y (owner P.strings k) (touched P (always y) k e)) ∙ o)))
      untouched y ne false e = e

      trims : (y : ℕ) → y < P.strings → (t : Bool) → eqb y x ≡ t → narrowed P (always y) (narrowed P (always x) C) ≡ narrowed P (always x) C
      trims y l true e =
          subst (λ (z : ℕ). narrowed P (always z) (narrowed P (always x) C) ≡ narrowed P (always x) C) (sym (eqb-true y x e)) (narrowed-again P (always x) C length-child (ranged-trim P x hx))
      trims y l false e =
          let ne = eqb-false y x e in
          trimmed-step P (always x) (ranged-trim P x hx) C length-child y l (trim-child y l (untouched y ne (touches P (always y) k) refl))

-- ---- the start at a table of which nothing is known: every string is trimmed, then every constraint waits

module _ (P : Problem) (T : List ℕ) (bd : Words T) (ln : length T ≡ width P) where
  pub trim_start : Trimming P T T 0
  trim_start = record { under = below_refl T; above = settled-below P T; trimmed = λ y l h. absurd (omega arith) }

  pub trim-next : {U : List ℕ} {x : ℕ} → x < P.strings → Trimming P T U x → Trimming P T (narrowed P (always x) U) (suc x)
  trim-next {U} {x} hx r = record {
    under = below_trans (narrowed-below P (always x) U) r.under;
    above = above_step P (settled P T) U (always x) (in_trims P x hx) (settled-stable P T bd) r.above;
    trimmed = λ y l h. go y l h (eqb y x) refl;
  }
    where
      long : length U ≡ width P
      long = r.under.same_length ∙ ln

      go : (y : ℕ) → y < suc x → y < P.strings → (t : Bool) → eqb y x ≡ t → narrowed P (always y) (narrowed P (always x) U) ≡ narrowed P (always x) U
      go y l h true e =
          subst (λ (z : ℕ). narrowed P (always z) (narrowed P (always x) U) ≡ narrowed P (always x) U) (sym (eqb-true y x e)) (narrowed-again P (always x) U long (ranged-trim P x hx))
      go y l h false e = let ne = eqb-false y x e in trimmed-step P (always x) (ranged-trim P x hx) U long y h (r.trimmed y (omega arith) h)

  pub trim-whole : {U : List ℕ} → Trimming P T U P.strings → (waits : ℕ → Bool) → ((j : ℕ) → j < length P.constraints → waits j ≡ true) → Running P T U waits
  trim-whole r waits z = record {
    under = r.under;
    above = r.above;
    trimmed = λ x h. r.trimmed x h h;
    resting = record { rests = λ j l q. absurd (false≢true (sym q ∙ z j l)) };
  }

-- ---- a dead node is left at once

-- a table with more bits has a value wherever one with fewer has
pub every_value-above : (P : Problem) (S U : List ℕ) → Below S U → every_value P S ≡ true → every_value P U ≡ true
every_value-above P S U p e =
    let f = every_value-fits P S e in
    fits_every_value P U _ (record { texts_in = λ x h. strings_of-sub S U p x _ (f.texts_in x h); values_in = λ n h. values_of-sub P.strings S U p n _ (f.values_in n h) })

pub dead-below : (P : Problem) (S U : List ℕ) → Below S U → every_value P U ≡ false → every_value P S ≡ false
dead-below P S U p d = never_true (every_value P S) (λ e. false≢true (sym d ∙ every_value-above P S U p e))

module _ (P : Problem) (U : List ℕ) where
  -- a string without a length, a number without a value: what code tests
  pub dead-length : (x : ℕ) → x < P.strings → word U (64 * x) ≡ 0 → every_value P U ≡ false
  dead-length x h z = never_true (every_value P U) (λ e.
      let m = (every_value-fits P U e).texts_in x h in
      let q : 64 * x + 0 ≡ 64 * x = omega arith in
      let w : List ℕ = (firsts P U).text x in
      let t = text-within U x w m 0 (omega arith) (length w) (length-used w) in
      false≢true (sym (zero_bit (length w)) ∙ ap (λ (y : ℕ). bit y (length w)) (sym (ap (word U) q ∙ z)) ∙ t))

-- the table that constraint j would leave has one: it need not be written
pub running_stuck : (P : Problem) → WellFormed P → (T U : List ℕ) (waits : ℕ → Bool) → Words T → length T ≡ width P → Running P T U waits → (j : ℕ) → j < length P.constraints
    → every_value P (narrowed P (get_or P.constraints j (always 0)) U) ≡ false → every_value P (settled P T) ≡ false
running_stuck P wf T U waits bd ln r j l d = dead-below P (settled P T) (narrowed P (get_or P.constraints j (always 0)) U) (running-above P wf T bd ln r j l) d
