-- Laws of rounds: the settled table is the greatest one below the start on which no step strikes, whatever the order of the steps. Assumes nothing.
use mathlib.Core.Path.{◌≡◌, refl, sym, ap, subst, ◌∙◌}
use mathlib.Core.Logic.{◌⊎◌, inl, inr, ⊎_elim}
use mathlib.Core.List.Memᴰ
use mathlib.Core.List.{List, [], ◌∷◌, ◌++◌}
use Prim.Native.Nat.{ℕ, zero, suc, ◌+◌, ◌≤◌, ◌<◌}
use native.Mathlib.Omega.{arith}
use Rattle.model.specs.Words.{Words, size}
use Rattle.model.specs.Constraints.{Problem, Constraint}
use Rattle.model.specs.Support.{narrowed, struck}
use Rattle.model.specs.Rounds.{steps, run, round, Settled, after, settling_in, settling, settled}
use Rattle.laws.specs.Inclusion.{In, Below}
use Rattle.laws.specs.Lent.{Fixed, Stable}
use Rattle.laws.proofs.TableLaws.{below_refl, below_trans, below_antisym, below-of-eq, below-words, struck-size, struck-none}
use Rattle.laws.proofs.SupportLaws.{narrowed-below, narrowed-mono}

module _ (P : Problem) where
  pub run-below : (cs : List Constraint) (T : List ℕ) → Below (run P cs T) T
  unfolding run
  run-below [] T = below_refl T
  run-below (c ∷ cs) T = below_trans (run-below cs (narrowed P c T)) (narrowed-below P c T)

  pub run-append : (cs ds : List Constraint) (T : List ℕ) → run P (cs ++ ds) T ≡ run P ds (run P cs T)
  unfolding run
  run-append [] ds T = refl
  run-append (c ∷ cs) ds T = run-append cs ds (narrowed P c T)

  -- a fixed table below the start stays below
  pub run-above : (cs : List Constraint) (W T : List ℕ) → Fixed P cs W → Below W T → Below W (run P cs T)
  unfolding run
  run-above [] W T f p = p
  run-above (c ∷ cs) W T f p =
      run-above cs W (narrowed P c T) (λ d m. f d (Memᴰ.tail m)) (below_trans (below-of-eq (sym (f c (Memᴰ.head refl)))) (narrowed-mono P c p))

  -- where a whole run strikes nothing, no part of it does
  pub run-fixed : (cs : List Constraint) (T : List ℕ) → run P cs T ≡ T → Fixed P cs T
  unfolding run
  run-fixed [] T e d m = elim m [ ]
  run-fixed (c ∷ cs) T e d m =
      let first : narrowed P c T ≡ T = below_antisym (narrowed-below P c T) (below_trans (below-of-eq (sym e)) (run-below cs (narrowed P c T))) in
      go first (λ k. run-fixed cs T (ap (run P cs) (sym first) ∙ e) d k) m
    where
      go : narrowed P c T ≡ T → (In d cs → narrowed P d T ≡ T) → In d (c ∷ cs) → narrowed P d T ≡ T
      go q r (Memᴰ.head k) = ap (λ (x : Constraint). narrowed P x T) k ∙ q
      go q r (Memᴰ.tail k) = r k

  -- ---- settling
  -- the round struck nothing and was the last, or it struck something and others follow
  pub after-cases : (n : ℕ) (U : List ℕ) (r : Settled)
      → ((n ≡ 0) × ((after n U r).rounds ≡ 1) × ((after n U r).table ≡ U)) ⊎ ((0 < n) × ((after n U r).rounds ≡ suc r.rounds) × ((after n U r).table ≡ r.table))
  unfolding after
  after-cases zero U r = inl (refl, refl, refl)
  after-cases (suc n) U r = inr (omega arith, refl, refl)

  settling_in-below : (f : ℕ) (T : List ℕ) → Below (settling_in f P T).table T
  unfolding settling_in round
  settling_in-below zero T = below_refl T
  settling_in-below (suc f) T =
      ⊎_elim (λ h. below_trans (below-of-eq h.2) (run-below (steps P) T))
      (λ h. below_trans (below-of-eq h.2) (below_trans (settling_in-below f (round P T)) (run-below (steps P) T)))
      (after-cases (struck T (round P T)) (round P T) (settling_in f P (round P T)))

  settling_in-above : (f : ℕ) (W T : List ℕ) → Stable P W → Below W T → Below W (settling_in f P T).table
  unfolding settling_in round
  settling_in-above zero W T s p = p
  settling_in-above (suc f) W T s p =
      let q = run-above (steps P) W T s p in
      ⊎_elim (λ h. below_trans q (below-of-eq (sym h.2))) (λ h. below_trans (settling_in-above f W (round P T) s q) (below-of-eq (sym h.2)))
      (after-cases (struck T (round P T)) (round P T) (settling_in f P (round P T)))

  -- with as many rounds as bits and one more, the last strikes nothing
  settling_in-stable : (f : ℕ) (T : List ℕ) → Words T → size T < f → Stable P (settling_in f P T).table
  unfolding settling_in round
  settling_in-stable zero T h k = absurd (omega arith)
  settling_in-stable (suc f) T h k =
      let U : List ℕ = round P T in
      let p : Below U T = run-below (steps P) T in
      let s = struck-size T U p in
      ⊎_elim (λ z. let e : U ≡ T = struck-none T U p h z.0 in subst (Stable P) (sym (z.2 ∙ e)) (run-fixed (steps P) T e))
      (λ z. let l = z.0 in subst (Stable P) (sym z.2) (settling_in-stable f U (below-words p h) (omega arith)))
      (after-cases (struck T U) U (settling_in f P U))

  pub settled-below : (T : List ℕ) → Below (settled P T) T
  unfolding settling
  settled-below T = settling_in-below (suc (size T)) T

  pub settled-above : (W T : List ℕ) → Stable P W → Below W T → Below W (settled P T)
  unfolding settling
  settled-above W T s p = settling_in-above (suc (size T)) W T s p

  pub settled-stable : (T : List ℕ) → Words T → Stable P (settled P T)
  unfolding settling
  settled-stable T h = settling_in-stable (suc (size T)) T h (omega arith)

  pub settled-mono : (T U : List ℕ) → Words T → Below T U → Below (settled P T) (settled P U)
  settled-mono T U h p = settled-above (settled P T) U (settled-stable T h) (below_trans (settled-below T) p)

  -- ---- the rounds: at most one more than the bits struck
  rounds-size : (f : ℕ) (T : List ℕ) → (settling_in f P T).rounds + size (settling_in f P T).table ≤ suc (size T)
  unfolding settling_in round
  rounds-size zero T = omega arith
  rounds-size (suc f) T =
      let U : List ℕ = round P T in
      let R : Settled = settling_in f P U in
      let s = struck-size T U (run-below (steps P) T) in
      let ih = rounds-size f U in
      ⊎_elim (λ z. let e₁ = z.1 in let e₂ = ap size z.2 in omega arith) (λ z. let e₀ = z.0 in let e₁ = z.1 in let e₂ = ap size z.2 in omega arith) (after-cases (struck T U) U R)

  pub settling-rounds : (T : List ℕ) → (settling P T).rounds ≤ suc (struck T (settled P T))
  unfolding settling
  settling-rounds T =
      let r = rounds-size (suc (size T)) T in
      let s = struck-size T (settled P T) (settled-below T) in
      omega arith

  -- ---- the rounds without a bound on their number: what a loop over them is proved against
  after_cong : (n : ℕ) (U : List ℕ) (r q : Settled) → (0 < n → r ≡ q) → after n U r ≡ after n U q
  unfolding after
  after_cong zero U r q h = refl
  after_cong (suc n) U r q h = ap (λ (z : Settled). record { rounds = suc z.rounds; table = z.table }) (h (omega arith))

  settling_in_fuel : (f g : ℕ) (T : List ℕ) → size T < f → size T < g → settling_in f P T ≡ settling_in g P T
  unfolding settling_in round
  settling_in_fuel zero g T h k = absurd (omega arith)
  settling_in_fuel (suc f) zero T h k = absurd (omega arith)
  settling_in_fuel (suc f) (suc g) T h k =
      let U : List ℕ = round P T in
      let s = struck-size T U (run-below (steps P) T) in
      after_cong (struck T U) U (settling_in f P U) (settling_in g P U) (λ l. settling_in_fuel f g U (omega arith) (omega arith))

  pub settling-step : (T : List ℕ) → settling P T ≡ after (struck T (round P T)) (round P T) (settling P (round P T))
  unfolding settling settling_in round
  settling-step T =
      let U : List ℕ = round P T in
      let s = struck-size T U (run-below (steps P) T) in
      after_cong (struck T U) U (settling_in (size T) P U) (settling_in (suc (size U)) P U) (λ l. settling_in_fuel (size T) (suc (size U)) U (omega arith) (omega arith))
