-- A list of calls, one after the other, and that it keeps demand 3. Assumes nothing.
use mathlib.Core.Path.{◌≡◌, refl, sym, ap, subst, ◌∙◌}
use mathlib.Core.List.{List, [], ◌∷◌, ◌++◌, map, map-append}
use Prim.Native.Nat.{ℕ, ◌+◌, ◌≤◌, ◌<◌}
use native.Mathlib.Numerals.{add-one}
use lib.ListN.{length, get_or, take}
use lib.Seq.{take-suc, take_all}
use borrow.Author.Tests.{eq-eqb, ne_eqb}
use Rattle.model.specs.Words.{Words}
use Rattle.model.specs.Replies.{answered, leaves}
use Rattle.model.specs.Layout.{Bytes}
use Rattle.model.specs.Reading.{Accepted, Reading, reading}
use Rattle.model.specs.Operations.{Stepped, step, Settlement, settle}
use Rattle.model.specs.Queue.{Queued, settle_by_index}
use Rattle.model.specs.Claim.{Call, call, calls, NoStepStrikes, Holds, ListClaim}
use Rattle.laws.proofs.Demand.{demand_3}
use Rattle.cobleskeg.specs.Claims.{call_of, call_by_index, ListHolds, IndexesRefused}

-- ---- one call

pub settle-call : (r : Reading) (n : ℕ) (T U : List ℕ) → n ≡ 4294967295 → U ≡ leaves (λ (a : Settlement). a.table) (settle r T) T → U ≡ call r (call_of n) T
unfolding call_of call
settle-call r n T U e u = rw (eq-eqb n 4294967295 e) u

pub step_call : (r : Reading) (n : ℕ) (T U : List ℕ) → (n ≡ 4294967295 → ⊥) → U ≡ leaves (λ (a : Stepped). a.table) (step r n T) T → U ≡ call r (call_of n) T
unfolding call_of call
step_call r n T U e u = rw (ne_eqb n 4294967295 e) u

-- of a list that is lent an index
module _ (r : Reading) (I : List ℕ) (n : ℕ) (T U : List ℕ) where
  pub by-index-call : n ≡ 4294967294 → U ≡ leaves (λ (a : Queued). a.table) (settle_by_index r I T) T → U ≡ call r (call_by_index I n) T
  unfolding call_by_index call
  by-index-call e u = rw (eq-eqb n 4294967294 e) u

  pub other-call : (n ≡ 4294967294 → ⊥) → U ≡ call r (call_of n) T → U ≡ call r (call_by_index I n) T
  unfolding call_by_index
  other-call e u = rw (ne_eqb n 4294967294 e) u

-- ---- one after the other

calls-append : (r : Reading) (cs ds : List Call) (T : List ℕ) → calls r (cs ++ ds) T ≡ calls r ds (calls r cs T)
unfolding calls
calls-append r [] ds T = refl
calls-append r (c ∷ cs) ds T = calls-append r cs ds (call r c T)

-- the first i calls of the list make U of T, where f says which call a number stands for
pub record Called (r : Reading) (f : ℕ → Call) (ns : List ℕ) (T : List ℕ) (i : ℕ) (U : List ℕ) : Type 0 where
  pub made : U ≡ calls r (map f (take i ns)) T

module _ (r : Reading) (f : ℕ → Call) (ns T : List ℕ) where
  pub called_none : Called r f ns T 0 T
  unfolding calls
  called_none = record { made = refl }

  pub called_next : (i : ℕ) (U W : List ℕ) → i < length ns → W ≡ call r (f (get_or ns i 0)) U → Called r f ns T i U → Called r f ns T (i + 1) W
  unfolding calls
  called_next i U W h e c = record {
    made = e ∙ ap (call r (f (get_or ns i 0))) c.made ∙ sym (calls-append r (map f (take i ns)) (f (get_or ns i 0) ∷ []) T)
        ∙ ap (λ (cs : List Call). calls r cs T) (sym (map-append f (take i ns) (get_or ns i 0 ∷ [])))
        ∙ ap (λ (l : List ℕ). calls r (map f l) T) (sym (take-suc ns i 0 h) ∙ ap (λ (k : ℕ). take k ns) (sym (add-one i)));
  }

  pub called_all : (i : ℕ) (U : List ℕ) → length ns ≤ i → Called r f ns T i U → U ≡ calls r (map f ns) T
  called_all i U h c = c.made ∙ ap (λ (l : List ℕ). calls r (map f l) T) (take_all i ns h)

-- ---- demand 3 of the list

pub list-holds : (file : List ℕ) → Bytes file → (T : List ℕ) → Words T → (cs : List Call) (U : List ℕ) → U ≡ calls (reading file) cs T → ListHolds file T U
list-holds file b T w cs U e = record {
  every_call = λ n s. (demand_3 file b).every_call T n s;
  refusing = λ n s. e ∙ (demand_3 file b).refusing T n s cs;
  kept = λ a i m s α f.
      let c : ListClaim a T m cs = (demand_3 file b).calling a i T w m s cs in
      subst (λ (W : List ℕ). Holds a.problem W α) (sym (made a i)) (c.kept α f);
  settles = λ a i m s n.
      let c : ListClaim a T m cs = (demand_3 file b).calling a i T w m s cs in
      made a i ∙ c.settles (subst (λ (W : List ℕ). NoStepStrikes a W) (made a i) n);
}
  where
    made : (a : Accepted) → reading file ≡ answered a → U ≡ calls (answered a) cs T
    made a i = e ∙ ap (λ r. calls r cs T) i

pub indexes_refused : (file : List ℕ) → Bytes file → (T : List ℕ) → IndexesRefused file T
indexes_refused file b T n s I = (demand_3 file b).every_index T n s I
