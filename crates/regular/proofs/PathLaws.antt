-- Ways of an automaton along a row, place by place, and strings put together from a way to a state and a way on from it. Assumes nothing.
use mathlib.Core.Path.{◌≡◌, refl, sym, ap, subst, ◌∙◌}
use mathlib.Core.Logic.{◌⊎◌, inl, inr}
use mathlib.Core.Bool.{Bool, true, false, false≢true}
use mathlib.Core.List.{List, [], ◌∷◌, ◌++◌}
use mathlib.Core.Option.{Option, none, some, bind, some-injective}
use Prim.Native.Nat.{ℕ, zero, suc, ◌+◌, ◌-◌, ◌≤◌, ◌<◌}
use native.Mathlib.Omega.{arith}
use lib.Dec.{ltb}
use lib.ListN.{length, get_or, take, drop, length-append, length-drop, get_or-append}
use lib.Seq.{take-suc, take_all, length-take-le, get_or-take, get_or-drop, get_or-append-add}
use borrow.Author.Tests.{ltb-true, ltb-false}
use Rattle.model.specs.Words.{bit, word}
use Rattle.laws.proofs.ListLaws.{bind-some}
use Rattle.model.specs.Constraints.{Automaton, move, reached, holds}
use Rattle.regular.specs.Paths.{Allowed, Reach, Ends, Onward}

pub reached-append : (A : Automaton) (p : ℕ) (u v : List ℕ) → reached A p (u ++ v) ≡ bind (reached A p u) (λ q. reached A q v)
unfolding reached bind
reached-append A p [] v = refl
reached-append A p (a ∷ u) v = go (move A p a) (λ q. reached-append A q u v)
  where
    go : (m : Option ℕ) → ((q : ℕ) → reached A q (u ++ v) ≡ bind (reached A q u) (λ r. reached A r v))
        → bind m (λ q. reached A q (u ++ v)) ≡ bind (bind m (λ q. reached A q u)) (λ r. reached A r v)
    go none f = refl
    go (some q) f = f q

-- from a state that is reached
pub reached-on : (A : Automaton) (p : ℕ) (u v : List ℕ) (q : ℕ) → reached A p u ≡ some q → reached A p (u ++ v) ≡ reached A q v
unfolding bind
reached-on A p u v q e = reached-append A p u v ∙ ap (λ (m : Option ℕ). bind m (λ q. reached A q v)) e

-- the first move of a way
pub reached-first : (A : Automaton) (p a : ℕ) (v : List ℕ) (t : ℕ) → move A p a ≡ some t → reached A p (a ∷ v) ≡ reached A t v
unfolding reached bind
reached-first A p a v t e = ap (λ (m : Option ℕ). bind m (λ q. reached A q v)) e

pub holds-bind : (w : ℕ) (m : Option ℕ) (f : ℕ → Option ℕ) → holds w (bind m f) ≡ true → (q : ℕ) × (m ≡ some q) × (holds w (f q) ≡ true)
unfolding holds bind
holds-bind w none f e = absurd (false≢true e)
holds-bind w (some q) f e = (q, refl, e)

-- ---- symbols that are allowed

module _ (x : List ℕ) where
  -- at the first places
  pub allowed-first : (v : List ℕ) → ((j : ℕ) → j < length v → bit (word x (suc j)) (get_or v j 0) ≡ true) → Allowed x 0 v
  allowed-first v h j l = let q : j ≡ 0 + j = omega arith in subst (λ (i : ℕ). bit (word x (suc i)) (get_or v j 0) ≡ true) q (h j l)

  pub first-allowed : (v : List ℕ) → Allowed x 0 v → (j : ℕ) → j < length v → bit (word x (suc j)) (get_or v j 0) ≡ true
  first-allowed v h j l = let q : 0 + j ≡ j = omega arith in subst (λ (i : ℕ). bit (word x (suc i)) (get_or v j 0) ≡ true) q (h j l)

  pub allowed-cons : (i a : ℕ) (v : List ℕ) → bit (word x (suc i)) a ≡ true → Allowed x (suc i) v → Allowed x i (a ∷ v)
  allowed-cons i a v b h zero l = let q : i ≡ i + 0 = omega arith in subst (λ (n : ℕ). bit (word x (suc n)) a ≡ true) q b
  allowed-cons i a v b h (suc j) l =
      let q : suc i + j ≡ i + suc j = omega arith in
      subst (λ (n : ℕ). bit (word x (suc n)) (get_or v j 0) ≡ true) q (h j (omega arith))

  pub allowed-head : (i a : ℕ) (v : List ℕ) → Allowed x i (a ∷ v) → bit (word x (suc i)) a ≡ true
  allowed-head i a v h = let q : i + 0 ≡ i = omega arith in subst (λ (n : ℕ). bit (word x (suc n)) a ≡ true) q (h 0 (omega arith))

  pub allowed-tail : (i a : ℕ) (v : List ℕ) → Allowed x i (a ∷ v) → Allowed x (suc i) v
  allowed-tail i a v h j l =
      let q : i + suc j ≡ suc i + j = omega arith in
      subst (λ (n : ℕ). bit (word x (suc n)) (get_or v j 0) ≡ true) q (h (suc j) (omega arith))

  pub allowed-append : (u v : List ℕ) (i : ℕ) → length u ≡ i → Allowed x 0 u → Allowed x i v → Allowed x 0 (u ++ v)
  allowed-append u v i e hu hv = allowed-first (u ++ v) (λ j l. go j l (ltb j (length u)) refl)
    where
      go : (j : ℕ) → j < length (u ++ v) → (t : Bool) → ltb j (length u) ≡ t → bit (word x (suc j)) (get_or (u ++ v) j 0) ≡ true
      go j l true q =
          let h = ltb-true j (length u) q in
          subst (λ (a : ℕ). bit (word x (suc j)) a ≡ true) (sym (get_or-append u v 0 j h)) (first-allowed u hu j h)
      go j l false q =
          let h = ltb-false j (length u) q in
          let n : ℕ = j - length u in
          let p : length u + (j - length u) ≡ j = omega arith in
          let s : i + (j - length u) ≡ j = omega arith in
          let f : get_or (u ++ v) j 0 ≡ get_or v n 0 = ap (λ (m : ℕ). get_or (u ++ v) m 0) (sym p) ∙ get_or-append-add u v n 0 in
          let m : j - length u < length v = omega (arith, length-append u v) in
          subst (λ (a : ℕ). bit (word x (suc j)) a ≡ true) (sym f) (subst (λ (y : ℕ). bit (word x (suc y)) (get_or v n 0) ≡ true) s (hv n m))

  pub allowed-take : (w : List ℕ) (i : ℕ) → i ≤ length w → Allowed x 0 w → Allowed x 0 (take i w)
  allowed-take w i h a j l =
      let n : length (take i w) ≡ i = length-take-le i w h in
      let k : j < i = subst (λ (m : ℕ). j < m) n l in
      subst (λ (b : ℕ). bit (word x (suc (0 + j))) b ≡ true) (sym (get_or-take i w j 0 k)) (a j (omega arith))

  pub allowed-drop : (w : List ℕ) (i : ℕ) → Allowed x 0 w → Allowed x i (drop i w)
  allowed-drop w i a j l =
      subst (λ (b : ℕ). bit (word x (suc (i + j))) b ≡ true) (sym (get_or-drop i w j 0)) (first-allowed w a (i + j) (omega (arith, length-drop i w)))

module _ (A : Automaton) (x : List ℕ) where
  -- ---- forwards

  pub reach-start : Reach A x 0 0
  unfolding reached
  reach-start = record { symbols = []; long = refl; allowed = λ j l. absurd (omega arith); leads = refl }

  pub start-only : (p : ℕ) → Reach A x 0 p → p ≡ 0
  unfolding reached
  start-only p r = go r.symbols r.long r.leads
    where
      go : (u : List ℕ) → length u ≡ 0 → reached A 0 u ≡ some p → p ≡ 0
      go [] e f = sym (some-injective 0 p f)
      go (a ∷ u) e f = absurd (omega arith)

  pub reach-next : (i p a t : ℕ) → Reach A x i p → bit (word x (suc i)) a ≡ true → move A p a ≡ some t → Reach A x (suc i) t
  unfolding reached
  reach-next i p a t r b m =
      let n = r.long in
      record {
        symbols = r.symbols ++ (a ∷ []);
        long = omega (arith, length-append r.symbols (a ∷ []));
        allowed = allowed-append x r.symbols (a ∷ []) i n r.allowed (allowed-cons x i a [] b (λ j l. absurd (omega arith)));
        leads = reached-on A 0 r.symbols (a ∷ []) p r.leads ∙ reached-first A p a [] t m;
      }

  pub reach-on : (i p : ℕ) (v : List ℕ) (t : ℕ) → Reach A x i p → Allowed x i v → reached A p v ≡ some t → Reach A x (i + length v) t
  reach-on i p v t r h m =
      let n = r.long in
      record {
        symbols = r.symbols ++ v;
        long = omega (arith, length-append r.symbols v);
        allowed = allowed-append x r.symbols v i n r.allowed h;
        leads = reached-on A 0 r.symbols v p r.leads ∙ m;
      }

  -- the last move of a way
  pub record Came (i t : ℕ) : Type 0 where
    pub state : ℕ
    pub symbol : ℕ
    pub before : Reach A x i state
    pub allowed : bit (word x (suc i)) symbol ≡ true
    pub leads : move A state symbol ≡ some t

  pub reach_came : (i t : ℕ) → Reach A x (suc i) t → Came i t
  unfolding reached bind
  reach_came i t r =
      let u : List ℕ = r.symbols in
      let n : length u ≡ suc i = r.long in
      let l : i < length u = omega arith in
      let e : take i u ++ (get_or u i 0 ∷ []) ≡ u = sym (take-suc u i 0 l) ∙ take_all (suc i) u (omega arith) in
      let way = bind-some (reached A 0 (take i u)) (λ q. reached A q (get_or u i 0 ∷ [])) t
      (sym (reached-append A 0 (take i u) (get_or u i 0 ∷ [])) ∙ ap (reached A 0) e ∙ r.leads) in
      let last = bind-some (move A way.0 (get_or u i 0)) (λ q. some q) t way.2 in
      record {
        state = way.0;
        symbol = get_or u i 0;
        before = record { symbols = take i u; long = length-take-le i u (omega arith); allowed = allowed-take x u i (omega arith) r.allowed; leads = way.1 };
        allowed = first-allowed x u r.allowed i l;
        leads = last.1 ∙ last.2;
      }

  -- ---- backwards

  pub ends-here : (i p : ℕ) → bit (word x 0) i ≡ true → bit A.accepting p ≡ true → Ends A x i p
  unfolding reached holds
  ends-here i p l b =
      let q : i ≡ i + 0 = omega arith in
      record { symbols = []; long = subst (λ (n : ℕ). bit (word x 0) n ≡ true) q l; allowed = λ j k. absurd (omega arith); accepted = b }

  pub ends_next : (i p a : ℕ) → bit (word x (suc i)) a ≡ true → Onward A x (suc i) p a → Ends A x i p
  ends_next i p a b o = let t = o.ends in record {
    symbols = a ∷ t.symbols;
    long = let q : suc i + length t.symbols ≡ i + suc (length t.symbols) = omega arith in subst (λ (n : ℕ). bit (word x 0) n ≡ true) q t.long;
    allowed = allowed-cons x i a t.symbols b t.allowed;
    accepted = ap (holds A.accepting) (reached-first A p a t.symbols o.state o.leads) ∙ t.accepted;
  }

  -- the first move of a way
  pub record Goes (i p : ℕ) : Type 0 where
    pub symbol : ℕ
    pub allowed : bit (word x (suc i)) symbol ≡ true
    pub after : Onward A x (suc i) p symbol

  pub ends-cases : (i p : ℕ) → Ends A x i p → ((bit (word x 0) i ≡ true) × (bit A.accepting p ≡ true)) ⊎ Goes i p
  unfolding reached holds
  ends-cases i p t = go t.symbols t.long t.allowed t.accepted
    where
      go : (v : List ℕ) → bit (word x 0) (i + length v) ≡ true → Allowed x i v → holds A.accepting (reached A p v) ≡ true
          → ((bit (word x 0) i ≡ true) × (bit A.accepting p ≡ true)) ⊎ Goes i p
      go [] l h e = let q : i + 0 ≡ i = omega arith in inl (subst (λ (n : ℕ). bit (word x 0) n ≡ true) q l, e)
      go (a ∷ v) l h e =
          let q : i + suc (length v) ≡ suc i + length v = omega arith in
          let m = holds-bind A.accepting (move A p a) (λ q. reached A q v) e in
          inr (record {
            symbol = a;
            allowed = allowed-head x i a v h;
            after = record {
              state = m.0;
              leads = m.1;
              ends = record { symbols = v; long = subst (λ (n : ℕ). bit (word x 0) n ≡ true) q l; allowed = allowed-tail x i a v h; accepted = m.2 };
            };
          })
