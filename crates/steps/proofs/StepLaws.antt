-- A step on any table of an accepted file: its rows made tidy, narrowed in place, or cleared where no choice is left; and the bits that this strikes. Assumes nothing.
use Rattle.std.specs.Prelude.{Option, Some, None}
use Rattle.std.specs.Option.{option_to_list}
use mathlib.Core.Path.{◌≡◌, refl, sym, ap, subst, ◌∙◌}
use mathlib.Core.Logic.{◌≢◌}
use mathlib.Core.Bool.{Bool, true, false, cond, false≢true}
use mathlib.Core.List.Memᴰ
use mathlib.Core.List.{List, [], ◌∷◌, ◌++◌, map}
use Prim.Native.Nat.{ℕ, ◌+◌, ◌-◌, ◌*◌, ◌≤◌, ◌<◌}
use native.Mathlib.Omega.{arith}
use lib.Dec.{ltb}
use lib.ListN.{length, get_or-eq_default}
use borrow.Author.Tests.{ltb-true, ltb-false}
use Rattle.model.specs.Lists.{any}
use Rattle.model.specs.Words.{word, Words, size}
use Rattle.model.specs.Domains.{Variable, str, num, same_variable}
use Rattle.model.specs.Constraints.{Problem, Constraint, variables, width}
use Rattle.model.specs.Solutions.{InRange}
use Rattle.model.specs.Support.{touches, narrowed}
use Rattle.model.specs.Reading.{repeats}
use Rattle.laws.specs.Inclusion.{In, Below, Distinct}
use Rattle.laws.specs.Lent.{lendable}
use Rattle.laws.proofs.ListLaws.{in_any}
use Rattle.laws.proofs.DomainLaws.{by_word, owner-text, owner-value, variable_same}
use Rattle.laws.proofs.ReadingLaws.{Sound}
use Rattle.laws.proofs.CallLaws.{lendable-length, lendable-below}
use Rattle.laws.proofs.SupportLaws.{touched, narrowed-other, narrowed-length, narrowed-below}
use Rattle.laws.proofs.TableLaws.{size_le}
use Rattle.records.specs.declared.Record.{Record}
use Rattle.records.specs.Records.{constraint_of}
use Rattle.format.specs.declared.problem.Problem as accepted
use Rattle.format.specs.Accepting.{content_of}
use Rattle.format.specs.Problems.{the_problem}
use Rattle.format.proofs.ContentLaws.{usable-counts, usable-sound}
use Rattle.inplace.specs.declared.Changed.{Changed}
use Rattle.inplace.specs.InTable.{Out}
use Rattle.inplace.specs.InPlace.{left, taken}
use Rattle.records.specs.declared.names.Names.{Names}
use Rattle.steps.specs.Step.{Step, TidyIn, Narrows, Leaves, KindsIn}
use Rattle.steps.specs.Names.{texts, numbers, Naming, Inside, Tidies, Blanked}
use Rattle.steps.proofs.NarrowsLaws.{num_in}
use Rattle.steps.proofs.NamingLaws.{named-text, text-named}
use Rattle.steps.proofs.BlankLaws.{blanked_cleared}
use Rattle.steps.proofs.SizeLaws.{Plain, plain-none, plain-one, size-differs, step-counted}

-- strings that are named once
distinct-texts : (xs : List ℕ) (vs : List Variable) → repeats (map str xs ++ vs) ≡ false → Distinct xs
unfolding repeats
distinct-texts [] vs e = tt
distinct-texts (x ∷ xs) vs e = go (any (same_variable (str x)) (map str xs ++ vs)) refl e (distinct-texts xs vs)
  where
    go : (t : Bool) → any (same_variable (str x)) (map str xs ++ vs) ≡ t → cond t true (repeats (map str xs ++ vs)) ≡ false → (repeats (map str xs ++ vs) ≡ false → Distinct xs) → ((y : ℕ) → In y xs → y ≢ x) × Distinct xs
    go true t q on = absurd (false≢true (sym q))
    go false t q on = ((λ y m d. false≢true (sym t ∙ in_any (same_variable (str x)) (Memᴰ.append_left vs (Memᴰ.map str m)) (variable_same (str x) (str y) (ap str (sym d))))), on q)

-- ---- a record of a file, on a table that may be lent

module _ (p : accepted.Problem) (r : Record) (T : List ℕ) (bd : Words T)
    (pre : (lendable (the_problem p) T ≡ true) × In (constraint_of r) (the_problem p).constraints) (m : Names) (named : Naming p.parts.s (constraint_of r) m) where
  abbrev P : Problem
  P = the_problem p

  abbrev c : Constraint
  c = constraint_of r

  sound : Sound (content_of p.file.now p.parts)
  sound = usable-sound p.file.now p.parts p.usable p.bytes

  long : length T ≡ width P
  long = lendable-length P T pre.0

  strings-are : P.strings ≡ p.parts.s
  strings-are = (usable-counts p.file.now p.parts p.usable).strings

  naming : Naming P.strings c m
  naming = subst (λ (s : ℕ). Naming s c m) (sym strings-are) named

  ranged : (v : Variable) → In v (variables c) → InRange P v
  ranged v k = sound.well_formed c pre.1 v k

  text_in : (x : ℕ) → In x (texts m) → In (str x) (variables c)
  text_in x i = named-text named i

  value_in : (v : ℕ) → In v named.values → In (num v) (variables c)
  value_in v i = subst (λ (l : List Variable). In (num v) l) (sym named.names) (Memᴰ.append_right (map str (texts m)) (Memᴰ.map num i))

  -- what the words of numbers are
  of_word : (i : ℕ) → In i (numbers m) → (v : ℕ) × In (num v) (variables c) × (i ≡ 64 * P.strings + v)
  of_word i k =
      let t = Memᴰ.of_map (λ (z : ℕ). 64 * P.strings + z) naming.values (subst (λ (l : List ℕ). In i l) naming.words k) in
      (t.0, subst (λ (l : List Variable). In (num t.0) l) (sym naming.names) (Memᴰ.append_right (map str (texts m)) (Memᴰ.map num t.1)), sym t.2)

  pub inside_of : (U : List ℕ) → length U ≡ length T → Inside m U
  inside_of U e = record {
    rows = λ x i. let h : x < P.strings = ranged (str x) (text_in x i) in let l = long in omega arith;
    words = λ i k.
        let t = of_word i k in
        let h : t.0 < P.numbers = ranged (num t.0) t.1 in
        let q = t.2 in
        let l = long in
        omega arith;
    past = λ x i k j. let t = of_word k j in let h : x < P.strings = ranged (str x) (text_in x i) in let z = t.2 in omega arith;
  }

  pub step-inside : Inside m T
  step-inside = inside_of T refl

  -- ---- the table that is left

  untouched : (k : ℕ) → ((x : ℕ) → In x (texts m) → Out x k) → ((i : ℕ) → In i (numbers m) → k ≢ i) → touches P c k ≡ false
  untouched k f g = go (touches P c k) refl
    where
      never : (k : ℕ) → ((x : ℕ) → In x (texts m) → Out x k) → ((i : ℕ) → In i (numbers m) → k ≢ i) → touches P c k ≡ true → ⊥
      never = by_word P.strings (λ k. ((x : ℕ) → In x (texts m) → Out x k) → ((i : ℕ) → In i (numbers m) → k ≢ i) → touches P c k ≡ true → ⊥)
          (λ x j h l f g t. f x (text-named naming (subst (λ (v : Variable). In v (variables c)) (owner-text P.strings x j h l) (touched P c (64 * x + j) t))) j l refl)
          (λ v f g t. g (64 * P.strings + v) (subst (λ (l : List ℕ). In (64 * P.strings + v) l) (sym naming.words)
          (Memᴰ.map (λ (z : ℕ). 64 * P.strings + z) (num_in (texts m) naming.values v (subst (λ (l : List Variable). In (num v) l) naming.names
          (subst (λ (u : Variable). In u (variables c)) (owner-value P.strings v) (touched P c (64 * P.strings + v) t)))))) refl)

      go : (t : Bool) → touches P c k ≡ t → t ≡ false
      go true t = absurd (never k f g t)
      go false t = refl

  agrees : (U : List ℕ) → U ≡ narrowed P c T → (k : ℕ) → ((x : ℕ) → In x (texts m) → Out x k) → ((i : ℕ) → In i (numbers m) → k ≢ i) → word U k ≡ word T k
  agrees U e k f g = ap (λ (W : List ℕ). word W k) e ∙ at (ltb k (length T)) refl
    where
      at : (t : Bool) → ltb k (length T) ≡ t → word (narrowed P c T) k ≡ word T k
      at true q = narrowed-other P c T k (ltb-true k (length T) q) (untouched k f g)
      at false q =
          let h = ltb-false k (length T) q in
          get_or-eq_default (narrowed P c T) 0 (omega (arith, narrowed-length P c T)) ∙ sym (get_or-eq_default T 0 h)

  -- ---- the count

  plain : (U : List ℕ) → length U ≡ length T → Plain U (numbers m)
  plain U e = go m.number refl
    where
      go : (o : Option ℕ) → m.number ≡ o → Plain U (option_to_list o)
      go (Some i) q = plain-one U i ((inside_of U e).words i (rw q (Memᴰ.head refl)))
      go None q = plain-none U

  differs : (U : List ℕ) → U ≡ narrowed P c T → size T + size (taken (texts m) (numbers m) U) ≡ size U + size (taken (texts m) (numbers m) T)
  differs U e =
      let lU : length U ≡ length T = ap length e ∙ narrowed-length P c T in
      size-differs U (numbers m) (plain U lU) (texts m) (distinct-texts (texts m) (map num named.values) (ap repeats (sym named.names) ∙ sound.distinct c pre.1)) T lU
      step-inside.rows step-inside.past (agrees U e)

  module _ (U : List ℕ) (e : U ≡ narrowed P c T) where
    pub narrowed-inside : Inside m U
    narrowed-inside = inside_of U (ap length e ∙ narrowed-length P c T)

    -- no more bits than there were
    pub narrowed-fewer : size (taken (texts m) (numbers m) U) ≤ size (taken (texts m) (numbers m) T)
    narrowed-fewer =
        let d = differs U e in
        let s = size_le U T (subst (λ (W : List ℕ). Below W T) (sym e) (narrowed-below P c T)) in
        omega arith

    pub narrowed-counted : (n : ℕ) → n ≡ size (taken (texts m) (numbers m) T) - size (taken (texts m) (numbers m) U) → Step P c T U n
    narrowed-counted n q = step-counted P c T U e (texts m) (numbers m) (differs U e) n q narrowed-fewer

  -- ---- made tidy and narrowed

  module _ (T₁ : List ℕ) (all : Bool) (t : Tidies (texts m) T T₁ all) where
    same : narrowed P c T₁ ≡ narrowed P c T
    same = t.same P c long ranged text_in

    -- a row has no value
    pub any_none : all ≡ false → Leaves P c T T₁ false
    any_none q = record { size = t.size; done = λ z. absurd (false≢true z); none = λ z. t.none q P c long bd ranged text_in ∙ same }

    pub narrow_asks : {ks : List ℕ} → KindsIn p ks → all ≡ true → (lendable P T₁ ≡ true) × KindsIn p ks × In c P.constraints × TidyIn c T₁
    narrow_asks ks q = (
      lendable-below P T₁ T (t.below P long (λ x i. ranged (str x) (text_in x i))) pre.0,
      ks,
      pre.1,
      λ x i. t.tidy q x (text-named named i),
    )

    pub any-narrowed : (U : List ℕ) (a : Option Changed) → Narrows P c T₁ U a → Leaves P c T U (left a)
    any-narrowed U a s = record { size = s.size ∙ t.size; done = λ q. s.table q ∙ same; none = λ q. s.none q ∙ same }

  -- ---- and cleared where no choice is left

  module _ (U : List ℕ) (left : Bool) (s : Leaves P c T U left) where
    pub left-inside : Inside m U
    left-inside = inside_of U s.size

    pub left-cleared : left ≡ false → (W : List ℕ) → Blanked (texts m) (numbers m) U W → W ≡ narrowed P c T
    left-cleared q W k = blanked_cleared P c m U W ranged naming k ∙ s.none q
