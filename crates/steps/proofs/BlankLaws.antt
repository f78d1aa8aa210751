-- Strings and words struck whole, one after the other: what is left is the table that a constraint without a choice leaves. Assumes nothing.
use Rattle.std.specs.Prelude.{Some}
use mathlib.Core.Path.{◌≡◌, refl, sym, ap, subst, ◌∙◌}
use mathlib.Core.Bool.{Bool, true, false, false≢true}
use mathlib.Core.List.Memᴰ
use mathlib.Core.List.{List, [], ◌∷◌, ◌++◌, map}
use Prim.Native.Nat.{ℕ, zero, suc, ◌+◌, ◌*◌, ◌<◌, ◌≤◌}
use native.Mathlib.Omega.{arith}
use lib.Dec.{eqb}
use lib.ListN.{length, get_or, take, set, length-set}
use lib.Seq.{get_or-set_same, get_or-set_other}
use borrow.Author.Tests.{eqb-true, eqb-false}
use Rattle.model.specs.Words.{word}
use Rattle.model.specs.Domains.{Variable, str, num}
use Rattle.model.specs.Constraints.{Problem, Constraint, variables}
use Rattle.model.specs.Solutions.{InRange}
use Rattle.model.specs.Support.{touches}
use Rattle.laws.specs.Inclusion.{In}
use Rattle.laws.proofs.DomainLaws.{by_word, owner-text, owner-value}
use Rattle.laws.proofs.SupportLaws.{touched, touched-text, touched-value}
use Rattle.inplace.specs.InTable.{Cleared}
use Rattle.records.specs.declared.names.Names.{Names}
use Rattle.steps.specs.Step.{cleared}
use Rattle.steps.specs.Names.{texts, numbers, Naming, Inside, Blanked}
use Rattle.steps.proofs.ClearLaws.{is-cleared}
use Rattle.steps.proofs.NarrowsLaws.{num_in}
use Rattle.steps.proofs.NamingLaws.{named-text, text-named}
use Rattle.steps.proofs.TidyLaws.{take_next}

pub blanked_none : (T : List ℕ) → Blanked [] [] T T
blanked_none T = record { size = refl; rows = λ x m. elim m [ ]; words = λ i m. elim m [ ]; others = λ k f g. refl }

-- one string: its lengths, then its places
pub blanked_one : (T : List ℕ) (x : ℕ) (U : List ℕ) → 64 * x + 64 ≤ length T → Cleared (set T (64 * x) 0) (64 * x) 0 63 U → Blanked (x ∷ []) [] T U
blanked_one T x U f c = record {
  size = c.size ∙ length-set T (64 * x) 0;
  rows = λ y m j h. elim m [ Memᴰ.head e ↦ rw e (at j h) | Memᴰ.tail k ↦ elim k [ ] ];
  words = λ i m. elim m [ ];
  others = λ k o g.
      c.kept k (λ i a b e. o x (Memᴰ.head refl) (suc i) (omega arith) (omega arith))
      ∙ get_or-set_other T (64 * x) k 0 0 (λ e. o x (Memᴰ.head refl) 0 (omega arith) (omega arith));
}
  where
    at : (j : ℕ) → j < 64 → word U (64 * x + j) ≡ 0
    at zero h = let e : 64 * x + 0 ≡ 64 * x = omega arith in ap (word U) e ∙ c.kept (64 * x) (λ i a b e. omega arith) ∙ get_or-set_same T (64 * x) 0 0 (omega arith)
    at (suc j) h = let e : 64 * x + suc j ≡ suc (64 * x + j) = omega arith in ap (word U) e ∙ c.gone j (omega arith) (omega arith)

-- one string more
pub blanked_next : (xs : List ℕ) (x : ℕ) (T U W : List ℕ) → Blanked xs [] T U → Blanked (x ∷ []) [] U W → Blanked (xs ++ (x ∷ [])) [] T W
blanked_next xs x T U W a b = record {
  size = b.size ∙ a.size;
  rows = λ y m j h. go y j h xs m a.rows;
  words = λ i m. elim m [ ];
  others = λ k f g. b.others k (λ y m. f y (Memᴰ.append_right xs m)) (λ i m. elim m [ ]) ∙ a.others k (λ y m. f y (Memᴰ.append_left (x ∷ []) m)) g;
}
  where
    -- a string that is struck stays struck
    still : (y j : ℕ) → j < 64 → word U (64 * y + j) ≡ 0 → (t : Bool) → eqb y x ≡ t → word W (64 * y + j) ≡ 0
    still y j h z true e = let q = eqb-true y x e in subst (λ (v : ℕ). word W (64 * v + j) ≡ 0) (sym q) (b.rows x (Memᴰ.head refl) j h)
    still y j h z false e =
        let q = eqb-false y x e in
        b.others (64 * y + j) (λ v m i l d. elim m [ Memᴰ.head p ↦ (q (omega arith)) | Memᴰ.tail k ↦ elim k [ ] ]) (λ i m. elim m [ ]) ∙ z

    go : (y j : ℕ) → j < 64 → (ys : List ℕ) → In y (ys ++ (x ∷ [])) → ((v : ℕ) → In v ys → (i : ℕ) → i < 64 → word U (64 * v + i) ≡ 0) → word W (64 * y + j) ≡ 0
    go y j h [] m r = b.rows y m j h
    go y j h (v ∷ ys) (Memᴰ.head e) r = still y j h (r y (Memᴰ.head e) j h) (eqb y x) refl
    go y j h (v ∷ ys) (Memᴰ.tail m) r = go y j h ys m (λ u i. r u (Memᴰ.tail i))

-- and a word
pub blanked_word : (xs : List ℕ) (i : ℕ) (T U : List ℕ) → i < length T → ((x : ℕ) → In x xs → 64 * x + 64 ≤ i) → Blanked xs [] T U → Blanked xs (i ∷ []) T (set U i 0)
blanked_word xs i T U h f a = record {
  size = length-set U i 0 ∙ a.size;
  rows = λ x m j l. let k = f x m in get_or-set_other U i (64 * x + j) 0 0 (omega arith) ∙ a.rows x m j l;
  words = λ k m. elim m [ Memᴰ.head e ↦ (let s = a.size in rw e (get_or-set_same U i 0 0 (omega arith))) | Memᴰ.tail n ↦ elim n [ ] ];
  others = λ k o g. get_or-set_other U i k 0 0 (g i (Memᴰ.head refl)) ∙ a.others k o (λ j m. elim m [ ]);
}

-- what a constraint names is struck
pub blanked_cleared : (P : Problem) (c : Constraint) (m : Names) (T U : List ℕ) → ((v : Variable) → In v (variables c) → InRange P v) → Naming P.strings c m
    → Blanked (texts m) (numbers m) T U → U ≡ cleared P c T
blanked_cleared P c m T U r n b = is-cleared P c T U b.size gone other
  where
    in_text : (x : ℕ) → In (str x) (variables c) → In x (texts m)
    in_text x k = text-named n k

    in_word : (v : ℕ) → In (num v) (variables c) → In (64 * P.strings + v) (numbers m)
    in_word v k = subst (λ (l : List ℕ). In (64 * P.strings + v) l) (sym n.words)
        (Memᴰ.map (λ (z : ℕ). 64 * P.strings + z) (num_in (texts m) n.values v (subst (λ (l : List Variable). In (num v) l) n.names k)))

    text_in : (x : ℕ) → In x (texts m) → In (str x) (variables c)
    text_in x i = named-text n i

    value_in : (v : ℕ) → In v n.values → In (num v) (variables c)
    value_in v i = subst (λ (l : List Variable). In (num v) l) (sym n.names) (Memᴰ.append_right (map str (texts m)) (Memᴰ.map num i))

    gone : (k : ℕ) → k < length T → touches P c k ≡ true → word U k ≡ 0
    gone k h = by_word P.strings (λ k. touches P c k ≡ true → word U k ≡ 0)
        (λ x j g l t. b.rows x (in_text x (subst (λ (v : Variable). In v (variables c)) (owner-text P.strings x j g l) (touched P c (64 * x + j) t))) j l)
        (λ v t. b.words (64 * P.strings + v) (in_word v (subst (λ (u : Variable). In u (variables c)) (owner-value P.strings v) (touched P c (64 * P.strings + v) t)))) k

    other : (k : ℕ) → k < length T → touches P c k ≡ false → word U k ≡ word T k
    other k h t = b.others k
        (λ x i j l e. let v = text_in x i in false≢true (sym t ∙ ap (touches P c) e ∙ touched-text P c x j (r (str x) v) l v))
        (λ w i e. let v = Memᴰ.of_map (λ (z : ℕ). 64 * P.strings + z) n.values (subst (λ (l : List ℕ). In w l) n.words i) in
        false≢true (sym t ∙ ap (touches P c) (e ∙ sym v.2) ∙ touched-value P c v.0 (value_in v.0 v.1)))

-- ---- the loop over the strings that are named

pub blanked_turn : (xs : List ℕ) (j : ℕ) → j < length xs → {T U W : List ℕ} → Blanked (take j xs) [] T U → Blanked (get_or xs j 0 ∷ []) [] U W → Blanked (take (j + 1) xs) [] T W
blanked_turn xs j h {T} {U} {W} a b = subst (λ (ys : List ℕ). Blanked ys [] T W) (sym (take_next xs j h)) (blanked_next (take j xs) (get_or xs j 0) T U W a b)

-- and the number, where there is one
pub blanked_last : (m : Names) (T : List ℕ) → Inside m T → (i : ℕ) → m.number ≡ Some i → {U : List ℕ} → Blanked (texts m) [] T U → Blanked (texts m) (numbers m) T (set U i 0)
blanked_last m T f i q {U} a =
    let n : In i (numbers m) = rw q (Memᴰ.head refl) in
    rw q (blanked_word (texts m) i T U (f.words i n) (λ x k. f.past x k i n) a)
