-- Parts of a list of words: what a store, a part that was lent, and a loop that copies from the first word on leave of it. Assumes nothing.
use mathlib.Core.Path.{◌≡◌, refl, sym, ap, ap₂, ◌∙◌}
use mathlib.Core.Logic.{◌≢◌}
use mathlib.Core.Bool.{Bool, true, false}
use mathlib.Core.List.{List, [], ◌∷◌, ◌++◌, append-nil}
use Prim.Native.Nat.{ℕ, zero, suc, ◌+◌, ◌-◌, ◌*◌, ◌≤◌, ◌<◌}
use native.Mathlib.Nat.{mul-suc, mul-le-mul_left}
use native.Mathlib.Numerals.{add-one}
use native.Mathlib.Omega.{arith}
use lib.Dec.{ltb}
use lib.ListN.{length, set, take, drop, length-append, length-set, take-append-drop}
use lib.Seq.{get_or-take, get_or-drop, length-take-le, take_all, take-take, take_at, take-suc, drop_at, drop-drop, drop-cons, drop-length}
use lib.Seq.{take-set-le, take-set-lt, drop-set-lt, drop-set-add, set_at, append_snoc}
use borrow.Author.Tests.{ltb-true, ltb-false}
use Rattle.model.specs.Words.{word}
use Rattle.model.specs.Layout.{part}

-- ---- the words outside a range

-- U is R, but for the words from a on and before e
pub record Outside (a e : ℕ) (R U : List ℕ) : Type 0 where
  pub before : take a U ≡ take a R
  pub after : drop e U ≡ drop e R

part-take : (b n a : ℕ) (R : List ℕ) → b + n ≤ a → part b n (take a R) ≡ part b n R
part-take zero n a R h = take-take n a R (omega arith)
part-take (suc b) n zero R h = absurd (omega arith)
part-take (suc b) n (suc a) [] h = refl
part-take (suc b) n (suc a) (w ∷ R) h = part-take b n a R (omega arith)

module _ (a e : ℕ) (R U : List ℕ) (o : Outside a e R U) where
  pub drop-after : (b : ℕ) → e ≤ b → drop b U ≡ drop b R
  drop-after b h =
      let d : e + (b - e) ≡ b = omega arith in
      ap (λ (i : ℕ). drop i U) (sym d) ∙ sym (drop-drop (b - e) e U) ∙ ap (drop (b - e)) o.after ∙ drop-drop (b - e) e R ∙ ap (λ (i : ℕ). drop i R) d

  pub part-before : (b n : ℕ) → b + n ≤ a → part b n U ≡ part b n R
  part-before b n h = sym (part-take b n a U h) ∙ ap (part b n) o.before ∙ part-take b n a R h

  pub part-after : (b n : ℕ) → e ≤ b → part b n U ≡ part b n R
  part-after b n h = ap (take n) (drop-after b h)

  pub word-before : (i : ℕ) → i < a → word U i ≡ word R i
  word-before i h = sym (get_or-take a U i 0 h) ∙ ap (λ (l : List ℕ). word l i) o.before ∙ get_or-take a R i 0 h

  pub word_after : (i : ℕ) → e ≤ i → word U i ≡ word R i
  word_after i h =
      let d : e + (i - e) ≡ i = omega arith in
      ap (word U) (sym d) ∙ sym (get_or-drop e U (i - e) 0) ∙ ap (λ (l : List ℕ). word l (i - e)) o.after ∙ get_or-drop e R (i - e) 0 ∙ ap (word R) d

  -- a list in blocks of m words: a range within block q leaves the others
  pub other_block : (m q p : ℕ) → m * q ≤ a → e ≤ m * q + m → p ≢ q → part (m * p) m U ≡ part (m * p) m R
  other_block m q p l r n = go (ltb p q) refl
    where
      go : (t : Bool) → ltb p q ≡ t → part (m * p) m U ≡ part (m * p) m R
      go true h = part-before (m * p) m (omega (arith, mul-le-mul_left m (ltb-true p q h), mul-suc m p))
      go false h =
          let g : suc q ≤ p = omega (arith, ltb-false p q h) in
          part-after (m * p) m (omega (arith, mul-le-mul_left m g, mul-suc m q))

-- ---- one word stored

pub set-outside : (R : List ℕ) (i v : ℕ) → Outside i (suc i) R (set R i v)
set-outside R i v = record { before = take-set-le i R i v (omega arith); after = drop-set-lt (suc i) R i v (omega arith) }

pub part-set : (a n i v : ℕ) (R : List ℕ) → i < n → part a n (set R (a + i) v) ≡ set (part a n R) i v
part-set a n i v R h = ap (take n) (drop-set-add a R i v) ∙ take-set-lt n (drop a R) i v h

-- ---- n words put in the place of those from a on: how a part that was lent comes back

unfoldable pub replaced : List ℕ → ℕ → ℕ → List ℕ → List ℕ
replaced R a n ys = take a R ++ (ys ++ drop n (drop a R))

pub replaced-length : (R : List ℕ) (a n : ℕ) (ys : List ℕ) → length ys ≡ length (part a n R) → length (replaced R a n ys) ≡ length R
unfolding replaced
replaced-length R a n ys e =
    let rest : List ℕ = drop n (drop a R) in
    let old : length (part a n R) + length rest ≡ length (drop a R) = sym (length-append (part a n R) rest) ∙ ap length (take-append-drop n (drop a R)) in
    let whole : length (take a R) + length (drop a R) ≡ length R = sym (length-append (take a R) (drop a R)) ∙ ap length (take-append-drop a R) in
    omega (arith, length-append (take a R) (ys ++ rest), length-append ys rest)

module _ (R : List ℕ) (a n : ℕ) (ys : List ℕ) (fits : a + n ≤ length R) (size : length ys ≡ n) where
  replaced-drop : drop a (replaced R a n ys) ≡ ys ++ drop n (drop a R)
  unfolding replaced
  replaced-drop = drop_at (take a R) (ys ++ drop n (drop a R)) a (length-take-le a R (omega arith))

  pub part-replaced : part a n (replaced R a n ys) ≡ ys
  part-replaced = ap (take n) replaced-drop ∙ take_at ys (drop n (drop a R)) n size

  pub replaced-outside : Outside a (a + n) R (replaced R a n ys)
  unfolding replaced
  replaced-outside = record {
    before = take_at (take a R) (ys ++ drop n (drop a R)) a (length-take-le a R (omega arith));
    after = sym (drop-drop n a (replaced R a n ys)) ∙ ap (drop n) replaced-drop ∙ drop_at ys (drop n (drop a R)) n size ∙ drop-drop n a R;
  }

-- ---- a loop that copies s over the first words of t₀

-- i words are copied
pub record Copied (s t₀ : List ℕ) (i : ℕ) (t : List ℕ) : Type 0 where
  pub size : length t ≡ length t₀
  pub words : t ≡ take i s ++ drop i t₀

pub copied_start : (s t₀ : List ℕ) → Copied s t₀ 0 t₀
copied_start s t₀ = record { size = refl; words = refl }

pub copied_step : (s t₀ : List ℕ) (i : ℕ) (t : List ℕ) (v : ℕ) → i < length s → i < length t₀ → v ≡ word s i → Copied s t₀ i t → Copied s t₀ (i + 1) (set t i v)
copied_step s t₀ i t v h l e c = rw add-one (record {
  size = length-set t i v ∙ c.size;
  words = ap₂ (λ (x : List ℕ) (w : ℕ). set x i w) (c.words ∙ ap (λ (r : List ℕ). take i s ++ r) (drop-cons t₀ i 0 l)) e
      ∙ set_at (take i s) (word t₀ i) (drop (suc i) t₀) (word s i) i (length-take-le i s (omega arith))
      ∙ sym (append_snoc (take i s) (word s i) (drop (suc i) t₀))
      ∙ ap (λ (r : List ℕ). r ++ drop (suc i) t₀) (sym (take-suc s i 0 h));
})

-- the words from i on have not moved
pub copied_rest : (s t₀ : List ℕ) (i : ℕ) (t : List ℕ) → i ≤ length s → Copied s t₀ i t → (j : ℕ) → i ≤ j → word t j ≡ word t₀ j
copied_rest s t₀ i t h c j g =
    let e : drop i t ≡ drop i t₀ = ap (drop i) c.words ∙ drop_at (take i s) (drop i t₀) i (length-take-le i s h) in
    word_after 0 i t₀ t (record { before = refl; after = e }) j g

pub copied_front : (s t₀ : List ℕ) (i : ℕ) (t : List ℕ) → i ≡ length s → Copied s t₀ i t → t ≡ s ++ drop (length s) t₀
copied_front s t₀ i t e c = c.words ∙ ap₂ (λ (x y : List ℕ). x ++ y) (take_all i s (omega arith)) (ap (λ (j : ℕ). drop j t₀) e)

pub copied_all : (s t₀ : List ℕ) (i : ℕ) (t : List ℕ) → i ≡ length s → length s ≡ length t₀ → Copied s t₀ i t → t ≡ s
copied_all s t₀ i t e l c = copied_front s t₀ i t e c ∙ ap (λ (r : List ℕ). s ++ r) (ap (λ (j : ℕ). drop j t₀) l ∙ drop-length t₀) ∙ append-nil s
