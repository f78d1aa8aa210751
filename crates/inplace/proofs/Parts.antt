-- Rows that a relation has met up to some place, cut to the lengths that stay: each is the trimmed row of the relation's law, and its flag is right. Two rows
-- so cut are a step in place. Rows that lose lengths alone are such rows. Assumes nothing.
use Rattle.std.specs.Prelude.{Some}
use mathlib.Core.Path.{◌≡◌, refl, sym, ap, ap₂, subst, ◌∙◌}
use mathlib.Core.Logic.{◌≢◌}
use mathlib.Core.Bool.{Bool, true, false, ◌||◌, false≢true}
use mathlib.Core.List.{List, [], ◌∷◌, ◌++◌}
use Prim.Native.Nat.{ℕ, zero, suc, ◌+◌, ◌*◌, ◌≤◌, ◌<◌}
use native.Mathlib.Omega.{arith}
use lib.ListN.{length, set, length-set}
use lib.Seq.{get_or-set_same, get_or-set_other}
use Rattle.model.specs.Words.{bit, word, Words}
use Rattle.model.specs.Domains.{row}
use Rattle.model.specs.Constraints.{Constraint}
use Rattle.model.specs.Solutions.{text_bit}
use Rattle.model.specs.Support.{narrowed}
use Rattle.words.specs.Ends.{Highest}
use Rattle.rows.specs.Rows.{alone, trimmed}
use Rattle.rows.specs.Parts.{Cut}
use Rattle.rows.proofs.TrimLaws.{short, trimmed-supports}
use Rattle.laws.specs.Inclusion.{Within}
use Rattle.laws.specs.Supported.{InRow, Supports}
use Rattle.laws.proofs.DomainLaws.{row-length, row_words}
use Rattle.inplace.specs.InTable.{Tidy, Out, Ended, Ready, Shortened, Changed, Flag}
use Rattle.inplace.specs.InPlace.{InPlace}
use Rattle.inplace.proofs.Reach.{Reach, of-short, whole-short, reach-right, reach-tidy}
use Rattle.inplace.proofs.Sides.{Side, side-ended, side_cut, side-flag}
use Rattle.inplace.proofs.Shapes.{two-left}
use Rattle.inplace.proofs.Tables.{row_first, bit-some, highest-most, only-other, only_out}

-- the first m places of string x's row are those of M, and ls are the lengths that trimming leaves of M
pub record Part (T : List ℕ) (x : ℕ) (T₁ M : List ℕ) (m ls : ℕ) (changed : Bool) : Type 0 where
  pub fits : 64 * x + 64 ≤ length T
  pub tidy : Tidy (row T x)
  pub small : m ≤ tidy.top
  pub side : Side (row T x) M m (row T₁ x) changed
  pub words : Words M
  pub long : length M ≡ 64
  pub reach : Reach M m
  pub lengths : ls ≡ short M m
  pub within : (b : ℕ) → bit ls b ≡ true → bit (word T (64 * x)) b ≡ true

module _ (T : List ℕ) (x : ℕ) (T₁ M : List ℕ) (m ls : ℕ) (c : Bool) (part : Part T x T₁ M m ls c) (T₂ : List ℕ) (size : length T₂ ≡ length T)
    (same : row T₂ x ≡ row T₁ x) where
  pub part-ready : ls ≢ 0 → Ready T₂ x ls
  part-ready some = record {
    fits = let f = part.fits in omega arith;
    some = omega arith;
    within = λ b e. ap (λ (w : ℕ). bit w b) (sym (row_first T₂ x) ∙ ap (λ (r : List ℕ). word r 0) same ∙ part.side.first ∙ row_first T x) ∙ part.within b e;
    ended = subst Ended (sym same) (side-ended (row T x) M m (row T₁ x) c part.tidy part.small part.side);
  }

  -- after it is cut; W is the table at the end
  module _ (U W : List ℕ) (p : Bool) (s : Shortened T₂ x ls U p) (later : row W x ≡ row U x) where
    high : Highest (short M m) s.top
    high = subst (λ (w : ℕ). Highest w s.top) part.lengths s.longest

    below : s.top ≤ m
    below = (of-short M m s.top high.here).1

    cut₁ : Cut (row T₁ x) ls s.top (row W x)
    cut₁ = subst (λ (r : List ℕ). Cut (row T₁ x) ls s.top r) (sym later) (subst (λ (r : List ℕ). Cut r ls s.top (row U x)) same s.cut)

    cut : Cut M (short M m) s.top (row W x)
    cut = side_cut (row T x) M m (row T₁ x) c part.tidy part.small part.side ls s.top (row W x) below cut₁ (short M m) part.lengths

    pub part-row : row W x ≡ trimmed M
    part-row = reach-right M m part.words part.reach part.long s.top high (row W x) cut

    pub part-tidy : Tidy (row W x)
    part-tidy = reach-tidy M m part.words part.reach part.long s.top high (row W x) cut

    pub part-flag : Flag (row T x) (row W x) (c || p)
    part-flag = side-flag (row T x) M m (row T₁ x) c part.tidy part.small part.side ls s.top (row W x) below cut₁ p
        (λ e. later ∙ ap (λ (L : List ℕ). row L x) (s.same e) ∙ same) (λ e d. s.less e (sym (row_first T₂ x) ∙ ap (λ (r : List ℕ). word r 0) same ∙ d))

-- ---- two rows, cut one after the other

module _ (d : Constraint) (T : List ℕ) (x y : ℕ) (ne : y ≢ x) (T₁ : List ℕ) (size : length T₁ ≡ length T)
    (others : (k : ℕ) → Out x k → Out y k → word T₁ k ≡ word T k)
    (X Y : List ℕ) (m n ls ks : ℕ) (cx cy : Bool) (part-x : Part T x T₁ X m ls cx) (part-y : Part T y T₁ Y n ks cy) where
  pub pair-first : ls ≢ 0 → Ready T₁ x ls
  pair-first some = part-ready T x T₁ X m ls cx part-x T₁ size refl some

  module _ (T₂ : List ℕ) (p : Bool) (sx : Shortened T₁ x ls T₂ p) where
    same-y : row T₂ y ≡ row T₁ y
    same-y = let f = part-y.fits in only-other T₁ x T₂ sx.only y (omega arith) ne

    pub pair-second : ks ≢ 0 → Ready T₂ y ks
    pair-second some = part-ready T y T₁ Y n ks cy part-y T₂ (sx.only.size ∙ size) same-y some

    pub pair_left : trimmed X ++ trimmed Y ≡ narrowed (alone 2 0 []) d (row T x ++ row T y) → (U : List ℕ) (q : Bool) → Shortened T₂ y ks U q → (cx' cy' : Bool)
        → cx' ≡ (cx || p) → cy' ≡ (cy || q) → InPlace [] d (x ∷ y ∷ []) [] T U (Some (record { x = cx'; y = cy'; z = false }))
    pair_left e U q sy cx' cy' ex ey =
        let f = part-x.fits in
        let l = sx.only.size in
        let later : row U x ≡ row T₂ x = only-other T₂ y U sy.only x (omega arith) (λ d. ne (sym d)) in
        let rx = part-row T x T₁ X m ls cx part-x T₁ size refl T₂ U p sx later in
        let ry = part-row T y T₁ Y n ks cy part-y T₂ (l ∙ size) same-y U U q sy refl in
        two-left d x y T U (sy.only.size ∙ l ∙ size)
        (λ k f g. only_out T₂ y U sy.only k g ∙ only_out T₁ x T₂ sx.only k f ∙ others k f g)
        (ap₂ (λ (r s : List ℕ). r ++ s) rx ry ∙ e)
        (part-tidy T x T₁ X m ls cx part-x T₁ size refl T₂ U p sx later) (part-tidy T y T₁ Y n ks cy part-y T₂ (l ∙ size) same-y U U q sy refl) cx' cy'
        (subst (Flag (row T x) (row U x)) (sym ex) (part-flag T x T₁ X m ls cx part-x T₁ size refl T₂ U p sx later))
        (subst (Flag (row T y) (row U y)) (sym ey) (part-flag T y T₁ Y n ks cy part-y T₂ (l ∙ size) same-y U U q sy refl))

-- ---- a tidy row

pub tidy-reach : (r : List ℕ) (t : Tidy r) (ls : ℕ) → Within ls (word r 0) → (M : List ℕ) → word M 0 ≡ ls → ((i : ℕ) → word M (suc i) ≡ word r (suc i))
    → Reach M t.top × (ls ≡ short M t.top)
tidy-reach r t ls w M e places =
    let most : (b : ℕ) → bit (word M 0) b ≡ true → b ≤ t.top = λ b q. highest-most (word r 0) t.top b t.longest
    (w b (ap (λ (v : ℕ). bit v b) (sym e) ∙ q)) in (
      record {
        small = t.longest.small;
        filled = λ i h. subst (λ (v : ℕ). 0 < v) (sym (places i)) (t.filled i h);
        stop = λ n q h. let k = most n q in absurd (omega arith);
      },
      sym e ∙ sym (whole-short M t.top most),
    )

pub tidy-trimmed : (r : List ℕ) → Tidy r → Words r → length r ≡ 64 → r ≡ trimmed r
tidy-trimmed r t bd ln =
    let u = tidy-reach r t (word r 0) (λ b e. e) r refl (λ i. refl) in
    reach-right r t.top bd u.0 ln t.top (subst (λ (w : ℕ). Highest w t.top) u.1 t.longest) r
    (record { size = ln; first = u.1; kept = λ i h. refl; gone = t.gone })

-- every bit of it is used by a string of the row
pub tidy-supports : (r : List ℕ) → Tidy r → Words r → length r ≡ 64 → Supports (InRow r) text_bit 64 r
tidy-supports r t bd ln = subst (Supports (InRow r) text_bit 64) (sym (tidy-trimmed r t bd ln)) (trimmed-supports r ln bd)

-- it has a length
pub tidy-lengths : (T : List ℕ) (x : ℕ) → Tidy (row T x) → 0 < word T (64 * x)
tidy-lengths T x t = bit-some (word T (64 * x)) t.top (ap (λ (w : ℕ). bit w t.top) (sym (row_first T x)) ∙ t.longest.here)

pub changed-all : (f g : ℕ → ℕ) (m : ℕ) → ((i : ℕ) → i < m → f i ≡ g i) → Changed f g m false
changed-all f g m h = record { same = λ e. h; differ = λ e. absurd (false≢true e) }

-- it keeps its places and loses lengths
module _ (T : List ℕ) (x : ℕ) (f : 64 * x + 64 ≤ length T) (bd : Words T) (tx : Tidy (row T x)) (ls : ℕ) (within : Within ls (word T (64 * x))) where
  abbrev pub fewer : List ℕ
  fewer = set (row T x) 0 ls

  pub fewer-length : length fewer ≡ 64
  fewer-length = length-set (row T x) 0 ls ∙ row-length T x f

  pub fewer-first : word fewer 0 ≡ ls
  fewer-first = let l = row-length T x f in get_or-set_same (row T x) 0 ls 0 (omega arith)

  pub fewer-place : (i : ℕ) → word fewer (suc i) ≡ word (row T x) (suc i)
  fewer-place i = get_or-set_other (row T x) 0 (suc i) ls 0 (omega arith)

  pub fewer-words : Words fewer
  fewer-words zero b e = bd (64 * x) b (within b (ap (λ (w : ℕ). bit w b) (sym fewer-first) ∙ e))
  fewer-words (suc i) b e = row_words T bd x (suc i) b (ap (λ (w : ℕ). bit w b) (sym (fewer-place i)) ∙ e)

  pub part-lengths : (T₁ : List ℕ) → row T₁ x ≡ row T x → Part T x T₁ fewer tx.top ls false
  part-lengths T₁ same =
      let u = tidy-reach (row T x) tx ls (λ b e. ap (λ (w : ℕ). bit w b) (row_first T x) ∙ within b e) fewer fewer-first fewer-place in
      record {
        fits = f;
        tidy = tx;
        small = omega arith;
        side = record {
          size = ap length same;
          first = ap (λ (r : List ℕ). word r 0) same;
          low = λ i h. ap (λ (r : List ℕ). word r (suc i)) same ∙ sym (fewer-place i);
          high = λ i h. ap (λ (r : List ℕ). word r (suc i)) same;
          flag = changed-all _ _ tx.top (λ i h. ap (λ (r : List ℕ). word r (suc i)) same);
        };
        words = fewer-words;
        long = fewer-length;
        reach = u.0;
        lengths = u.1;
        within = within;
      }
