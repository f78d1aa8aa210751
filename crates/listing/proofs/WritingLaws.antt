-- Laws of texts written into a buffer: one behind the other they are one text. Assumes nothing.
use mathlib.Core.Path.{◌≡◌, refl, sym, ap, ◌∙◌}
use mathlib.Core.List.{List, [], ◌∷◌, ◌++◌}
use Prim.Native.Nat.{ℕ, suc, ◌+◌, ◌≤◌}
use native.Mathlib.Omega.{arith}
use lib.ListN.{length, set, take, drop, length-append}
use lib.Seq.{sets, length-sets, sets-eq, take_all}
use borrow.Rule.Slice.PartMut.{put_mid}
use Rattle.std.proofs.lemmas.Slice.{put_mid-paste}
use Rattle.listing.specs.declared.Page.{Page}
use Rattle.listing.specs.Writing.{written, Capacity, Wrote}

written-append : (t u l : List ℕ) (i : ℕ) → written l i (t ++ u) ≡ written (written l i t) (i + length t) u
unfolding written
written-append [] u l i = let e : i ≡ i + 0 = omega arith in ap (λ (k : ℕ). sets l k u) e
written-append (b ∷ t) u l i =
    let e : suc i + length t ≡ i + suc (length t) = omega arith in
    written-append t u (set l i b) (suc i) ∙ ap (λ (k : ℕ). sets (sets (set l i b) (suc i) t) k u) e

pub written-whole : (t l : List ℕ) → length t ≤ length l → written l 0 t ≡ t ++ drop (length t) l
unfolding written
written-whole t l h = let e : 0 + length t ≡ length t = omega arith in sets-eq t l 0 (omega arith) ∙ ap (λ (k : ℕ). t ++ drop k l) e

module _ {p q : Page} {t : List ℕ} (w : Wrote p t q) where
  wrote_length : length q.lines.now ≡ length p.lines.now
  unfolding written
  wrote_length = ap length w.buffer ∙ length-sets p.lines.now p.at t

  pub wrote_append : {u : List ℕ} {z : Page} → Wrote q u z → Wrote p (t ++ u) z
  wrote_append {u} {z} v = record {
    same_buffer = v.same_buffer ∙ w.same_buffer;
    buffer = v.buffer ∙ ap (λ (k : List ℕ). written k q.at u) w.buffer ∙ ap (λ (k : ℕ). written (written p.lines.now p.at t) k u) w.index ∙ sym (written-append t u p.lines.now p.at);
    index = let e = w.index in let f = v.index in omega (arith, length-append t u);
  }

  pub capacity_rest : (u : List ℕ) → Capacity p (t ++ u) → Capacity q u
  capacity_rest u r = record { fits = let f = r.fits in let e = w.index in omega (arith, length-append t u, wrote_length) }

pub capacity_first : {p : Page} (t u : List ℕ) → Capacity p (t ++ u) → Capacity p t
capacity_first t u r = record { fits = let f = r.fits in omega (arith, length-append t u) }

pub wrote_none : (p : Page) → Wrote p [] p
unfolding written
wrote_none p = record { same_buffer = refl; buffer = refl; index = omega arith }

-- a part of the buffer after a copy
pub written-part : (l t u : List ℕ) (i k : ℕ) → u ≡ t → k ≡ length t → i + length t ≤ length l → put_mid i k l u ≡ written l i t
unfolding written
written-part l t u i k e f h =
    put_mid-paste i k l u t (length t) e (sym f) refl ∙ ap (λ (v : List ℕ). take i l ++ v ++ drop (i + length t) l) (take_all (length t) t (omega arith)) ∙ sym (sets-eq t l i h)
