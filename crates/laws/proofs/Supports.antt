-- Laws of support for any kind of choice (specs/Supported.antt). A narrowing step is a union, over one parameter, of words that have such support; these laws put
-- the parts together, so that a step's proof only says which choices its parts stand for. Assumes nothing.
use mathlib.Core.Path.{◌≡◌, refl, sym, ap, subst, ◌∙◌}
use mathlib.Core.Logic.{◌⊎◌, inl, inr, ⊎_elim}
use mathlib.Core.Bool.{false≢true}
use mathlib.Core.List.Memᴰ
use mathlib.Core.List.{List, [], ◌∷◌, map}
use Prim.Native.Nat.{ℕ, suc, ◌+◌, ◌*◌, ◌^◌, ◌≤◌, ◌<◌, zero}
use native.Mathlib.Omega.{arith}
use lib.Bits.{bit_or}
use lib.ListN.{length, replicate, length-replicate, get_or-replicate, length-map}
use lib.Seq.{ext_get_or}
use Rattle.model.specs.Lists.{from}
use Rattle.model.specs.Words.{bit, word}
use Rattle.model.specs.Domains.{str, num, row, strings_of}
use Rattle.model.specs.Constraints.{Problem, Constraint, always, variables, meets}
use Rattle.model.specs.Solutions.{text_bit}
use Rattle.model.specs.Support.{narrowed}
use Rattle.laws.specs.Inclusion.{In}
use Rattle.laws.specs.Supported.{Supports}
use Rattle.laws.proofs.ListLaws.{from-length, from-get_or}
use Rattle.laws.proofs.WordLaws.{zero_bit, within_antisym, or-bit-left, or-bit-right, of-or-bit}
use Rattle.laws.proofs.DomainLaws.{row_word, row-length, used-text, used-value, InDomain}
use Rattle.laws.proofs.SupportLaws.{Supporting, stays, stays-only, touched-text, touched-value, narrowed-length}

-- there is only one such list of words
pub one-support : {K : Type 0} (Ok : K → Type 0) (bits_of : K → ℕ → ℕ) (n : ℕ) (r s : List ℕ) → Supports Ok bits_of n r → Supports Ok bits_of n s → r ≡ s
one-support Ok bits_of n r s p q = ext_get_or 0 r s (p.count ∙ sym q.count) (λ i h.
    let k : i < n = subst (λ (m : ℕ). i < m) p.count h in
    within_antisym (word r i) (word s i)
    (λ b e. let t = p.sound i b k e in q.complete i b k t.0 t.1 t.2)
    (λ b e. let t = q.sound i b k e in p.complete i b k t.0 t.1 t.2))

-- no choice counts
pub none-support : {K : Type 0} (Ok : K → Type 0) (bits_of : K → ℕ → ℕ) (n : ℕ) → ((v : K) → Ok v → ⊥) → Supports Ok bits_of n (replicate n 0)
none-support Ok bits_of n never = record {
  count = length-replicate n 0;
  sound = λ i b h e. absurd (false≢true (sym (zero_bit b) ∙ ap (λ (w : ℕ). bit w b) (sym (get_or-replicate n i 0 0 h)) ∙ e));
  complete = λ i b h v ok e. absurd (never v ok);
}

-- the same choices, written otherwise
pub moved-support : {K W : Type 0} (A : K → Type 0) (B : W → Type 0) (f : K → ℕ → ℕ) (g : W → ℕ → ℕ) (n : ℕ) (r : List ℕ)
    → ((v : K) → A v → (w : W) × B w × ((i : ℕ) → i < n → f v i ≡ g w i)) → ((w : W) → B w → (v : K) × A v × ((i : ℕ) → i < n → f v i ≡ g w i))
    → Supports A f n r → Supports B g n r
moved-support A B f g n r there back s = record {
  count = s.count;
  sound = λ i b h e.
      let t = s.sound i b h e in
      let w = there t.0 t.1 in
      (w.0, w.1, ap (λ (u : ℕ). bit u b) (sym (w.2 i h)) ∙ t.2);
  complete = λ i b h w ok e.
      let v = back w ok in
      s.complete i b h v.0 v.1 (ap (λ (u : ℕ). bit u b) (v.2 i h) ∙ e);
}

-- the first word on its own
pub first-word-supports : {K : Type 0} (Ok : K → Type 0) (bits_of : K → ℕ → ℕ) (n : ℕ) (r : List ℕ) → 0 < n → Supports Ok bits_of n r → Supports Ok bits_of 1 (word r 0 ∷ [])
first-word-supports Ok bits_of n r h s = record {
  count = refl;
  sound = elim [ zero ↦ λ b k e. s.sound 0 b h e | suc i ↦ λ b k e. absurd (omega arith) ];
  complete = elim [ zero ↦ λ b k v ok e. s.complete 0 b h v ok e | suc i ↦ λ b k v ok e. absurd (omega arith) ];
}

-- ---- unions

-- word by word, what either has
unfoldable pub or_words : ℕ → List ℕ → List ℕ → List ℕ
or_words n r s = map (λ i. bit_or (word r i) (word s i)) (from 0 n)

pub or_words-length : (n : ℕ) (r s : List ℕ) → length (or_words n r s) ≡ n
unfolding or_words
or_words-length n r s = length-map (from 0 n) _ ∙ from-length 0 n

pub or_words-word : (n : ℕ) (r s : List ℕ) (i : ℕ) → i < n → word (or_words n r s) i ≡ bit_or (word r i) (word s i)
unfolding or_words
or_words-word n r s i h = let q : 0 + i ≡ i = omega arith in from-get_or (λ i. bit_or (word r i) (word s i)) 0 n i 0 h ∙ ap (λ (j : ℕ). bit_or (word r j) (word s j)) q

-- choices of one kind or of another
pub either-support : {K : Type 0} (A B : K → Type 0) (bits_of : K → ℕ → ℕ) (n : ℕ) (r s : List ℕ) → Supports A bits_of n r → Supports B bits_of n s
    → Supports (λ v. A v ⊎ B v) bits_of n (or_words n r s)
either-support A B bits_of n r s p q = record {
  count = or_words-length n r s;
  sound = λ i b h e. ⊎_elim
      (λ x. let t = p.sound i b h x in (t.0, inl t.1, t.2))
      (λ x. let t = q.sound i b h x in (t.0, inr t.1, t.2))
      (of-or-bit (word r i) (word s i) b (ap (λ (w : ℕ). bit w b) (sym (or_words-word n r s i h)) ∙ e));
  complete = λ i b h v ok e. ap (λ (w : ℕ). bit w b) (or_words-word n r s i h) ∙ ⊎_elim
      (λ x. or-bit-left (word r i) (word s i) b (p.complete i b h v x e))
      (λ x. or-bit-right (word r i) (word s i) b (q.complete i b h v x e))
      ok;
}

-- ---- what a narrowing step leaves has the support of the choices that support the constraint

module _ (P : Problem) (c : Constraint) (T : List ℕ) where
  pub text-support : (x : ℕ) → x < P.strings → 64 * x + 64 ≤ length T → In (str x) (variables c)
      → Supports (Supporting P c T) (λ α. text_bit (α.text x)) 64 (row (narrowed P c T) x)
  text-support x h f m = record {
    count = row-length (narrowed P c T) x (let e = narrowed-length P c T in omega arith);
    sound = λ i b k e.
        let t = stays-only P c T (64 * x + i) b (omega arith) (touched-text P c x i h k m) (ap (λ (w : ℕ). bit w b) (sym (row_word (narrowed P c T) x i k)) ∙ e) in
        (t.0, t.1, ap (λ (w : ℕ). bit w b) (sym (used-text P.strings t.0 x i h k)) ∙ t.2);
    complete = λ i b k α s e. ap (λ (w : ℕ). bit w b) (row_word (narrowed P c T) x i k)
        ∙ stays P c T (64 * x + i) b (omega arith) (touched-text P c x i h k m) α s (ap (λ (w : ℕ). bit w b) (used-text P.strings α x i h k) ∙ e);
  }

  pub value-support : (n : ℕ) → 64 * P.strings + n < length T → In (num n) (variables c)
      → Supports (Supporting P c T) (λ α i. 2 ^ (α.value n)) 1 (word (narrowed P c T) (64 * P.strings + n) ∷ [])
  value-support n f m = record {
    count = refl;
    sound = λ i b k e.
        let z : i ≡ 0 = omega arith in
        let t = stays-only P c T (64 * P.strings + n) b f (touched-value P c n m) (ap (λ (j : ℕ). bit (word (word (narrowed P c T) (64 * P.strings + n) ∷ []) j) b) (sym z) ∙ e) in
        (t.0, t.1, ap (λ (w : ℕ). bit w b) (sym (used-value P.strings t.0 n)) ∙ t.2);
    complete = λ i b k α s e.
        let z : i ≡ 0 = omega arith in
        ap (λ (j : ℕ). bit (word (word (narrowed P c T) (64 * P.strings + n) ∷ []) j) b) z
        ∙ stays P c T (64 * P.strings + n) b f (touched-value P c n m) α s (ap (λ (w : ℕ). bit w b) (used-value P.strings α n) ∙ e);
  }

-- trimming: the strings of the row itself
pub trim-support : (P : Problem) (T : List ℕ) (x : ℕ) → x < P.strings → 64 * x + 64 ≤ length T → Supports (λ w. In w (strings_of T x)) text_bit 64 (row (narrowed P (always x) T) x)
unfolding variables meets
trim-support P T x h f = moved-support (Supporting P (always x) T) (λ w. In w (strings_of T x)) (λ α. text_bit (α.text x)) text_bit 64 (row (narrowed P (always x) T) x)
    (λ α s. (α.text x, s.in_domains (str x) (Memᴰ.head refl), λ i k. refl))
    (λ w m. (record { text = λ y. w; value = λ n. 0 }, record { in_domains = λ v k. elim k [ Memᴰ.head e ↦ subst (InDomain P.strings T (record { text = λ y. w; value = λ n. 0 })) (sym e) m | Memᴰ.tail x5 ↦ elim x5 [ ] ]; meeting = refl }, λ i k. refl))
    (text-support P (always x) T x h f (Memᴰ.head refl))
