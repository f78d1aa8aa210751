-- Rows and numbers as a table of their own (`alone`): a relation's result is the narrowed table when each of its rows and numbers has the support of the
-- choices that meet the relation. Assumes nothing.
use mathlib.Core.Path.{◌≡◌, refl, sym, ap, subst, ◌∙◌}
use mathlib.Core.Bool.{true, false≢true}
use mathlib.Core.List.{List, [], ◌∷◌, ◌++◌, foldr}
use Prim.Native.Nat.{ℕ, zero, suc, ◌+◌, ◌*◌, ◌^◌, ◌<◌}
use native.Mathlib.Omega.{arith}
use lib.ListN.{length, take, drop, length-append, get_or}
use lib.Seq.{take_at, drop-append-add, get_or-append-add}
use Rattle.model.specs.Words.{bit, word, Words, bits}
use Rattle.model.specs.Domains.{Variable, str, num, row, strings, strings_of, values_of}
use Rattle.model.specs.Constraints.{Choice, Constraint, Automaton, variables, meets, Problem}
use Rattle.model.specs.Solutions.{text_bit, InRange}
use Rattle.model.specs.Support.{touches, narrowed}
use Rattle.rows.specs.Rows.{alone}
use Rattle.rows.proofs.TrimLaws.{strings-allowed, allowed-strings}
use Rattle.laws.specs.Inclusion.{In}
use Rattle.laws.specs.Supported.{InRow, Supports}
use Rattle.laws.proofs.WordLaws.{of-bits, in_bits, zero_bit}
use Rattle.laws.proofs.DomainLaws.{by_word, InDomain}
use Rattle.laws.proofs.SupportLaws.{Supporting, touched-text, touched-value}
use Rattle.laws.proofs.Supports.{moved-support}
use Rattle.laws.proofs.PlaceLaws.{narrowed-rows}
use Rattle.model.specs.Rounds.{variables_of}
use Rattle.laws.proofs.NodeLaws.{in_variables, of-variables}

-- ---- the rows and numbers of such a table

pub row-head : (x T : List ℕ) → length x ≡ 64 → row (x ++ T) 0 ≡ x
unfolding row
row-head x T e = take_at x T 64 e

pub row_next : (x T : List ℕ) (i : ℕ) → length x ≡ 64 → row (x ++ T) (suc i) ≡ row T i
unfolding row
row_next x T i e =
    let q : 64 * suc i ≡ length x + 64 * i = omega arith in
    ap (λ (n : ℕ). take 64 (drop n (x ++ T))) q ∙ ap (take 64) (drop-append-add x T (64 * i))

pub word_next : (x T : List ℕ) (i j : ℕ) → length x ≡ 64 → j ≡ 64 + i → word (x ++ T) j ≡ word T i
word_next x T i j e q = let d : j ≡ length x + i = omega arith in ap (word (x ++ T)) d ∙ get_or-append-add x T i 0

-- ---- a table of rows and numbers

-- the rows one after the other, then the number words
abbrev pub together : List (List ℕ) → List ℕ → List ℕ
together rows numbers = foldr ◌++◌ numbers rows

abbrev pub Rows64 : List (List ℕ) → Type 0
Rows64 rows = (z : ℕ) → z < length rows → length (get_or rows z []) ≡ 64

pub together-length : (rows : List (List ℕ)) (numbers : List ℕ) → Rows64 rows → length (together rows numbers) ≡ 64 * length rows + length numbers
together-length [] numbers h = omega arith
together-length (r ∷ rows) numbers h =
    let a = h 0 (omega arith) in
    let b = together-length rows numbers (λ z l. h (suc z) (omega arith)) in
    omega (arith, length-append r (together rows numbers))

pub together-row : (rows : List (List ℕ)) (numbers : List ℕ) → Rows64 rows → (z : ℕ) → z < length rows → row (together rows numbers) z ≡ get_or rows z []
together-row [] numbers h z l = absurd (omega arith)
together-row (r ∷ rows) numbers h zero l = row-head r (together rows numbers) (h 0 l)
together-row (r ∷ rows) numbers h (suc z) l = row_next r (together rows numbers) z (h 0 (omega arith)) ∙ together-row rows numbers (λ y k. h (suc y) (omega arith)) z (omega arith)

pub together-number : (rows : List (List ℕ)) (numbers : List ℕ) → Rows64 rows → (m : ℕ) → word (together rows numbers) (64 * length rows + m) ≡ word numbers m
together-number [] numbers h m = let q : 64 * 0 + m ≡ m = omega arith in ap (word numbers) q
together-number (r ∷ rows) numbers h m =
    word_next r (together rows numbers) (64 * length rows + m) (64 * suc (length rows) + m) (h 0 (omega arith)) (omega arith) ∙ together-number rows numbers (λ y k. h (suc y) (omega arith)) m

-- ---- a result by its rows and numbers

module _ (s t : ℕ) (ds : List Automaton) (c : Constraint) (named-texts : (x : ℕ) → x < s → In (str x) (variables c)) (named-values : (n : ℕ) → n < t → In (num n) (variables c))
    (T U : List ℕ) (lT : length T ≡ 64 * s + t) (lU : length U ≡ 64 * s + t) where
  all-touched : (i : ℕ) → i < 64 * s + t → touches (alone s t ds) c i ≡ true
  unfolding alone
  all-touched = by_word s (λ i. i < 64 * s + t → touches (alone s t ds) c i ≡ true)
      (λ x j h k l. touched-text (alone s t ds) c x j h k (named-texts x h))
      (λ n l. touched-value (alone s t ds) c n (named-values n (omega arith)))

  pub alone-narrowed : ((x : ℕ) → x < s → Supports (Supporting (alone s t ds) c T) (λ α. text_bit (α.text x)) 64 (row U x))
      → ((n : ℕ) → n < t → Supports (Supporting (alone s t ds) c T) (λ α i. 2 ^ (α.value n)) 1 (word U (64 * s + n) ∷ [])) → U ≡ narrowed (alone s t ds) c T
  unfolding alone
  alone-narrowed texts values = narrowed-rows (alone s t ds) c T U lT (lU ∙ sym lT) (λ x h m. texts x h) (λ n h m. values n h)
      (λ i h q. absurd (false≢true (sym q ∙ all-touched i (omega arith))))

-- ---- the choices that support a constraint on such a table

-- a table without numbers, and with one
pub no_words : Words []
no_words i b e = absurd (false≢true (sym (zero_bit b) ∙ e))

pub one_word : (n : ℕ) → ((b : ℕ) → bit n b ≡ true → b < 64) → Words (n ∷ [])
one_word n h zero b e = h b e
one_word n h (suc i) b e = no_words i b e

string_in : (T r : List ℕ) (x : ℕ) → row T x ≡ r → Words r → (w : List ℕ) → InRow r w → In w (strings_of T x)
string_in T r x e bd w i = subst (λ (z : List ℕ). In w (strings z)) (sym e) (allowed-strings r bd w i)

of-string : (T r : List ℕ) (x : ℕ) → row T x ≡ r → Words r → (w : List ℕ) → In w (strings_of T x) → InRow r w
of-string T r x e bd w m = strings-allowed r bd w (subst (λ (z : List ℕ). In w (strings z)) e m)

module _ (ds : List Automaton) (c : Constraint) (rows : List (List ℕ)) (numbers : List ℕ) (named : variables c ≡ variables_of (alone (length rows) (length numbers) ds)) (r64 : Rows64 rows)
    (bx : (z : ℕ) → z < length rows → Words (get_or rows z [])) (bn : Words numbers) where
  abbrev own : Problem
  own = alone (length rows) (length numbers) ds

  -- a string of each row and a value of each number, and they meet the constraint
  pub record Chosen (α : Choice) : Type 0 where
    pub texts : (z : ℕ) → z < length rows → InRow (get_or rows z []) (α.text z)
    pub values : (m : ℕ) → m < length numbers → bit (word numbers m) (α.value m) ≡ true
    pub meeting : meets (alone (length rows) (length numbers) ds) c α ≡ true

  is-named : (v : Variable) → InRange own v → In v (variables c)
  is-named v h = subst (λ (l : List Variable). In v l) (sym named) (in_variables own v h)

  chosen_supporting : (α : Choice) → Chosen α → Supporting own c (together rows numbers) α
  unfolding alone values_of
  chosen_supporting α s = record { in_domains = λ v m. at v (of-variables own v (subst (λ (l : List Variable). In v l) named m)); meeting = s.meeting }
    where
      at : (v : Variable) → InRange own v → InDomain (length rows) (together rows numbers) α v
      at (str z) h = string_in (together rows numbers) (get_or rows z []) z (together-row rows numbers r64 z h) (bx z h) (α.text z) (s.texts z h)
      at (num m) h = subst (λ (w : ℕ). In (α.value m) (bits w)) (sym (together-number rows numbers r64 m)) (in_bits (word numbers m) (α.value m) (s.values m h) (bn m (α.value m) (s.values m h)))

  supporting_chosen : (α : Choice) → Supporting own c (together rows numbers) α → Chosen α
  unfolding alone values_of
  supporting_chosen α s = record {
    texts = λ z h. of-string (together rows numbers) (get_or rows z []) z (together-row rows numbers r64 z h) (bx z h) (α.text z) (s.in_domains (str z) (is-named (str z) h));
    values = λ m h. (of-bits (word numbers m) (subst (λ (w : ℕ). In (α.value m) (bits w)) (together-number rows numbers r64 m) (s.in_domains (num m) (is-named (num m) h)))).0;
    meeting = s.meeting;
  }

  -- Choices may be of a type K of their own, read as a choice for the table and back. Rows and numbers that have the support of those with `Ok` are the
  -- narrowed table.
  module _ {K : Type 0} (Ok : K → Type 0) (to : K → Choice) (back : Choice → K) (chosen : (v : K) → Ok v → Chosen (to v)) (ok : (α : Choice) → Chosen α → Ok (back α))
      (same-texts : (α : Choice) → Chosen α → (z : ℕ) → z < length rows → (to (back α)).text z ≡ α.text z)
      (same-values : (α : Choice) → Chosen α → (m : ℕ) → m < length numbers → (to (back α)).value m ≡ α.value m) where
    pub rows-narrowed : (rs : List (List ℕ)) (ns : List ℕ) → length rs ≡ length rows → length ns ≡ length numbers
        → ((z : ℕ) → z < length rows → Supports Ok (λ v. text_bit ((to v).text z)) 64 (get_or rs z [])) → ((m : ℕ) → m < length numbers → Supports Ok (λ v i. 2 ^ ((to v).value m)) 1 (word ns m ∷ []))
        → together rs ns ≡ narrowed (alone (length rows) (length numbers) ds) c (together rows numbers)
    unfolding alone
    rows-narrowed rs ns lr lw texts values =
        alone-narrowed (length rows) (length numbers) ds c (λ z h. is-named (str z) h) (λ m h. is-named (num m) h) (together rows numbers) (together rs ns)
        (together-length rows numbers r64) (together-length rs ns s64 ∙ size)
        (λ z h. subst (Supports (Supporting own c (together rows numbers)) (λ α. text_bit (α.text z)) 64) (sym (together-row rs ns s64 z (omega arith)))
        (moved-support Ok (Supporting own c (together rows numbers)) (λ v. text_bit ((to v).text z)) (λ α. text_bit (α.text z)) 64 (get_or rs z [])
        (λ v o. (to v, chosen_supporting (to v) (chosen v o), λ i k. refl))
        (λ α s. (back α, ok α (supporting_chosen α s), λ i k. ap (λ (w : List ℕ). text_bit w i) (same-texts α (supporting_chosen α s) z h)))
        (texts z h)))
        (λ m h. subst (λ (w : ℕ). Supports (Supporting own c (together rows numbers)) (λ α i. 2 ^ (α.value m)) 1 (w ∷ [])) (sym (number_at m))
        (moved-support Ok (Supporting own c (together rows numbers)) (λ v i. 2 ^ ((to v).value m)) (λ α i. 2 ^ (α.value m)) 1 (word ns m ∷ [])
        (λ v o. (to v, chosen_supporting (to v) (chosen v o), λ i k. refl))
        (λ α s. (back α, ok α (supporting_chosen α s), λ i k. ap (λ (b : ℕ). 2 ^ b) (same-values α (supporting_chosen α s) m h)))
        (values m h)))
      where
        s64 : Rows64 rs
        s64 z h = (texts z (omega arith)).count

        size : 64 * length rs + length ns ≡ 64 * length rows + length numbers
        size = omega arith

        number_at : (m : ℕ) → word (together rs ns) (64 * length rows + m) ≡ word ns m
        number_at m = let e : 64 * length rows + m ≡ 64 * length rs + m = omega arith in ap (word (together rs ns)) e ∙ together-number rs ns s64 m
