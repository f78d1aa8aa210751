-- The listing by what Read answered, what Search is then lent, and the whole buffer. Assumes nothing.
use mathlib.Core.Path.{◌≡◌, refl, sym, ap, ◌∙◌}
use mathlib.Core.List.{List, [], ◌∷◌, ◌++◌}
use Prim.Native.Nat.{ℕ, zero, suc, ◌+◌, ◌*◌, ◌≤◌, ◌<◌}
use native.Mathlib.Omega.{arith}
use lib.ListN.{length, take, drop, replicate, length-append, length-replicate}
use borrow.Author.Tests.{le-leb, lt-leb}
use Rattle.model.specs.Constraints.{width}
use Rattle.model.specs.Replies.{Reply, refused, answered, require, and_then}
use Rattle.model.specs.Reading.{Reading, reading}
use Rattle.model.specs.Operations as model
use Rattle.laws.proofs.ReplyLaws.{refused≢answered, answered_inj, and_then-answered}
use Rattle.cobleskeg.specs.declared.Header.{Header}
use Rattle.std.specs.Prelude.{Result, Ok, Err}
use lib.Dec.{leb}
use Rattle.refusals.specs.declared.Refusal.{Refusal}
use Rattle.refusals.specs.Numbers.{number}
use Rattle.cobleskeg.specs.Answers.{header_of, read_reply}
use Rattle.model.specs.Listing.{refused_bytes, line, reply_lines, search_lines, listing}
use Rattle.listing.specs.declared.Page.{Page}
use Rattle.listing.specs.Writing.{written, Capacity, Wrote, printed}
use Rattle.listing.specs.TableLines.{Counted, Lent}
use Rattle.listing.proofs.WritingLaws.{written-whole}
use Rattle.listing.proofs.SearchedLaws.{reading_range}

-- ---- the listing by what Read answered

-- "An input longer than the largest file prints `refused 4`, whatever its end holds"
pub longer-refused : (input : List ℕ) (r : Reply (List ℕ)) → 25024 < length input → require (leb (length input) 25024) 4 r ≡ refused 4
unfolding require
longer-refused input r h = rw (lt-leb (length input) 25024 h)

pub file-replied : (input : List ℕ) (r : Reply (List ℕ)) → length input ≤ 25024 → require (leb (length input) 25024) 4 r ≡ r
unfolding require
file-replied input r h = rw (le-leb (length input) 25024 h)

read-refused : (r : Reading) (n : ℕ) → refused n ≡ model.read r → r ≡ refused n
unfolding model.read and_then
read-refused (refused m) n e = let same : n ≡ m = cc in ap refused (sym same)
read-refused (answered a) n e = absurd (refused≢answered e)

pub file-refused : (input : List ℕ) (r : Result Header Refusal) → read_reply r ≡ model.read (reading input) → (e : Refusal) → r ≡ Err e
    → search_lines (reading input) ≡ refused (number e)
unfolding search_lines and_then
file-refused input r same e q = ap search_lines (read-refused (reading input) (number e) (ap read_reply (sym q) ∙ same))

pub counted : (input : List ℕ) (r : Result Header Refusal) → read_reply r ≡ model.read (reading input) → (h : Header) → r ≡ Ok h → Counted input h.strings h.numbers
unfolding header_of model.read
counted input r e h q =
    let t = and_then-answered (reading input) _ (header_of h) (sym e ∙ ap read_reply q) in
    let same = answered_inj t.2 in
    record {
      file-holds = t.0;
      reads = t.1;
      strings = sym (ap (λ (m : model.Header). m.strings) same);
      numbers = sym (ap (λ (m : model.Header). m.numbers) same);
    }

-- the only line of what is refused
pub refused-lines : {p q : Page} {r : Reply (List ℕ)} (m n : ℕ) → (r ≡ refused m) × (q ≡ p) → n ≡ m → {z : Page}
    → Capacity q (line refused_bytes (n ∷ [])) → Wrote q (line refused_bytes (n ∷ [])) z → Capacity p (reply_lines r) × Wrote p (reply_lines r) z
unfolding reply_lines
refused-lines m n f k capacity w = rw (f.0, ← k, ← f.1) (capacity, w)

-- ---- what Search is lent

take-replicate : (n m : ℕ) → n ≤ m → take n (replicate {A = ℕ} m 0) ≡ replicate n 0
take-replicate zero m h = refl
take-replicate (suc n) zero h = absurd (omega arith)
take-replicate (suc n) (suc m) h = ap (λ (l : List ℕ). 0 ∷ l) (take-replicate n m (omega arith))

module _ {file : List ℕ} {s t : ℕ} (c : Counted file s t) where
  pub counted_range : (s ≤ 16) × (t ≤ 16)
  counted_range = let range = reading_range file c.file-holds c.reads in (omega (arith, c.strings, range.0), omega (arith, c.numbers, range.1))

  -- room and table for the largest file serve any
  pub lent-whole : Lent file s (replicate 3120 0) (take (64 * s + t) (replicate 1040 0))
  lent-whole =
      let range = counted_range in
      let e = c.strings in
      let f = c.numbers in
      let words : 64 * s + t ≡ width c.file-holds.problem = omega arith in
      record {
        file-holds = c.file-holds;
        reads = c.reads;
        strings = e;
        room-words = let long : length (replicate {A = ℕ} 3120 0) ≡ 3120 = length-replicate {A = ℕ} 3120 0 in omega (arith, range.0, range.1);
        table-words = take-replicate (64 * s + t) 1040 (omega (arith, range.0, range.1)) ∙ ap (λ (n : ℕ). replicate n 0) words;
      }

-- ---- the whole buffer

pub printed-nothing : (input lines : List ℕ) → length lines < 3260 → printed input lines ≡ []
unfolding printed
printed-nothing input lines h = rw (lt-leb 3260 (length lines) h)

printed-whole : (input lines : List ℕ) → 3260 ≤ length lines → printed input lines ≡ listing input
unfolding printed
printed-whole input lines h = rw (le-leb 3260 (length lines) h)

-- a page that begins at the start of the buffer
pub printed-after : (input : List ℕ) {p q : Page} → p.at ≡ 0 → 3260 ≤ length p.lines.now → Capacity p (listing input) → Wrote p (listing input) q
    → (q.lines.now ≡ printed input p.lines.now ++ drop (length (printed input p.lines.now)) p.lines.now) × (q.at ≡ length (printed input p.lines.now))
printed-after input {p} {q} start h capacity w =
    let fits = capacity.fits in
    rw (printed-whole input p.lines.now h)
    (w.buffer ∙ ap (λ (i : ℕ). written p.lines.now i (listing input)) start ∙ written-whole (listing input) p.lines.now (omega arith), (let e = w.index in omega arith))

-- for a caller: what is answered counts bytes of the buffer
pub answer-within : (input lines after : List ℕ) (r : ℕ) → after ≡ printed input lines ++ drop (length (printed input lines)) lines → r ≡ length (printed input lines)
    → r ≤ length after
answer-within input lines after r e f = omega (arith, ap length e, length-append (printed input lines) (drop (length (printed input lines)) lines))
