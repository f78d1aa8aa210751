-- Bytes written into a lent buffer one after the other. Assumes nothing.
use Rattle.std.specs.Prelude.{◌≡◌, cond, Result, Ok, Err, List, [], ℕ, ◌+◌, ◌≤◌, leb, length}
use Rattle.std.proofs.lemmas.List.Edits.{sets}
use Rattle.model.specs.Replies.{Reply, refused}
use Rattle.model.specs.Listing.{reply_lines, listing}
use Rattle.refusals.specs.declared.Refusal.{Refusal}
use Rattle.refusals.specs.Numbers.{number}
use Rattle.listing.specs.declared.Page.{Page}

-- the buffer with this text from index i on
unfoldable pub written : List ℕ → ℕ → List ℕ → List ℕ
written lines i text = sets lines i text

-- the text fits behind what is written
pub record Capacity (p : Page) (text : List ℕ) : Type 0 where
  pub fits : p.at + length text ≤ length p.lines.now

-- the longest listing fits behind what is written
pub record FullCapacity (p : Page) : Type 0 where
  pub fits : p.at + 3260 ≤ length p.lines.now

-- a call wrote the text behind what was written, into the same buffer
pub record Wrote (p : Page) (text : List ℕ) (q : Page) : Type 0 where
  pub same_buffer : q.lines.ghost_name ≡ p.lines.ghost_name
  pub buffer : q.lines.now ≡ written p.lines.now p.at text
  pub index : q.at ≡ p.at + length text

-- a call that has this reply wrote its lines; one that refuses wrote nothing
abbrev pub Replied : Page → Reply (List ℕ) → Page → Result (Unit {0}) Refusal → Type 0
Replied p r q (Ok a) = Capacity p (reply_lines r) × Wrote p (reply_lines r) q
Replied p r q (Err e) = (r ≡ refused (number e)) × (q ≡ p)

-- what is written into a buffer lent for an input: the listing, or nothing where the buffer is shorter than the longest listing
unfoldable pub printed : List ℕ → List ℕ → List ℕ
printed input lines = cond (leb 3260 (length lines)) (listing input) []
