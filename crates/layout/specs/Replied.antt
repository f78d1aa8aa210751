-- What a layout says: the model's reply, with the bytes of the file at its numbers, and that its parts fit the file. Assumes nothing.
use Rattle.std.specs.Prelude.{◌≡◌, List, ℕ, ◌+◌, ◌-◌, ◌*◌, ◌≤◌, length, Result, Ok, Err}
use Rattle.model.specs.Replies.{Reply, refused, answered}
use Rattle.model.specs.Layout as model
use Rattle.layout.specs.declared.Parts.{Parts}
use Rattle.refusals.specs.declared.Refusal.{Refusal}
use Rattle.refusals.specs.Numbers.{number}

-- the model's parts: these counts, and the bytes of the file that lie there
unfoldable pub parts_of : List ℕ → Parts → model.Parts
parts_of file p =
    record {
      symbols = p.k;
      strings = p.s;
      numbers = p.t;
      automata = p.d;
      constraints = p.c;
      table_bytes = model.part 0 (8 * (64 * p.s + p.t)) file;
      constraint_bytes = model.part p.constraints_at (4 * p.c) file;
      automata_bytes = model.part p.automata_at (p.end - p.automata_at) file;
    }

-- the reply of the model that an answer stands for, by the paper's number of a refusal, with the bytes of the file
unfoldable pub reply_of : List ℕ → Result Parts Refusal → Reply model.Parts
reply_of file (Err e) = refused (number e)
reply_of file (Ok p) = answered (parts_of file p)

-- each part begins where the one before ends, all lie before the trailer, and the counts are in range
pub record PartsFit (file : List ℕ) (p : Parts) : Type 0 where
  pub table-end : p.constraints_at ≡ 8 * (64 * p.s + p.t)
  pub constraints-end : p.automata_at ≡ p.constraints_at + 4 * p.c
  pub automata-end : p.automata_at ≤ p.end
  pub trailer-end : p.end + 24 ≡ length file
  pub symbols-some : 1 ≤ p.k
  pub symbols-most : p.k ≤ 64
  pub strings-most : p.s ≤ 16
  pub numbers-most : p.t ≤ 16
  pub automata-most : p.d ≤ 8
  pub constraints-most : p.c ≤ 64

-- parts that are laid fit
abbrev pub Fitted : List ℕ → Result Parts Refusal → Type 0
Fitted file (Err e) = Unit {0}
Fitted file (Ok p) = PartsFit file p
