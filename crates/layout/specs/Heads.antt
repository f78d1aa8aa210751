-- What the numbers of a trailer say: the model's trailer, and where the parts lie. Assumes nothing.
use Rattle.std.specs.Prelude.{List, ℕ, ◌+◌, ◌*◌}
use Rattle.model.specs.Layout as model
use Rattle.layout.specs.declared.Parts.{Parts}
use Rattle.layout.specs.declared.Trailer.{Trailer}

-- the model's trailer with these numbers and this mark
unfoldable pub head_of : List ℕ → Trailer → model.Trailer
head_of mark h =
    record {
      symbols = h.k;
      strings = h.s;
      numbers = h.t;
      automata = h.d;
      constraints = h.c;
      spare = h.spare;
      table_back = h.table;
      constraints_back = h.constraints;
      automata_back = h.automata;
      mark = mark;
    }

-- "table (8 bytes a word), constraints (4 bytes each …), automata": where the parts of this trailer lie, if they abut and the trailer starts at this byte
unfoldable pub placed : Trailer → ℕ → Parts
placed h end =
    record {
      k = h.k;
      s = h.s;
      t = h.t;
      d = h.d;
      c = h.c;
      constraints_at = 8 * (64 * h.s + h.t);
      automata_at = 8 * (64 * h.s + h.t) + 4 * h.c;
      end = end;
    }
