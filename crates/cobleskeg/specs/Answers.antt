-- What the answers of the entries say in the model's words. Assumes nothing.
use Rattle.std.specs.Prelude.{◌≡◌, true, false, List, ℕ, Result, Ok, Err}
use Rattle.model.specs.Constraints.{Problem}
use Rattle.model.specs.Replies.{Reply, refused, answered}
use Rattle.model.specs.Operations as model
use Rattle.model.specs.Queue.{Queued}
use Rattle.model.specs.Compile.{Compiled}
use Rattle.laws.specs.Lent.{lendable, unlendable}
use Rattle.refusals.specs.declared.Refusal.{Refusal}
use Rattle.refusals.specs.Numbers.{number}
use Rattle.search.specs.declared.Outcome.{Outcome}
use Rattle.search.specs.Outcomes.{outcome_of}
use Rattle.cobleskeg.specs.declared.Header.{Header}
use Rattle.cobleskeg.specs.declared.Settled.{Settled}

-- the reply that an answer stands for: the number of its refusal, or what its value stands for
abbrev pub reply : {A B : Type 0} → (A → B) → Result A Refusal → Reply B
reply f (Err e) = refused (number e)
reply f (Ok a) = answered (f a)

unfoldable pub header_of : Header → model.Header
header_of h =
    record {
      symbols = h.symbols;
      strings = h.strings;
      numbers = h.numbers;
      automata = h.automata;
      constraints = h.constraints;
    }

abbrev pub read_reply : Result Header Refusal → Reply model.Header
read_reply = reply header_of

-- the lent table afterwards is what Unpack made of it
abbrev pub unpack_reply : List ℕ → Result (Unit {0}) Refusal → Reply (List ℕ)
unpack_reply T = reply (λ a. T)

-- the lent table may be worked on, or is refused by 9 or 10
abbrev pub Lends : Problem → List ℕ → Result (Unit {0}) Refusal → Type 0
Lends P T (Ok a) = lendable P T ≡ true
Lends P T (Err e) = (lendable P T ≡ false) × (number e ≡ unlendable P T)

-- U is the lent table afterwards
abbrev pub step_reply : List ℕ → Result ℕ Refusal → Reply model.Stepped
step_reply U = reply (λ n. record { struck = n; table = U })

abbrev pub settle_reply : List ℕ → Result Settled Refusal → Reply model.Settlement
settle_reply U = reply (λ (r : Settled). record { rounds = r.count; every_value = r.every_value; table = U })

-- I is the lent index afterwards
abbrev pub index_reply : List ℕ → Result (Unit {0}) Refusal → Reply (List ℕ)
index_reply I = reply (λ a. I)

-- U is the lent table afterwards
abbrev pub settle_by_index_reply : List ℕ → Result Settled Refusal → Reply Queued
settle_by_index_reply U = reply (λ (r : Settled). record { steps = r.count; every_value = r.every_value; table = U })

-- R and U are the lent room and the answer table afterwards
abbrev pub search_reply : List ℕ → List ℕ → Result Outcome Refusal → Reply model.Searched
search_reply R U = reply (λ o. record { outcome = outcome_of o; room = R; table = U })

-- C is the lent buffer afterwards
abbrev pub compile_reply : List ℕ → Result ℕ Refusal → Reply Compiled
compile_reply C = reply (λ n. record { written = n; buffer = C })
