-- The test at a place of the text. Assumes nothing.
use Rattle.std.proofs.Common.{◌≡◌, ℕ, List, length, get_or, is_some, Option, Some, None, Bor}
use Rattle.std.specs.Option.{option_eq, option_map, unwrap_or}
use lib.Dec.{eqb, ltb}
use Rattle.model.specs.PatternText.{sees}

-- the byte that stands at place p, if there is one, is the other one
pub sees-get : (s : List ℕ) (p : ℕ) (x : Bor ℕ) (o : Option (Bor ℕ)) → is_some o ≡ ltb p (length s) → unwrap_or (option_map (λ (y : Bor ℕ). y.now) o) 0 ≡ get_or s p 0
    → option_eq (λ (y z : Bor ℕ). eqb y.now z.now) o (Some x) ≡ sees s p x.now
unfolding sees
sees-get s p x None i v = rw (← i)
sees-get s p x (Some y) i v = rw (← i, ← v)
