-- What Compile answers and leaves, by what the compiler told. Assumes nothing.
use mathlib.Core.Path.{◌≡◌, refl, sym, ap, ap₂, subst, ◌∙◌}
use mathlib.Core.List.{List, ◌++◌}
use Prim.Native.Nat.{ℕ, ◌≤◌}
use native.Mathlib.Omega.{arith}
use lib.ListN.{length, take, drop, length-append}
use lib.Seq.{take-append_seam}
use Rattle.std.specs.Prelude.{Result, Ok, Err}
use Rattle.model.specs.Replies.{Reply, refused, answered, and_then, leaves}
use Rattle.model.specs.Compile.{Compiled, compiled_bytes, compile, AcceptsLanguage}
use Rattle.laws.proofs.ReplyLaws.{answered_inj, and_then-answered}
use Rattle.patterns.proofs.CompileLaws.{compiled}
use Rattle.refusals.specs.declared.Refusal.{Refusal}
use Rattle.compiler.specs.Answers.{Told}
use Rattle.cobleskeg.specs.Answers.{compile_reply}
use Rattle.cobleskeg.specs.Claims.{CompileHolds}

module _ (s : List ℕ) (k : ℕ) (B C : List ℕ) where
  -- the reply, the buffer afterwards, and the claim on what was written
  abbrev Leaves : Result ℕ Refusal → Type 0
  Leaves r = (compile_reply C r ≡ compile k s B) × (C ≡ leaves (λ (a : Compiled). a.buffer) (compile k s B) B) × CompileHolds s k r C

  pub compile_told : (r : Result ℕ Refusal) → Told (compiled_bytes k s (length B)) B C r → Leaves r
  unfolding compile and_then leaves Told
  compile_told r h = go (compiled_bytes k s (length B)) refl r h
    where
      go : (R : Reply (List ℕ)) → compiled_bytes k s (length B) ≡ R → (r : Result ℕ Refusal) → Told R B C r → Leaves r
      go (refused m) e (Err x) h = (rw e (ap refused h.0), rw e h.1, λ n q. cc)
      go (refused m) e (Ok n) h = absurd h
      go (answered bs) e (Err x) h = absurd h
      go (answered bs) e (Ok n) h =
          let whole : C ≡ bs ++ drop (length bs) B = h.1 ∙ ap (λ (m : ℕ). bs ++ drop m B) h.0 in (
            rw e (ap₂ (λ (m : ℕ) (D : List ℕ). answered (record { written = m; buffer = D })) h.0 whole),
            rw e whole,
            λ m q.
                let same : n ≡ m = cc in
                subst (AcceptsLanguage k s) (sym (ap₂ take (sym same ∙ h.0) whole ∙ take-append_seam bs (drop (length bs) B))) (compiled k s (length B) bs e),
          )

-- no more bytes are written than the buffer has
pub written-within : (s : List ℕ) (k : ℕ) (B C : List ℕ) (n : ℕ) → compile_reply C (Ok n) ≡ compile k s B → n ≤ length C
unfolding compile
written-within s k B C n h =
    let t = and_then-answered (compiled_bytes k s (length B)) _ (record { written = n; buffer = C }) (sym h) in
    let q = answered_inj t.2 in
    let count : length t.0 ≡ n = ap (λ (a : Compiled). a.written) q in
    let whole : t.0 ++ drop (length t.0) B ≡ C = ap (λ (a : Compiled). a.buffer) q in
    let size = ap length (sym whole) ∙ length-append t.0 (drop (length t.0) B) in
    omega arith
