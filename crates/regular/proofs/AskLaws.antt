-- What is kept of a word that was asked goes on to be right, and asking one symbol of each kind answers for the word. Assumes nothing.
use mathlib.Core.Path.{◌≡◌, refl, sym, subst}
use mathlib.Core.Logic.{inl, inr, ⊎_elim}
use mathlib.Core.Bool.{true}
use mathlib.Core.List.{List}
use Prim.Native.Nat.{ℕ, ◌<◌, ◌^◌}
use lib.Bits.{bit_and}
use lib.ListN.{replicate, length-replicate, get_or-replicate}
use Rattle.std.specs.Prelude.{Option}
use Rattle.model.specs.Words.{none_from}
use Rattle.automata.specs.StateSets.{Successors, Steps, Targets, Forgotten}
use Rattle.automata.specs.Kinds.{Firsts, AllOf}
use Rattle.automata.proofs.SetLaws.{no-bit, gathered_empty}
use Rattle.automata.proofs.KindLaws.{firsts-low, firsts-successors, firsts-steps}
use Rattle.automata.proofs.TargetLaws.{targets-none, targets_unasked}
use Rattle.regular.specs.declared.Asked.{Asked}
use Rattle.regular.specs.declared.Moved.{Moved}
use Rattle.regular.specs.declared.Place.{Place}
use Rattle.regular.specs.Asks.{machine_of, states_of, kinds_of, Asking, Turned, Keeps, Forwards, Kept}

-- a place like the one that was asked last
pub alike : (a : Asked) (p : Place) (m : Moved) (allowed from into : ℕ) → Kept a p m → allowed ≡ p.allowed → from ≡ p.from → into ≡ p.into
    → Steps (machine_of a) (states_of a) a.automaton.k allowed from into p.symbols p.states
alike a p m allowed from into g e f h = rw (e, f, h) g.steps

-- ---- the word that is asked

pub forgotten_start : Forgotten (replicate 32 0)
forgotten_start = record { size = length-replicate {A = ℕ} 32 0; none = λ p h. get_or-replicate 32 p 0 0 h }

module _ (kinds : Option (List ℕ)) (symbols : ℕ) (old : Moved) where
  pub turned_same : symbols ≡ old.word → Firsts kinds old.word old.firsts → Turned kinds symbols old old
  turned_same e f = record { word = sym e; firsts = subst (λ (w : ℕ). Firsts kinds w old.firsts) (sym e) f; kept = inl (refl, inl refl) }

  pub turned-other : (r : ℕ) (tos : List ℕ) → Firsts kinds symbols r → Forgotten tos → Turned kinds symbols old (record { word = symbols; firsts = r; tos = tos })
  turned-other r tos f g = record { word = refl; firsts = f; kept = inr g }

  -- nothing was asked before
  pub turned-first : (r : ℕ) → Firsts kinds symbols r → old.firsts ≡ 0 → Turned kinds symbols old (record { word = symbols; firsts = r; tos = old.tos })
  turned-first r f z = record { word = refl; firsts = f; kept = inl (refl, inr z) }

module _ (a : Asked) where
  -- nothing is asked yet
  pub forwards_none : (m : Moved) → m.word ≡ 0 → m.firsts ≡ 0 → Forgotten m.tos → Forwards a (record { set = 0; symbols = 0; states = 0 }) m
  forwards_none m w z f = record {
    steps = gathered_empty _ a.automaton.k (λ b t x. no-bit 0 b refl x.0);
    keeps = record {
      first = record { within = λ b y. absurd (no-bit m.firsts b z y); each = λ b y. absurd (no-bit m.word b w y) };
      targets = targets-none _ _ _ _ m.tos a.automaton.whole.most-states f;
    };
  }

  module _ (asking : Asking a) (symbols : ℕ) (old new : Moved) (turned : Turned (kinds_of a) symbols old new) where
    pub turned-targets : Keeps a old → Targets (machine_of a) (states_of a) a.automaton.k new.firsts new.tos
    turned-targets g = ⊎_elim
        (λ e.
        let h : Targets (machine_of a) (states_of a) a.automaton.k old.firsts new.tos =
        subst (Targets (machine_of a) (states_of a) a.automaton.k old.firsts) (sym e.0) g.targets in
        ⊎_elim
        (λ q. subst (λ (w : ℕ). Targets (machine_of a) (states_of a) a.automaton.k w new.tos) (sym q) h)
        (λ z. targets_unasked _ _ a.automaton.k new.firsts new.tos (subst (λ (w : ℕ). Targets (machine_of a) (states_of a) a.automaton.k w new.tos) z h))
        e.1)
        (targets-none _ _ _ _ new.tos a.automaton.whole.most-states)
        turned.kept

    module _ (low : none_from a.automaton.k symbols ≡ true) (fits : symbols < 2 ^ 64) where
      pub turned-low : none_from a.automaton.k new.firsts ≡ true
      turned-low = firsts-low _ _ a.automaton.k (kinds_of a) symbols new.firsts a.automaton.few asking.kinds low fits turned.firsts

      -- what is kept of the states once they are asked
      kept-now : (tos : List ℕ) → Targets (machine_of a) (states_of a) a.automaton.k new.firsts tos → Keeps a (record new { tos = tos })
      kept-now tos g = record { first = subst (λ (w : ℕ). Firsts (kinds_of a) w new.firsts) (sym turned.word) turned.firsts; targets = g }

      pub forwards_kinds : (set s : ℕ) (tos : List ℕ) → Successors (machine_of a) (states_of a) a.automaton.k set new.firsts s
          × Targets (machine_of a) (states_of a) a.automaton.k new.firsts tos
          → Forwards a (record { set = set; symbols = symbols; states = s }) (record new { tos = tos })
      forwards_kinds set s tos g = record {
        steps = firsts-successors _ _ a.automaton.k (kinds_of a) symbols new.firsts a.automaton.few asking.kinds low fits turned.firsts set s g.0;
        keeps = kept-now tos g.1;
      }

      pub backwards_kinds : (from into ss states all : ℕ) (tos : List ℕ) → Steps (machine_of a) (states_of a) a.automaton.k new.firsts from into ss states
          × Targets (machine_of a) (states_of a) a.automaton.k new.firsts tos → AllOf (kinds_of a) ss all
          → Kept a (record { allowed = symbols; from = from; into = into; symbols = bit_and symbols all; states = states }) (record new { tos = tos })
      backwards_kinds from into ss states all tos g h = record {
        steps = firsts-steps _ _ a.automaton.k (kinds_of a) symbols new.firsts a.automaton.few asking.kinds low fits turned.firsts from into ss states all g.0 h;
        keeps = kept-now tos g.1;
      }
