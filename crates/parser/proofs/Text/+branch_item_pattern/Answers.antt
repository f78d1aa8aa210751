use Rattle.std.proofs.Common.{◌≡◌, ◌≤◌, ◌<◌, ℕ, sym, ◌∙◌, arith}
use Rattle.patterns.proofs.FuelLaws.{ended-not}
use Rattle.parser.proofs.ReadLaws.{pat_bad, pat_ends, pat_more-bad, pat_more, bra_none, bra_bad, bra_more-bad, bra_more, itm_bad, itm_unclosed, itm_group, itm_letter, itm_other}
use Rattle.parser.proofs.Text.+branch_item_pattern.Goals as goal

small : {x y : ℕ} → x ≡ y → x < 39 → y < 39
small e l = omega arith

large : {x y : ℕ} → x ≡ y → 39 ≤ x → 39 ≤ y
large e l = omega arith

-- ---- a branch

pub branch-returns-then-is_end-clause-says : goal.branch-returns-then-is_end-clause-says
branch-returns-then-is_end-clause-says t c = bra_none _ _ _ (sym c.is_end.ensures ∙ c.if-is_end.true)

pub branch-item-requires : goal.branch-item-requires
branch-item-requires t c = let h = ended-not _ _ (sym c.is_end.ensures ∙ c.if-is_end.false) in omega arith

pub branch-returns-in_err-a-clause-says : goal.branch-returns-in_err-a-clause-says
branch-returns-in_err-a-clause-says t c =
    let on = sym c.is_end.ensures ∙ c.if-is_end.false in
    rw c.from_residual.ensures (bra_bad _ _ on (ended-not _ _ on) _ _ _ c.item.ensures.says c.in_err-a.was)

pub branch-returns-in_err-b-clause-says : goal.branch-returns-in_err-b-clause-says
branch-returns-in_err-b-clause-says t c =
    let on = sym c.is_end.ensures ∙ c.if-is_end.false in
    rw c.from_residual-in_err-b.ensures (bra_more-bad _ _ on (ended-not _ _ on) _ _ _ c.item.ensures.says _ c.in_ok-a.was c.in_ok-a.ensures.within.0 _ _ c.branch-self.ensures.says c.in_err-b.was)

pub branch-returns-clause-says : goal.branch-returns-clause-says
branch-returns-clause-says t c =
    let on = sym c.is_end.ensures ∙ c.if-is_end.false in
    bra_more _ _ on (ended-not _ _ on) _ _ _ c.item.ensures.says _ c.in_ok-a.was c.in_ok-a.ensures.within.0 _ _ c.branch-self.ensures.says _ _ _ c.in_ok-b.was c.link.ensures
    c.both.ensures

-- ---- an item

pub item-returns-in_err-a-clause-says : goal.item-returns-in_err-a-clause-says
item-returns-in_err-a-clause-says t c = rw c.from_residual.ensures (itm_bad _ _ c.if-b-eq40.true (omega arith) _ _ _ c.pattern.ensures.says c.in_err-a.was)

pub item-returns-then-sees-clause-says : goal.item-returns-then-sees-clause-says
item-returns-then-sees-clause-says t c =
    itm_group _ _ c.if-b-eq40.true (omega arith) _ _ _ c.pattern.ensures.says _ c.in_ok-a.was _ _ (sym c.sees.ensures ∙ c.if-sees.true) c.star.ensures

pub item-returns-then-b-eq40-clause-says : goal.item-returns-then-b-eq40-clause-says
item-returns-then-b-eq40-clause-says t c =
    itm_unclosed _ _ c.if-b-eq40.true (omega arith) _ _ _ c.pattern.ensures.says _ c.in_ok-a.was (sym c.sees.ensures ∙ c.if-sees.false)

pub item-returns-then-symbol_of-lt39-clause-says : goal.item-returns-then-symbol_of-lt39-clause-says
item-returns-then-symbol_of-lt39-clause-says t c =
    itm_letter _ _ c.if-b-eq40.false _ _ _ _ c.singleton-only.ensures (small c.symbol_of.ensures c.if-symbol_of-lt39.true) c.star-then-symbol_of-lt39.ensures

pub item-returns-clause-says : goal.item-returns-clause-says
item-returns-clause-says t c = itm_other _ _ c.if-b-eq40.false _ (large c.symbol_of.ensures c.if-symbol_of-lt39.false)

-- ---- a pattern

pub pattern-returns-in_err-a-clause-says : goal.pattern-returns-in_err-a-clause-says
pattern-returns-in_err-a-clause-says t c = rw c.from_residual.ensures (pat_bad _ _ _ _ _ c.branch-self.ensures.says c.in_err-a.was)

pub pattern-returns-in_err-b-clause-says : goal.pattern-returns-in_err-b-clause-says
pattern-returns-in_err-b-clause-says t c =
    rw c.from_residual-in_err-b.ensures (pat_more-bad _ _ _ _ _ c.branch-self.ensures.says _ c.in_ok-a.was c.in_ok-a.ensures.within.0 (sym c.sees.ensures ∙ c.if-sees.true) _ _ c.pattern.ensures.says c.in_err-b.was)

pub pattern-returns-then-sees-clause-says : goal.pattern-returns-then-sees-clause-says
pattern-returns-then-sees-clause-says t c =
    pat_more _ _ _ _ _ c.branch-self.ensures.says _ c.in_ok-a.was c.in_ok-a.ensures.within.0 (sym c.sees.ensures ∙ c.if-sees.true) _ _ c.pattern.ensures.says _ _ c.in_ok-b.was
    c.either.ensures

pub pattern-returns-clause-says : goal.pattern-returns-clause-says
pattern-returns-clause-says t c = pat_ends _ _ _ _ _ c.branch-self.ensures.says _ c.in_ok-a.was (sym c.sees.ensures ∙ c.if-sees.false)
