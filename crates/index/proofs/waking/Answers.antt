use Rattle.std.proofs.Common.{arith, rules, refl, ◌<◌, [], ◌∷◌, length-append}
use Rattle.std.proofs.lemmas.Slice.Zip.{zip_turn, zip_end}
use Rattle.laws.proofs.ListLaws.{get_or_in}
use Rattle.index.specs.Standing.{listed}
use Rattle.index.proofs.KindLaws.{standing-inside}
use Rattle.index.proofs.WakingLaws.{quiet-wakes, woken_start, woken_more, woken_same, woken_end}
use Rattle.index.proofs.waking.Goals as goal

pub returns-then-not-changed : goal.returns-then-not-changed
returns-then-not-changed c = quiet-wakes _ _ _ _ (search rules) (search rules) (search rules)

pub loop-i-init : goal.loop-i-init
loop-i-init c = (search rules, search rules, woken_start _ _ _ _)

pub offset_bounds-ix-i : goal.offset_bounds-ix-i
offset_bounds-ix-i c =
    let t = zip_turn (listed c.positions_of.result) _ _ _ _ c.next.new.self _ (search rules) refl c.loop-i.yielded_by _ c.in-Some.is c.next.ensures.steps in
    let h = standing-inside _ _ _ c.requires.1 c.positions_of.ensures _ (get_or_in _ _ 0 t.0) in
    let l : c.in-Some.field-0-0.now < 32 = omega (arith, t.2 0) in
    search rules

pub bounds-ix-i : goal.bounds-ix-i
bounds-ix-i c =
    let t = zip_turn (listed c.positions_of.result) _ _ _ _ c.next.new.self _ (search rules) refl c.loop-i.yielded_by _ c.in-Some.is c.next.ensures.steps in
    rw (t.2 0) (standing-inside _ _ _ c.requires.1 c.positions_of.ensures _ (get_or_in _ _ 0 t.0))

pub loop-i-preserved-then-changed : goal.loop-i-preserved-then-changed
loop-i-preserved-then-changed c =
    let n = c.args.changed in
    let t = zip_turn (listed c.positions_of.result) (n.x ∷ n.y ∷ n.z ∷ []) _ _ _ c.next.new.self _ (search rules) (search rules) c.loop-i.yielded_by _ c.in-Some.is c.next.ensures.steps in (
      search rules,
      search rules,
      woken_more _ _ _ _ _ c.positions_of.ensures _ _ c.loop-i.invariant.2 _ _ t.0 t.1 (t.2 0) (t.3 _) _ (omega (arith, length-append c.loop-i.yielded)) c.if-changed.true,
    )

pub loop-i-preserved : goal.loop-i-preserved
loop-i-preserved c =
    let n = c.args.changed in
    let t = zip_turn (listed c.positions_of.result) (n.x ∷ n.y ∷ n.z ∷ []) _ _ _ c.next.new.self _ (search rules) (search rules) c.loop-i.yielded_by _ c.in-Some.is c.next.ensures.steps in (
      search rules,
      search rules,
      woken_same _ _ _ _ _ c.positions_of.ensures _ _ c.loop-i.invariant.2 _ _ t.0 t.1 (t.2 0) (t.3 _) _ (omega (arith, length-append c.loop-i.yielded)) c.if-changed.false,
    )

pub returns : goal.returns
returns c =
    let n = c.args.changed in
    woken_end _ _ _ _ _ c.positions_of.ensures _ _ c.loop-i.invariant.2
    (zip_end (listed c.positions_of.result) (n.x ∷ n.y ∷ n.z ∷ []) _ _ _ c.next.new.self _ (search rules) (search rules) c.loop-i.yielded_by c.in-None.is c.next.ensures.steps)
