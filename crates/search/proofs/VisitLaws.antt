-- What a visit leads to: from the words that the code tests to the moves of a search, and from the moves to what a visit says. Assumes nothing.
use Rattle.std.specs.Prelude.{Option, Some, None}
use Rattle.std.specs.Option.{unwrap_or}
use mathlib.Core.Path.{◌≡◌, refl, sym, ap, subst, ◌∙◌}
use mathlib.Core.Bool.{Bool, true, false}
use mathlib.Core.List.{List, ◌++◌, map}
use Prim.Native.Nat.{ℕ, suc, ◌+◌, ◌-◌, ◌*◌, ◌^◌, ◌≤◌, ◌<◌}
use native.Mathlib.Omega.{arith}
use lib.Dec.{leb}
use lib.ListN.{length, set, take, drop}
use lib.Pow.{pow_pos}
use borrow.Author.Tests.{leb-true, leb-false}
use Rattle.model.specs.Words.{word}
use Rattle.model.specs.Layout.{little}
use Rattle.model.specs.Reading.{pieces}
use Rattle.model.specs.Constraints.{Problem, width}
use Rattle.model.specs.Rounds.{every_value, settled}
use Rattle.model.specs.Tree.{found}
use Rattle.laws.specs.Lent.{Stable, lendable}
use Rattle.laws.specs.Traversal.{At, base}
use Rattle.laws.proofs.WordLaws.{bit_le}
use Rattle.laws.proofs.BitsLaws.{two-bits, several_true, several_false}
use Rattle.laws.proofs.TableLaws.{below-words}
use Rattle.laws.proofs.RoundLaws.{settled-below, settled-stable}
use Rattle.laws.proofs.CallLaws.{lendable-length}
use Rattle.laws.proofs.ReadingLaws.{Sound}
use Rattle.laws.proofs.SliceLaws.{replaced}
use Rattle.laws.proofs.StackLaws.{stack-lendable}
use Rattle.shortcuts.specs.Waiting.{Early}
use Rattle.shortcuts.specs.Kept.{Keeping}
use Rattle.shortcuts.proofs.KeptLaws.{KeptMove, at_from, keeping-solved, keeping-over, keeping-down, keeping-sibling, keeping-restart, sibling-stable}
use Rattle.words.specs.Ends.{Lowest}
use Rattle.format.specs.declared.problem.Problem as accepted
use Rattle.format.specs.Accepting.{content_of}
use Rattle.format.specs.Problems.{the_problem, the_table}
use Rattle.format.proofs.ContentLaws.{usable-sound, usable-width, usable-bytes, usable-table}
use Rattle.waiting.specs.Beginnings.{ChildAt}
use Rattle.room.specs.Tables.{table_at, Tables, Down, Sibling, Restart, First, AllSingle, Last, NoneWait}
use Rattle.room.proofs.TableAtLaws.{tables-of, table_at-word, table_at-length, lent-part, lent-current}
use Rattle.search.specs.declared.Path.{Path}
use Rattle.search.specs.declared.Visited.{Visited}
use Rattle.search.specs.declared.Visited.TheVariants.{Solved, Over, On}
use Rattle.search.specs.Visits.{GoesDown, nothing_open, downwards, GoesBack, nothing-waits, to-sibling, to-restart}
use Rattle.search.specs.Visits.{words_in, Standing, StandsIn, Moves, Visits}

-- ---- from the words to the moves

-- two of the room's tables, as parts that are lent
pub current-part : (m : ℕ) (R : List ℕ) → take m R ≡ table_at m 0 R
current-part m R = lent-part m 0 0 m R (omega arith) refl

waiting-part : (m : ℕ) (R : List ℕ) → take (3 * m - 2 * m) (drop (2 * m) R) ≡ table_at m 2 R
waiting-part m R = lent-part m 2 (2 * m) (3 * m - 2 * m) R (omega arith) (omega arith)

module _ (m : ℕ) (R : List ℕ) (fits : 3 * m ≤ length R) (depth : ℕ) where
  pub solved-here : AllSingle (take m R) depth → GoesDown m depth R R Solved
  solved-here f = nothing_open refl (subst (λ (T : List ℕ). AllSingle T depth) (current-part m R) f)

  -- the first word with several values
  module _ (at : ℕ) (f : First (take m R) depth at) where
    first-there : First (table_at m 0 R) depth at
    first-there = subst (λ (T : List ℕ). First T depth at) (current-part m R) f

    inside : at < m
    inside = omega (arith, first-there.inside, table_at-length m 0 R (omega arith) fits)

    pub down-there : (3 * m ≤ length R) × (at < m) × (0 < word R at)
    down-there =
        let z : m * 0 + at ≡ at = omega arith in
        let e : word (table_at m 0 R) at ≡ word R at = table_at-word m 0 at R inside ∙ ap (word R) z in
        let b = two-bits (word (table_at m 0 R) at) (several_true _ first-there.here) in
        (fits, inside, omega (arith, e, pow_pos b.0, bit_le (word (table_at m 0 R) at) b.0 b.2))

    pub down-next : (U : List ℕ) → Down m at R U → GoesDown m depth R U (On (record { from = Some at; depth = at + 1; kept = Some at }))
    down-next U d = downwards at first-there d

module _ (m : ℕ) (R : List ℕ) (fits : 3 * m ≤ length R) (path : Path) (deep : path.depth ≤ m) where
  pub over-here : (F : List ℕ) → NoneWait (take (3 * m - 2 * m) (drop (2 * m) R)) path.depth → GoesBack F m path R R Over
  over-here F l = nothing-waits refl (subst (λ (T : List ℕ). NoneWait T path.depth) (waiting-part m R) l)

  -- the last word at which a value waits
  module _ (at : ℕ) (l : Last (take (3 * m - 2 * m) (drop (2 * m) R)) path.depth at) where
    last-there : Last (table_at m 2 R) path.depth at
    last-there = subst (λ (T : List ℕ). Last T path.depth at) (waiting-part m R) l

    pub back-there : (3 * m ≤ length R) × (at < m) × (0 < word R (2 * m + at))
    back-there =
        let h : at < m = omega (arith, last-there.most) in
        let z : m * 2 + at ≡ 2 * m + at = omega arith in
        let e : word (table_at m 2 R) at ≡ word R (2 * m + at) = table_at-word m 2 at R h ∙ ap (word R) z in
        (fits, h, subst (λ (w : ℕ). 0 < w) e last-there.here)

    pub sibling-next : (F U : List ℕ) → path.kept ≡ Some at → Sibling m at R U
        → GoesBack F m path R U (On (record { from = Some at; depth = at + 1; kept = Some at }))
    sibling-next F U e b = to-sibling at last-there e b

    pub restart-next : (F U : List ℕ) → Restart F m at R U → GoesBack F m path R U (On (record { from = None; depth = at + 1; kept = path.kept }))
    restart-next F U b = to-restart at last-there b

-- ---- from the moves to what a visit says

On≢Solved : {next : Path} → On next ≡ Solved → ⊥
On≢Solved e = let z : ◌≡◌ {A = ℕ} 0 1 = cc in omega arith

On≢Over : {next : Path} → On next ≡ Over → ⊥
On≢Over e = let z : ◌≡◌ {A = ℕ} 0 1 = cc in omega arith

Solved≢Over : Solved ≡ Over → ⊥
Solved≢Over e = let z : ◌≡◌ {A = ℕ} 0 1 = cc in omega arith

same_path : {a b : Path} → On a ≡ On b → a ≡ b
same_path e = cc

-- the file's table, as its bytes have it
pub the_table-is : (p : accepted.Problem) → the_table p ≡ map little (pieces (words_in p) 8 (take p.parts.constraints_at p.file.now))
the_table-is p = rw (usable-width p.file.now p.parts p.usable) (usable-table p.file.now p.parts p.usable)

pub table-bytes : (p : accepted.Problem) → length (take p.parts.constraints_at p.file.now) ≡ 8 * words_in p
table-bytes p = rw (usable-width p.file.now p.parts p.usable) (usable-bytes p.file.now p.parts p.usable)

-- what a visit begins with: in the room the tables of a search
pub record Visiting (p : accepted.Problem) (path : Path) (R : List ℕ) : Type 0 where
  pub fits : 3 * words_in p ≤ length R
  pub stands : StandsIn p path R

module _ {p : accepted.Problem} {path : Path} {R : List ℕ} (v : Visiting p path R) where
  abbrev P : Problem
  P = the_problem p

  abbrev F : List ℕ
  F = the_table p

  abbrev m : ℕ
  m = words_in p

  abbrev cur : List ℕ
  cur = table_at m 0 R

  abbrev kept : List ℕ
  kept = table_at m 1 R

  abbrev alt : List ℕ
  alt = table_at m 2 R

  -- the current node
  abbrev node : List ℕ
  node = settled P cur

  -- the word that the kept table was branched at; no word where there is none
  abbrev k₀ : ℕ
  k₀ = unwrap_or path.kept m

  sound : Sound (content_of p.file.now p.parts)
  sound = usable-sound p.file.now p.parts p.usable p.bytes

  file-length : length F ≡ width P
  file-length = lendable-length P F sound.own-table

  node-length : length node ≡ m
  node-length = (settled-below P cur).same_length ∙ table_at-length m 0 R (omega arith) v.fits

  pub current-lendable : lendable P (take m R) ≡ true
  current-lendable = ap (lendable P) (current-part m R) ∙ stack-lendable P F v.stands.1.keeping.stack sound.own-table

  pub current-begun : ChildAt P (take m R) path.from
  current-begun = subst (λ (T : List ℕ). ChildAt P T path.from) (sym (current-part m R)) v.stands.1.begun

  -- the room once its first table was lent, settled, and has come back
  settled-tables : (ys : List ℕ) → length ys ≡ m → Tables m (ys ++ drop m R) ys kept alt (drop (3 * m) R)
  unfolding replaced
  settled-tables ys e = lent-current m R _ _ _ _ (tables-of m R) ys v.fits e

  module _ (ys S : List ℕ) (t : Tables m S ys kept alt (drop (3 * m) R)) (U : List ℕ) where
    -- every variable has a value, and the table is settled
    module _ (e : Early P (take m R) ys true) where
      node-there : table_at m 0 S ≡ node
      node-there = t.current ∙ e.table refl ∙ ap (settled P) (current-part m R)

      alive : every_value P node ≡ true
      alive = sym (e.says ∙ ap (λ (T : List ℕ). every_value P (settled P T)) (current-part m R))

      first_in : (at : ℕ) → First (table_at m 0 S) path.depth at → First node path.depth at
      first_in at f = subst (λ (T : List ℕ). First T path.depth at) node-there f

      all_single : AllSingle (table_at m 0 S) path.depth → AllSingle node path.depth
      all_single f = subst (λ (T : List ℕ). AllSingle T path.depth) node-there f

      module _ (dec : List ℕ) (s : Standing p path R dec) where
        down-moved : (at : ℕ) → at < m → First (table_at m 0 S) path.depth at → (d : Down m at S U)
            → KeptMove P F cur dec alt (table_at m 0 U) (set dec at (2 ^ d.value)) (table_at m 1 U) (table_at m 2 U) at (suc at)
        down-moved at h f d =
            let g = first_in at f in
            let low : Lowest (word node at) d.value = subst (λ (T : List ℕ). Lowest (word T at) d.value) node-there d.lowest in
            let here : At node at = at_from P sound.well_formed F sound.words file-length s.keeping at g.least (omega arith) (several_true _ g.here) (λ j l n. several_false _ (g.before j l n)) in
            rw (d.tables.current, d.tables.kept, d.tables.waiting, node-there, t.waiting)
            (keeping-down P sound.well_formed F sound.words file-length s.keeping at d.value here alive low.here low.below)

        down-moves : (at : ℕ) → at < m → First (table_at m 0 S) path.depth at → Down m at S U → Moves p R dec (record { from = Some at; depth = at + 1; kept = Some at }) U
        down-moves at h f d =
            let k = down-moved at h f d in
            let deeper : suc at ≡ at + 1 = omega arith in
            record {
              decisions = set dec at (2 ^ d.value);
              standing = record {
                keeping = subst (λ (n : ℕ). Keeping P F (table_at m 0 U) (set dec at (2 ^ d.value)) (table_at m 1 U) (table_at m 2 U) at n) deeper k.keeping;
                begun = (
                  h,
                  record {
                    node = node;
                    value = d.value;
                    long = node-length;
                    stable = settled-stable P cur (below-words s.keeping.stack.current sound.words);
                    is = d.tables.current ∙ ap (λ (T : List ℕ). set T at (2 ^ d.value)) node-there;
                  },
                );
                inside = omega arith;
              };
              visits = k.visits;
            }

      visit-down : (r : Visited) → GoesDown m path.depth S U r → Visits p path R U r
      visit-down r d = go d
        where
          go : {r : Visited} → GoesDown m path.depth S U r → Visits p path R U r
          go (nothing_open q f) = record {
            beyond = ap (drop (3 * m)) q ∙ t.beyond;
            solved = λ h dec s A i b.
                keeping-solved P sound.well_formed F sound.words file-length s.keeping alive
                (λ j l n. several_false _ ((all_single f).single j l (omega (arith, node-length)))) A i b
                ∙ ap (λ (T : List ℕ). record { outcome = found (suc i); table = T }) (sym (ap (table_at m 0) q ∙ node-there));
            over = λ h. absurd (Solved≢Over h);
            on = λ next h. absurd (On≢Solved (sym h));
          }
          go (downwards at f d) =
              let l : at < m = omega (arith, (first_in at f).inside, node-length) in
              record {
                beyond = d.tables.beyond ∙ t.beyond;
                solved = λ h. absurd (On≢Solved h);
                over = λ h. absurd (On≢Over h);
                on = λ next h dec s. subst (λ (n : Path). Moves p R dec n U) (same_path h) (down-moves dec s at l f d);
              }

    -- a variable has no value, whatever the table has become
    module _ (e : Early P (take m R) ys false) where
      dead : every_value P node ≡ false
      dead = sym (e.says ∙ ap (λ (T : List ℕ). every_value P (settled P T)) (current-part m R))

      last_in : (at : ℕ) → Last (table_at m 2 S) path.depth at → Last alt path.depth at
      last_in at l = subst (λ (T : List ℕ). Last T path.depth at) t.waiting l

      module _ (dec : List ℕ) (s : Standing p path R dec) (at : ℕ) (l : Last (table_at m 2 S) path.depth at) where
        last-inside : at < width P
        last-inside = omega (arith, s.inside, l.most)

        -- nothing waits behind it
        past : (j : ℕ) → suc at ≤ j → j < width P → word alt j ≡ 0
        past j h i = go (leb path.depth j) refl
          where
            go : (b : Bool) → leb path.depth j ≡ b → word alt j ≡ 0
            go true q = s.keeping.clear j (leb-true path.depth j q) i
            go false q = (last_in at l).after j (omega (arith, h)) (leb-false path.depth j q)

        deeper : suc at ≡ at + 1
        deeper = omega arith

        module _ (value : ℕ) (lowest : Lowest (word (table_at m 2 S) at) value) where
          low : Lowest (word alt at) value
          low = subst (λ (T : List ℕ). Lowest (word T at) value) t.waiting lowest

          sibling-move : at ≡ k₀
              → KeptMove P F cur dec alt (set kept at (2 ^ value)) (set (base F dec at) at (2 ^ value)) kept
              (set alt at (word alt at - 2 ^ value)) k₀ (suc at)
          sibling-move q = keeping-sibling P sound.well_formed F sound.words file-length s.keeping at value dead last-inside low.here low.below past q

          restart-move : KeptMove P F cur dec alt (set (base F kept at) at (2 ^ value)) (set (base F dec at) at (2 ^ value)) kept
              (set alt at (word alt at - 2 ^ value)) k₀ (suc at)
          restart-move = keeping-restart P sound.well_formed F sound.words file-length s.keeping at value dead last-inside low.here low.below past

          kept-stable : at ≡ k₀ → Stable P kept
          kept-stable q = (sibling-stable P sound.well_formed F sound.words file-length s.keeping at value dead last-inside low.here low.below past q).0

        sibling-moves : path.kept ≡ Some at → Sibling m at S U → Moves p R dec (record { from = Some at; depth = at + 1; kept = Some at }) U
        sibling-moves e d =
            let q : at ≡ k₀ = sym (ap (λ (o : Option ℕ). unwrap_or o m) e) in
            let k : KeptMove P F cur dec alt (table_at m 0 U) (set (base F dec at) at (2 ^ d.value)) (table_at m 1 U) (table_at m 2 U) k₀ (suc at) =
            rw (d.tables.current, d.tables.kept, d.tables.waiting, t.kept, t.waiting) (sibling-move d.value d.lowest q) in
            record {
              decisions = set (base F dec at) at (2 ^ d.value);
              standing = record {
                keeping = subst (λ (n : ℕ). Keeping P F (table_at m 0 U) (set (base F dec at) at (2 ^ d.value)) (table_at m 1 U) (table_at m 2 U) n (at + 1)) (sym q)
                    (subst (λ (n : ℕ). Keeping P F (table_at m 0 U) (set (base F dec at) at (2 ^ d.value)) (table_at m 1 U) (table_at m 2 U) k₀ n) deeper k.keeping);
                begun = (
                  last-inside,
                  record {
                    node = kept;
                    value = d.value;
                    long = table_at-length m 1 R (omega arith) v.fits;
                    stable = kept-stable d.value d.lowest q;
                    is = d.tables.current ∙ ap (λ (T : List ℕ). set T at (2 ^ d.value)) t.kept;
                  },
                );
                inside = omega (arith, s.inside, l.most);
              };
              visits = k.visits;
            }

        restart-moves : Restart F m at S U → Moves p R dec (record { from = None; depth = at + 1; kept = path.kept }) U
        restart-moves d =
            let k : KeptMove P F cur dec alt (table_at m 0 U) (set (base F dec at) at (2 ^ d.value)) (table_at m 1 U) (table_at m 2 U) k₀ (suc at) =
            rw (d.tables.current, d.tables.kept, d.tables.waiting, t.kept, t.waiting) (restart-move d.value d.lowest) in
            record {
              decisions = set (base F dec at) at (2 ^ d.value);
              standing = record {
                keeping = subst (λ (n : ℕ). Keeping P F (table_at m 0 U) (set (base F dec at) at (2 ^ d.value)) (table_at m 1 U) (table_at m 2 U) k₀ n) deeper k.keeping;
                begun = tt;
                inside = omega (arith, s.inside, l.most);
              };
              visits = k.visits;
            }

      visit-back : (r : Visited) → GoesBack (map little (pieces m 8 (take p.parts.constraints_at p.file.now))) m path S U r → Visits p path R U r
      visit-back r d = go (subst (λ (T : List ℕ). GoesBack T m path S U r) (sym (the_table-is p)) d)
        where
          go : {r : Visited} → GoesBack F m path S U r → Visits p path R U r
          go (nothing-waits q z) = record {
            beyond = ap (drop (3 * m)) q ∙ t.beyond;
            solved = λ h. absurd (Solved≢Over (sym h));
            over = λ h dec s. keeping-over P sound.well_formed F sound.words file-length s.keeping dead
                (λ j n i. (subst (λ (T : List ℕ). NoneWait T path.depth) t.waiting z).zero j n);
            on = λ next h. absurd (On≢Over (sym h));
          }
          go (to-sibling at l q d) = record {
            beyond = d.tables.beyond ∙ t.beyond;
            solved = λ h. absurd (On≢Solved h);
            over = λ h. absurd (On≢Over h);
            on = λ next h dec s. subst (λ (x : Path). Moves p R dec x U) (same_path h) (sibling-moves dec s at l q d);
          }
          go (to-restart at l d) = record {
            beyond = d.tables.beyond ∙ t.beyond;
            solved = λ h. absurd (On≢Solved h);
            over = λ h. absurd (On≢Over h);
            on = λ next h dec s. subst (λ (x : Path). Moves p R dec x U) (same_path h) (restart-moves dec s at l d);
          }

  -- the first table was lent to be settled, and has come back as ys
  module _ (ys : List ℕ) (b : Bool) (e : Early P (take m R) ys b) (U : List ℕ) (r : Visited) where
    long : length ys ≡ m
    long = e.same_length ∙ ap length (current-part m R) ∙ table_at-length m 0 R (omega arith) v.fits

    pub settled-down : b ≡ true → GoesDown m path.depth (ys ++ drop m R) U r → Visits p path R U r
    settled-down q d = visit-down ys (ys ++ drop m R) (settled-tables ys long) U (subst (Early P (take m R) ys) q e) r d

    pub settled_back : b ≡ false → GoesBack (map little (pieces m 8 (take p.parts.constraints_at p.file.now))) m path (ys ++ drop m R) U r
        → Visits p path R U r
    settled_back q d = visit-back ys (ys ++ drop m R) (settled-tables ys long) U (subst (Early P (take m R) ys) q e) r d
