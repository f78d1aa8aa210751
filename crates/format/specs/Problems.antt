-- What an accepted file holds, as one value. Assumes nothing.
use Rattle.std.specs.Prelude.{List, ℕ, Result, Ok, Err}
use Rattle.model.specs.Constraints as model
use Rattle.model.specs.Replies.{Reply, refused, answered}
use Rattle.model.specs.Layout.{Parts}
use Rattle.refusals.specs.declared.Refusal.{Refusal}
use Rattle.refusals.specs.Numbers.{number}
use Rattle.layout.specs.Replied.{parts_of}
use Rattle.format.specs.declared.problem.Problem.{Problem}
use Rattle.format.specs.Accepting.{problem_in, table_in}

-- the problem, and the file's table
abbrev pub the_problem : Problem → model.Problem
the_problem p = problem_in p.file.now p.parts

abbrev pub the_table : Problem → List ℕ
the_table p = table_in p.file.now p.parts

-- the reply of the model that looking a file over stands for
unfoldable pub parts_reply : Result Problem Refusal → Reply Parts
parts_reply (Err e) = refused (number e)
parts_reply (Ok p) = answered (parts_of p.file.now p.parts)
