-- What looking a file over answers, by what its layout gave and the number that its parts gave. Assumes nothing.
use mathlib.Core.Path.{◌≡◌}
use Rattle.std.specs.Prelude.{Ok, Err}
use mathlib.Core.List.{List}
use Prim.Native.Nat.{ℕ}
use Rattle.model.specs.Replies.{answered}
use Rattle.model.specs.Layout.{layout}
use Rattle.model.specs.Reading.{problem_of}
use Rattle.layout.specs.declared.Parts.{Parts}
use Rattle.refusals.specs.declared.Refusal.{Refusal}
use Rattle.refusals.specs.Numbers.{number}
use Rattle.refusals.proofs.NumberLaws.{number-some}
use Rattle.layout.specs.Replied.{parts_of, reply_of}
use Rattle.format.specs.Accepting.{number_of, accepted}
use Rattle.format.specs.Problems.{parts_reply}
use Rattle.format.proofs.RefusalOrderLaws.{accepted-early, accepted-refused, accepted-laid}

module _ (file : List ℕ) where
  pub early : (e : Refusal) → reply_of file (Err e) ≡ layout file → parts_reply (Err e) ≡ accepted file
  unfolding reply_of parts_reply
  early e told = accepted-early file (number e) told

  module _ (p : Parts) (told : reply_of file (Ok p) ≡ layout file) where
    laid : answered (parts_of file p) ≡ layout file
    unfolding reply_of
    laid = told

    pub late : (e : Refusal) → number e ≡ number_of (problem_of (parts_of file p)) → parts_reply (Err e) ≡ accepted file
    unfolding parts_reply
    late e found = accepted-refused file (parts_of file p) (number e) laid found (number-some e)

    pub whole : 0 ≡ number_of (problem_of (parts_of file p)) → answered (parts_of file p) ≡ accepted file
    whole found = accepted-laid file (parts_of file p) laid found
