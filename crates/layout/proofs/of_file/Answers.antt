use mathlib.Core.Path.{sym, ◌∙◌}
use Rattle.layout.proofs.ReplyOfLaws.{short-refused, unmarked-refused, unbounded_refused, unfitting_refused, laid-answered, laid-fits}
use Rattle.layout.proofs.of_file.Goals as goal

pub returns-then-file-lt24-clause-result_value : goal.returns-then-file-lt24-clause-result_value
returns-then-file-lt24-clause-result_value c = short-refused c.args.file.now c.if-file-lt24.true

pub returns-then-not-marked-clause-result_value : goal.returns-then-not-marked-clause-result_value
returns-then-not-marked-clause-result_value c =
    unmarked-refused c.args.file.now c.if-file-lt24.false (sym c.marked.ensures ∙ c.if-not-marked.true)

pub returns-then-not-in_bounds-clause-result_value : goal.returns-then-not-in_bounds-clause-result_value
returns-then-not-in_bounds-clause-result_value c =
    unbounded_refused c.args.file.now c.if-file-lt24.false (sym c.marked.ensures ∙ c.if-not-marked.false) _ c.read-h.ensures
    (sym c.in_bounds.ensures ∙ c.if-not-in_bounds.true)

pub returns-then-not-abuts-clause-result_value : goal.returns-then-not-abuts-clause-result_value
returns-then-not-abuts-clause-result_value c =
    unfitting_refused c.args.file.now c.if-file-lt24.false (sym c.marked.ensures ∙ c.if-not-marked.false) _ c.read-h.ensures
    (sym c.in_bounds.ensures ∙ c.if-not-in_bounds.false) (sym c.abuts.ensures ∙ c.if-not-abuts.true)

pub returns : goal.returns
returns c =
    let file = c.args.file.now in
    let long = c.if-file-lt24.false in
    let marked = sym c.marked.ensures ∙ c.if-not-marked.false in
    let read = c.read-h.ensures in
    let bounded = sym c.in_bounds.ensures ∙ c.if-not-in_bounds.false in
    let abuts = sym c.abuts.ensures ∙ c.if-not-abuts.false in
    rw c.place.ensures (record {
      result_value = laid-answered file long marked _ read bounded abuts;
      fitted = laid-fits file long marked _ read bounded abuts;
    })
