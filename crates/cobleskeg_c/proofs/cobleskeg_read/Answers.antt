use Rattle.std.proofs.Common.{rules, ◌∙◌}
use Rattle.cobleskeg_c.proofs.ReturnLaws.{refused-number, refused-stays, answered-number, answered-written}
use Rattle.cobleskeg.specs.Answers.{header_of}
use Rattle.cobleskeg_c.proofs.cobleskeg_read.Goals as goal

pub returns-in-Err : goal.returns-in-Err
returns-in-Err c =
    let told = c.in-Err.ensures in
    record {
      value = c.number.ensures ∙ refused-number _ _ told;
      symbols_after = refused-stays _ _ told _ _;
      strings_after = refused-stays _ _ told _ _;
      numbers_after = refused-stays _ _ told _ _;
      automata_after = refused-stays _ _ told _ _;
      constraints_after = refused-stays _ _ told _ _;
    }

pub returns-in-Ok : goal.returns-in-Ok
unfolding header_of
returns-in-Ok c =
    let told = c.in-Ok.ensures in
    record {
      value = answered-number _ _ told;
      symbols_after = answered-written _ _ told _ _;
      strings_after = answered-written _ _ told _ _;
      numbers_after = answered-written _ _ told _ _;
      automata_after = answered-written _ _ told _ _;
      constraints_after = answered-written _ _ told _ _;
    }
