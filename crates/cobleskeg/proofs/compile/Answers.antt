use Rattle.cobleskeg.proofs.CompileEntryLaws.{compile_told}
use Rattle.cobleskeg.proofs.compile.Goals as goal

pub returns : goal.returns
returns c =
    let t = compile_told _ _ _ _ _ c.compile.ensures in
    record { result_after = t.0; buffer_after = t.1; compile_holds = t.2 }
