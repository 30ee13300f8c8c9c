use Rattle.jac_template.proofs.Contents.{fault_read}
use Rattle.jac_template.proofs.marks.read_content.Goals as goal

pub returns-in-Err : goal.returns-in-Err
returns-in-Err c = record {
  tree = tt;
  fault = λ told.
      let (of, is) = c.content_fault.ensures told in
      let e = c.in-Err.ensures in
      (c.in-Err.fault, fault_read _ _ e.long e.not_utf8 e.no_text e.stray e.deep e.unclosed of, is);
}
