use Rattle.jac_keep.proofs.SchemaLaws.{stored_sound}
use Rattle.jac_keep.proofs.memory_keeper.MemoryKeeper.new.Goals as goal

pub invariant_of-result : goal.invariant_of-result
invariant_of-result c = record {
  sound = stored_sound c.args.schema c.args.state c.requires;
  indexed = tt;
  called = λ attached. attached;
  stored = λ _. c.requires;
}
