-- What a reply writer keeps over two calls in a row.
use Rattle.std.proofs.Common.{◌∙◌, refl, IsTrue}
use Rattle.jac_serve_events.specs.ReplyWriter.{ReplyWriterSeen, KeepsRest}

module _ {O R : Type 0} where
  pub stays-none : (a : ReplyWriterSeen O R) → KeepsRest a a
  stays-none a = record { same = refl; rest = λ told. refl }

  pub stays-then : (a b c : ReplyWriterSeen O R) → (IsTrue c.sink.tells → IsTrue b.sink.tells) → KeepsRest a b → KeepsRest b c → KeepsRest a c
  stays-then a b c back one two = record { same = two.same ∙ one.same; rest = λ told. two.rest told ∙ one.rest (back told) }
