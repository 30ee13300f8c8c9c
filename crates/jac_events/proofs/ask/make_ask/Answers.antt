use Rattle.std.proofs.lemmas.Str.{IsUtf8-from_ascii, IsUtf8-from_is_utf8}
use Rattle.std.proofs.lemmas.Bool.{and_parts}
use Rattle.jac_events.proofs.Ascii.{IsAscii-upper_case}
use Rattle.jac_events.proofs.ask.make_ask.Goals as goal

pub text-requires : goal.text-requires
text-requires c = IsUtf8-from_ascii _ (IsAscii-upper_case _ (and_parts _ _ c.requires.method).1)

pub text-requires-2 : goal.text-requires-2
text-requires-2 c = c.path_and_query.ensures.text (IsUtf8-from_is_utf8 _ (and_parts _ _ c.requires.target).1)
