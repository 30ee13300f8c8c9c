use Rattle.jac_template.proofs.Texts.{text_read}
use Rattle.jac_template.proofs.marks.literal.Goals as goal

pub unwrap-text-requires : goal.unwrap-text-requires
unwrap-text-requires c = text_read _ _ c.from_utf8.result c.args.content.now c.from_utf8.ensures.cases c.requires.text
