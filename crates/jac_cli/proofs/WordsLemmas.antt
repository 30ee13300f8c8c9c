-- What clap's two answers mean for the command. Digits are ASCII and so UTF-8.
use Rattle.std.proofs.Common.{◌≡◌, ◌≢◌, inl, inr, true, Option, None, [], ◌∷◌, refl}
use Rattle.clap.specs.Words.{HasKind, Kinds, is_simple, is_simple_and_free, kind_of}
use Rattle.clap.specs.declared.Error.{Error}
use Rattle.clap.specs.declared.error.ErrorKind.TheVariants.{OutOfMemory}
use Rattle.clap.proofs.OnLiterals.{clap_on_literals}
use Rattle.jac_cli.specs.Grammar.{jac}
use Rattle.jac_cli.specs.Words.{unless_fault}
use Rattle.jac_cli.specs.declared.words.Command.{Command}

pub jac_simple : is_simple jac ≡ true
unfolding jac clap_on_literals
jac_simple = refl

pub jac_free : is_simple_and_free jac ≡ true
unfolding jac clap_on_literals
jac_free = refl

pub taken : (kinds : Kinds) (command : Option Command) → kinds ≡ [] → command ≡ unless_fault kinds command
taken kinds command none = rw none refl

-- An error that isn't out of memory has one of the kinds, so the words have a fault.
pub refused : (kinds : Kinds) (e : Error) (command : Option Command) → HasKind kinds e → (kind_of e ≢ OutOfMemory) → None ≡ unless_fault kinds command
refused [] e command (inl memory) not_memory = absurd (not_memory memory)
refused [] e command (inr among) not_memory = absurd among
refused (kind ∷ kinds) e command h not_memory = refl
