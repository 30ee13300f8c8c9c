use Rattle.jac_host_vault.proofs.Telling.{file_tells}
use Rattle.jac_host_vault.proofs.laws.file_goes_on_telling.Goals as goal

pub returns : goal.returns
returns g c old new goes opened = file_tells _ _ old new goes opened
