use Rattle.sqlite.specs.Files.{over_files}
use Rattle.jac_host_vault.proofs.Found.{given_holds}
use Rattle.jac_host_vault.proofs.content.FileOpenerFileOpens.stand.Goals as goal

pub returns : goal.returns
returns g c supposed name given gave clean = given_holds over_files _ _ given c.stand.ensures supposed gave clean
