use Rattle.std.proofs.Common.{◌≡◌, drop}
use Rattle.jac_io.specs.NamedFiles.{file_named}
use Rattle.jac_io.proofs.named_files.NamedFiles.find.Given as goal

abbrev pub invariant-files : goal.invariant-files
invariant-files l = file_named (drop l.file-index l.files) l.name ≡ file_named l.files l.name
